-- The table as text (document 02, §5): "each used slot in order: a line of time, name, modes, key, limit and entries as a relayed SJOIN has them, without ':', then
-- a line of its masks (empty if none), parts one SPACE apart".
use Rattle.std.specs.Prelude.{ℕ, cond, List, [], ◌∷◌, ◌++◌, map, length, ltb}
use Rattle.refusal.specs.Numbers.{no_room}
use Rattle.refusal.specs.Rules.{Rule, ◌when◌}
use Rattle.laws.specs.Lists.{separated}
use Rattle.laws.specs.Joins.{concatenated}
use Rattle.octets.specs.Bytes.{lf, space}
use Rattle.channel.specs.Record.{decode}
use Rattle.bans.specs.declared.WholeRecord.{WholeRecord}
use Rattle.bans.specs.Masks.{masks}
use Rattle.table.specs.Network.{Network}
use Rattle.table.specs.Table.{is_free, wholes}
use Rattle.telling.specs.Telling.{described}

-- a text, and LF behind it
abbrev pub line_of : List ℕ → List ℕ
line_of text = text ++ (lf ∷ [])

-- the two lines of a channel: what an SJOIN tells of it, and its masks
unfoldable pub channel_lines : WholeRecord → List ℕ
channel_lines w = line_of (described (decode w.«record»)) ++ line_of (separated space (masks w.bans.room))

-- those of a slot: a free one has none
unfoldable pub slot_lines : WholeRecord → List ℕ
slot_lines w = cond (is_free w.«record») [] (channel_lines w)

-- those of every slot, in order
unfoldable pub listing : Network → List ℕ
listing n = concatenated (map slot_lines (wholes n))

-- the most bytes that they are: for each of sixteen slots what is told of a record, 869, 32 masks of 100 with 31 SPACEs between, and two LF
abbrev pub listing_limit : ℕ
listing_limit = 65632

-- number 25: there isn't room for all of them
unfoldable pub listing_rules : Network → List ℕ → List Rule
listing_rules n out = no_room when ltb (length out) (length (listing n)) ∷ []
