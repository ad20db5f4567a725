-- Whether a text is banned from a channel (document 02, §2: "whether a user text is banned from a named channel, yes exactly if some mask matches").
use Rattle.std.specs.Prelude.{ℕ, not, ◌&&◌, List, [], ◌∷◌, length, eqb, ltb}
use Rattle.refusal.specs.Numbers.{accepted, not_well_formed, bad_name, no_such_channel, text_too_long}
use Rattle.refusal.specs.Rules.{Rule, ◌when◌, first_of}
use Rattle.names.specs.Names.{is_channel}
use Rattle.glob.specs.Mask.{text_limit}
use Rattle.bans.specs.Masks.{masks}
use Rattle.bans.specs.Matching.{some_matches}
use Rattle.table.specs.declared.Banned.{Banned}
use Rattle.table.specs.Network.{Table, network_of, list_in}
use Rattle.table.specs.Table.{good_table}
use Rattle.table.specs.Slots.{slot_in, is_held, place_of}

-- the numbers 1, 16, 19 and 23
unfoldable pub banned_rules : Table → List ℕ → List ℕ → List Rule
banned_rules t name text =
    not_well_formed when not (good_table t)
    ∷ bad_name when not (is_channel name)
    ∷ no_such_channel when not (is_held (slot_in (network_of t) name))
    ∷ text_too_long when ltb text_limit (length text)
    ∷ []

-- the masks of the channel that has the name
abbrev pub masks_of : Table → List ℕ → List (List ℕ)
masks_of t name = masks (list_in (network_of t) (place_of t.slots (slot_in (network_of t) name))).room

-- the number of the first rule that applies, and no; or whether some mask of the channel matches the text
unfoldable pub banned_answer : Table → List ℕ → List ℕ → Banned
banned_answer t name text =
    let number : ℕ = first_of (banned_rules t name text) in
    record { number = number; yes = eqb number accepted && some_matches text (masks_of t name) }
