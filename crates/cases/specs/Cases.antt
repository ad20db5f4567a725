-- Document 01's cases marked P ('From the water') in a single table, one of them turned round by document 02, §4, and what it is for a case to hold: that the
-- definitions in the contracts of `message::read`, `prefix`, `command`, `param`, `names::equal`, `glob::matches` and `merging::merge` answer as the papers say.
use Rattle.std.specs.Prelude.{ℕ, Bool, true, false, ◌&&◌, List, [], ◌∷◌, ◌++◌, length, eqb}
use Rattle.std.specs.Bool.{beq}
use Rattle.std.proofs.Math.Option.{some, none}
use Rattle.refusal.specs.Numbers.{accepted, empty_line, empty_prefix, bad_command}
use Rattle.laws.specs.Lists.{same}
use Rattle.names.specs.Fold.{same_name}
use Rattle.glob.specs.declared.Match.{Match}
use Rattle.glob.specs.Mask.{star, question, match_answer}
use Rattle.message.specs.Content.{Content}
use Rattle.message.specs.Reading.{crlf, number_of, count_of, reading_of, content_of}
use Rattle.writer.specs.Form.{same_content}
use Rattle.channel.specs.Modes.{key_mode, with_mode}
use Rattle.channel.specs.Channel.{member}
use Rattle.channel.specs.Record.{encode, decode}
use Rattle.bans.specs.declared.WholeRecord.{WholeRecord}
use Rattle.bans.specs.Slots.{empty_list}
use Rattle.bans.specs.Records.{whole}
use Rattle.merging.specs.declared.Merged.{Merged}
use Rattle.merging.specs.Merging.{merge_answer}

-- ---- what the papers say
pub data Case : Type 0 where
  -- a line's text reads as a message
  reads : List ℕ → Content → Case
  -- a line's text gets a number
  gets : List ℕ → ℕ → Case
  -- two names, and whether they are equal
  equals : List ℕ → List ℕ → Bool → Case
  -- a mask, a text, and whether it matches
  matches : List ℕ → List ℕ → Bool → Case
  -- two keys at equal times, and the one that results
  keys : List ℕ → List ℕ → List ℕ → Case

-- ---- what the relay answers
-- CR LF follows each text shown
abbrev pub line_of : List ℕ → List ℕ
line_of text = text ++ crlf

-- the reader answers a number and a count of parameters
abbrev pub answers : List ℕ → ℕ → ℕ → Bool
answers line number count = eqb (number_of (reading_of line)) number && eqb (count_of (reading_of line)) count

-- a match that isn't refused
abbrev pub matched : Match → Bool → Bool
matched m expected = eqb m.number accepted && beq m.yes expected

-- `#a`, time 1, k with a key, member 1ABAAAAAA, no bans
unfoldable pub keyed : List ℕ → WholeRecord
keyed key =
    whole
    (encode (record {
      name = 35 ∷ 97 ∷ [];
      time = 1;
      settings = record { modes = with_mode 0 key_mode; key = key; limit = 0 };
      members = member (49 ∷ 65 ∷ 66 ∷ 65 ∷ 65 ∷ 65 ∷ 65 ∷ 65 ∷ 65 ∷ []) 0 ∷ [];
    }))
    empty_list

-- a merge that isn't refused, and the key of its record
abbrev pub merged : Merged → List ℕ → Bool
merged m key = eqb m.number accepted && same (decode m.result.«record»).settings.key key

unfoldable pub holds : Case → Bool
holds (reads text c) = answers (line_of text) accepted (length c.params) && same_content (content_of (line_of text)) c
holds (gets text number) = answers (line_of text) number 0
holds (equals a b expected) = beq (same_name a b) expected
holds (matches mask text expected) = matched (match_answer mask text) expected
-- whichever of the two records comes first
holds (keys a b key) = merged (merge_answer (keyed a) (keyed b)) key && merged (merge_answer (keyed b) (keyed a)) key

-- ---- the table
unfoldable pub cases : List Case
cases =
    -- `PING`: command PING, no parameters
    reads (80 ∷ 73 ∷ 78 ∷ 71 ∷ []) (record { prefix = none; command = 80 ∷ 73 ∷ 78 ∷ 71 ∷ []; params = [] })
    -- `:a  X b :`: prefix a, parameters `b` and an empty one
    ∷ reads (58 ∷ 97 ∷ 32 ∷ 32 ∷ 88 ∷ 32 ∷ 98 ∷ 32 ∷ 58 ∷ []) (record { prefix = some (97 ∷ []); command = 88 ∷ []; params = (98 ∷ []) ∷ [] ∷ [] })
    -- empty line: 7
    ∷ gets [] empty_line
    -- `: X`: 8
    ∷ gets (58 ∷ 32 ∷ 88 ∷ []) empty_prefix
    -- `12`: 9
    ∷ gets (49 ∷ 50 ∷ []) bad_command
    -- `#A[` equals `#a{`
    ∷ equals (35 ∷ 65 ∷ 91 ∷ []) (35 ∷ 97 ∷ 123 ∷ []) true
    -- `#~` equals `#^` (document 02, §4; they differed in document 01)
    ∷ equals (35 ∷ 126 ∷ []) (35 ∷ 94 ∷ []) true
    -- `*` matches the empty text
    ∷ matches (star ∷ []) [] true
    -- `?` doesn't
    ∷ matches (question ∷ []) [] false
    -- `a*b*c` matches `abxbc`
    ∷ matches (97 ∷ star ∷ 98 ∷ star ∷ 99 ∷ []) (97 ∷ 98 ∷ 120 ∷ 98 ∷ 99 ∷ []) true
    -- `a*b` doesn't match `abc`
    ∷ matches (97 ∷ star ∷ 98 ∷ []) (97 ∷ 98 ∷ 99 ∷ []) false
    -- keys `buoy` and `buoys` at equal times: `buoys`
    ∷ keys (98 ∷ 117 ∷ 111 ∷ 121 ∷ []) (98 ∷ 117 ∷ 111 ∷ 121 ∷ 115 ∷ []) (98 ∷ 117 ∷ 111 ∷ 121 ∷ 115 ∷ [])
    ∷ []
