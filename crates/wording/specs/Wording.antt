-- The words of refusals: document 01's table and 02's additions, shortened.
use Rattle.std.specs.Prelude.{ℕ, cond, List, [], ◌∷◌, length, eqb}
use Prim.Native.Char.{code}
use Prim.Native.String.{String, [] as nothing, ◌∷◌ as ◌then◌}
use Rattle.laws.specs.Lists.{padded}
use Rattle.refusal.specs.Numbers.{
  not_well_formed,
  output_too_short,
  bad_link,
  line_too_long,
  no_line_end,
  forbidden_byte,
  empty_line,
  empty_prefix,
  bad_command,
  unknown_command,
  wrong_param_count,
  bad_source,
  bad_time,
  zero_time,
  bad_name,
  unknown_mode,
  mode_twice,
  wrong_mode_params,
  bad_key,
  bad_limit,
  bad_members,
  bad_masks,
  no_such_channel,
  not_on_channel,
  no_free_slot,
  too_many_members,
  too_many_masks,
  text_too_long,
  unwritable,
  no_room,
  no_mark,
  bad_log_link,
  bad_log_length,
  log_cut,
}
use Rattle.wording.specs.declared.Text.{Text}

-- the bytes of a text of ASCII characters: their codes
unfoldable pub bytes_of : String → List ℕ
bytes_of nothing = []
bytes_of (c then s) = code c ∷ bytes_of s

-- a number and its words
pub record Entry : Type 0 where
  pub number : ℕ
  pub words : String

infix 68 ◌says◌
abbrev pub ◌says◌ : ℕ → String → Entry
n says w = record { number = n; words = w }

unfoldable pub table : List Entry
table =
    not_well_formed says "table, record or feeder not well formed"
    ∷ output_too_short says "output under 512 bytes"
    ∷ bad_link says "link above 31, or not registered"
    ∷ line_too_long says "line over 512 bytes"
    ∷ no_line_end says "no CR LF at the end"
    ∷ forbidden_byte says "NUL, CR or LF before the end"
    ∷ empty_line says "only CR LF"
    ∷ empty_prefix says "prefix empty"
    ∷ bad_command says "command malformed or missing"
    ∷ unknown_command says "command not SJOIN, PART, QUIT or BMASK"
    ∷ wrong_param_count says "too few or too many parameters"
    ∷ bad_source says "prefix missing or no id of its kind"
    ∷ bad_time says "time malformed or too large"
    ∷ zero_time says "time is 0"
    ∷ bad_name says "bad channel name, or names differ"
    ∷ unknown_mode says "mode letter unknown, or '+' missing"
    ∷ mode_twice says "mode letter twice"
    ∷ wrong_mode_params says "mode parameter missing, or too many"
    ∷ bad_key says "bad key: 1 to 23 bytes of 33 to 126, no comma"
    ∷ bad_limit says "bad limit: not 1 to 65535"
    ∷ bad_members says "bad member list"
    ∷ bad_masks says "bad type or mask list"
    ∷ no_such_channel says "channel not in the table"
    ∷ not_on_channel says "user not in it"
    ∷ no_free_slot says "all 16 slots used"
    ∷ too_many_members says "more than 64 members would result"
    ∷ too_many_masks says "more than 32 masks would result"
    ∷ text_too_long says "mask or text over 512 bytes"
    ∷ unwritable says "message would not read back"
    ∷ no_room says "no room for what is written"
    ∷ no_mark says "no mark where a record of the log begins"
    ∷ bad_log_link says "link above 31 in a record of the log"
    ∷ bad_log_length says "length over 512 in a record of the log"
    ∷ log_cut says "the log ends inside a record"
    ∷ []

-- the words of a number in a table, none where it isn't there
unfoldable pub words_in : List Entry → ℕ → List ℕ
words_in [] n = []
words_in (e ∷ es) n = cond (eqb e.number n) (bytes_of e.words) (words_in es n)

abbrev pub words_of : ℕ → List ℕ
words_of n = words_in table n

-- ---- as the struct
-- the most bytes of a text
abbrev pub text_limit : ℕ
text_limit = 48

-- some words at the front of the room, the rest zero
abbrev pub holding : List ℕ → Text
holding words = record { bytes = padded text_limit 0 words; len = length words }

abbrev pub text_of : ℕ → Text
text_of n = holding (words_of n)
