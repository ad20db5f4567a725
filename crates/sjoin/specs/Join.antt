-- What an SJOIN line says: `:sid SJOIN time name modes [key] [limit] list`. The numbers 12 to 18 of document 01, with 32 to 36 in the place of 17 (document 02, §6), and the
-- channel that it tells of.
use Rattle.std.specs.Prelude.{ℕ, ◌-◌, Bool, not, cond, ◌&&◌, List, [], ◌∷◌, ◌++◌, map, length, take, drop, get_or, eqb, leb, ltb, Result, Ok, Err}
use Rattle.std.proofs.Math.Option.{Option}
use Rattle.refusal.specs.Numbers.{accepted, line_too_long, wrong_param_count, bad_source, bad_time, zero_time, bad_name, bad_members, mode_numbers, is_mode_number}
use Rattle.refusal.specs.Rules.{Rule, ◌when◌, first_of}
use Rattle.refusal.specs.Faults.{Fault, number_of}
use Rattle.refusal.specs.Refusals.{number_of as refusal_number}
use Rattle.refusal.specs.declared.Fault.{Fault as Refused}
use Rattle.laws.specs.Lists.{same}
use Rattle.octets.specs.Decimals.{zero_digit, is_decimal, value_of}
use Rattle.names.specs.Names.{is_channel, is_server_id}
use Rattle.channel.specs.Limits.{time_limit}
use Rattle.channel.specs.Channel.{Channel}
use Rattle.channel.specs.Members.{ordered}
use Rattle.channel.specs.declared.Record.{Record}
use Rattle.channel.specs.Record.{encode, empty_record}
use Rattle.message.specs.declared.Message.{Message}
use Rattle.message.specs.Grammar.{line_limit}
use Rattle.message.specs.Content.{Content, prefix_is}
use Rattle.message.specs.Parts.{content_by}
use Rattle.message.specs.Reading.{line_rules, content_of, message_of}
use Rattle.sjoin.specs.Modes.{key_letter, limit_letter, modes_byte, argument_of}
use Rattle.sjoin.specs.Faults.{Site, modes_at, arguments_at, modes_fault, fault_at}
use Rattle.sjoin.specs.Entries.{good_entries, named}

-- ---- the parameters
abbrev pub time_in : Content → List ℕ
time_in c = get_or c.params 0 []

abbrev pub name_in : Content → List ℕ
name_in c = get_or c.params 1 []

abbrev pub modes_in : Content → List ℕ
modes_in c = get_or c.params modes_at []

-- the list is the last parameter
abbrev pub list_in : Content → List ℕ
list_in c = get_or c.params (length c.params - 1) []

-- the fewest and the most parameters
abbrev pub fewest : ℕ
fewest = 4

abbrev pub most : ℕ
most = 6

-- those of k and l stand between modes and list
unfoldable pub arguments_in : Content → List (List ℕ)
arguments_in c = take (length c.params - fewest) (drop arguments_at c.params)

-- ---- the rules

unfoldable pub good_count : Content → Bool
good_count c = leb fewest (length c.params) && leb (length c.params) most

-- decimal without leading zeros, and not too large
unfoldable pub is_time : List ℕ → Bool
is_time s = is_decimal s && leb (value_of s) time_limit

-- the time that some bytes say, 0 where they say none
unfoldable pub time_of : List ℕ → ℕ
time_of s = cond (is_time s) (value_of s) 0

-- of count and source: 12 and 13
abbrev pub source_rules : Content → List Rule
source_rules c =
    wrong_param_count when not (good_count c)
    ∷ bad_source when not (prefix_is is_server_id c.prefix)
    ∷ []

-- of time and name, which lead the line of any command that has them: 14 to 16
abbrev pub head_rules : Content → List Rule
head_rules c =
    bad_time when not (is_time (time_in c))
    ∷ zero_time when same (time_in c) (zero_digit ∷ [])
    ∷ bad_name when not (is_channel (name_in c))
    ∷ []

-- the fault of its modes and their parameters, if there is one
abbrev pub fault_in : Content → Option (Fault Site)
fault_in c = modes_fault (modes_in c) (arguments_in c)

-- of these: 32 to 36. Of their faults the earliest decides, so that one of the numbers applies at most.
unfoldable pub mode_rules : Content → List Rule
mode_rules c = map (λ n. n when eqb n (number_of (fault_in c))) mode_numbers

-- of what leads the list, which is time, name and modes with their parameters: 14 to 16 and 32 to 36
abbrev pub lead_rules : Content → List Rule
lead_rules c = head_rules c ++ mode_rules c

-- of all that is told, 18 behind these
abbrev pub telling_rules : Content → List Rule
telling_rules c = lead_rules c ++ (bad_members when not (good_entries (list_in c)) ∷ [])

unfoldable pub join_rules : Content → List Rule
join_rules c = source_rules c ++ telling_rules c

-- ---- the channel that a line tells of
unfoldable pub channel_in : Content → Channel
channel_in c = record {
  name = name_in c;
  time = value_of (time_in c);
  settings = record {
    modes = modes_byte (modes_in c);
    key = argument_of key_letter (modes_in c) (arguments_in c);
    limit = value_of (argument_of limit_letter (modes_in c) (arguments_in c));
  };
  members = ordered (named (list_in c));
}

-- ---- the place that goes with a number
-- "Give the place in the line": where the fault of the modes is, with one of their numbers; 0 with any other, and with none
unfoldable pub span_place : ℕ → List ℕ → Message → ℕ
span_place number text m = cond (is_mode_number number) (fault_at (length text) m (fault_in (content_by text m))) 0

-- of a line
abbrev pub line_place : ℕ → List ℕ → ℕ
line_place number line = span_place number line (message_of line)

-- ---- the answer
-- The number of a refusal, or `accepted`; the place in the line of what is wrong with its modes, 0 with any other number; and the record that the line tells of, or the
-- empty one.
pub record Told : Type 0 where
  pub number : ℕ
  pub place : ℕ
  pub «record» : Record

-- what an answer tells
abbrev pub as_told : Result Record Refused → Told
as_told (Ok r) = record { number = accepted; place = 0; «record» = r }
as_told (Err f) = record { number = refusal_number f.refusal; place = f.place; «record» = empty_record }

-- a number, its place, and the record of the channel, or the empty one
abbrev pub told : ℕ → ℕ → Content → Told
told k place c = record {
  number = k;
  place = place;
  «record» = cond (eqb k accepted) (encode (channel_in c)) empty_record;
}

-- Of a message whose parts are spans of a text. A text longer than a line is refused by 4. A shorter one's list always has room in a record.
unfoldable pub span_rules : List ℕ → Message → List Rule
span_rules text m = line_too_long when ltb line_limit (length text) ∷ join_rules (content_by text m)

unfoldable pub told_in : List ℕ → Message → Told
told_in text m = let number : ℕ = first_of (span_rules text m) in told number (span_place number text m) (content_by text m)

-- Of a line: the reader's own rules come first.
unfoldable pub line_join_rules : List ℕ → List Rule
line_join_rules line = line_rules line ++ join_rules (content_of line)

unfoldable pub told_by : List ℕ → Told
told_by line = let number : ℕ = first_of (line_join_rules line) in told number (line_place number line) (content_of line)
