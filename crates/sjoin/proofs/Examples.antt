-- Document 01's whole case, the line: what it says, as computed from the definitions; and what is wrong with modes, case by case. Instances that meet the premises of this
-- crate's laws, of a line that is read, of one that no rule refuses and of one whose modes have a fault. Assumes nothing.
use Prim.Native.Nat.{ℕ}
use mathlib.Core.Path.{◌≡◌, refl}
use mathlib.Core.Bool.{true}
use mathlib.Core.List.{List, [], ◌∷◌, map}
use mathlib.Core.Option.{Option, some, none}
use Rattle.refusal.specs.Numbers.{accepted, unknown_mode, mode_twice, wrong_mode_params, bad_key, bad_limit}
use Rattle.refusal.specs.Rules.{first_of}
use Rattle.refusal.specs.Faults.{Fault, fault, first_fault}
use Rattle.octets.specs.Bytes.{within, is_plain, is_letter, is_digit, is_id_byte, is_name_byte, is_key_byte}
use Rattle.laws.specs.Lists.{all, same_by, starts_with, padded}
use Rattle.octets.specs.Order.{compare}
use Rattle.octets.specs.Room.{part}
use Rattle.ascending.specs.Ascending.{insert, put, unite}
use Rattle.octets.specs.Decimals.{leads_with_zero, is_decimal, value_from}
use Rattle.names.specs.Names.{is_channel, is_server_id, is_user_id}
use Rattle.channel.specs.Modes.{with_mode, place_among}
use Rattle.channel.specs.Key.{is_key}
use Rattle.channel.specs.WellFormed.{well_formed}
use Rattle.channel.proofs.Examples.{incoming, 1ab}
use Rattle.message.specs.Grammar.{word, spaces, prefix, prefix_end, command_start, command, command_end, is_command, rest, params}
use Rattle.message.specs.Content.{prefix_is, content_in}
use Rattle.message.specs.Parts.{message_in, content_by, param_span}
use Rattle.message.specs.Words.{words_at}
use Rattle.message.specs.Reading.{crlf, ends_line, body_of, body_rules, line_rules, number_for, is_read, content_of, message_of}
use Rattle.sjoin.specs.Modes.{modes_byte, parametered, is_limit, good_argument, argument_of}
use Rattle.sjoin.specs.Entries.{past, id_of, status_of, is_entry, member_of, good_entries}
use Rattle.sjoin.specs.Faults.{Site, Letter, Param, End, letter_checks, own_checks, argument_checks, count_checks, modes_checks, modes_fault}
use Rattle.sjoin.specs.Join.{arguments_in, good_count, is_time, mode_rules, join_rules, channel_in, span_place, told_in, line_join_rules, told_by}
use Rattle.sjoin.specs.Places.{Located}
use Rattle.sjoin.proofs.Answers.{told_same}
use Rattle.sjoin.proofs.Places.{located}
use Rattle.sjoin.proofs.Wellformed.{line-well}

-- `:1AB SJOIN 1200 #race +nt :@1ABAAAAAA 1ABAAAAAB`
unfoldable pub line : List ℕ
line = 58 ∷ 49 ∷ 65 ∷ 66 ∷ 32 ∷ 83 ∷ 74 ∷ 79 ∷ 73 ∷ 78 ∷ 32 ∷ 49 ∷ 50 ∷ 48 ∷ 48 ∷ 32 ∷ 35 ∷ 114 ∷ 97 ∷ 99 ∷ 101 ∷ 32 ∷ 43 ∷ 110 ∷ 116 ∷ 32 ∷ 58 ∷ 64 ∷ 49 ∷ 65 ∷ 66 ∷ 65 ∷ 65 ∷ 65 ∷ 65 ∷ 65 ∷ 65 ∷ 32 ∷ 49 ∷ 65 ∷ 66 ∷ 65 ∷ 65 ∷ 65 ∷ 65 ∷ 65 ∷ 66 ∷ crlf

line_taken : (told_by line).number ≡ accepted
unfolding line told_by line_join_rules join_rules good_count prefix_is is_time is_decimal leads_with_zero value_from is_digit is_channel is_name_byte is_server_id is_user_id is_id_byte mode_rules modes_checks own_checks letter_checks count_checks argument_checks first_fault parametered arguments_in place_among good_entries is_entry id_of past words_at content_of content_in is_read number_for line_rules body_rules first_of ends_line same_by body_of all is_plain starts_with prefix word prefix_end command_start spaces command is_command is_letter within command_end rest params
line_taken = refl

-- the channel of channel/proofs/Examples.antt
pub line-tells : channel_in (content_of line) ≡ incoming
unfolding line incoming 1ab channel_in arguments_in argument_of parametered modes_byte with_mode place_among value_from member_of id_of status_of past words_at insert put unite compare content_of content_in is_read number_for line_rules body_rules first_of ends_line same_by body_of all is_plain starts_with prefix word prefix_end command_start spaces command is_command is_letter within command_end rest params
line-tells = refl

-- ---- the law of a line that is read: its spans say what it says
line_read : is_read line ≡ true
unfolding line is_read number_for line_rules body_rules first_of ends_line same_by body_of all is_plain starts_with prefix word prefix_end command_start spaces command is_command is_letter within command_end rest params
line_read = refl

line-spans : told_in line (message_of line) ≡ told_by line
line-spans = told_same line line_read

-- ---- the law of a line that no rule refuses
line-holds : well_formed (told_by line).«record» ≡ true
line-holds = line-well line line_taken

-- ---- what is wrong with modes, and at which site: document 02, §6, case by case
-- Modes, with the parameters behind them, and the fault that they are to have.
record Case : Type 0 where
  modes : List ℕ
  args : List (List ℕ)
  fault : Option (Fault Site)

infix 68 ◌of◌is◌
abbrev ◌of◌is◌ : List ℕ → List (List ℕ) → Option (Fault Site) → Case
m of a is f = record { modes = m; args = a; fault = f }

cases : List Case
cases =
    -- `nt`
    (110 ∷ 116 ∷ []) of [] is some (fault unknown_mode (Letter 0))
    -- `+n+t`
    ∷ (43 ∷ 110 ∷ 43 ∷ 116 ∷ []) of [] is some (fault unknown_mode (Letter 2))
    -- `+xx`
    ∷ (43 ∷ 120 ∷ 120 ∷ []) of [] is some (fault unknown_mode (Letter 1))
    -- `+nt`
    ∷ (43 ∷ 110 ∷ 116 ∷ []) of [] is none
    -- `+nn`
    ∷ (43 ∷ 110 ∷ 110 ∷ []) of [] is some (fault mode_twice (Letter 2))
    -- `+nnx`
    ∷ (43 ∷ 110 ∷ 110 ∷ 120 ∷ []) of [] is some (fault mode_twice (Letter 2))
    -- `+nxn`
    ∷ (43 ∷ 110 ∷ 120 ∷ 110 ∷ []) of [] is some (fault unknown_mode (Letter 2))
    -- `+kk a`
    ∷ (43 ∷ 107 ∷ 107 ∷ []) of ((97 ∷ []) ∷ []) is some (fault mode_twice (Letter 2))
    -- `+k`
    ∷ (43 ∷ 107 ∷ []) of [] is some (fault wrong_mode_params End)
    -- `+kl a,b`
    ∷ (43 ∷ 107 ∷ 108 ∷ []) of ((97 ∷ 44 ∷ 98 ∷ []) ∷ []) is some (fault wrong_mode_params End)
    -- `+k a,b 5`
    ∷ (43 ∷ 107 ∷ []) of ((97 ∷ 44 ∷ 98 ∷ []) ∷ (53 ∷ []) ∷ []) is some (fault wrong_mode_params (Param 4))
    -- `+ 5`
    ∷ (43 ∷ []) of ((53 ∷ []) ∷ []) is some (fault wrong_mode_params (Param 3))
    -- `+kl a 5`
    ∷ (43 ∷ 107 ∷ 108 ∷ []) of ((97 ∷ []) ∷ (53 ∷ []) ∷ []) is none
    -- `+kl a,b 0`
    ∷ (43 ∷ 107 ∷ 108 ∷ []) of ((97 ∷ 44 ∷ 98 ∷ []) ∷ (48 ∷ []) ∷ []) is some (fault bad_key (Param 3))
    -- `+lk 0 a,b`
    ∷ (43 ∷ 108 ∷ 107 ∷ []) of ((48 ∷ []) ∷ (97 ∷ 44 ∷ 98 ∷ []) ∷ []) is some (fault bad_limit (Param 3))
    -- `+lk 5 a,b`
    ∷ (43 ∷ 108 ∷ 107 ∷ []) of ((53 ∷ []) ∷ (97 ∷ 44 ∷ 98 ∷ []) ∷ []) is some (fault bad_key (Param 4))
    -- `+kl 5 a`
    ∷ (43 ∷ 107 ∷ 108 ∷ []) of ((53 ∷ []) ∷ (97 ∷ []) ∷ []) is some (fault bad_limit (Param 4))
    ∷ []

-- they have it
all-given : map (λ (c : Case). modes_fault c.modes c.args) cases ≡ map (λ (c : Case). c.fault) cases
unfolding cases modes_checks own_checks letter_checks count_checks argument_checks first_fault parametered place_among all starts_with good_argument is_key is_key_byte is_limit is_decimal leads_with_zero value_from is_digit within
all-given = refl

-- ---- and where in the line that is
-- `:1AB SJOIN 1 #a +k  x   y  1ABAAAAAA`: `y` is one too many
unfoldable surplus : List ℕ
surplus = 58 ∷ 49 ∷ 65 ∷ 66 ∷ 32 ∷ 83 ∷ 74 ∷ 79 ∷ 73 ∷ 78 ∷ 32 ∷ 49 ∷ 32 ∷ 35 ∷ 97 ∷ 32 ∷ 43 ∷ 107 ∷ 32 ∷ 32 ∷ 120 ∷ 32 ∷ 32 ∷ 32 ∷ 121 ∷ 32 ∷ 32 ∷ 49 ∷ 65 ∷ 66 ∷ 65 ∷ 65 ∷ 65 ∷ 65 ∷ 65 ∷ 65 ∷ crlf

-- `:1AB SJOIN 1 #a +k 1ABAAAAAA  `, with two SPACEs at its end: the key is missing
unfoldable missing : List ℕ
missing = 58 ∷ 49 ∷ 65 ∷ 66 ∷ 32 ∷ 83 ∷ 74 ∷ 79 ∷ 73 ∷ 78 ∷ 32 ∷ 49 ∷ 32 ∷ 35 ∷ 97 ∷ 32 ∷ 43 ∷ 107 ∷ 32 ∷ 49 ∷ 65 ∷ 66 ∷ 65 ∷ 65 ∷ 65 ∷ 65 ∷ 65 ∷ 65 ∷ 32 ∷ 32 ∷ crlf

-- each with number and place
told-where : ((told_by surplus).number ≡ wrong_mode_params) × ((told_by surplus).place ≡ 24) × ((told_by missing).number ≡ wrong_mode_params) × ((told_by missing).place ≡ 30)
unfolding surplus missing told_by line_join_rules join_rules good_count prefix_is is_time is_decimal leads_with_zero value_from is_digit is_channel is_name_byte is_server_id is_user_id is_id_byte mode_rules modes_checks own_checks letter_checks count_checks argument_checks first_fault parametered arguments_in place_among good_entries is_entry id_of past words_at span_place content_by param_span part message_of message_in padded content_of content_in is_read number_for line_rules body_rules first_of ends_line same_by body_of all is_plain starts_with prefix word prefix_end command_start spaces command is_command is_letter within command_end rest params
told-where = (refl, refl, refl, refl)

-- The law of places has a line that meets its premises.
surplus-located : Located surplus
unfolding surplus good_count content_of content_in is_read number_for line_rules body_rules first_of ends_line same_by body_of all is_plain starts_with prefix word prefix_end command_start spaces command is_command is_letter within command_end rest params
surplus-located = located surplus refl refl
