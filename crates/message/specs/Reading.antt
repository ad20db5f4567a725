-- What a line reads as: the numbers 4 to 9 of document 01, and the answer.
use Rattle.std.specs.Prelude.{ℕ, ◌-◌, Bool, not, cond, ◌&&◌, List, [], ◌∷◌, Result, Ok, Err, length, take, drop, eqb, ltb}
use Rattle.refusal.specs.declared.Refusal.{Refusal}
use Rattle.refusal.specs.Refusals as refusals
use Rattle.refusal.specs.Numbers.{accepted, line_too_long, no_line_end, forbidden_byte, empty_line, empty_prefix, bad_command}
use Rattle.refusal.specs.Rules.{Rule, ◌when◌, first_of}
use Rattle.octets.specs.Bytes.{cr, lf, is_plain}
use Rattle.laws.specs.Lists.{all, is_nil, same}
use Rattle.message.specs.declared.Message.{Message}
use Rattle.message.specs.Grammar.{line_limit, has_prefix, prefix, command, is_command, params}
use Rattle.message.specs.Content.{Content, content_in, no_content}
use Rattle.message.specs.Parts.{message_in, blank}

-- The reader's answer: the count of parameters of a line that is read, or the number of its refusal.
pub data Reading : Type 0 where
  Line : ℕ → Reading
  Refused : ℕ → Reading

-- What a line comes to that is read once: the reader's answer, and the parts.
pub record Parsed : Type 0 where
  pub reading : Reading
  pub message : Message

abbrev pub crlf : List ℕ
crlf = cr ∷ lf ∷ []

-- the last two bytes are CR LF
unfoldable pub ends_line : List ℕ → Bool
ends_line line = same (drop (length line - 2) line) crlf

-- the bytes before them
unfoldable pub body_of : List ℕ → List ℕ
body_of line = take (length line - 2) line

-- ---- refusals
-- those of a body that isn't empty
unfoldable pub body_rules : List ℕ → List Rule
body_rules body =
    empty_prefix when (has_prefix body && is_nil (prefix body))
    ∷ bad_command when not (is_command (command body))
    ∷ []

-- the grammar's own: those of a line, its length apart
abbrev pub grammar_rules : List ℕ → List Rule
grammar_rules line =
    no_line_end when not (ends_line line)
    ∷ forbidden_byte when not (all is_plain (body_of line))
    ∷ empty_line when is_nil (body_of line)
    ∷ body_rules (body_of line)

unfoldable pub line_rules : List ℕ → List Rule
line_rules line = line_too_long when ltb line_limit (length line) ∷ grammar_rules line

-- the number that a line gets from the reader
unfoldable pub number_for : List ℕ → ℕ
number_for line = first_of (line_rules line)

unfoldable pub is_read : List ℕ → Bool
is_read line = eqb (number_for line) accepted

-- ---- the answer, by cases
abbrev pub number_of : Reading → ℕ
number_of (Line n) = accepted
number_of (Refused k) = k

abbrev pub count_of : Reading → ℕ
count_of (Line n) = n
count_of (Refused k) = 0

-- the answer at a number and a count of parameters
unfoldable pub answer : ℕ → ℕ → Reading
answer k n = cond (eqb k accepted) (Line n) (Refused k)

unfoldable pub reading_of : List ℕ → Reading
reading_of line = answer (number_for line) (length (params (body_of line)))

-- ---- what the line holds, and where
unfoldable pub content_of : List ℕ → Content
content_of line = cond (is_read line) (content_in (body_of line)) no_content

unfoldable pub message_of : List ℕ → Message
message_of line = cond (is_read line) (message_in (body_of line) (length line)) (blank (length line))

-- the answer, and the parts
abbrev pub parsed_of : List ℕ → Parsed
parsed_of line = record { reading = reading_of line; message = message_of line }

-- ---- the same of what the code answers
abbrev pub reading_as : Result ℕ Refusal → Reading
reading_as (Ok n) = Line n
reading_as (Err e) = Refused (refusals.number_of e)

-- of a line of n bytes: one that isn't read has no part
abbrev pub parsed_as : ℕ → Result Message Refusal → Parsed
parsed_as n (Ok m) = record { reading = Line m.count; message = m }
parsed_as n (Err e) = record { reading = Refused (refusals.number_of e); message = blank n }
