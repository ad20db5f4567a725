-- When a line is written, and what is answered: the numbers 2, 24 and 25 of document 01, and of a line passed on the reader's 4 to 9.
use Rattle.std.specs.Prelude.{ℕ, not, ◌&&◌, List, [], ◌∷◌, length, ltb, Result, Ok, Err}
use Rattle.refusal.specs.Numbers.{accepted, output_too_short, unwritable, no_room}
use Rattle.refusal.specs.declared.Refusal.{Refusal}
use Rattle.refusal.specs.Refusals.{number_of}
use Rattle.refusal.specs.Rules.{Rule, ◌when◌, first_of, emitted}
use Rattle.message.specs.declared.Message.{Message}
use Rattle.message.specs.Grammar.{line_limit}
use Rattle.message.specs.Parts.{content_by}
use Rattle.message.specs.Reading.{line_rules, content_of}
use Rattle.writer.specs.declared.Written.{Written}
use Rattle.writer.specs.Form.{written, reads_back, lies, in_capitals}

-- ---- a message of spans, written as it is or with its command in capitals: capitals change neither what is refused nor the length
unfoldable pub write_rules : List ℕ → Message → List ℕ → List Rule
write_rules text m out =
    output_too_short when ltb (length out) line_limit
    ∷ unwritable when not (lies text m && reads_back (content_by text m))
    ∷ no_room when ltb line_limit (length (written (content_by text m)))
    ∷ []

-- ---- a line passed on as it was read, its command in capitals
unfoldable pub forward_rules : List ℕ → List ℕ → List Rule
forward_rules line out = output_too_short when ltb (length out) line_limit ∷ line_rules line

unfoldable pub forwarded : List ℕ → List ℕ
forwarded line = written (in_capitals (content_of line))

-- ---- the answer
-- what tells of an answer: a refusal writes nothing
abbrev pub written_of : Result ℕ Refusal → Written
written_of (Ok n) = record { number = accepted; len = n }
written_of (Err e) = record { number = number_of e; len = 0 }

-- the first number that applies, and how many bytes are written
unfoldable pub written_answer : List Rule → List ℕ → Written
written_answer rules w = record { number = first_of rules; len = length (emitted rules w) }
