-- A day-log record, and what comes of writing one: the numbers 3, 4 and 25 of document 01.
use Rattle.std.specs.Prelude.{ℕ, ◌+◌, ◌*◌, ◌/◌, ◌%◌, not, List, [], ◌∷◌, ◌++◌, length, take, drop, get_or, ltb}
use Rattle.refusal.specs.Numbers.{bad_link, line_too_long, no_room}
use Rattle.refusal.specs.Rules.{Rule, ◌when◌, first_of, emitted}
use Rattle.links.specs.Links.{is_link}
use Rattle.message.specs.Grammar.{line_limit}
use Rattle.journal.specs.declared.Logged.{Logged}

-- the bytes of a record before its line
abbrev pub head_length : ℕ
head_length = 5

-- the two bytes of the mark
abbrev pub first_mark : ℕ
first_mark = 73

abbrev pub second_mark : ℕ
second_mark = 82

-- the mark, the link, the length as two bytes high first
unfoldable pub head_of : ℕ → List ℕ → List ℕ
head_of link line = first_mark ∷ second_mark ∷ link ∷ length line / 256 ∷ length line % 256 ∷ []

-- and the line as received, CR LF included
unfoldable pub record_of : ℕ → List ℕ → List ℕ
unfolding head_of
record_of link line = head_of link line ++ line

-- ---- read back, from a log that begins with the record; a byte that isn't there counts as 0
abbrev pub link_in : List ℕ → ℕ
link_in log = get_or log 2 0

-- the length that the head tells
abbrev pub length_in : List ℕ → ℕ
length_in log = get_or log 3 0 * 256 + get_or log 4 0

unfoldable pub line_in : List ℕ → List ℕ
line_in log = take (length_in log) (drop head_length log)

-- ---- the answer
unfoldable pub log_rules : ℕ → List ℕ → List ℕ → List Rule
log_rules link line log =
    bad_link when not (is_link link)
    ∷ line_too_long when ltb line_limit (length line)
    ∷ no_room when ltb (length log) (length line + head_length)
    ∷ []

-- the first number that applies, and how many bytes are written
unfoldable pub logged_answer : ℕ → List ℕ → List ℕ → Logged
logged_answer link line log = record {
  number = first_of (log_rules link line log);
  size = length (emitted (log_rules link line log) (record_of link line));
}
