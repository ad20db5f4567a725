-- Some bytes told all at once, and not byte by byte: lines, each up to and with its LF, and what stands behind the last LF. The calls are held against this
-- (`accounted`, proofs/Division.antt): every byte is in one line, one refused line, or what is kept.
use Rattle.std.specs.Prelude.{ℕ, ◌-◌, ◌≤◌, ◌≡◌, Bool, true, cond, length, get_or, eqb, leb}
use mathlib.Core.List.{List, [], ◌∷◌, ◌++◌, Memᴰ}
use Rattle.octets.specs.Bytes.{cr, lf, is_non_lf}
use Rattle.laws.specs.Lists.{all}
use Rattle.laws.specs.Joins.{concatenated}
use Rattle.message.specs.Grammar.{line_limit}
use Rattle.feed.specs.Lines.{Event, Whole, TooLong, Pending, Unfinished, Dropping}

-- A line has one LF, at its end.
pub record Ended (line : List ℕ) : Type 0 where
  pub body : List ℕ
  pub ends : line ≡ body ++ (lf ∷ [])
  pub one : all is_non_lf body ≡ true

-- A line of 1 to 512 bytes. Every line that is yielded is one (`yielded-fitting`, proofs/Yielded.antt).
pub record Fitting (line : List ℕ) : Type 0 where
  pub ended : Ended line
  pub some : 1 ≤ length line
  pub fits : length line ≤ line_limit

-- of a line that ends with LF: CR stands before it; in a line of one byte none does
abbrev pub has_cr : List ℕ → Bool
has_cr line = eqb (get_or line (length line - 2) 0) cr

-- The bytes s are these lines and, behind them, the rest, which has no LF.
pub record Divided (s : List ℕ) (lines : List (List ℕ)) (rest : List ℕ) : Type 0 where
  pub whole : concatenated lines ++ rest ≡ s
  pub ended : (line : List ℕ) → Memᴰ line lines → Ended line
  pub unended : all is_non_lf rest ≡ true

-- a line yields itself, or the refusal, if it has a 513th byte
abbrev pub event_of : List ℕ → Event
event_of line = cond (leb (length line) line_limit) (Whole line) TooLong

-- the rest yields nothing, or the refusal already
abbrev pub overdue : List ℕ → List Event
overdue rest = cond (leb (length rest) line_limit) [] (TooLong ∷ [])

-- and is kept, or dropped
abbrev pub kept_of : List ℕ → Pending
kept_of rest = cond (leb (length rest) line_limit) (Unfinished rest) Dropping
