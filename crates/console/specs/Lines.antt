-- The input split into lines.
use Rattle.std.specs.Prelude.{ℕ, ◌-◌, Bool, cond, List, [], ◌∷◌, ◌++◌, length, take, get_or, eqb}
use Rattle.octets.specs.Bytes.{lf}
use Rattle.console.specs.declared.lines.Lines.{Lines}
use Rattle.console.specs.declared.lines.Pending.{Pending}

-- the most bytes that are kept of an input line: `banned`, a SPACE, 50 bytes, a SPACE, 513 bytes, and CR LF
abbrev pub input_limit : ℕ
input_limit = 573

abbrev pub kept : List ℕ → List ℕ
kept s = take input_limit s

-- what is kept of a line, of which some is held already, after more pieces of it
unfoldable pub kept_after : List ℕ → List (List ℕ) → List ℕ
kept_after held [] = held
kept_after held (piece ∷ pieces) = kept_after (kept (held ++ piece)) pieces

-- what is kept of the line under way
abbrev pub held_in : Pending → List ℕ
held_in line = line.bytes.items

-- the bytes of the first line, up to and including its LF; all of them where there is no LF
unfoldable pub first_line : List ℕ → List ℕ
first_line [] = []
first_line (b ∷ s) = cond (eqb b lf) (b ∷ []) (b ∷ first_line s)

-- one byte before the first of some lines, which is a line by itself where there is none
unfoldable pub begun : ℕ → List (List ℕ) → List (List ℕ)
begun b [] = (b ∷ []) ∷ []
begun b (line ∷ lines) = (b ∷ line) ∷ lines

-- the lines of a piece: each ends with the next LF, the last one maybe with the piece
unfoldable pub lines_of : List ℕ → List (List ℕ)
lines_of [] = []
lines_of (b ∷ s) = cond (eqb b lf) ((b ∷ []) ∷ lines_of s) (begun b (lines_of s))

-- the lines that are left of a piece
abbrev pub lines_left : Lines → List (List ℕ)
lines_left l = lines_of l.rest.now

-- the last byte is LF
abbrev pub ends_in_lf : List ℕ → Bool
ends_in_lf s = eqb (get_or s (length s - 1) 0) lf
