-- A line as it is shown at a terminal, with a caret under a place of it.
use Rattle.std.specs.Prelude.{ℕ, ◌-◌, cond, List, [], ◌∷◌, ◌++◌, map, length, take, replicate}
use Rattle.octets.specs.Bytes.{lf, space, within}

-- '?' and '^'
abbrev pub unprintable : ℕ
unprintable = 63

abbrev pub caret : ℕ
caret = 94

-- a byte as it is shown: SPACE to '~' as it is, any other as '?'
unfoldable pub shown_byte : ℕ → ℕ
shown_byte b = cond (within space b 126) b unprintable

-- a line as it is shown, without its CR LF: a byte is a column
unfoldable pub shown : List ℕ → List ℕ
shown line = map shown_byte (take (length line - 2) line)

-- a caret under a place
unfoldable pub pointer : ℕ → List ℕ
pointer place = replicate place space ++ (caret ∷ [])

-- the line, and the caret under it
unfoldable pub pointed_line : ℕ → List ℕ → List ℕ
pointed_line place line = shown line ++ (lf ∷ []) ++ pointer place ++ (lf ∷ [])
