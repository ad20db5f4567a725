-- Words parted by one or more SPACEs, SPACEs at either end passed over (document 01, 'SJOIN'), each with its place.
use Rattle.std.specs.Prelude.{ℕ, ◌+◌, cond, List, [], ◌∷◌, map, length, drop, get_or, eqb}
use Rattle.octets.specs.Bytes.{space}
use Rattle.message.specs.declared.Span.{Span}
use Rattle.message.specs.Grammar.{Part, part_at, word}
use Rattle.message.specs.Content.{bytes_of}
use Rattle.message.specs.Parts.{empty_at, span_of}

unfoldable mutual
  -- the words of what stands at a place
  pub words_at : ℕ → List ℕ → List Part
  words_at at [] = []
  words_at at (b ∷ s) = cond (eqb b space) (words_at (at + 1) s) (part_at at (b ∷ word s) ∷ after_word (at + 1) s)

  -- the words after one of which bytes may be left
  pub after_word : ℕ → List ℕ → List Part
  after_word at [] = []
  after_word at (b ∷ s) = cond (eqb b space) (words_at (at + 1) s) (after_word (at + 1) s)

abbrev pub words_of : List ℕ → List (List ℕ)
words_of s = bytes_of (words_at 0 s)

-- the first word at a place or after it, or the empty part at the end where there is none
unfoldable pub next_word : List ℕ → ℕ → Span
next_word s at = get_or (map span_of (words_at at (drop at s))) 0 (empty_at (length s))
