-- What a mask matches (document 01, 'Names and ids'), in its plain meaning, and the answer.
use Rattle.std.specs.Prelude.{ℕ, Bool, true, false, cond, ◌&&◌, ◌||◌, List, [], ◌∷◌, length, eqb, ltb}
use Rattle.refusal.specs.Numbers.{accepted, text_too_long}
use Rattle.refusal.specs.Rules.{Rule, ◌when◌, first_of}
use Rattle.names.specs.Fold.{fold}
use Rattle.glob.specs.declared.Match.{Match}

-- the most bytes of a mask, and of a text
abbrev pub text_limit : ℕ
text_limit = 512

abbrev pub star : ℕ
star = 42

abbrev pub question : ℕ
question = 63

-- '?' matches any byte, every other one its fold: two bytes match if their folds are equal
unfoldable pub matches_byte : ℕ → ℕ → Bool
matches_byte m b = eqb m question || eqb (fold m) (fold b)

-- a byte that passes the test comes first, and what follows it passes the other
unfoldable pub first_then : (ℕ → Bool) → (List ℕ → Bool) → List ℕ → Bool
first_then p f [] = false
first_then p f (b ∷ s) = p b && f s

-- what is left after some run of bytes, the empty one too, passes the test
unfoldable pub after_run : (List ℕ → Bool) → List ℕ → Bool
after_run f [] = f []
after_run f (b ∷ s) = f (b ∷ s) || after_run f s

-- '*' matches any run, the empty one too, every other byte one byte
unfoldable pub matches : List ℕ → List ℕ → Bool
matches [] [] = true
matches [] (b ∷ s) = false
matches (m ∷ ms) s = cond (eqb m star) (after_run (matches ms) s) (first_then (matches_byte m) (matches ms) s)

-- ---- the answer
unfoldable pub match_rules : List ℕ → List ℕ → List Rule
match_rules mask text = text_too_long when (ltb text_limit (length mask) || ltb text_limit (length text)) ∷ []

-- a refused match is no
unfoldable pub match_answer : List ℕ → List ℕ → Match
match_answer mask text = record {
  number = first_of (match_rules mask text);
  yes = eqb (first_of (match_rules mask text)) accepted && matches mask text;
}
