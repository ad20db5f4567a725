-- Whether some mask of a list matches a text (document 02, §2): whole, by the mask rule of 01.
use Rattle.std.specs.Prelude.{Bool, false, ◌||◌, List, [], ◌∷◌, ℕ}
use Rattle.glob.specs.Mask.{match_answer}

-- some mask matches; what is over the limit of a match, as a text of over 512 bytes, matches nothing
unfoldable pub some_matches : List ℕ → List (List ℕ) → Bool
some_matches t [] = false
some_matches t (m ∷ l) = (match_answer m t).yes || some_matches t l
