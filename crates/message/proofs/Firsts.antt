-- Where the first SPACE stands, and the first byte that is none, as a search along the bytes finds them. Assumes nothing.
use Rattle.std.proofs.Common.{◌≡◌, refl, sym, ◌∙◌, ℕ, ◌+◌, Bool, true, false, not, cond, List, ◌∷◌, length, eqb, ltb, arith}
use borrow.Author.Tests.{ltb-false}
use Rattle.std.specs.Option.{unwrap_or}
use Rattle.std.specs.List.{position, position_or_len}
use Rattle.std.proofs.lemmas.List.Recursion.{is_position_or_len}
use Rattle.std.proofs.lemmas.List.Sums.{prefix_len-le-length}
use Rattle.octets.specs.Bytes.{space, is_non_space}
use Rattle.message.specs.Grammar.{word, spaces}

-- the place of the first that passes, or the end
pub first_place : (p : ℕ → Bool) (s : List ℕ) → unwrap_or (position p s) (length s) ≡ position_or_len p s
first_place p s = go (ltb (position_or_len p s) (length s)) refl
  where
    go : (t : Bool) → ltb (position_or_len p s) (length s) ≡ t → unwrap_or (position p s) (length s) ≡ position_or_len p s
    go true e = rw e
    go false e = rw e (omega (arith, ltb-false _ _ e, prefix_len-le-length (λ x. not (p x)) s))

pub word-place : (s : List ℕ) → unwrap_or (position (λ b. eqb b space) s) (length s) ≡ length (word s)
unfolding word
word-place s = first_place (λ b. eqb b space) s ∙ sym (is_position_or_len (λ s. length (word s)) (λ b. eqb b space) refl step s)
  where
    step : (x : ℕ) (xs : List ℕ) → length (word (x ∷ xs)) ≡ cond (eqb x space) 0 (1 + length (word xs))
    step x xs = go (eqb x space) refl
      where
        go : (t : Bool) → eqb x space ≡ t → length (word (x ∷ xs)) ≡ cond (eqb x space) 0 (1 + length (word xs))
        go true e = rw e
        go false e = rw e (omega arith)

pub spaces-place : (s : List ℕ) → unwrap_or (position is_non_space s) (length s) ≡ spaces s
unfolding spaces
spaces-place s = first_place is_non_space s ∙ sym (is_position_or_len spaces is_non_space refl step s)
  where
    step : (x : ℕ) (xs : List ℕ) → spaces (x ∷ xs) ≡ cond (is_non_space x) 0 (1 + spaces xs)
    step x xs = go (eqb x space) refl
      where
        go : (t : Bool) → eqb x space ≡ t → spaces (x ∷ xs) ≡ cond (is_non_space x) 0 (1 + spaces xs)
        go true e = rw e (omega arith)
        go false e = rw e
