-- What the library's tests of lists answer, by the definitions here: of all elements or of one, of two lists, and of two lists' elements in pairs. Assumes nothing.
use mathlib.Core.Path.{◌≡◌, refl, sym, ap, ◌∙◌}
use mathlib.Core.Bool.{Bool, not, ◌&&◌, ◌||◌}
use mathlib.Core.List.{List, [], ◌∷◌}
use native.Mathlib.Omega.{arith}
use lib.ListN.{length}
use Rattle.std.specs.List.{list_all, list_any, zip}
use Rattle.std.specs.Cmp.Lexicographic.{pointwise}
use Rattle.laws.specs.Lists.{all, same_by}
use Rattle.laws.proofs.Bools.{not-or}

pub all_listed : {A : Type 0} (p : A → Bool) (l : List A) → list_all p l ≡ all p l
unfolding all
all_listed p [] = refl
all_listed p (x ∷ l) = ap (λ (t : Bool). p x && t) (all_listed p l)

-- none passes exactly if not one does
pub none_listed : {A : Type 0} (p : A → Bool) (l : List A) → all (λ x. not (p x)) l ≡ not (list_any p l)
unfolding all
none_listed p [] = refl
none_listed p (x ∷ l) = ap (λ (t : Bool). not (p x) && t) (none_listed p l) ∙ sym (not-or (p x) (list_any p l))

module _ {A : Type 0} (t : A → A → Bool) where
  pub same_pointwise : (l m : List A) → pointwise t l m ≡ same_by t l m
  unfolding same_by
  same_pointwise [] [] = refl
  same_pointwise [] (y ∷ m) = refl
  same_pointwise (x ∷ l) [] = refl
  same_pointwise (x ∷ l) (y ∷ m) = ap (λ (u : Bool). t x y && u) (same_pointwise l m)

  -- lists of one length are the same exactly if their elements in pairs are
  pub same_zipped : (l m : List A) → length l ≡ length m → list_all (λ p. t p.0 p.1) (zip l m) ≡ same_by t l m
  unfolding same_by
  same_zipped [] [] = λ e. refl
  same_zipped [] (y ∷ m) = λ e. absurd (omega arith)
  same_zipped (x ∷ l) [] = λ e. absurd (omega arith)
  same_zipped (x ∷ l) (y ∷ m) = λ e. ap (λ (u : Bool). t x y && u) (same_zipped l m (omega arith))
