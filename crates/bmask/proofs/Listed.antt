-- Laws of a list of masks: its type, and what is known of it when it is read word by word. Assumes nothing.
use Prim.Native.Nat.{ℕ}
use mathlib.Core.Path.{◌≡◌, refl, sym, ap, ◌∙◌}
use mathlib.Core.Bool.{Bool, true, false, not, ◌&&◌}
use mathlib.Core.List.{List, [], ◌∷◌}
use lib.Dec.{eqb}
use lib.Pointwise.{pointwise}
use Rattle.std.specs.Prelude.{Option, Some, None}
use Rattle.std.specs.Borrow.{Bor}
use Rattle.std.specs.Option.{is_some}
use Rattle.std.specs.Iterator.{YieldsFirstRef}
use Rattle.std.specs.List.{list_all}
use Rattle.laws.specs.Lists.{is_nil, same_by, same}
use Rattle.laws.proofs.Chains.{all_listed}
use Rattle.bans.specs.Masks.{is_mask}
use Rattle.bmask.specs.Masks.{listed, good_masks}

-- ---- the type
-- the library's test of two lists
pub pointwise_same : (s t : List ℕ) → pointwise eqb s t ≡ same s t
unfolding same_by
pointwise_same [] [] = refl
pointwise_same [] (y ∷ t) = refl
pointwise_same (x ∷ s) [] = refl
pointwise_same (x ∷ s) (y ∷ t) = ap (λ (b : Bool). eqb x y && b) (pointwise_same s t)

-- ---- whether the list is good
-- there is a first word exactly if the list has words
some-word : {S : Type 0} (rest : S → List (List ℕ)) (s t : S) (o : Option (Bor (List ℕ))) → YieldsFirstRef rest s o t → is_some o ≡ not (is_nil (rest s))
some-word rest s t None h = rw h.0
some-word rest s t (Some x) h = rw h

module _ {S : Type 0} (rest : S → List (List ℕ)) (s t : S) (o : Option (Bor (List ℕ))) (first : YieldsFirstRef rest s o t) (list : List ℕ) (whole : rest s ≡ listed list) (b : Bool) (is : b ≡ is_some o) where
  there : b ≡ not (is_nil (listed list))
  there = is ∙ some-word rest s t o first ∙ ap (λ (l : List (List ℕ)). not (is_nil l)) whole

  -- one without a word is bad
  pub wordless : b ≡ false → b ≡ good_masks list
  unfolding good_masks
  wordless e = e ∙ sym (rw (sym there ∙ e))

  -- and one with words is good if each is a mask
  pub worded : b ≡ true → list_all is_mask (listed list) ≡ good_masks list
  unfolding good_masks
  worded e = all_listed is_mask (listed list) ∙ sym (rw (sym there ∙ e))
