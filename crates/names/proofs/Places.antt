-- Two byte lists at a place: which is smaller. Assumes nothing.
use Prim.Native.Nat.{ℕ, ◌+◌, ◌≤◌, ◌<◌}
use mathlib.Core.Path.{◌≡◌}
use mathlib.Core.Bool.{false, cond}
use mathlib.Core.Logic.{◌⊎◌, inl, inr}
use mathlib.Core.List.{List, [], ◌∷◌}
use native.Mathlib.Omega.{arith}
use lib.ListN.{length, drop, get_or, drop_of_length-le}
use lib.Dec.{eqb, ltb}
use borrow.Author.Tests.{eq-eqb, ne_eqb, lt-ltb, le-ltb}
use Rattle.octets.specs.Order.{compare, is_less}
use Rattle.laws.proofs.Lists.{drop-step}
use Rattle.octets.proofs.Ordered.{heads-same, heads-less, heads-more, trichotomy, compare_refl}

less-heads : (x y : ℕ) (s t : List ℕ) → is_less (compare (x ∷ s) (y ∷ t)) ≡ cond (eqb x y) (is_less (compare s t)) (ltb x y)
less-heads x y s t = go (trichotomy x y)
  where
    go : (x < y) ⊎ ((x ≡ y) ⊎ (y < x)) → is_less (compare (x ∷ s) (y ∷ t)) ≡ cond (eqb x y) (is_less (compare s t)) (ltb x y)
    go (inl h) = rw (heads-less x y s t h, ne_eqb x y (λ e. omega arith), lt-ltb x y h)
    go (inr (inl e)) = rw (heads-same x y s t e, eq-eqb x y e)
    go (inr (inr h)) = rw (heads-more x y s t h, ne_eqb x y (λ e. omega arith), le-ltb x y (omega arith))

module _ (a b : List ℕ) (i : ℕ) where
  -- equal bytes leave it to those behind them
  pub less-at : i < length a → i < length b → is_less (compare (drop i a) (drop i b)) ≡ cond (eqb (get_or a i 0) (get_or b i 0)) (is_less (compare (drop (i + 1) a) (drop (i + 1) b))) (ltb (get_or a i 0) (get_or b i 0))
  less-at h k = rw (drop-step a i 0 h, drop-step b i 0 k) (less-heads (get_or a i 0) (get_or b i 0) (drop (i + 1) a) (drop (i + 1) b))

  -- past both neither is smaller
  pub less-past : length a ≤ i → length b ≤ i → is_less (compare (drop i a) (drop i b)) ≡ false
  less-past h k = rw (drop_of_length-le a h, drop_of_length-le b k, compare_refl [])
