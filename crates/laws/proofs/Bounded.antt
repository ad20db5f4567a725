-- A test of every number below a bound, one after the other: what passes holds of each of them. So a law of bytes can be computed. Assumes nothing.
use Prim.Native.Nat.{ℕ, zero, suc, ◌<◌}
use mathlib.Core.Path.{◌≡◌, refl, ap, ◌∙◌}
use mathlib.Core.Bool.{Bool, true, false, ◌&&◌}
use native.Mathlib.Omega.{arith}
use lib.Dec.{eqb}
use borrow.Author.Tests.{eqb-true, eqb-false}
use Rattle.laws.proofs.Bools.{and_left, and_right}

unfoldable pub all_below : ℕ → (ℕ → Bool) → Bool
all_below zero t = true
all_below (suc n) t = t n && all_below n t

pub all-below : (t : ℕ → Bool) (n m : ℕ) → all_below n t ≡ true → m < n → t m ≡ true
unfolding all_below
all-below t zero m h = λ k. absurd (omega arith)
all-below t (suc n) m h = λ k. go (eqb m n) refl (all-below t n m (and_right (t n) (all_below n t) h)) k
  where
    go : (u : Bool) → eqb m n ≡ u → (m < n → t m ≡ true) → m < suc n → t m ≡ true
    go true e ih k = ap t (eqb-true m n e) ∙ and_left (t n) (all_below n t) h
    go false e ih k = ih (omega (arith, eqb-false m n e))
