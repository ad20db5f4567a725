-- Laws of `&&`, `||` and `not`, and of two tests that imply or equal each other. Assumes nothing.
use Prim.Native.Nat.{ℕ}
use mathlib.Core.Path.{◌≡◌, refl, sym, ◌∙◌}
use mathlib.Core.Bool.{Bool, true, false, true≢false, not, ◌&&◌, ◌||◌, beq}
use lib.Dec.{eqb}
use borrow.Author.Tests.{eq-eqb, eqb-true}

pub and_left : (a b : Bool) → a && b ≡ true → a ≡ true
and_left true b e = refl
and_left false b e = e

pub and_right : (a b : Bool) → a && b ≡ true → b ≡ true
and_right true b e = e
and_right false b e = absurd (true≢false (sym e))

pub and_intro : (a b : Bool) → a ≡ true → b ≡ true → a && b ≡ true
and_intro a b e f = rw e f

pub and-three : (a b c : Bool) → a && (b && c) ≡ true → (a ≡ true) × (b ≡ true) × (c ≡ true)
and-three a b c h = let k = and_right a (b && c) h in (and_left a (b && c) h, and_left b c k, and_right b c k)

pub and-swap : (a b c d : Bool) → (a && b) && (c && d) ≡ (a && c) && (b && d)
and-swap true true c d = refl
and-swap true false true d = refl
and-swap true false false d = refl
and-swap false b c d = refl

pub not-or : (a b : Bool) → not (a || b) ≡ not a && not b
not-or true b = refl
not-or false b = refl

pub or-not : (a b : Bool) → (a || not b) ≡ not (not a && b)
or-not true b = refl
or-not false b = refl

-- two tests that imply each other are equal
pub both_ways : (a b : Bool) → (a ≡ true → b ≡ true) → (b ≡ true → a ≡ true) → a ≡ b
both_ways true b f g = sym (f refl)
both_ways false true f g = g refl
both_ways false false f g = refl

-- a test that can't succeed fails
pub refuted : (a : Bool) → (a ≡ true → ⊥) → a ≡ false
refuted true f = absurd (f refl)
refuted false f = refl

-- so does one that would make another succeed that fails
pub refuted-by : (a b : Bool) → (a ≡ true → b ≡ true) → b ≡ false → a ≡ false
refuted-by a b f e = refuted a (λ h. true≢false (sym (f h) ∙ e))

-- the test of equal numbers, turned
pub eqb_swap : (x y : ℕ) → eqb x y ≡ eqb y x
eqb_swap x y = both_ways (eqb x y) (eqb y x) (λ e. eq-eqb y x (sym (eqb-true x y e))) (λ e. eq-eqb x y (sym (eqb-true y x e)))

-- the test of equal tests
pub beq-says : (a b : Bool) → beq a b ≡ true → a ≡ b
beq-says true true e = refl
beq-says true false e = sym e
beq-says false true e = e
beq-says false false e = refl

pub beq-refl : (a : Bool) → beq a a ≡ true
beq-refl true = refl
beq-refl false = refl
