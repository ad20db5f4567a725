-- What an answer tells of the test that decides it. Assumes nothing.
use mathlib.Core.Path.{◌≡◌, refl}
use mathlib.Core.Bool.{Bool, true, false, cond}
use Rattle.std.specs.Prelude.{Ok, Err}

module _ {A N : Type 0} (x : A) (n : N) where
  -- something is answered where it passes
  pub told-ok : (t : Bool) (y : A) → Ok y ≡ cond t (Ok x) (Err n) → (t ≡ true) × (y ≡ x)
  told-ok true y e = let f : y ≡ x = cc in (refl, f)
  told-ok false y e = cc

  -- and nothing where it fails
  pub told-err : (t : Bool) (k : N) → Err k ≡ cond t (Ok x) (Err n) → (t ≡ false) × (k ≡ n)
  told-err true k e = cc
  told-err false k e = let f : k ≡ n = cc in (refl, f)
