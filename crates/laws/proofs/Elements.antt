-- What is known of an element of an array of structs that a value holds: what the element's type says of each. Assumes nothing.
use Prim.Native.Nat.{ℕ, zero, suc, ◌<◌}
use mathlib.Core.List.{List, [], ◌∷◌, map}
use native.Mathlib.Omega.{arith}
use lib.ListN.{length, get_or}
use mir.Val.{Val}
use base.Fml.{Fml}
use denote.Shadow.{shadow}
use denote.Array.{each}

module _ {D X : Type 0} (f : X → List Val → Fml) (to : D → X) (P : D → Type 0) (one : (x : D) (u : Val) → shadow (f (to x) (u ∷ [])) → P x) where
  pub each_at : (xs : List D) (us : List Val) → shadow (each X f (map to xs) us) → (k : ℕ) (d : D) → k < length xs → P (get_or xs k d)
  each_at [] us s k d h = absurd (omega arith)
  each_at (x ∷ xs) [] s k d h = absurd s
  each_at (x ∷ xs) (u ∷ us) s zero d h = one x u s.0
  each_at (x ∷ xs) (u ∷ us) s (suc k) d h = each_at xs us s.1 k d (omega arith)
