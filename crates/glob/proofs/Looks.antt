-- What stands at a place of a list: a byte, or its end. Assumes nothing.
use Prim.Native.Nat.{ℕ, zero, suc, ◌≤◌, ◌<◌}
use mathlib.Core.Path.{◌≡◌, refl}
use mathlib.Core.List.{List, [], ◌∷◌}
use native.Mathlib.Omega.{arith}
use lib.ListN.{length, get_or}
use Rattle.std.proofs.Common.{Some, None}
use Rattle.glob.specs.Stepping.{look}

pub look-byte : (s : List ℕ) (at : ℕ) → at < length s → look s at ≡ Some (get_or s at 0)
look-byte [] at = λ h. absurd (omega arith)
look-byte (b ∷ s) zero = λ h. refl
look-byte (b ∷ s) (suc at) = λ h. look-byte s at (omega arith)

pub look-end : (s : List ℕ) (at : ℕ) → length s ≤ at → look s at ≡ None
look-end [] at = λ h. refl
look-end (b ∷ s) zero = λ h. absurd (omega arith)
look-end (b ∷ s) (suc at) = λ h. look-end s at (omega arith)
