-- Laws of tests: of a byte shifted, and of a test that is to come out as another does. Assumes nothing.
use mathlib.Core.Path.{◌≡◌, refl}
use mathlib.Core.Bool.{Bool, true, false, not, beq}
use Prim.Native.Nat.{ℕ, ◌*◌, ◌%◌, ◌^◌, ◌≤◌, ◌<◌}
use native.Mathlib.Nat.{zero-mul}
use native.Mathlib.Omega.{arith}
use lib.Pow.{shl_exact, shl-shr, shr_le}
use borrow.Author.Tests.{ne_eqb, eqb-true, eqb-false}
use Rattle.octets.specs.Bytes.{is_zero}

-- ---- a byte shifted within 64 bits is zero exactly if it was
-- A byte shifted by at most 56 bits is zero in 64 bits exactly if it was.
pub shifted-zero : (b k : ℕ) → b < 256 → k ≤ 56 → is_zero (b * 2 ^ k % 2 ^ 64) ≡ is_zero b
shifted-zero b k small h = rw (shl_exact 8 k 64 small (omega arith)) (go (is_zero b) refl)
  where
    go : (t : Bool) → is_zero b ≡ t → is_zero (b * 2 ^ k) ≡ is_zero b
    go true e = rw (eqb-true b 0 e, zero-mul)
    go false e = rw e (ne_eqb (b * 2 ^ k) 0 (λ z. eqb-false b 0 e (omega (arith, shl-shr b k, shr_le (b * 2 ^ k) k, z))))

-- ---- a test that is to come out as another does
-- a test that is to pass comes out as it is
pub beq-true : (t : Bool) → beq t true ≡ t
beq-true true = refl
beq-true false = refl

-- a test that is to fail comes out turned round
pub beq-false : (t : Bool) → beq t false ≡ not t
beq-false true = refl
beq-false false = refl
