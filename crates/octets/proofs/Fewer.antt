-- A smaller number has no more digits: both are below ten, or so are their tenth parts, and each has one digit more than its tenth part.
-- Assumes nothing.
use mathlib.Core.Path.{◌≡◌, refl}
use mathlib.Core.Bool.{Bool, true, false}
use mathlib.Core.List.{List, ◌++◌}
use Prim.Native.Nat.{ℕ, ◌/◌, ◌≤◌}
use native.Mathlib.Omega.{arith}
use lib.ListN.{length, length-append}
use lib.Dec.{ltb}
use borrow.Author.Tests.{ltb-true, ltb-false}
use Rattle.octets.specs.Decimals.{last_digit, digits_of}
use Rattle.octets.proofs.Digits.{digits-one, digits_more, by_digits}

pub digits-fewer : (n m : ℕ) → m ≤ n → length (digits_of m) ≤ length (digits_of n)
digits-fewer = by_digits (λ (n : ℕ) (s : List ℕ). (m : ℕ) → m ≤ n → length (digits_of m) ≤ length s) (λ n h m k. rw (digits-one m (omega arith)) (omega arith)) more
  where
    more : (n : ℕ) (s : List ℕ) → 10 ≤ n → ((m : ℕ) → m ≤ n / 10 → length (digits_of m) ≤ length s) → (m : ℕ) → m ≤ n → length (digits_of m) ≤ length (s ++ last_digit n)
    more n s h ih m k = go (ltb m 10) refl
      where
        go : (t : Bool) → ltb m 10 ≡ t → length (digits_of m) ≤ length (s ++ last_digit n)
        go true e = rw (digits-one m (ltb-true m 10 e)) (omega (arith, length-append s (last_digit n)))
        go false e =
            let l = ltb-false m 10 e in
            rw (digits_more m l) (omega (arith, length-append s (last_digit n), length-append (digits_of (m / 10)) (last_digit m), ih (m / 10) (omega arith)))
