-- Laws of a limit's text: what the decimal reader answers is the limit, but for 0, which is none. Assumes nothing.
use Prim.Native.Nat.{ℕ, ◌≤◌}
use mathlib.Core.Path.{◌≡◌, refl}
use mathlib.Core.Bool.{Bool, true, false, not, and-false}
use mathlib.Core.List.{List}
use native.Mathlib.Omega.{arith}
use lib.Dec.{eqb, leb}
use borrow.Author.Tests.{ne_eqb, le-leb, leb-true, leb-false}
use Rattle.std.specs.Prelude.{Some, None, unwrap_or}
use Rattle.octets.specs.Decimals.{is_decimal, value_of, decimal_up_to, digits_of}
use Rattle.laws.proofs.Bools.{and-three}
use Rattle.octets.proofs.Digits.{value-digits, decimal-digits, decimal-read, value_in}
use Rattle.channel.specs.Limits.{limit_limit}
use Rattle.sjoin.specs.Modes.{is_limit}
use Rattle.sjoin.specs.Private.Parts.{limit_in}

-- the digits of a number within bounds are a limit unless it is 0
limit-digits : (n : ℕ) → n ≤ limit_limit → unwrap_or (limit_in (digits_of n)) 0 ≡ n
unfolding limit_in is_limit
limit-digits n h = go (leb 1 n) refl
  where
    go : (t : Bool) → leb 1 n ≡ t → unwrap_or (limit_in (digits_of n)) 0 ≡ n
    go true e = rw (decimal-digits n, value-digits n, le-leb n limit_limit h, e)
    go false e = rw (decimal-digits n, value-digits n, le-leb n limit_limit h, e) (omega (arith, leb-false 1 n e))

-- a text that is read as a number has it as its limit, 0 standing for none
pub limit-value : (s : List ℕ) (n : ℕ) → decimal_up_to limit_limit s ≡ Some n → unwrap_or (limit_in s) 0 ≡ n
limit-value s n e = let r = decimal-read limit_limit n s e in rw r.1 (limit-digits n r.0)

-- a text that isn't read has no limit
pub limit-none : (s : List ℕ) → decimal_up_to limit_limit s ≡ None → limit_in s ≡ None
unfolding decimal_up_to limit_in is_limit
limit-none s e = go (is_decimal s) refl (leb (value_of s) limit_limit) refl
  where
    go : (t : Bool) → is_decimal s ≡ t → (u : Bool) → leb (value_of s) limit_limit ≡ u → limit_in s ≡ None
    go true f true g =
        let d : decimal_up_to limit_limit s ≡ Some (value_of s) = rw f (value_in limit_limit s (leb-true (value_of s) limit_limit g)) in
        let z : ◌≡◌ {A = ℕ} 0 1 = cc in absurd (omega arith)
    go true f false g = rw (f, g, and-false (leb 1 (value_of s)))
    go false f u g = rw f

-- a limit is one that isn't 0
pub limit-bounds : (s : List ℕ) → is_limit s ≡ true → (1 ≤ value_of s) × (value_of s ≤ limit_limit)
unfolding is_limit
limit-bounds s e = let t = and-three (is_decimal s) (leb 1 (value_of s)) (leb (value_of s) limit_limit) e in (leb-true 1 (value_of s) t.1, leb-true (value_of s) limit_limit t.2)

-- the limit isn't 0 exactly if the text is one
pub limit_is : (s : List ℕ) → not (eqb (unwrap_or (limit_in s) 0) 0) ≡ is_limit s
unfolding limit_in
limit_is s = go (is_limit s) refl
  where
    go : (t : Bool) → is_limit s ≡ t → not (eqb (unwrap_or (limit_in s) 0) 0) ≡ is_limit s
    go true e = rw (e, ne_eqb (value_of s) 0 (λ z. omega (arith, (limit-bounds s e).0)))
    go false e = rw e
