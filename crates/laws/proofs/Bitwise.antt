-- Laws of bits: a shift and a mask test one, a number's bits lie below its width, a union has the bits of both and so none if neither has one, a power
-- of two has one, one that is taken off leaves the others, and numbers with the same bits are the same. Assumes nothing.
use mathlib.Core.Path.{◌≡◌, refl, sym, ap, ◌∙◌}
use mathlib.Core.Bool.{Bool, true, false, true≢false, not, ◌&&◌, ◌||◌, and-true, and-false, and_assoc}
use mathlib.Core.List.{List}
use Prim.Native.Nat.{ℕ, zero, suc, ◌+◌, ◌-◌, ◌*◌, ◌/◌, ◌%◌, ◌^◌, ◌≤◌, ◌<◌, max}
use native.Mathlib.Nat.{div-eq_of_lt, div-div-eq-div-mul, div-one, mod-eq_of_lt, one-mul, pow-suc, pow-succ'}
use native.Mathlib.Omega.{arith}
use lib.ListN.{length, drop, get_or}
use lib.Bits.{bit_and, bit_or, and_mask, or_add_and, and_le_l, and_le_r}
use lib.Dec.{eqb, leb, eqb-zero-suc, eqb-suc-zero, eqb-suc-suc}
use lib.Pow.{pow-lt, pow_mono, pow_pos}
use borrow.Author.Tests.{eq-eqb, ne_eqb, eqb-true, eqb-false, leb-true, leb-false}
use Rattle.laws.specs.Bits.{has_bit}
use Rattle.laws.specs.Lists.{all}
use Rattle.laws.proofs.Joins.{bits-digit}
use Rattle.laws.proofs.Lists.{all_past, all-step}

-- ---- a bit tested by shift and mask
pub bit-tested : (n k : ℕ) → eqb (bit_and (n / 2 ^ k) 1) 1 ≡ has_bit n k
unfolding has_bit
bit-tested n k = rw (and_mask (n / 2 ^ k) 1)

-- ---- where the bits of a number lie
pub bit-small : (n k : ℕ) → n < 2 ^ k → has_bit n k ≡ false
unfolding has_bit
bit-small n k h = rw (div-eq_of_lt h)

pub bit_past : (n w k : ℕ) → n < 2 ^ w → w ≤ k → has_bit n k ≡ false
bit_past n w k h le = bit-small n k (omega (arith, pow_mono {i = w} {j = k} le))

pub bit_below : (n w k : ℕ) → n < 2 ^ w → has_bit n k ≡ true → k < w
bit_below n w k h e = go (leb w k) refl
  where
    go : (t : Bool) → leb w k ≡ t → k < w
    go true q = absurd (true≢false (sym e ∙ bit_past n w k h (leb-true w k q)))
    go false q = leb-false w k q

pub bit-value : (n k : ℕ) → has_bit n k ≡ true → 2 ^ k ≤ n
bit-value n k e = go (leb (2 ^ k) n) refl
  where
    go : (t : Bool) → leb (2 ^ k) n ≡ t → 2 ^ k ≤ n
    go true q = leb-true (2 ^ k) n q
    go false q = absurd (true≢false (sym e ∙ bit-small n k (leb-false (2 ^ k) n q)))

-- ---- one shifted to a place
pub shifted_one : (w k : ℕ) → k < w → 1 * 2 ^ k % 2 ^ w ≡ 2 ^ k
shifted_one w k h = rw (one-mul (2 ^ k), mod-eq_of_lt (pow-lt h))

-- ---- a union has the bits of both
pub bit-union : (a b k : ℕ) → has_bit (bit_or a b) k ≡ has_bit a k || has_bit b k
unfolding has_bit
bit-union a b k = rw (bits-digit k a b) (digits (a / 2 ^ k % 2) (b / 2 ^ k % 2) (omega arith) (omega arith))
  where
    digits : (x y : ℕ) → x < 2 → y < 2 → eqb (max x y) 1 ≡ eqb x 1 || eqb y 1
    digits zero y p q = let e : max 0 y ≡ y = omega arith in rw e
    digits (suc zero) zero p q = refl
    digits (suc zero) (suc zero) p q = refl
    digits (suc zero) (suc (suc y)) p q = absurd (omega arith)
    digits (suc (suc x)) y p q = absurd (omega arith)

-- ---- an or is zero exactly if each side is
pub or-zero : (a b : ℕ) → eqb (bit_or a b) 0 ≡ eqb a 0 && eqb b 0
or-zero a b = go (eqb a 0) refl (eqb b 0) refl
  where
    go : (t : Bool) → eqb a 0 ≡ t → (u : Bool) → eqb b 0 ≡ u → eqb (bit_or a b) 0 ≡ eqb a 0 && eqb b 0
    go true e true f = rw (e, f) (eq-eqb (bit_or a b) 0 (omega (arith, or_add_and a b, eqb-true a 0 e, eqb-true b 0 f)))
    go true e false f = rw (e, f) (ne_eqb (bit_or a b) 0 (λ z. eqb-false b 0 f (omega (arith, or_add_and a b, and_le_l a b))))
    go false e u f = rw e (ne_eqb (bit_or a b) 0 (λ z. eqb-false a 0 e (omega (arith, or_add_and a b, and_le_r a b))))

-- bits joined by or along a list, none of an element exactly if it passes a test: at a place, and past the end
module _ {A : Type 0} (p : A → Bool) (l : List A) (i bits : ℕ) where
  pub or_step : (b : ℕ) (d : A) → i < length l → eqb b 0 ≡ p (get_or l i d) → eqb bits 0 && all p (drop i l) ≡ eqb (bit_or bits b) 0 && all p (drop (i + 1) l)
  or_step b d h e =
      ap (λ (t : Bool). eqb bits 0 && t) (all-step p l i d h)
      ∙ sym (and_assoc (eqb bits 0) (p (get_or l i d)) (all p (drop (i + 1) l)))
      ∙ ap (λ (t : Bool). t && all p (drop (i + 1) l)) (ap (λ (t : Bool). eqb bits 0 && t) (sym e) ∙ sym (or-zero bits b))

  pub or-past : length l ≤ i → eqb bits 0 && all p (drop i l) ≡ eqb bits 0
  or-past h = ap (λ (t : Bool). eqb bits 0 && t) (all_past p l i h) ∙ and-true (eqb bits 0)

-- ---- one bit alone, and one taken off
-- a place further on is that place of the half
pub bit-half : (n k : ℕ) → has_bit n (suc k) ≡ has_bit (n / 2) k
unfolding has_bit
bit-half n k = ap (λ (m : ℕ). eqb (n / m % 2) 1) (pow-succ' 2 k) ∙ ap (λ (m : ℕ). eqb (m % 2) 1) (sym (div-div-eq-div-mul n 2 (2 ^ k)))

pub bit-last : (n : ℕ) → has_bit n 0 ≡ eqb (n % 2) 1
unfolding has_bit
bit-last n = rw div-one

pub bit-power : (k j : ℕ) → has_bit (2 ^ k) j ≡ eqb j k
bit-power zero zero = bit-last 1
bit-power zero (suc j) = bit-half 1 j ∙ bit-small 0 j (pow_pos j) ∙ sym (eqb-suc-zero j)
bit-power (suc k) zero =
    let e : 2 ^ suc k % 2 ≡ 0 = omega (arith, pow-suc 2 k) in
    bit-last (2 ^ suc k) ∙ rw (e, eqb-zero-suc k)
bit-power (suc k) (suc j) =
    let e : 2 ^ suc k / 2 ≡ 2 ^ k = omega (arith, pow-suc 2 k) in
    bit-half (2 ^ suc k) j ∙ rw (e, eqb-suc-suc j k) (bit-power k j)

pub bit-off : (n k j : ℕ) → has_bit n k ≡ true → has_bit (n - 2 ^ k) j ≡ has_bit n j && not (eqb j k)
bit-off n zero zero e =
    let odd : n % 2 ≡ 1 = eqb-true (n % 2) 1 (sym (bit-last n) ∙ e) in
    let even : (n - 1) % 2 ≡ 0 = omega arith in
    bit-last (n - 1) ∙ rw (even, and-false)
bit-off n zero (suc j) e =
    let odd : n % 2 ≡ 1 = eqb-true (n % 2) 1 (sym (bit-last n) ∙ e) in
    let half : (n - 1) / 2 ≡ n / 2 = omega arith in
    bit-half (n - 1) j ∙ rw (half, eqb-suc-zero j, and-true) (sym (bit-half n j))
bit-off n (suc k) zero e =
    let p = bit-value n (suc k) e in
    let last : (n - 2 ^ suc k) % 2 ≡ n % 2 = omega (arith, pow-suc 2 k) in
    bit-last (n - 2 ^ suc k) ∙ rw (last, eqb-zero-suc k, and-true) (sym (bit-last n))
bit-off n (suc k) (suc j) e =
    let half : (n - 2 ^ suc k) / 2 ≡ n / 2 - 2 ^ k = omega (arith, pow-suc 2 k) in
    bit-half (n - 2 ^ suc k) j ∙ rw (half, eqb-suc-suc j k, bit-half n j) (bit-off (n / 2) k j (sym (bit-half n k) ∙ e))

-- ---- numbers with the same bits are the same
same-digit : (x y : ℕ) → x < 2 → y < 2 → eqb x 1 ≡ eqb y 1 → x ≡ y
same-digit zero zero p q e = refl
same-digit zero (suc zero) p q e = absurd (true≢false (sym e))
same-digit zero (suc (suc y)) p q e = absurd (omega arith)
same-digit (suc zero) zero p q e = absurd (true≢false e)
same-digit (suc zero) (suc zero) p q e = refl
same-digit (suc zero) (suc (suc y)) p q e = absurd (omega arith)
same-digit (suc (suc x)) y p q e = absurd (omega arith)

-- by their halves, up to a bound
same-upto : (n a b : ℕ) → a ≤ n → b ≤ n → ((k : ℕ) → has_bit a k ≡ has_bit b k) → a ≡ b
same-upto zero a b p q h = omega arith
same-upto (suc n) a b p q h =
    let half : a / 2 ≡ b / 2 = same-upto n (a / 2) (b / 2) (omega arith) (omega arith) (λ k. sym (bit-half a k) ∙ h (suc k) ∙ bit-half b k) in
    let last : a % 2 ≡ b % 2 = same-digit (a % 2) (b % 2) (omega arith) (omega arith) (sym (bit-last a) ∙ h 0 ∙ bit-last b) in
    omega arith

pub same_bits : (a b : ℕ) → ((k : ℕ) → has_bit a k ≡ has_bit b k) → a ≡ b
same_bits a b = same-upto (a + b) a b (omega arith) (omega arith)
