-- Laws of numbers in decimal. A number below ten has one digit, and any other the digits of its tenth part with its last one behind them; what these
-- two rules keep holds of all digits (`by_digits`). So a number is read as it was written, and written as it was read. Assumes nothing.
use mathlib.Core.Path.{◌≡◌, refl, sym, ap, ◌∙◌}
use mathlib.Core.Bool.{Bool, true, false, true≢false, and-false, not}
use mathlib.Core.List.{List, [], ◌∷◌, ◌++◌, append-nil}
use Prim.Native.Nat.{ℕ, zero, suc, ◌+◌, ◌-◌, ◌*◌, ◌/◌, ◌%◌, ◌^◌, ◌≤◌, ◌<◌}
use native.Mathlib.Nat.{pow-suc, div-eq_of_lt, mod-eq_of_lt}
use native.Mathlib.Omega.{arith}
use lib.ListN.{length, get_or, length-append}
use lib.Seq.{append_snoc}
use lib.Dec.{eqb, leb, ltb}
use borrow.Author.Tests.{ne_eqb, eqb-false, lt-ltb, ltb-true, ltb-false, le-leb, lt-leb, leb-true, not-true}
use Rattle.std.specs.Prelude.{Some, None}
use Rattle.octets.specs.Bytes.{is_digit}
use Rattle.laws.specs.Lists.{all, is_nil, starts_with}
use Rattle.octets.specs.Decimals.{zero_digit, leads_with_zero, is_decimal, value_from, value_of, value_up_to, decimal_up_to, digit, last_digit, digits_up_to, digits_of}
use Rattle.laws.proofs.Bools.{and_left, and_right}
use Rattle.laws.proofs.Lists.{all_head, all_tail, all_cons, all_append}
use Rattle.octets.proofs.Bytes.{within-bounds, bounds-within}

-- ---- the first of several bytes
pub lead-at : (s : List ℕ) → 1 < length s → eqb (get_or s 0 0) zero_digit ≡ leads_with_zero s
unfolding leads_with_zero starts_with
lead-at [] = λ h. absurd (omega arith)
lead-at (b ∷ s) = λ h. rw (lt-ltb 1 (length (b ∷ s)) h)

-- ---- what digits stand for
pub digit-bounds : (b : ℕ) → is_digit b ≡ true → (zero_digit ≤ b) × (b ≤ zero_digit + 9)
unfolding is_digit
digit-bounds b h = within-bounds zero_digit b (zero_digit + 9) h

pub value-from-le : (n : ℕ) (s : List ℕ) → n ≤ value_from n s
unfolding value_from
value-from-le n [] = omega arith
value-from-le n (b ∷ s) = omega (arith, value-from-le (n * 10 + (b - zero_digit)) s)

pub value-append : (n : ℕ) (s t : List ℕ) → value_from n (s ++ t) ≡ value_from (value_from n s) t
unfolding value_from
value-append n [] t = refl
value-append n (b ∷ s) t = value-append (n * 10 + (b - zero_digit)) s t

-- ---- the digits of a number, by two rules
digits-none : (k : ℕ) → digits_up_to k 0 ≡ []
unfolding digits_up_to
digits-none zero = refl
digits-none (suc k) = refl

pub digits-one : (n : ℕ) → n < 10 → digits_of n ≡ digit n ∷ []
unfolding digits_of
digits-one n h = rw (div-eq_of_lt h, mod-eq_of_lt h, digits-none n)

-- the digits are the same however many more there might have been
digits-any : (j k n : ℕ) → n ≤ j → n ≤ k → digits_up_to j n ≡ digits_up_to k n
unfolding digits_up_to
digits-any zero k zero = λ g h. sym (digits-none k)
digits-any zero k (suc n) = λ g h. absurd (omega arith)
digits-any (suc j) k zero = λ g h. sym (digits-none k)
digits-any (suc j) zero (suc n) = λ g h. absurd (omega arith)
digits-any (suc j) (suc k) (suc n) = λ g h. ap (λ (s : List ℕ). s ++ last_digit (suc n)) (digits-any j k (suc n / 10) (omega arith) (omega arith))

digits_up : (k n : ℕ) → 0 < n → n ≤ k → digits_up_to k n ≡ digits_of n
unfolding digits_up_to digits_of
digits_up zero n = λ g h. absurd (omega arith)
digits_up (suc k) zero = λ g h. absurd (omega arith)
digits_up (suc k) (suc n) = λ g h. ap (λ (s : List ℕ). s ++ last_digit (suc n)) (digits-any k (suc n) (suc n / 10) (omega arith) (omega arith))

pub digits_more : (n : ℕ) → 10 ≤ n → digits_of n ≡ digits_of (n / 10) ++ last_digit n
unfolding digits_of
digits_more n h = ap (λ (s : List ℕ). s ++ last_digit n) (digits_up n (n / 10) (omega arith) (omega arith))

-- what holds of a single digit, and is kept by one more behind digits, holds of the digits of every number
module _ (P : ℕ → List ℕ → Type 0) (one : (n : ℕ) → n < 10 → P n (digit n ∷ [])) (more : (n : ℕ) (s : List ℕ) → 10 ≤ n → P (n / 10) s → P n (s ++ last_digit n)) where
  by-digits-up : (k n : ℕ) → n < k → P n (digits_of n)
  by-digits-up zero n = λ h. absurd (omega arith)
  by-digits-up (suc k) n = λ h. go h (ltb n 10) refl (by-digits-up k (n / 10))
    where
      go : n < suc k → (t : Bool) → ltb n 10 ≡ t → (n / 10 < k → P (n / 10) (digits_of (n / 10))) → P n (digits_of n)
      go h true e ih = let l = ltb-true n 10 e in rw (digits-one n l) (one n l)
      go h false e ih = let l = ltb-false n 10 e in rw (digits_more n l) (more n (digits_of (n / 10)) l (ih (omega arith)))

  pub by_digits : (n : ℕ) → P n (digits_of n)
  by_digits n = by-digits-up (suc n) n (omega arith)

-- ---- a number is read as it was written
pub value-digits : (n : ℕ) → value_of (digits_of n) ≡ n
unfolding value_from
value-digits = by_digits (λ (n : ℕ) (s : List ℕ). value_of s ≡ n) (λ n h. omega arith) (λ n s h ih. value-append 0 s (last_digit n) ∙ omega arith)

pub all_digits : (n : ℕ) → all is_digit (digits_of n) ≡ true
unfolding all is_digit
all_digits = by_digits (λ (n : ℕ) (s : List ℕ). all is_digit s ≡ true) one (λ n s h ih. all_append is_digit s (last_digit n) ih (one (n % 10) (omega arith)))
  where
    one : (n : ℕ) → n < 10 → all is_digit (digit n ∷ []) ≡ true
    one n h = all_cons is_digit (digit n) [] (bounds-within 48 (digit n) 57 (omega arith) (omega arith)) refl

-- there is a first digit, and that of a number above 0 is not 0
digits-lead : (n : ℕ) → (is_nil (digits_of n) ≡ false) × (0 < n → starts_with zero_digit (digits_of n) ≡ false)
unfolding starts_with
digits-lead = by_digits (λ (n : ℕ) (s : List ℕ). (is_nil s ≡ false) × (0 < n → starts_with zero_digit s ≡ false)) (λ n h. (refl, λ l. ne_eqb (digit n) zero_digit (λ e. omega arith))) more
  where
    more : (n : ℕ) (s : List ℕ) → 10 ≤ n → (is_nil s ≡ false) × (0 < n / 10 → starts_with zero_digit s ≡ false) → (is_nil (s ++ last_digit n) ≡ false) × (0 < n → starts_with zero_digit (s ++ last_digit n) ≡ false)
    more n [] h ih = (refl, λ l. absurd (true≢false ih.0))
    more n (b ∷ s) h ih = (refl, λ l. ih.1 (omega arith))

digits-no-lead : (n : ℕ) → leads_with_zero (digits_of n) ≡ false
unfolding leads_with_zero
digits-no-lead zero = rw (digits-one 0 (omega arith))
digits-no-lead (suc n) = rw ((digits-lead (suc n)).1 (omega arith)) (and-false (ltb 1 (length (digits_of (suc n)))))

pub decimal-digits : (n : ℕ) → is_decimal (digits_of n) ≡ true
unfolding is_decimal
decimal-digits n = rw ((digits-lead n).0, all_digits n, digits-no-lead n)

-- ---- a number is written as it was read
digits-next : (m b : ℕ) → 0 < m → is_digit b ≡ true → digits_of (m * 10 + (b - zero_digit)) ≡ digits_of m ++ (b ∷ [])
digits-next m b l h =
    let k = digit-bounds b h in
    let q : (m * 10 + (b - zero_digit)) / 10 ≡ m = omega arith in
    let r : digit ((m * 10 + (b - zero_digit)) % 10) ≡ b = omega arith in
    digits_more (m * 10 + (b - zero_digit)) (omega arith) ∙ rw (q, r)

digits-behind : (m : ℕ) (s : List ℕ) → 0 < m → all is_digit s ≡ true → digits_of (value_from m s) ≡ digits_of m ++ s
unfolding value_from
digits-behind m [] l h = sym (append-nil (digits_of m))
digits-behind m (b ∷ s) l h =
    digits-behind (m * 10 + (b - zero_digit)) s (omega arith) (all_tail is_digit b s h)
    ∙ ap (λ (d : List ℕ). d ++ s) (digits-next m b l (all_head is_digit b s h))
    ∙ append_snoc (digits_of m) b s

digits-first : (b : ℕ) → is_digit b ≡ true → digits_of (0 * 10 + (b - zero_digit)) ≡ b ∷ []
digits-first b h =
    let k = digit-bounds b h in
    let e : digit (0 * 10 + (b - zero_digit)) ≡ b = omega arith in
    digits-one (0 * 10 + (b - zero_digit)) (omega arith) ∙ rw e

pub digits_value : (s : List ℕ) → is_decimal s ≡ true → digits_of (value_of s) ≡ s
unfolding is_decimal value_from
digits_value [] h = absurd (true≢false (sym h))
digits_value (b ∷ []) h = digits-first b (all_head is_digit b [] (and_left (all is_digit (b ∷ [])) (not (leads_with_zero (b ∷ []))) h))
digits_value (b ∷ x ∷ s) h =
    let a = and_left (all is_digit (b ∷ x ∷ s)) (not (leads_with_zero (b ∷ x ∷ s))) h in
    let z = and_right (all is_digit (b ∷ x ∷ s)) (not (leads_with_zero (b ∷ x ∷ s))) h in
    let d = digit-bounds b (all_head is_digit b (x ∷ s) a) in
    let n = eqb-false b zero_digit (lead-at (b ∷ x ∷ s) (omega arith) ∙ not-true (leads_with_zero (b ∷ x ∷ s)) z) in
    digits-behind (0 * 10 + (b - zero_digit)) (x ∷ s) (omega arith) (all_tail is_digit b (x ∷ s) a) ∙ ap (λ (l : List ℕ). l ++ (x ∷ s)) (digits-first b (all_head is_digit b (x ∷ s) a))

-- ---- how many digits a number has
pub digits-some : (n : ℕ) → 0 < length (digits_of n)
digits-some = by_digits (λ (n : ℕ) (s : List ℕ). 0 < length s) (λ n h. omega arith) (λ n s h ih. omega (arith, length-append s (last_digit n)))

pub digits-within : (n k : ℕ) → n < 10 ^ suc k → length (digits_of n) ≤ suc k
digits-within = by_digits (λ (n : ℕ) (s : List ℕ). (k : ℕ) → n < 10 ^ suc k → length s ≤ suc k) (λ n h k l. omega arith) more
  where
    more : (n : ℕ) (s : List ℕ) → 10 ≤ n → ((k : ℕ) → n / 10 < 10 ^ suc k → length s ≤ suc k) → (k : ℕ) → n < 10 ^ suc k → length (s ++ last_digit n) ≤ suc k
    more n s h ih zero = λ l. absurd (omega arith)
    more n s h ih (suc k) = λ l. omega (arith, length-append s (last_digit n), ih k (omega (arith, pow-suc 10 (suc k))))

-- one of 32 bits has ten at most
pub digits-ten : (n : ℕ) → n < 2 ^ 32 → length (digits_of n) ≤ 10
digits-ten n h = digits-within n 9 (omega arith)

-- and one of 64 bits twenty
pub digits-twenty : (n : ℕ) → n < 2 ^ 64 → length (digits_of n) ≤ 20
digits-twenty n h = digits-within n 19 (omega arith)

-- ---- numbers up to a limit
pub value_in : (limit : ℕ) (s : List ℕ) → value_of s ≤ limit → value_up_to limit s ≡ Some (value_of s)
unfolding value_up_to
value_in limit s h = rw (le-leb (value_of s) limit h)

pub value-over : (limit : ℕ) (s : List ℕ) → limit < value_of s → value_up_to limit s ≡ None
unfolding value_up_to
value-over limit s h = rw (lt-leb (value_of s) limit h)

-- what is written is read
pub decimal-written : (limit n : ℕ) → n ≤ limit → decimal_up_to limit (digits_of n) ≡ Some n
unfolding decimal_up_to value_up_to
decimal-written limit n h = rw (decimal-digits n, value-digits n, le-leb n limit h)

-- and nothing else is
pub decimal-read : (limit n : ℕ) (s : List ℕ) → decimal_up_to limit s ≡ Some n → (n ≤ limit) × (s ≡ digits_of n)
unfolding decimal_up_to value_up_to
decimal-read limit n s e = go (is_decimal s) refl (leb (value_of s) limit) refl
  where
    go : (t : Bool) → is_decimal s ≡ t → (u : Bool) → leb (value_of s) limit ≡ u → (n ≤ limit) × (s ≡ digits_of n)
    go true f true g =
        let d : decimal_up_to limit s ≡ Some (value_of s) = rw (f, g) in
        let q : value_of s ≡ n = cc in
        (omega (arith, leb-true (value_of s) limit g), sym (digits_value s f) ∙ rw q)
    go true f false g = let d : decimal_up_to limit s ≡ None = rw (f, g) in let z : ◌≡◌ {A = ℕ} 0 1 = cc in absurd (omega arith)
    go false f u g = let d : decimal_up_to limit s ≡ None = rw f in let z : ◌≡◌ {A = ℕ} 0 1 = cc in absurd (omega arith)
