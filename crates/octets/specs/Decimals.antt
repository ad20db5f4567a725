-- Numbers in decimal, without leading zeros (document 01, 'SJOIN').
use Rattle.std.specs.Prelude.{ℕ, zero, suc, ◌+◌, ◌-◌, ◌*◌, ◌/◌, ◌%◌, Bool, true, false, not, cond, ◌&&◌, List, [], ◌∷◌, ◌++◌, length, leb, ltb, Option, Some, None}
use Rattle.octets.specs.Bytes.{is_digit}
use Rattle.laws.specs.Lists.{all, is_nil, starts_with}

-- the digit 0
abbrev pub zero_digit : ℕ
zero_digit = 48

-- the first of several bytes is the digit 0
unfoldable pub leads_with_zero : List ℕ → Bool
leads_with_zero s = ltb 1 (length s) && starts_with zero_digit s

-- one or more digits, the first of several not 0
unfoldable pub is_decimal : List ℕ → Bool
is_decimal s = not (is_nil s) && (all is_digit s && not (leads_with_zero s))

-- the number that digits stand for, behind one that is read already
unfoldable pub value_from : ℕ → List ℕ → ℕ
value_from n [] = n
value_from n (b ∷ s) = value_from (n * 10 + (b - zero_digit)) s

abbrev pub value_of : List ℕ → ℕ
value_of s = value_from 0 s

-- the number that digits stand for, up to a limit
unfoldable pub value_up_to : ℕ → List ℕ → Option ℕ
value_up_to limit s = cond (leb (value_of s) limit) (Some (value_of s)) None

-- the number that bytes are in decimal, up to a limit, however many digits come
unfoldable pub decimal_up_to : ℕ → List ℕ → Option ℕ
decimal_up_to limit s = cond (is_decimal s) (value_up_to limit s) None

-- ---- the answer, by cases
-- there is no number
abbrev pub is_malformed : Option ℕ → Bool
is_malformed (Some n) = false
is_malformed None = true

-- the number, or 0 where there is none
abbrev pub value_in : Option ℕ → ℕ
value_in (Some n) = n
value_in None = 0

-- bytes are a number in decimal, and within a limit
abbrev pub is_up_to : ℕ → List ℕ → Bool
is_up_to limit s = is_decimal s && leb (value_of s) limit

-- ---- writing
-- the digit of a number below ten
abbrev pub digit : ℕ → ℕ
digit n = n + zero_digit

-- the last digit of a number
abbrev pub last_digit : ℕ → List ℕ
last_digit n = digit (n % 10) ∷ []

-- the digits of a number above 0 that has no more than k; of 0 none
unfoldable pub digits_up_to : ℕ → ℕ → List ℕ
digits_up_to zero n = []
digits_up_to (suc k) zero = []
digits_up_to (suc k) (suc n) = digits_up_to k (suc n / 10) ++ last_digit (suc n)

-- the digits of a number: its last one, and before it those of its tenth part
unfoldable pub digits_of : ℕ → List ℕ
digits_of n = digits_up_to n (n / 10) ++ last_digit n
