-- Byte lists compared, and numbers read and written, as computed from the definitions. Assumes nothing.
use mathlib.Core.Path.{◌≡◌, refl}
use mathlib.Core.List.{[], ◌∷◌, map}
use lib.ListN.{replicate}
use Rattle.std.specs.declared.cmp.Ordering.TheVariants.{Less, Greater}
use Rattle.std.specs.Prelude.{Some, None}
use Rattle.octets.specs.Bytes.{within, is_digit}
use Rattle.laws.specs.Lists.{all, starts_with}
use Rattle.octets.specs.Order.{compare}
use Rattle.octets.specs.Decimals.{leads_with_zero, is_decimal, value_from, value_up_to, decimal_up_to, digits_up_to, digits_of}

-- the first byte that differs decides, whatever follows it
first-decides : compare (1 ∷ 2 ∷ 9 ∷ []) (1 ∷ 3 ∷ []) ≡ Less
unfolding compare
first-decides = refl

-- bytes are unsigned
unsigned : compare (128 ∷ []) (127 ∷ []) ≡ Greater
unfolding compare
unsigned = refl

-- '0' and '18446744073709551615', the most that 64 bits hold
zero-written : digits_of 0 ≡ 48 ∷ []
unfolding digits_of digits_up_to
zero-written = refl

most-written : digits_of 18446744073709551615 ≡ 49 ∷ 56 ∷ 52 ∷ 52 ∷ 54 ∷ 55 ∷ 52 ∷ 52 ∷ 48 ∷ 55 ∷ 51 ∷ 55 ∷ 48 ∷ 57 ∷ 53 ∷ 53 ∷ 49 ∷ 54 ∷ 49 ∷ 53 ∷ []
unfolding digits_of digits_up_to
most-written = refl

-- '0' and '10' are read, the limit itself too; nothing at all, '1a', '00' and '11', which is past the limit, are not
decimals : map (decimal_up_to 10) ((48 ∷ []) ∷ (49 ∷ 48 ∷ []) ∷ []) ≡ Some 0 ∷ Some 10 ∷ []
unfolding decimal_up_to is_decimal leads_with_zero starts_with value_up_to value_from all is_digit within
decimals = refl

no-decimals : map (decimal_up_to 10) ([] ∷ (49 ∷ 97 ∷ []) ∷ (48 ∷ 48 ∷ []) ∷ (49 ∷ 49 ∷ []) ∷ []) ≡ replicate 4 None
unfolding decimal_up_to is_decimal leads_with_zero starts_with value_up_to value_from all is_digit within
no-decimals = refl
