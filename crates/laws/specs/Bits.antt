-- The bits of a number.
use Rattle.std.specs.Prelude.{ℕ, ◌/◌, ◌%◌, ◌^◌, Bool, eqb}

-- the bit in a place is set
unfoldable pub has_bit : ℕ → ℕ → Bool
has_bit n place = eqb (n / 2 ^ place % 2) 1
