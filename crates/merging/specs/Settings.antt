-- Two settings joined (document 01, 'SJOIN'): the modes of both, the greater key, the larger limit.
use Rattle.std.specs.Prelude.{ℕ, max, cond, List}
use Rattle.std.specs.Int.Bits.{bit_or}
use Rattle.octets.specs.Order.{compare, is_less}
use Rattle.channel.specs.Settings.{Settings}

-- the second key where the first is smaller, else the first; the empty list stands for no key, and is smaller than any
unfoldable pub greater : List ℕ → List ℕ → List ℕ
greater a b = cond (is_less (compare a b)) b a

-- where one side has no key or no limit, the other's stands
unfoldable pub join_settings : Settings → Settings → Settings
join_settings a b = record { modes = bit_or a.modes b.modes; key = greater a.key b.key; limit = max a.limit b.limit }
