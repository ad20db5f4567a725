-- Keys: which bytes are one.
use Rattle.std.specs.Prelude.{ℕ, Bool, not, ◌&&◌, List, length, leb}
use Rattle.octets.specs.Bytes.{colon, is_key_byte}
use Rattle.laws.specs.Lists.{all, starts_with}
use Rattle.channel.specs.Limits.{key_limit}

-- 1 to 23 bytes from 33 to 126 without comma, not starting with ':'
unfoldable pub is_key : List ℕ → Bool
is_key k = leb 1 (length k) && (leb (length k) key_limit && (not (starts_with colon k) && all is_key_byte k))
