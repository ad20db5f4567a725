-- Laws of channel names: a name keeps to its limit, and is '#' with bytes of names behind it. Assumes nothing.
use mathlib.Core.Path.{◌≡◌, refl}
use mathlib.Core.Bool.{true, false}
use mathlib.Core.List.{List, [], ◌∷◌}
use Prim.Native.Nat.{ℕ, ◌≤◌}
use native.Mathlib.Omega.{arith}
use lib.ListN.{length}
use lib.Dec.{eqb, leb}
use borrow.Author.Tests.{eqb-true, leb-true}
use Rattle.octets.specs.Bytes.{is_name_byte}
use Rattle.laws.specs.Lists.{all}
use Rattle.laws.proofs.Bools.{and_left, and_right, and-three}
use Rattle.names.specs.Names.{name_limit, hash, is_channel}

pub channel-length : (n : List ℕ) → is_channel n ≡ true → length n ≤ name_limit
unfolding is_channel
channel-length [] h = omega arith
channel-length (b ∷ s) h = leb-true (length (b ∷ s)) name_limit (and_left _ _ (and_right (leb 1 (length s)) _ (and_right (eqb b hash) _ h)))

pub no-channel : is_channel [] ≡ false
unfolding is_channel
no-channel = refl

pub channel-says : (b : ℕ) (s : List ℕ) → is_channel (b ∷ s) ≡ true → (b ≡ hash) × (all is_name_byte s ≡ true)
unfolding is_channel
channel-says b s h =
    let p = and-three (leb 1 (length s)) (leb (length (b ∷ s)) name_limit) (all is_name_byte s) (and_right (eqb b hash) _ h) in
    (eqb-true b hash (and_left (eqb b hash) _ h), p.2)
