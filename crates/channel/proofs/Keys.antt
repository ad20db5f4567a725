-- A key keeps to its room and is not empty. Assumes nothing.
use Prim.Native.Nat.{ℕ, ◌≤◌}
use mathlib.Core.Path.{◌≡◌, refl, sym}
use mathlib.Core.Bool.{Bool, true, false, not, true≢false}
use mathlib.Core.List.{List, [], ◌∷◌}
use lib.ListN.{length}
use lib.Dec.{leb}
use borrow.Author.Tests.{leb-true, not-true}
use Rattle.octets.specs.Bytes.{colon, is_key_byte}
use Rattle.laws.specs.Lists.{all, is_nil, starts_with}
use Rattle.laws.proofs.Bools.{and_left, and_right, and-three}
use Rattle.channel.specs.Limits.{key_limit}
use Rattle.channel.specs.Modes.{has_mode, key_mode}
use Rattle.channel.specs.Key.{is_key}
use Rattle.channel.specs.WellFormed.{good_key}

-- it keeps to its room
pub key-length : (k : List ℕ) → is_key k ≡ true → length k ≤ key_limit
unfolding is_key
key-length k h = leb-true (length k) key_limit (and_left _ _ (and_right (leb 1 (length k)) _ h))

-- it is there, and of bytes that a key can have
pub key-says : (k : List ℕ) → is_key k ≡ true → (1 ≤ length k) × (starts_with colon k ≡ false) × (all is_key_byte k ≡ true)
unfolding is_key
key-says k h =
    let n : Bool = leb 1 (length k) in
    let free : Bool = not (starts_with colon k) in
    let p = and-three (leb (length k) key_limit) free (all is_key_byte k) (and_right n _ h) in
    (leb-true 1 (length k) (and_left n _ h), not-true (starts_with colon k) p.1, p.2)

-- no key is the empty list
pub key-some : (k : List ℕ) → is_key k ≡ true → is_nil k ≡ false
unfolding is_key
key-some [] h = absurd (true≢false (sym h))
key-some (b ∷ k) h = refl

-- ---- a key and its mode
module _ (modes : ℕ) where
  -- with the mode there is a key, and a good one
  pub key-with : (k : List ℕ) → has_mode modes key_mode ≡ true → good_key modes k ≡ is_key k
  unfolding good_key is_key
  key-with [] e = rw e
  key-with (b ∷ k) e = rw e

  -- without it there is none
  pub key_without : (k : List ℕ) → has_mode modes key_mode ≡ false → good_key modes k ≡ is_nil k
  unfolding good_key
  key_without [] e = rw e
  key_without (b ∷ k) e = rw e
