-- Modes as a set of letters: the byte has a mode exactly if the digit at its place is 1, so a union has what either side has, and setting one
-- adds that one alone. Assumes nothing.
use Prim.Native.Nat.{ℕ, suc, ◌^◌, ◌<◌}
use mathlib.Core.Path.{◌≡◌, refl, sym, ap, ◌∙◌}
use mathlib.Core.Bool.{Bool, true, false, ◌||◌}
use mathlib.Core.List.{List, [], ◌∷◌, map}
use native.Mathlib.Nat.{zero-div}
use native.Mathlib.Omega.{arith}
use lib.Bits.{bit_or, or_zero_l, or_zero_r, or_lt}
use lib.Pow.{pow-lt}
use lib.ListN.{length, get_or}
use lib.Dec.{eqb, ltb}
use borrow.Author.Tests.{eqb-true, lt-ltb, ltb-true}
use Rattle.laws.specs.Bits.{has_bit}
use Rattle.laws.proofs.Bitwise.{bit-union, bit-power}
use Rattle.channel.specs.Modes.{letters, mode_count, key_mode, limit_mode, has_mode, with_mode, place_among, mode_place}

-- no modes
pub has-no-mode : (place : ℕ) → has_mode 0 place ≡ false
unfolding has_bit
has-no-mode place = rw (zero-div (2 ^ place))

-- modes united
pub has_either : (a b place : ℕ) → has_mode (bit_or a b) place ≡ (has_mode a place || has_mode b place)
has_either a b place = bit-union a b place

-- a mode set: it and those that there were
pub has-with : (m k j : ℕ) → k < mode_count → has_mode (with_mode m k) j ≡ (has_mode m j || eqb j k)
unfolding with_mode
has-with m k j h = rw (lt-ltb k mode_count h) (has_either m (2 ^ k) j ∙ ap (◌||◌ (has_mode m j)) (bit-power k j))

-- which is those that there were, united with it alone
pub with-union : (m place : ℕ) → with_mode m place ≡ bit_or m (with_mode 0 place)
unfolding with_mode
with-union m place = go (ltb place mode_count) refl
  where
    go : (t : Bool) → ltb place mode_count ≡ t → with_mode m place ≡ bit_or m (with_mode 0 place)
    go true e = rw (e, or_zero_l (2 ^ place))
    go false e = rw e (sym (or_zero_r m))

-- and keeps to the byte
pub one-small : (place : ℕ) → with_mode 0 place < 2 ^ mode_count
unfolding with_mode
one-small place = go (ltb place mode_count) refl
  where
    go : (t : Bool) → ltb place mode_count ≡ t → with_mode 0 place < 2 ^ mode_count
    go true e = rw e (or_lt mode_count 0 (2 ^ place) (omega arith) (pow-lt (ltb-true place mode_count e)))
    go false e = rw e (omega arith)

-- a letter that is among some stands at its place
pub place_found : (s : List ℕ) (x : ℕ) → place_among s x < length s → get_or s (place_among s x) 0 ≡ x
unfolding place_among
place_found [] x = λ h. absurd (omega arith)
place_found (y ∷ s) x = go (eqb y x) refl (place_found s x)
  where
    go : (t : Bool) → eqb y x ≡ t → (place_among s x < length s → get_or s (place_among s x) 0 ≡ x) → place_among (y ∷ s) x < length (y ∷ s) → get_or (y ∷ s) (place_among (y ∷ s) x) 0 ≡ x
    go true e ih h = rw e (eqb-true y x e)
    go false e ih h = let q : place_among (y ∷ s) x ≡ suc (place_among s x) = rw e in rw e (ih (omega arith))

-- the letters i m n p s t k l, each at its place
pub letter-places : map mode_place letters ≡ 0 ∷ 1 ∷ 2 ∷ 3 ∷ 4 ∷ 5 ∷ key_mode ∷ limit_mode ∷ []
unfolding place_among
letter-places = refl
