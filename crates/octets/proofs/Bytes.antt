-- Laws of byte classes, of equal byte lists, and of capital letters. Assumes nothing.
use mathlib.Core.Path.{◌≡◌, refl}
use mathlib.Core.Bool.{Bool, true, false, and-false}
use mathlib.Core.List.{List, map}
use Prim.Native.Nat.{ℕ, ◌-◌, ◌≤◌, ◌<◌}
use native.Mathlib.Omega.{arith}
use lib.Dec.{eqb, leb}
use borrow.Author.Tests.{eq-eqb, eqb-true, le-leb, lt-leb, leb-true}
use Rattle.octets.specs.Bytes.{within, is_letter, is_digit, capital}
use Rattle.laws.specs.Lists.{same}
use Rattle.laws.proofs.Bools.{and_left, and_right, and_intro}
use Rattle.laws.proofs.Lists.{map-twice, same_by-refl, same_by-true}

-- ---- ranges
pub within-bounds : (lo b hi : ℕ) → within lo b hi ≡ true → (lo ≤ b) × (b ≤ hi)
unfolding within
within-bounds lo b hi e = (leb-true lo b (and_left (leb lo b) (leb b hi) e), leb-true b hi (and_right (leb lo b) (leb b hi) e))

pub bounds-within : (lo b hi : ℕ) → lo ≤ b → b ≤ hi → within lo b hi ≡ true
unfolding within
bounds-within lo b hi h k = and_intro (leb lo b) (leb b hi) (le-leb lo b h) (le-leb b hi k)

pub below-within : (lo b hi : ℕ) → b < lo → within lo b hi ≡ false
unfolding within
below-within lo b hi h = rw (lt-leb lo b h)

pub above_within : (lo b hi : ℕ) → hi < b → within lo b hi ≡ false
unfolding within
above_within lo b hi h = rw (lt-leb b hi h) (and-false (leb lo b))

-- ---- equal, byte for byte
pub same_refl : (x : List ℕ) → same x x ≡ true
same_refl x = same_by-refl eqb (λ b. eq-eqb b b refl) x

pub same_true : (x y : List ℕ) → same x y ≡ true → x ≡ y
same_true x y e = same_by-true eqb eqb-true x y e

-- ---- letters and digits
-- a letter that is no capital is a small one
pub small-bounds : (b : ℕ) → is_letter b ≡ true → within 65 b 90 ≡ false → (97 ≤ b) × (b ≤ 122)
unfolding is_letter
small-bounds b e h = within-bounds 97 b 122 (rw h at e)

pub capital-letter : (b : ℕ) → is_letter b ≡ true → is_letter (capital b) ≡ true
unfolding capital is_letter
capital-letter b e = go (within 97 b 122) refl
  where
    go : (t : Bool) → within 97 b 122 ≡ t → is_letter (capital b) ≡ true
    go true h = let k = within-bounds 97 b 122 h in rw (h, bounds-within 65 (b - 32) 90 (omega arith) (omega arith))
    go false h = rw h e

pub capital-digit : (b : ℕ) → is_digit b ≡ true → is_digit (capital b) ≡ true
unfolding capital is_digit within
capital-digit b e = rw (lt-leb 97 b (omega (arith, leb-true b 57 (and_right (leb 48 b) (leb b 57) e)))) e

-- ---- what is in capitals stays as it is
capital-large : (b : ℕ) → within 97 (capital b) 122 ≡ false
unfolding capital
capital-large b = go (within 97 b 122) refl
  where
    go : (t : Bool) → within 97 b 122 ≡ t → within 97 (capital b) 122 ≡ false
    go true h = rw h (below-within 97 (b - 32) 122 (omega (arith, within-bounds 97 b 122 h)))
    go false h = rw (h, h)

large-capital : (b : ℕ) → within 97 b 122 ≡ false → capital b ≡ b
unfolding capital
large-capital b h = rw h

-- bytes in capitals are their own capitals
pub capitals-twice : (s : List ℕ) → map capital (map capital s) ≡ map capital s
capitals-twice s = map-twice capital (λ b. large-capital (capital b) (capital-large b)) s
