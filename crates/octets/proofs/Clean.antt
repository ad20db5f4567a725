-- Bytes of ids, names and keys, and digits among them, are plain and no SPACE: they stand above SPACE, or their class says so. Assumes nothing.
use mathlib.Core.Path.{◌≡◌, refl}
use mathlib.Core.Bool.{Bool, true, false, not, ◌&&◌, or-true}
use Prim.Native.Nat.{ℕ, ◌<◌}
use native.Mathlib.Omega.{arith}
use lib.Dec.{eqb}
use borrow.Author.Tests.{ne_eqb}
use Rattle.octets.specs.Bytes.{nul, bell, lf, cr, space, comma, colon, within, is_plain, is_non_space, is_digit, is_id_byte, is_name_byte, is_key_byte}
use Rattle.laws.proofs.Bools.{and_left, and_right}
use Rattle.octets.proofs.Bytes.{within-bounds}

-- a byte above SPACE is plain and no SPACE
pub above-space : (b : ℕ) → space < b → (is_plain b ≡ true) × (is_non_space b ≡ true)
unfolding is_plain
above-space b h =
    (simp (ne_eqb b nul (λ e. omega arith), ne_eqb b lf (λ e. omega arith), ne_eqb b cr (λ e. omega arith)), rw (ne_eqb b space (λ e. omega arith)))

-- ---- ids
pub digit-id : (b : ℕ) → is_digit b ≡ true → is_id_byte b ≡ true
unfolding is_digit is_id_byte
digit-id b h = rw h (or-true (within 65 b 90))

id-bounds : (b : ℕ) → is_id_byte b ≡ true → (space < b) × (b ≡ colon → ⊥)
unfolding is_id_byte
id-bounds b h = go (within 65 b 90) refl
  where
    go : (t : Bool) → within 65 b 90 ≡ t → (space < b) × (b ≡ colon → ⊥)
    go true e = let k = within-bounds 65 b 90 e in (omega arith, λ q. omega arith)
    go false e = let k = within-bounds 48 b 57 (rw e at h) in (omega arith, λ q. omega arith)

pub id-clean : (b : ℕ) → is_id_byte b ≡ true → (is_plain b ≡ true) × (is_non_space b ≡ true)
id-clean b h = above-space b (id-bounds b h).0

pub id-colon : (b : ℕ) → is_id_byte b ≡ true → eqb b colon ≡ false
id-colon b h = ne_eqb b colon (id-bounds b h).1

-- ---- names and keys
pub name-clean : (b : ℕ) → is_name_byte b ≡ true → (is_plain b ≡ true) × (is_non_space b ≡ true)
unfolding is_name_byte
name-clean b h =
    let others : Bool = not (eqb b bell) && not (eqb b comma) in
    (and_left (is_plain b) (not (eqb b space) && others) h, and_left (not (eqb b space)) others (and_right (is_plain b) (not (eqb b space) && others) h))

pub key-clean : (b : ℕ) → is_key_byte b ≡ true → (is_plain b ≡ true) × (is_non_space b ≡ true)
unfolding is_key_byte
key-clean b h = above-space b (within-bounds 33 b 126 (and_right (not (eqb b comma)) (within 33 b 126) h)).0
