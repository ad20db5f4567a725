-- What is told of a byte of modes reads back as that byte: all 256 are computed. Assumes nothing.
use Prim.Native.Nat.{ℕ, ◌<◌}
use mathlib.Core.Path.{◌≡◌, refl}
use mathlib.Core.Bool.{Bool, true, cond, ◌&&◌}
use mathlib.Core.List.{List, [], ◌∷◌, ◌++◌}
use lib.Dec.{eqb}
use borrow.Author.Tests.{eqb-true}
use Rattle.laws.specs.Lists.{all, same_by, same, starts_with}
use Rattle.laws.specs.Bits.{has_bit}
use Rattle.laws.proofs.Bools.{and-three}
use Rattle.laws.proofs.Bounded.{all_below, all-below}
use Rattle.octets.proofs.Bytes.{same_true}
use Rattle.channel.specs.Modes.{key_mode, limit_mode, has_mode, with_mode, place_among}
use Rattle.sjoin.specs.Modes.{key_letter, limit_letter, letters_of, once, good_letters, modes_byte, parametered}
use Rattle.telling.specs.Telling.{letters_from, modes_text}

-- the letters that have a parameter, of a byte's modes
abbrev pub key_and_limit : ℕ → List ℕ
key_and_limit m = cond (has_mode m key_mode) (key_letter ∷ []) [] ++ cond (has_mode m limit_mode) (limit_letter ∷ []) []

-- a byte is told, and read back
abbrev reads : ℕ → Bool
reads m = good_letters (modes_text m) && (eqb (modes_byte (modes_text m)) m && same (parametered (letters_of (modes_text m))) (key_and_limit m))

all_read : all_below 256 reads ≡ true
unfolding all_below good_letters once all starts_with modes_byte parametered letters_from same_by has_bit with_mode place_among
all_read = refl

-- The letters told are good, read as the byte, and those of them that have a parameter are k and l, as the byte has them.
pub modes-back : (m : ℕ) → m < 256 → (good_letters (modes_text m) ≡ true) × (modes_byte (modes_text m) ≡ m) × (parametered (letters_of (modes_text m)) ≡ key_and_limit m)
modes-back m h =
    let a = and-three _ _ _ (all-below reads 256 m all_read h) in
    (a.0, eqb-true _ m a.1, same_true _ _ a.2)
