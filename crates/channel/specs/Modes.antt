-- Modes kept as one byte: i 1, m 2, n 4, p 8, s 16, t 32, k 64, l 128.
use Rattle.std.specs.Prelude.{ℕ, suc, ◌^◌, Bool, cond, Option, Some, None, List, [], ◌∷◌, eqb, ltb}
use Rattle.std.specs.Int.Bits.{bit_or}
use Rattle.laws.specs.Bits.{has_bit}

-- the letters, each in the place of its bit
abbrev pub letters : List ℕ
letters = 105 ∷ 109 ∷ 110 ∷ 112 ∷ 115 ∷ 116 ∷ 107 ∷ 108 ∷ []

abbrev pub mode_count : ℕ
mode_count = 8

-- the places of k and l
abbrev pub key_mode : ℕ
key_mode = 6

abbrev pub limit_mode : ℕ
limit_mode = 7

-- '+', the sign before the letters of modes, and the mark of a member with voice
abbrev pub plus : ℕ
plus = 43

-- the byte has the mode at a place
abbrev pub has_mode : ℕ → ℕ → Bool
has_mode modes place = has_bit modes place

-- the byte with the mode at a place, which is one of the eight
unfoldable pub with_mode : ℕ → ℕ → ℕ
with_mode modes place = cond (ltb place mode_count) (bit_or modes (2 ^ place)) modes

-- a letter's place among some, or how many they are where it is none of them
unfoldable pub place_among : List ℕ → ℕ → ℕ
place_among [] letter = 0
place_among (x ∷ s) letter = cond (eqb x letter) 0 (suc (place_among s letter))

abbrev pub mode_place : ℕ → ℕ
mode_place letter = place_among letters letter

-- the letter's place, if it is one of the eight
abbrev pub place_of : ℕ → Option ℕ
place_of letter = cond (ltb (mode_place letter) mode_count) (Some (mode_place letter)) None
