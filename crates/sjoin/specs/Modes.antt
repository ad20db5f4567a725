-- The modes of an SJOIN line (document 01, 'SJOIN'): '+' and letters of the eight, each at most once; the parameters of k and l follow in the order of the
-- letters.
use Rattle.std.specs.Prelude.{ℕ, Bool, true, false, not, cond, ◌&&◌, ◌||◌, List, [], ◌∷◌, drop, get_or, eqb, leb, ltb}
use Rattle.std.specs.Int.Bits.{bit_or}
use Rattle.laws.specs.Lists.{all, starts_with}
use Rattle.laws.specs.Joins.{total}
use Rattle.octets.specs.Decimals.{is_decimal, value_of}
use Rattle.channel.specs.Limits.{limit_limit}
use Rattle.channel.specs.Modes.{mode_count, plus, with_mode, place_among, mode_place}
use Rattle.channel.specs.Key.{is_key}

-- k and l
abbrev pub key_letter : ℕ
key_letter = 107

abbrev pub limit_letter : ℕ
limit_letter = 108

-- ---- the letters
abbrev pub letters_of : List ℕ → List ℕ
letters_of modes = drop 1 modes

abbrev pub is_mode : ℕ → Bool
is_mode letter = ltb (mode_place letter) mode_count

-- none of some letters is this one
abbrev pub lacks : ℕ → List ℕ → Bool
lacks letter s = all (λ x. not (eqb x letter)) s

-- each at most once
unfoldable pub once : List ℕ → Bool
once [] = true
once (x ∷ s) = lacks x s && once s

-- '+', and letters of the eight, each at most once
unfoldable pub good_letters : List ℕ → Bool
good_letters modes = starts_with plus modes && (all is_mode (letters_of modes) && once (letters_of modes))

-- the bits of all letters; a byte that is none of the eight has none
unfoldable pub modes_byte : List ℕ → ℕ
modes_byte modes = total bit_or 0 (λ x. with_mode 0 (mode_place x)) (letters_of modes)

-- ---- the parameters of k and l
abbrev pub has_parameter : ℕ → Bool
has_parameter letter = eqb letter key_letter || eqb letter limit_letter

-- the letters that have a parameter, in their order
unfoldable pub parametered : List ℕ → List ℕ
parametered [] = []
parametered (x ∷ s) = cond (has_parameter x) (x ∷ parametered s) (parametered s)

-- a limit: 1 to 65,535
unfoldable pub is_limit : List ℕ → Bool
is_limit s = is_decimal s && (leb 1 (value_of s) && leb (value_of s) limit_limit)

-- a key for k, a limit for l
unfoldable pub good_argument : ℕ → List ℕ → Bool
good_argument letter s = cond (eqb letter key_letter) (is_key s) (is_limit s)

-- as many parameters as letters that have one, each good for its letter
unfoldable pub good_arguments : List ℕ → List (List ℕ) → Bool
good_arguments [] [] = true
good_arguments [] (a ∷ args) = false
good_arguments (x ∷ s) [] = false
good_arguments (x ∷ s) (a ∷ args) = good_argument x a && good_arguments s args

-- the parameter in a letter's place among those letters that have one
abbrev pub argument_among : ℕ → List ℕ → List (List ℕ) → List ℕ
argument_among letter letters args = get_or args (place_among (parametered letters) letter) []

unfoldable pub argument_of : ℕ → List ℕ → List (List ℕ) → List ℕ
argument_of letter modes args = argument_among letter (letters_of modes) args

-- good letters, and the parameters that they ask for
unfoldable pub is_modes : List ℕ → List (List ℕ) → Bool
is_modes modes args = good_letters modes && good_arguments (parametered (letters_of modes)) args
