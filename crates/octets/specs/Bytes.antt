-- Single bytes: the names of some, their classes, and capital letters.
use Rattle.std.specs.Prelude.{ℕ, ◌-◌, Bool, not, cond, ◌&&◌, ◌||◌, eqb, leb}
use Rattle.octets.specs.declared.Class.{Class}
use Rattle.octets.specs.declared.Class.TheVariants.{Plain, NonSpace, NonLf, Letter, Digit, Id, Name, Key}

abbrev pub nul : ℕ
nul = 0

abbrev pub bell : ℕ
bell = 7

abbrev pub lf : ℕ
lf = 10

abbrev pub cr : ℕ
cr = 13

abbrev pub space : ℕ
space = 32

abbrev pub comma : ℕ
comma = 44

abbrev pub colon : ℕ
colon = 58

abbrev pub is_zero : ℕ → Bool
is_zero b = eqb b 0

-- lo ≤ b ≤ hi
unfoldable pub within : ℕ → ℕ → ℕ → Bool
within lo b hi = leb lo b && leb b hi

-- no NUL, CR or LF
unfoldable pub is_plain : ℕ → Bool
is_plain b = not (eqb b nul) && (not (eqb b lf) && not (eqb b cr))

abbrev pub is_non_space : ℕ → Bool
is_non_space b = not (eqb b space)

abbrev pub is_non_lf : ℕ → Bool
is_non_lf b = not (eqb b lf)

-- 'A' to 'Z' or 'a' to 'z'
unfoldable pub is_letter : ℕ → Bool
is_letter b = within 65 b 90 || within 97 b 122

-- '0' to '9'
unfoldable pub is_digit : ℕ → Bool
is_digit b = within 48 b 57

-- 'A' to 'Z' or '0' to '9'
unfoldable pub is_id_byte : ℕ → Bool
is_id_byte b = within 65 b 90 || within 48 b 57

-- none of SPACE, BELL, NUL, CR, LF and comma
unfoldable pub is_name_byte : ℕ → Bool
is_name_byte b = is_plain b && (not (eqb b space) && (not (eqb b bell) && not (eqb b comma)))

-- 33 to 126 without comma
unfoldable pub is_key_byte : ℕ → Bool
is_key_byte b = not (eqb b comma) && within 33 b 126

-- the bytes of a class
abbrev pub in_class : Class → ℕ → Bool
in_class Plain = is_plain
in_class NonSpace = is_non_space
in_class NonLf = is_non_lf
in_class Letter = is_letter
in_class Digit = is_digit
in_class Id = is_id_byte
in_class Name = is_name_byte
in_class Key = is_key_byte

-- a small letter's capital, any other byte itself
unfoldable pub capital : ℕ → ℕ
capital b = cond (within 97 b 122) (b - 32) b
