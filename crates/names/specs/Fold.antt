-- The fold, and names that are equal by it (document 01, 'Names and ids'; document 02, §4).
use Rattle.std.specs.Prelude.{ℕ, ◌+◌, Bool, cond, List, map, eqb}
use Rattle.octets.specs.Bytes.{within}
use Rattle.laws.specs.Lists.{same}

abbrev pub caret : ℕ
caret = 94

abbrev pub tilde : ℕ
tilde = 126

-- '~' becomes '^', which RFC 2812 counts as its lower case. Two names, or two masks, differ in these letters alone if they become the same by it
abbrev pub with_caret : ℕ → ℕ
with_caret b = cond (eqb b tilde) caret b

-- 'A' to 'Z' become 'a' to 'z'; '[', ']', '\' become '{', '}', '|'; '~' becomes '^'
unfoldable pub fold : ℕ → ℕ
fold b = cond (within 65 b 90) (b + 32) (cond (eqb b 91) 123 (cond (eqb b 93) 125 (cond (eqb b 92) 124 (with_caret b))))

-- two bytes are alike if their folds are equal
abbrev pub alike : ℕ → ℕ → Bool
alike a b = eqb (fold a) (fold b)

-- two names are equal if their folds are
unfoldable pub same_name : List ℕ → List ℕ → Bool
same_name a b = same (map fold a) (map fold b)
