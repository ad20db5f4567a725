-- Lines read by computing: what the definitions give for some that are read and one that isn't, and what 01's gave for one of them. They are witnesses for the premises of the
-- theorems about lines that are read. Assumes nothing.
use mathlib.Core.Path.{◌≡◌, refl}
use mathlib.Core.Bool.{true}
use mathlib.Core.List.{List, [], ◌∷◌, ◌++◌, map}
use mathlib.Core.Option.{some, none}
use Prim.Native.Nat.{ℕ}
use lib.ListN.{drop, replicate}
use Rattle.refusal.specs.Numbers.{line_too_long, too_many_params}
use Rattle.refusal.specs.Rules.{first_of}
use Rattle.octets.specs.Bytes.{space, colon, within, is_plain, is_letter}
use Rattle.laws.specs.Lists.{all, same_by, starts_with, prefixed}
use Rattle.message.specs.Grammar.{word, spaces, prefix, prefix_end, command_start, command, command_end, is_command, rest, params}
use Rattle.message.specs.Content.{content_in}
use Rattle.message.specs.Former.{former_rest, former_params, former_line_rules}
use Rattle.message.specs.Reading.{crlf, ends_line, body_of, body_rules, line_rules, number_for, is_read, content_of}

-- `:a X  b ::c`: the prefix a, the command X, the parameters `b` and `:c`
pub sample : List ℕ
sample = colon ∷ 97 ∷ space ∷ 88 ∷ space ∷ space ∷ 98 ∷ space ∷ colon ∷ colon ∷ 99 ∷ crlf

pub sample-read : is_read sample ≡ true
unfolding sample is_read number_for line_rules body_rules first_of ends_line same_by body_of all is_plain starts_with prefix word prefix_end command_start spaces command is_command is_letter within command_end rest params
sample-read = refl

sample-holds : content_of sample ≡ record { prefix = some (97 ∷ []); command = 88 ∷ []; params = (98 ∷ []) ∷ (colon ∷ 99 ∷ []) ∷ [] }
unfolding sample content_of content_in is_read number_for line_rules body_rules first_of ends_line same_by body_of all is_plain starts_with prefix word prefix_end command_start spaces command is_command is_letter within command_end rest params
sample-holds = refl

-- n letters and CR LF
line_of : ℕ → List ℕ
line_of n = replicate n 65 ++ crlf

-- 512 bytes pass, 513 get 4
long-read : is_read (line_of 510) ≡ true
unfolding line_of is_read number_for line_rules body_rules first_of ends_line same_by body_of all is_plain starts_with prefix word prefix_end command_start spaces command is_command is_letter within command_end rest params
long-read = refl

too_long : number_for (line_of 511) ≡ line_too_long
unfolding line_of number_for line_rules first_of
too_long = refl

-- n parameters `a`
abbrev letters : ℕ → List ℕ
letters n = prefixed space (replicate n (97 ∷ []))

-- sixteen of them were one too many, and are fifteen: the last is `a a`
sixteen : List ℕ
sixteen = (88 ∷ letters 16) ++ crlf

sixteen-was : first_of (former_line_rules sixteen) ≡ too_many_params
unfolding sixteen prefixed former_line_rules former_params former_rest is_read number_for line_rules body_rules first_of ends_line same_by body_of all is_plain starts_with prefix word prefix_end command_start spaces command is_command is_letter within command_end rest params
sixteen-was = refl

sixteen-read : content_of sixteen ≡ record { prefix = none; command = 88 ∷ []; params = replicate 14 (97 ∷ []) ++ ((97 ∷ space ∷ 97 ∷ []) ∷ []) }
unfolding sixteen prefixed content_of content_in is_read number_for line_rules body_rules first_of ends_line same_by body_of all is_plain starts_with prefix word prefix_end command_start spaces command is_command is_letter within command_end rest params
sixteen-read = refl

-- what follows fourteen of them, as parameters: ` b c ` is `b c ` with its SPACE, `  :b` is `b`, ` :` an empty one and ` ::` a ':', and SPACEs alone are none
after-fourteen : List ℕ → List (List ℕ)
after-fourteen t = drop 14 (content_of ((88 ∷ letters 14) ++ t ++ crlf)).params

fifteenths : map after-fourteen ((space ∷ 98 ∷ space ∷ 99 ∷ space ∷ []) ∷ (space ∷ space ∷ colon ∷ 98 ∷ []) ∷ (space ∷ colon ∷ []) ∷ (space ∷ colon ∷ colon ∷ []) ∷ (space ∷ space ∷ []) ∷ [])
    ≡ ((98 ∷ space ∷ 99 ∷ space ∷ []) ∷ []) ∷ ((98 ∷ []) ∷ []) ∷ ([] ∷ []) ∷ ((colon ∷ []) ∷ []) ∷ [] ∷ []
unfolding after-fourteen prefixed content_of content_in is_read number_for line_rules body_rules first_of ends_line same_by body_of all is_plain starts_with prefix word prefix_end command_start spaces command is_command is_letter within command_end rest params
fifteenths = refl
