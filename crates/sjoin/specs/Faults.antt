-- What is wrong with the modes of an SJOIN line, and where (document 02, §6): unknown letter, letter twice, parameter missing or too many, bad key, bad limit. The
-- faults that there are stand in the order of their places in the line: the letters, then what is wrong with the parameters, of which too many and too few exclude all else.
use Rattle.std.specs.Prelude.{ℕ, ◌+◌, ◌-◌, not, cond, ◌&&◌, List, [], ◌∷◌, ◌++◌, length, eqb, ltb}
use Rattle.std.proofs.Math.Option.{Option, some, none}
use Rattle.refusal.specs.Numbers.{unknown_mode, mode_twice, wrong_mode_params, bad_key, bad_limit}
use Rattle.refusal.specs.Faults.{Fault, fault, Check, ◌if◌, first_fault}
use Rattle.laws.specs.Lists.{starts_with}
use Rattle.message.specs.declared.Message.{Message}
use Rattle.message.specs.Parts.{param_span}
use Rattle.channel.specs.Modes.{plus}
use Rattle.sjoin.specs.Modes.{key_letter, letters_of, is_mode, lacks, parametered, good_argument}

-- Where a fault is: in a letter, by its place in the modes; in a parameter, by its place among all; or at the end of the line, where one is missing.
pub data Site : Type 0 where
  Letter : ℕ → Site
  Param : ℕ → Site
  End : Site

-- the place of the modes among the parameters, and that of the first one behind them
abbrev pub modes_at : ℕ
modes_at = 2

abbrev pub arguments_at : ℕ
arguments_at = 3

-- ---- the letters
-- Of each letter, the first of which has place i in the modes and stands behind those `before`: it is unknown, or one of the eight and there before.
unfoldable pub letter_checks : List ℕ → ℕ → List ℕ → List (Check Site)
letter_checks before i [] = []
letter_checks before i (x ∷ s) =
    fault unknown_mode (Letter i) if not (is_mode x)
    ∷ fault mode_twice (Letter i) if (is_mode x && not (lacks x before))
    ∷ letter_checks (x ∷ before) (i + 1) s

-- Of the modes by themselves: a missing '+' is an unknown letter in its place.
unfoldable pub own_checks : List ℕ → List (Check Site)
own_checks modes = fault unknown_mode (Letter 0) if not (starts_with plus modes) ∷ letter_checks [] 1 (letters_of modes)

-- ---- their parameters
-- the number of a bad one, by its letter
abbrev pub argument_number : ℕ → ℕ
argument_number letter = cond (eqb letter key_letter) bad_key bad_limit

-- Of each, the first of which is parameter k, with the letters that they belong to: it is a bad key, or a bad limit.
unfoldable pub argument_checks : ℕ → List ℕ → List (List ℕ) → List (Check Site)
argument_checks k [] args = []
argument_checks k (x ∷ s) [] = []
argument_checks k (x ∷ s) (a ∷ args) = fault (argument_number x) (Param k) if not (good_argument x a) ∷ argument_checks (k + 1) s args

-- Of all: too many, at the first surplus one; one is missing, at the line's end. "Key and limit are judged only if the number is right".
unfoldable pub count_checks : List ℕ → List (List ℕ) → List (Check Site)
count_checks letters args =
    fault wrong_mode_params (Param (arguments_at + length letters)) if ltb (length letters) (length args)
    ∷ fault wrong_mode_params End if ltb (length args) (length letters)
    ∷ cond (eqb (length letters) (length args)) (argument_checks arguments_at letters args) []

-- ---- all of them
-- The parameters' stand there whatever the letters are: where a letter is at fault, it comes first.
unfoldable pub modes_checks : List ℕ → List (List ℕ) → List (Check Site)
modes_checks modes args = own_checks modes ++ count_checks (parametered (letters_of modes)) args

-- the fault that is given, if there is one
abbrev pub modes_fault : List ℕ → List (List ℕ) → Option (Fault Site)
modes_fault modes args = first_fault (modes_checks modes args)

-- ---- their places
-- where a site is in a line of n bytes, by the spans of its parts as they are given; the end is where CR LF begin, the last two
abbrev pub site_at : ℕ → Message → Site → ℕ
site_at n m (Letter i) = (param_span n m modes_at).start + i
site_at n m (Param k) = (param_span n m k).start
site_at n m End = n - 2

-- where a fault is; 0 where there is none
abbrev pub fault_at : ℕ → Message → Option (Fault Site) → ℕ
fault_at n m none = 0
fault_at n m (some f) = site_at n m f.place
