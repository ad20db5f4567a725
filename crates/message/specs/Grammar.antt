-- The grammar of a line's body, the bytes before CR LF (document 01, 'Reading one line'; document 02, §7), as functions. `Syntax` has the two rules of
-- the parameters in the papers' words.
use Rattle.std.specs.Prelude.{ℕ, suc, ◌+◌, Bool, false, not, cond, ◌&&◌, ◌||◌, List, [], ◌∷◌, length, drop, eqb, leb}
use Rattle.octets.specs.Bytes.{space, colon, is_non_space, is_letter, is_digit}
use Rattle.laws.specs.Lists.{all, starts_with}

-- the most bytes of a line, CR LF counted
abbrev pub line_limit : ℕ
line_limit = 512

-- the most parameters of a line
abbrev pub param_limit : ℕ
param_limit = 15

-- the most middles of a line: all that remains after them is one parameter, the fifteenth (document 02, §7)
abbrev pub middle_limit : ℕ
middle_limit = 14

-- A part of the body: the place where it begins, and its bytes.
pub record Part : Type 0 where
  pub start : ℕ
  pub bytes : List ℕ

abbrev pub part_at : ℕ → List ℕ → Part
part_at at s = record { start = at; bytes = s }

-- the bytes before the first SPACE, or all
unfoldable pub word : List ℕ → List ℕ
word [] = []
word (b ∷ s) = cond (eqb b space) [] (b ∷ word s)

-- how many SPACEs come first
unfoldable pub spaces : List ℕ → ℕ
spaces [] = 0
spaces (b ∷ s) = cond (eqb b space) (suc (spaces s)) 0

-- ---- the prefix: if the first byte is ':', all bytes up to the first SPACE or the end, and a run of SPACEs follows
abbrev pub has_prefix : List ℕ → Bool
has_prefix body = starts_with colon body

unfoldable pub prefix : List ℕ → List ℕ
prefix body = cond (has_prefix body) (word (drop 1 body)) []

unfoldable pub prefix_end : List ℕ → ℕ
prefix_end body = cond (has_prefix body) (1 + length (prefix body)) 0

unfoldable pub command_start : List ℕ → ℕ
command_start body = cond (has_prefix body) (prefix_end body + spaces (drop (prefix_end body) body)) 0

-- ---- the command: the bytes up to the next SPACE or the end
unfoldable pub command : List ℕ → List ℕ
command body = word (drop (command_start body) body)

unfoldable pub command_end : List ℕ → ℕ
command_end body = command_start body + length (command body)

-- one or more ASCII letters, or exactly three digits
unfoldable pub is_command : List ℕ → Bool
is_command w = (leb 1 (length w) && all is_letter w) || (eqb (length w) 3 && all is_digit w)

-- ---- the parameters
-- non-empty, without SPACE, not starting with ':'
unfoldable pub is_middle : List ℕ → Bool
is_middle [] = false
is_middle (b ∷ s) = not (eqb b colon) && all is_non_space (b ∷ s)

-- non-empty, starting with neither ':' nor SPACE: what the fifteenth parameter is where no ':' stands before it
unfoldable pub is_bare : List ℕ → Bool
is_bare [] = false
is_bare (b ∷ s) = not (eqb b colon) && is_non_space b

unfoldable mutual
  -- The parameters of a rest, of which SPACEs may be passed already, at a place, after k middles: a run of SPACEs, then nothing, or ':' and a trailing part, or a
  -- middle. After the fourteenth middle all that remains is the fifteenth parameter, less one leading ':' if there is one. In `params` k is fourteen at most.
  pub rest : ℕ → ℕ → List ℕ → List Part
  rest k at [] = []
  rest k at (b ∷ s) =
      cond (eqb b space) (rest k (at + 1) s)
      (cond (eqb b colon) (part_at (at + 1) s ∷ [])
      (cond (eqb k middle_limit) (part_at at (b ∷ s) ∷ [])
      (part_at at (b ∷ word s) ∷ after_middle (k + 1) (at + 1) s)))

  -- The parameters after a middle, the k-th, of which bytes may be left: a rest follows the next SPACE, or nothing the end.
  pub after_middle : ℕ → ℕ → List ℕ → List Part
  after_middle k at [] = []
  after_middle k at (b ∷ s) = cond (eqb b space) (rest k (at + 1) s) (after_middle k (at + 1) s)

-- A rest follows the command, or nothing.
unfoldable pub params : List ℕ → List Part
params body = rest 0 (command_end body) (drop (command_end body) body)
