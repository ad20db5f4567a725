-- What became of number 10 (document 02, §7). The parameters of a body and the rules of a line as document 01 has them, where a sixteenth parameter was refused; and what is
-- claimed: "All that remains is the fifteenth parameter", "the reader gives 10 no longer". No function goes by the former rules.
use Rattle.std.specs.Prelude.{ℕ, ◌+◌, ◌≤◌, min, ◌≡◌, cond, List, [], ◌∷◌, ◌++◌, length, take, drop, get_or, eqb, ltb}
use Rattle.refusal.specs.Numbers.{accepted, too_many_params}
use Rattle.refusal.specs.Rules.{Rule, ◌when◌, first_of}
use Rattle.octets.specs.Bytes.{space, colon}
use Rattle.message.specs.Grammar.{param_limit, middle_limit, Part, part_at, word, command_end, params}
use Rattle.message.specs.Reading.{body_of, line_rules, number_for, content_of}

-- ---- as it was
unfoldable mutual
  -- a run of SPACEs, then nothing, or ':' and a trailing part, or a middle, whatever came before
  pub former_rest : ℕ → List ℕ → List Part
  former_rest at [] = []
  former_rest at (b ∷ s) =
      cond (eqb b space) (former_rest (at + 1) s)
      (cond (eqb b colon) (part_at (at + 1) s ∷ [])
      (part_at at (b ∷ word s) ∷ former_after (at + 1) s))

  -- a rest follows a middle's next SPACE, or nothing the end
  pub former_after : ℕ → List ℕ → List Part
  former_after at [] = []
  former_after at (b ∷ s) = cond (eqb b space) (former_rest (at + 1) s) (former_after (at + 1) s)

unfoldable pub former_params : List ℕ → List Part
former_params body = former_rest (command_end body) (drop (command_end body) body)

-- the rules of a line: those of today, and behind them "a sixteenth parameter"
abbrev pub sixteenth : List ℕ → List Rule
sixteenth line = too_many_params when ltb param_limit (length (former_params (body_of line))) ∷ []

unfoldable pub former_line_rules : List ℕ → List Rule
former_line_rules line = line_rules line ++ sixteenth line

-- ---- what is claimed
-- the fifteenth of some parts, or the empty one at 0
abbrev pub fifteenth : List Part → Part
fifteenth ps = get_or ps middle_limit (part_at 0 [])

-- Of any body:
pub record Keeps (body : List ℕ) : Type 0 where
  -- up to fourteen parameters are as they were, in bytes and place
  pub few : length (former_params body) ≤ middle_limit → params body ≡ former_params body
  -- and so are the first fourteen of more
  pub front : take middle_limit (params body) ≡ take middle_limit (former_params body)
  -- there are as many as there were, and fifteen where there were more
  pub count : length (params body) ≡ min param_limit (length (former_params body))
  -- the fifteenth begins where it began, with the bytes that it had
  pub start : (fifteenth (params body)).start ≡ (fifteenth (former_params body)).start
  pub begins : take (length (fifteenth (former_params body)).bytes) (fifteenth (params body)).bytes ≡ (fifteenth (former_params body)).bytes
  -- and ends with the body
  pub ends : length (params body) ≡ param_limit → (fifteenth (params body)).start + length (fifteenth (params body)).bytes ≡ length body

-- Of any line:
pub record Opens (line : List ℕ) : Type 0 where
  -- where it got 10, it is read, with fifteen parameters
  pub opened : first_of (former_line_rules line) ≡ too_many_params → number_for line ≡ accepted
  pub fifteen : first_of (former_line_rules line) ≡ too_many_params → length (content_of line).params ≡ param_limit
  -- any other number is as it was
  pub others : (first_of (former_line_rules line) ≡ too_many_params → ⊥) → number_for line ≡ first_of (former_line_rules line)
  -- and 10 is given no longer
  pub never : number_for line ≡ too_many_params → ⊥
