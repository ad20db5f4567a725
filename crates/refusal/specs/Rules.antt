-- Refusals as an ordered list of rules, of which the first that applies decides.
use Rattle.std.specs.Prelude.{ℕ, suc, Bool, true, cond, ◌&&◌, List, [], ◌∷◌, length, eqb, leb, ltb}
use Rattle.refusal.specs.Numbers.{accepted, order}

-- A refusal's number, and whether it applies.
pub record Rule : Type 0 where
  pub number : ℕ
  pub applies : Bool

infix 68 ◌when◌
abbrev pub ◌when◌ : ℕ → Bool → Rule
n when t = record { number = n; applies = t }

-- the number of the first rule that applies, or `accepted`
unfoldable pub first_of : List Rule → ℕ
first_of [] = accepted
first_of (r ∷ rs) = cond r.applies r.number (first_of rs)

-- what is written: the bytes w, or none where a rule applies
unfoldable pub emitted : List Rule → List ℕ → List ℕ
emitted rules w = cond (eqb (first_of rules) accepted) w []

-- ---- the order
-- a number's place among some, or how many they are where it is none of them
unfoldable pub place_in : List ℕ → ℕ → ℕ
place_in [] n = 0
place_in (m ∷ l) n = cond (eqb m n) 0 (suc (place_in l n))

-- its place in the order
abbrev pub rank : ℕ → ℕ
rank n = place_in order n

-- each rule's number is in the order, at a place k or behind it, and behind that of the rule before it
unfoldable pub ascend_from : ℕ → List Rule → Bool
ascend_from k [] = true
ascend_from k (r ∷ rs) = leb k (rank r.number) && (ltb (rank r.number) (length order) && ascend_from (suc (rank r.number)) rs)

-- the rules stand in the order of their numbers: so the first that applies has the number that comes first in it
abbrev pub ascend : List Rule → Bool
ascend rs = ascend_from 0 rs
