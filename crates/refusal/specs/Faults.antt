-- Faults, where a place decides among several and not the order of their numbers: each has its number and its place. They are checked in the order of their places, and
-- the first that is there is given.
use Rattle.std.specs.Prelude.{ℕ, Bool, cond, List, [], ◌∷◌}
use Rattle.std.proofs.Math.Option.{Option, some, none}
use Rattle.refusal.specs.Numbers.{accepted}

-- A refusal's number, and the place of what is at fault.
pub record Fault (P : Type 0) : Type 0 where
  pub number : ℕ
  pub place : P

-- A fault, and whether it is there.
pub record Check (P : Type 0) : Type 0 where
  pub fault : Fault P
  pub applies : Bool

module _ {P : Type 0} where
  abbrev pub fault : ℕ → P → Fault P
  fault number place = record { number = number; place = place }

  infix 68 ◌if◌
  abbrev pub ◌if◌ : Fault P → Bool → Check P
  f if t = record { fault = f; applies = t }

  -- all that are there, in their order
  unfoldable pub faults_of : List (Check P) → List (Fault P)
  faults_of [] = []
  faults_of (c ∷ cs) = cond c.applies (c.fault ∷ faults_of cs) (faults_of cs)

  -- the first that is there
  unfoldable pub first_fault : List (Check P) → Option (Fault P)
  first_fault [] = none
  first_fault (c ∷ cs) = cond c.applies (some c.fault) (first_fault cs)

  -- its number, or `accepted` where there is none
  abbrev pub number_of : Option (Fault P) → ℕ
  number_of none = accepted
  number_of (some f) = f.number
