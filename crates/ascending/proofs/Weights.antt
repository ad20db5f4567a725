-- What the entries of an ascending list weigh in all: entries united weigh no more than they did apart, if two that are joined weigh no more than
-- both. Assumes nothing.
use mathlib.Core.List.{List, [], ◌∷◌}
use Prim.Native.Nat.{ℕ, ◌+◌, ◌≤◌}
use native.Mathlib.Omega.{arith}
use Rattle.std.specs.declared.cmp.Ordering.{Ordering}
use Rattle.std.specs.declared.cmp.Ordering.TheVariants.{Less, Equal, Greater}
use Rattle.octets.specs.Order.{compare}
use Rattle.laws.specs.Joins.{total}
use Rattle.ascending.specs.Ascending.{Kind, insert, put, unite}
use Rattle.ascending.proofs.Ascends.{joined}

-- the sum of what each weighs
abbrev pub weight : {E : Type 0} → (E → ℕ) → List E → ℕ
weight f l = total ◌+◌ 0 f l

module _ {E P : Type 0} (K : Kind E P) (f : E → ℕ) (add : (e d : E) → f (joined K e d) ≤ f e + f d) where
  weight-put : (e : E) (l : List E) → weight f (put K e l) ≤ f e + weight f l
  unfolding put insert
  weight-put e [] = omega arith
  weight-put e (d ∷ l) = go (compare (K.key e) (K.key d)) (weight-put e l)
    where
      go : (o : Ordering) → weight f (put K e l) ≤ f e + weight f l → weight f (insert K o e d l (put K e l)) ≤ f e + weight f (d ∷ l)
      go Less h = omega arith
      go Equal h = omega (arith, add e d)
      go Greater h = omega arith

  pub weight-unite : (a b : List E) → weight f (unite K a b) ≤ weight f a + weight f b
  unfolding unite
  weight-unite a [] = omega arith
  weight-unite a (e ∷ b) = omega (arith, weight-put e a, weight-unite (put K e a) b)
