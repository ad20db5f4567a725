-- No body has more than fifteen parameters: after fourteen middles comes one at most. Assumes nothing.
use mathlib.Core.List.{List}
use Prim.Native.Nat.{ℕ, ◌+◌, ◌≤◌}
use native.Mathlib.Omega.{arith}
use lib.ListN.{length, drop}
use Rattle.message.specs.Grammar.{param_limit, middle_limit, command_end, params}
use Rattle.message.proofs.Induction.{Claim, Clauses, of-rest}

-- with the k middles before them
abbrev Few : Claim
Few k at s ps = k ≤ middle_limit → k + length ps ≤ param_limit

few : Clauses Few Few
few = record {
  nothing = λ k at h. omega arith;
  spaced = λ k at s ps r. r;
  trailing = λ k at s h. omega arith;
  remains = λ k at x s p q l h. omega arith;
  middle = λ k at x s ps p q l m h. omega (arith, m (omega (arith, l)));
  ends = λ k at h. omega arith;
  stops = λ k at s ps r. r;
  goes = λ k at x s ps p m. m;
}

pub params-few : (body : List ℕ) → length (params body) ≤ param_limit
unfolding params
params-few body = omega (arith, of-rest Few Few few (drop (command_end body) body) 0 (command_end body) (omega arith))
