-- Many steps, one after the other: none, or one and the others. Assumes nothing.
use Prim.Native.Nat.{ℕ, suc, ◌-◌, ◌<◌}
use mathlib.Core.Path.{◌≡◌, ap, ◌∙◌}
use mathlib.Core.Bool.{Bool}
use mathlib.Core.List.{List}
use native.Mathlib.Omega.{arith}
use Rattle.glob.specs.declared.State.{State}
use Rattle.std.specs.declared.ops.ControlFlow.TheVariants.{Continue, Break}
use Rattle.glob.specs.Stepping.{step_in, onward, steps}

module _ (mask text : List ℕ) (s : State) where
  pub steps-none : (k : ℕ) → k ≡ 0 → steps mask text k s ≡ Continue s
  unfolding steps
  steps-none k e = rw e

  module _ (k : ℕ) (h : 0 < k) where
    steps_next : steps mask text k s ≡ onward (steps mask text (k - 1)) (step_in mask text s)
    unfolding steps
    steps_next = let e : k ≡ suc (k - 1) = omega arith in ap (λ (n : ℕ). steps mask text n s) e

    -- the others go on from where one leads
    pub steps_on : (t : State) → step_in mask text s ≡ Continue t → steps mask text k s ≡ steps mask text (k - 1) t
    unfolding onward
    steps_on t e = steps_next ∙ rw e

    -- none follows an answer
    pub steps-done : (answer : Bool) → step_in mask text s ≡ Break answer → steps mask text k s ≡ Break answer
    unfolding onward
    steps-done answer e = steps_next ∙ rw e
