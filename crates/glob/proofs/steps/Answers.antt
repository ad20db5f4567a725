-- `steps` meets its contract: each step goes on from where the state leads, or answers. Assumes nothing.
use Rattle.std.proofs.Common.{◌≡◌, sym, ◌∙◌, ap, List, ℕ, ◌+◌, ◌-◌, ◌<◌, arith}
use Rattle.std.specs.declared.ops.ControlFlow.TheVariants.{Continue}
use Rattle.glob.specs.Stepping.{step_in, steps}
use Rattle.glob.proofs.Sound.{step-leads}
use Rattle.glob.proofs.Stepwise.{steps-none, steps_on, steps-done}
use Rattle.glob.proofs.steps.Goals as goal

pub returns-in_err-s : goal.returns-in_err-s
returns-in_err-s c =
    let mask : List ℕ = c.args.mask.now in
    let text : List ℕ = c.args.text.now in
    let l = c.loop in
    let turn : c.step.result ≡ step_in mask text l.s = rw (← c.look.ensures, ← c.look-in-loop.ensures) c.step.ensures in
    let left : 0 < c.args.count - l.counter = omega arith in
    c.from_residual.ensures ∙ sym (steps-done mask text l.s (c.args.count - l.counter) left c.in_err-s.field-0.0 (sym turn ∙ c.in_err-s.was)) ∙ l.invariant.leads

pub loop-preserved : goal.loop-preserved
loop-preserved c =
    let mask : List ℕ = c.args.mask.now in
    let text : List ℕ = c.args.text.now in
    let l = c.loop in
    let turn : c.step.result ≡ step_in mask text l.s = rw (← c.look.ensures, ← c.look-in-loop.ensures) c.step.ensures in
    let left : 0 < c.args.count - l.counter = omega arith in
    let e : step_in mask text l.s ≡ Continue c.in_ok-s.s = sym turn ∙ c.in_ok-s.was in
    let n : c.args.count - (l.counter + 1) ≡ c.args.count - l.counter - 1 = omega arith in
    record {
      sound = (rw e at (step-leads mask text l.s l.invariant.sound)).0;
      leads = ap (λ (k : ℕ). steps mask text k c.in_ok-s.s) n ∙ sym (steps_on mask text l.s (c.args.count - l.counter) left c.in_ok-s.s e) ∙ l.invariant.leads;
    }

pub returns : goal.returns
returns c =
    let l = c.loop in
    sym (steps-none c.args.mask.now c.args.text.now l.s (c.args.count - l.counter) (omega arith)) ∙ l.invariant.leads
