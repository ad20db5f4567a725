-- `decide` meets its contract: so many steps reach the answer, which is what is claimed of them. Assumes nothing.
use Rattle.std.proofs.Common.{◌≡◌, sym, ◌∙◌, arith}
use Rattle.std.specs.declared.ops.ControlFlow.TheVariants.{Break}
use Rattle.glob.specs.Mask.{matches}
use Rattle.glob.proofs.Claim.{steps-enough}
use Rattle.glob.proofs.decide.Goals as goal

pub unreachable-requires : goal.unreachable-requires
unreachable-requires c =
    let reaches : c.steps.result ≡ Break (matches c.args.mask.now c.args.text.now) = c.steps.ensures ∙ steps-enough c.args.mask.now c.args.text.now _ (omega arith) in
    c.in_default.not-Break _ reaches

pub returns : goal.returns
returns c =
    let reaches : c.steps.result ≡ Break (matches c.args.mask.now c.args.text.now) = c.steps.ensures ∙ steps-enough c.args.mask.now c.args.text.now _ (omega arith) in
    let q : Break c.in-Break.yes ≡ Break (matches c.args.mask.now c.args.text.now) = sym c.in-Break.is ∙ reaches in
    cc
