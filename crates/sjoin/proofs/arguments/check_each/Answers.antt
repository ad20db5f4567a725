-- `check_each` meets its contract, by the laws of what is known before a letter. Assumes nothing.
use Rattle.std.proofs.Common.{sym, ap, ◌∙◌}
use Rattle.refusal.specs.Refusals.{answered}
use Rattle.message.specs.Parts.{content_by}
use Rattle.sjoin.proofs.Parameters.{weighed-first, weighed-skip, weighed-good}
use Rattle.sjoin.proofs.arguments.check_each.Goals as goal
use Rattle.sjoin.proofs.arguments.check_each.Goals.{then-has_parameter+in_default, else-has_parameter}

pub loop-letter-init : goal.loop-letter-init
loop-letter-init c = weighed-first (content_by c.args.text.now c.args.m) c.args.last c.args.modes.now c.letters_of-letter-items.result.now c.requires c.letters_of-letter-items.ensures

pub loop-letter-preserved : goal.loop-letter-preserved
loop-letter-preserved c =
    let l = c.loop-letter in
    let content = content_by c.args.text.now c.args.m in
    let test = c.has_parameter.ensures in
    elim c.if-has_parameter.branch [
      | then-has_parameter+in_default w ↦
          rw w.at-is (weighed-good content c.args.last c.letters_of-letter-items.result.now l.letter-index l.at _ l.invariant c.loop-letter-test.true (sym test ∙ w.if-has_parameter.true) w.param_in.result.now w.param_in.ensures.bytes
          (ap answered (sym w.in_default.is) ∙ w.check_argument.ensures))
      | else-has_parameter w ↦ rw w.at-is (weighed-skip content c.args.last c.letters_of-letter-items.result.now l.letter-index l.at _ l.invariant c.loop-letter-test.true (sym test ∙ w.if-has_parameter.false))
    ]
