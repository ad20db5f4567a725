-- `argument` meets its contract: the parameter stands behind the modes, in its letter's place, or there is none. Assumes nothing.
use Rattle.std.proofs.Common.{arith, sym, ◌∙◌}
use Rattle.message.specs.Parts.{content_by}
use Rattle.sjoin.proofs.Parameters.{argument_before, argument_there, argument_none}
use Rattle.sjoin.proofs.arguments.argument.Goals as goal

pub overflow_add-place : goal.overflow_add-place
overflow_add-place c =
    let a = c.args in
    omega (arith, argument_before (content_by a.text.now a.m) a.last a.letter c.param_in.result.now c.requires c.param_in.ensures.bytes c.in-Some.place (sym c.argument_place.ensures ∙ c.in-Some.is))

pub returns-in-Some : goal.returns-in-Some
returns-in-Some c =
    let a = c.args in
    c.param_in-in-Some.ensures.bytes ∙ argument_there (content_by a.text.now a.m) a.last a.letter c.param_in.result.now c.requires c.param_in.ensures.bytes c.in-Some.place (sym c.argument_place.ensures ∙ c.in-Some.is)

pub returns-in-None : goal.returns-in-None
returns-in-None c =
    let a = c.args in
    argument_none (content_by a.text.now a.m) a.last a.letter c.param_in.result.now c.requires c.param_in.ensures.bytes (sym c.argument_place.ensures ∙ c.in-None.is)
