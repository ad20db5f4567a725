-- `argument_place` meets its contract: the letter is looked for among those that have a parameter. Assumes nothing.
use Rattle.std.proofs.Common.{◌==◌, rules, tests, ap, ◌∙◌}
use Rattle.std.proofs.lemmas.Iterator.{YieldsList-from_slice}
use Rattle.std.proofs.lemmas.Iterator.Consumers.{YieldsList-from_filter}
use Rattle.std.proofs.lemmas.Iterator.Search.{position_from_yields_List}
use Rattle.sjoin.specs.Modes.{has_parameter}
use Rattle.sjoin.specs.Private.Parts.{found_among}
use Rattle.sjoin.proofs.Parameters.{parametered-are}
use Rattle.sjoin.proofs.arguments.argument_place.Goals as goal

pub returns : goal.returns
unfolding found_among
returns c =
    let s = c.letters_of.result.now in
    let e = position_from_yields_List (λ x. x == c.args.letter) _ _ c.position.result c.position.ensures.ran
    (YieldsList-from_filter _ has_parameter (YieldsList-from_slice s cc) c.filter.ensures.closure (λ x b q k. search (rules, tests))) (λ x b q k. search (rules, tests)) in
    e ∙ ap (found_among c.args.letter) (parametered-are c.args.modes.now s c.letters_of.ensures)
