-- `wanted` meets its contract: the letters that have a parameter are counted. Assumes nothing.
use Rattle.std.proofs.Common.{length, rules, tests, ap, ◌∙◌}
use Rattle.std.proofs.lemmas.Iterator.{YieldsList-from_slice}
use Rattle.std.proofs.lemmas.Iterator.Consumers.{YieldsList-from_filter, count_from_yields_List}
use Rattle.sjoin.specs.Modes.{has_parameter}
use Rattle.sjoin.proofs.Parameters.{parametered-are}
use Rattle.sjoin.proofs.arguments.wanted.Goals as goal

pub returns : goal.returns
returns c =
    let s = c.letters_of.result.now in
    let e = count_from_yields_List c.filter.result c.count.result c.count.ensures.ran
    (YieldsList-from_filter _ has_parameter (YieldsList-from_slice s cc) c.filter.ensures.closure (λ x b q k. search (rules, tests))) in
    e ∙ ap (λ l. length l) (parametered-are c.args.modes.now s c.letters_of.ensures)
