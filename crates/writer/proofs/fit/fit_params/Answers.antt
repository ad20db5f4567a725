-- `fit_params` meets its contract: each turn tests the first of the parameters that are left. Assumes nothing.
use Rattle.std.proofs.Common.{◌≡◌, sym, ◌∙◌, length, take, length-take, arith}
use lib.ListN.{drop_of_length-le}
use borrow.Author.Rules.{rules}
use Rattle.laws.proofs.Lists.{unmapped}
use Rattle.message.specs.Grammar.{param_limit}
use Rattle.writer.specs.Private.Fit.{fit_params}
use Rattle.writer.proofs.Parts.{fit-stop, fit-go}
use Rattle.writer.proofs.fit.fit_params.Goals as goal

pub returns-then-not-fit_param : goal.returns-then-not-fit_param
returns-then-not-fit_param c =
    let a = c.args in
    let e : length a.m.params ≡ param_limit = search (rules, unmapped) in
    fit-stop a.m.params a.m.count c.loop-k.k (omega arith) (omega arith) a.text.now (sym c.fit_param.ensures ∙ c.if-not-fit_param.true) ∙ c.loop-k.invariant

pub loop-k-preserved : goal.loop-k-preserved
loop-k-preserved c =
    let a = c.args in
    let e : length a.m.params ≡ param_limit = search (rules, unmapped) in
    fit-go a.m.params a.m.count c.loop-k.k (omega arith) (omega arith) a.text.now (sym c.fit_param.ensures ∙ c.if-not-fit_param.false) ∙ c.loop-k.invariant

pub returns : goal.returns
unfolding fit_params
returns c =
    let a = c.args in
    rw (← c.loop-k.invariant, drop_of_length-le (take a.m.count a.m.params) {i = c.loop-k.k} (omega (arith, length-take a.m.count a.m.params)))
