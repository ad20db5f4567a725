-- `put_params` meets its contract: each turn puts the first of the parameters that are left. Assumes nothing.
use Rattle.std.proofs.Common.{◌≡◌, length, take, length-take, arith}
use lib.ListN.{drop_of_length-le}
use borrow.Author.Rules.{rules}
use Rattle.laws.proofs.Lists.{unmapped}
use Rattle.octets.proofs.Pages.{added_step, added_end}
use Rattle.message.specs.Grammar.{param_limit}
use Rattle.writer.specs.Form.{written_params}
use Rattle.writer.proofs.Parts.{written_step}
use Rattle.writer.proofs.form.put_params.Goals as goal

pub loop-k-preserved : goal.loop-k-preserved
loop-k-preserved c =
    let a = c.args in
    let e : length a.m.params ≡ param_limit = search (rules, unmapped) in
    let l = c.loop-k in
    let s = written_step a.m.params a.m.count l.k (omega arith) (omega arith) a.text.now in
    added_step _ _ _ _ _ _ _ (rw (← c.part.ensures.bytes) at s) c.put_param.ensures l.invariant

pub returns : goal.returns
unfolding written_params
returns c =
    let a = c.args in
    let e = drop_of_length-le (take a.m.count a.m.params) {i = c.loop-k.k} (omega (arith, length-take a.m.count a.m.params)) in
    added_end _ _ _ _ (rw e) c.loop-k.invariant
