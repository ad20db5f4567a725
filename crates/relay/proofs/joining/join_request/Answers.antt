-- `join_request` meets its contract: an SJOIN is refused by its own rules, or asks for the record that it tells of. Assumes nothing.
use Rattle.std.proofs.lemmas.Result.{err_from_is_err_and}
use Rattle.refusal.proofs.Refusals.{number-given}
use Rattle.relay.proofs.Asking.{join-ok, join-err}
use Rattle.relay.proofs.joining.join_request.Goals as goal

pub returns-in_err-incoming : goal.returns-in_err-incoming
returns-in_err-incoming c =
    let p = err_from_is_err_and c.from_residual.result c.from_residual.ensures.1 in
    let h = c.in_err-incoming.ensures in
    rw (p.1, p.2) (join-err c.args.line.now c.args.m c.requires _ _ (number-given c.in_err-incoming.field-0.0.refusal) _ h)

pub returns : goal.returns
returns c =
    join-ok c.args.line.now c.args.m c.requires _ c.in_ok-incoming.ensures
