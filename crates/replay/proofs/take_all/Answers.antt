-- `take_all` meets its contract: a record that is taken leads on, and what is refused or at fault, and the end, stop the replay. Assumes nothing.
use mathlib.Core.Path.{sym, ap, ap₂, ◌∙◌}
use native.Mathlib.Omega.{arith}
use Rattle.std.proofs.lemmas.Result.{err_from_is_err_and}
use Rattle.refusal.proofs.Refusals.{number-given}
use Rattle.table.specs.Network.{Table, table_with}
use Rattle.relay.specs.declared.Taken.{Taken}
use Rattle.relay.specs.Relay.{Outcome, taken_of}
use Rattle.replay.proofs.Steps.{stops, stands, line-taken, turn-taken, turn-refused}
use Rattle.replay.proofs.take_all.Goals as goal

pub returns-in_err-record : goal.returns-in_err-record
returns-in_err-record c =
    let l = c.loop-record in
    let p = err_from_is_err_and c.from_residual.result c.from_residual.ensures.1 in
    rw (p.1, p.2) (sym (stops (table_with l.head l.bans) l.at c.args.log.now c.args.last _ _ c.in_err-record.ensures) ∙ l.invariant)

pub returns-in-Err : goal.returns-in-Err
returns-in-Err c =
    let a = c.args in
    let l = c.loop-record in
    let t : Table = table_with l.head l.bans in
    let whole = stands a.log.now a.last l.at c.in-Some.record.line c.in-Some.record.link (rw c.in-Some.is at c.in_ok-record.ensures) in
    let same = line-taken a.log.now a.last t l.at _ whole c.part-line.result.now c.part-line.ensures.bytes in
    let taken = c.in-Err.ensures.answer ∙ ap taken_of same in
    let table = ap₂ table_with (ap (λ (x : Taken). x.head) taken) (c.in-Err.ensures.lists ∙ ap (λ (o : Outcome). o.table.bans) same) in
    rw c.at.ensures (turn-refused a.log.now a.last t l.at _ whole _ table _ (ap (λ (x : Taken). x.number) taken) (number-given c.in-Err.fault.refusal) ∙ l.invariant)

pub loop-record-smaller : goal.loop-record-smaller
loop-record-smaller c =
    let whole = stands c.args.log.now c.args.last c.loop-record.at c.in-Some.record.line c.in-Some.record.link (rw c.in-Some.is at c.in_ok-record.ensures) in
    omega (arith, whole.next, whole.fits)

pub loop-record-preserved : goal.loop-record-preserved
loop-record-preserved c =
    let a = c.args in
    let l = c.loop-record in
    let t : Table = table_with l.head l.bans in
    let whole = stands a.log.now a.last l.at c.in-Some.record.line c.in-Some.record.link (rw c.in-Some.is at c.in_ok-record.ensures) in
    let same = line-taken a.log.now a.last t l.at _ whole c.part-line.result.now c.part-line.ensures.bytes in
    let taken = c.in_default-take.ensures.answer ∙ ap taken_of same in
    let table = ap₂ table_with (ap (λ (x : Taken). x.head) taken) (c.in_default-take.ensures.lists ∙ ap (λ (o : Outcome). o.table.bans) same) in
    turn-taken a.log.now a.last t l.at _ whole _ table (ap (λ (x : Taken). x.number) taken) ∙ l.invariant

pub returns : goal.returns
returns c =
    let l = c.loop-record in
    sym (stops (table_with l.head l.bans) l.at c.args.log.now c.args.last _ _ (rw c.in_default.is at c.in_ok-record.ensures)) ∙ l.invariant
