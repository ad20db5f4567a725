-- `united` meets its contract. The invariant: what is gathered so far, with what is left, comes to the whole pass. Assumes nothing.
use native.Mathlib.Omega.{arith}
use Rattle.channel.proofs.Gathering.{pushed-room}
use Rattle.merging.proofs.OnePass.{begun-step, begun-over, begun-room}
use Rattle.merging.proofs.uniting.united.Goals as goal

pub returns-then-all-eq-MEMBERS : goal.returns-then-all-eq-MEMBERS
returns-then-all-eq-MEMBERS c =
    begun-over c.loop-m.all _ _ c.loop-m.invariant.2 c.in-Some.m _ c.in-Some.ensures.steps (omega arith)

pub loop-m-preserved : goal.loop-m-preserved
loop-m-preserved c =
    (tt, tt, rw (c.push.ensures, pushed-room c.loop-m.all c.in-Some.m (begun-room c.loop-m.all _ _ c.loop-m.invariant.2 (λ e. c.if-all-eq-MEMBERS.false e))) (begun-step c.loop-m.all _ _ c.loop-m.invariant.2 c.in-Some.m _ c.in-Some.ensures.steps (λ e. c.if-all-eq-MEMBERS.false e)))
