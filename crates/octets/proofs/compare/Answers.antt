-- `compare` meets its contract. The invariant: what is left stands to each other as the whole does. Assumes nothing.
use mathlib.Core.Path.{sym, ap, ◌∙◌}
use native.Mathlib.Omega.{arith}
use Prim.Native.Nat.{◌+◌}
use lib.ListN.{drop}
use Rattle.std.specs.declared.cmp.Ordering.{Ordering}
use Rattle.octets.specs.Order.{compare}
use Rattle.octets.proofs.Ordered.{then_by, ordered-apart, ordered-same, compare-at, compare-ends}
use Rattle.octets.proofs.compare.Goals as goal

pub returns-then-is_ne : goal.returns-then-is_ne
returns-then-is_ne c =
    let a = c.args.a.now in
    let b = c.args.b.now in
    let l = c.loop-i in
    let rest = compare (drop (l.i + 1) a) (drop (l.i + 1) b) in
    sym (sym l.invariant ∙ compare-at a b l.i (omega arith) (omega arith) ∙ ap (λ (o : Ordering). then_by o rest) (sym c.cmp-order.ensures) ∙ ordered-apart c.cmp-order.result rest c.if-is_ne.ensures)

pub loop-i-preserved : goal.loop-i-preserved
loop-i-preserved c =
    let a = c.args.a.now in
    let b = c.args.b.now in
    let l = c.loop-i in
    let rest = compare (drop (l.i + 1) a) (drop (l.i + 1) b) in
    sym (compare-at a b l.i (omega arith) (omega arith) ∙ ap (λ (o : Ordering). then_by o rest) (sym c.cmp-order.ensures) ∙ ordered-same c.cmp-order.result rest c.if-is_ne.ensures) ∙ l.invariant

pub returns : goal.returns
returns c =
    let l = c.loop-i in
    c.cmp.ensures ∙ compare-ends c.args.a.now c.args.b.now l.i (omega (arith, l.auto.i-end, c.loop-i-test.false, c.min-i-end.ensures)) ∙ l.invariant
