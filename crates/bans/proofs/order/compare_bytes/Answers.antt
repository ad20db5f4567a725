-- `compare_bytes` meets its contract. The invariant: the folds of what is left stand to each other as the whole folds do, and as much was taken of one as of the
-- other. Assumes nothing.
use mathlib.Core.Path.{◌≡◌, sym, ap, ap₂, ◌∙◌}
use mathlib.Core.List.{List}
use Prim.Native.Nat.{ℕ}
use native.Mathlib.Omega.{arith}
use lib.ListN.{length}
use Rattle.std.specs.Ordering.{nat_cmp}
use Rattle.std.proofs.lemmas.Slice.Zip.{either_empty_from_Zip}
use Rattle.names.specs.Fold.{fold}
use Rattle.bans.proofs.Comparing.{ordered-apart, ordered-same, at_same, at_other, at_end}
use Rattle.bans.proofs.order.compare_bytes.Goals as goal

pub loop-x-preserved-then-x-y : goal.loop-x-preserved-then-x-y
loop-x-preserved-then-x-y c =
    let l = c.loop-x in
    let p = c.in-Some.ensures.steps in
    ((tt, tt), tt, sym (at_same _ _ _ _ _ _ p.0 p.1 (ap fold c.if-x-y.true)) ∙ l.invariant.2, omega (arith, ap (λ (k : List ℕ). length k) p.0, ap (λ (k : List ℕ). length k) p.1, l.invariant.3))

pub returns-then-is_ne : goal.returns-then-is_ne
returns-then-is_ne c =
    let l = c.loop-x in
    let p = c.in-Some.ensures.steps in
    let order : c.cmp-order.result ≡ nat_cmp (fold c.in-Some.x.now) (fold c.in-Some.y.now) = c.cmp-order.ensures ∙ ap₂ nat_cmp c.fold.ensures c.fold-in-loop-x.ensures in
    sym (at_other _ _ _ _ _ _ p.0 p.1 c.cmp-order.result order (ordered-apart c.cmp-order.result c.if-is_ne.ensures)) ∙ l.invariant.2

pub loop-x-preserved : goal.loop-x-preserved
loop-x-preserved c =
    let l = c.loop-x in
    let p = c.in-Some.ensures.steps in
    let order : c.cmp-order.result ≡ nat_cmp (fold c.in-Some.x.now) (fold c.in-Some.y.now) = c.cmp-order.ensures ∙ ap₂ nat_cmp c.fold.ensures c.fold-in-loop-x.ensures in (
      (tt, tt),
      tt,
      sym (at_same _ _ _ _ _ _ p.0 p.1 (ordered-same c.cmp-order.result _ _ order c.if-is_ne.ensures)) ∙ l.invariant.2,
      omega (arith, ap (λ (k : List ℕ). length k) p.0, ap (λ (k : List ℕ). length k) p.1, l.invariant.3),
    )

pub returns : goal.returns
returns c =
    let l = c.loop-x in
    c.cmp.ensures ∙ at_end _ _ _ _ (either_empty_from_Zip c.loop-x.x-iterator c.next.new.self c.next.result c.in-None.is c.next.ensures.steps) l.invariant.3 ∙ l.invariant.2
