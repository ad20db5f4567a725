-- `differing` meets its contract. The invariant: where there are no bits so far, the first j bytes have the same fold. Assumes nothing.
use mathlib.Core.Path.{refl, sym, ap, ◌∙◌}
use mathlib.Core.List.{map}
use lib.Seq.{take_all}
use borrow.Author.Rules.{rules}
use Rattle.names.specs.Fold.{fold}
use Rattle.bans.proofs.Comparing.{folds-next}
use Rattle.bans.proofs.order.differing.Goals as goal

pub loop-j-init : goal.loop-j-init
loop-j-init c =
    λ z. refl

pub loop-j-preserved : goal.loop-j-preserved
loop-j-preserved c =
    let l = c.loop-j in folds-next c.args.a.now c.args.b.now l.j l.bits c.unlike-bits.result (search rules) (search rules) l.invariant c.unlike-bits.ensures

pub returns : goal.returns
returns c =
    let l = c.loop-j in
    λ z. ap (map fold) (sym (take_all l.j c.args.a.now (search rules))) ∙ l.invariant z ∙ ap (map fold) (take_all l.j c.args.b.now (search rules))
