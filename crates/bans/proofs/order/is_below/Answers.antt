-- `is_below` meets its contract. Assumes nothing.
use mathlib.Core.Path.{◌≡◌, ap, ap₂, ◌∙◌}
use mathlib.Core.List.{List, map}
use Prim.Native.Nat.{ℕ}
use Rattle.octets.specs.Order.{compare, is_less}
use Rattle.names.specs.Fold.{fold}
use Rattle.bans.specs.Masks.{by_fold}
use Rattle.bans.proofs.order.is_below.Goals as goal

pub returns : goal.returns
returns c =
    let stands : c.compare_folds.result ≡ compare (by_fold.key c.args.r.now) (by_fold.key c.args.t.now) =
    c.compare_folds.ensures ∙ ap₂ (λ (a b : List ℕ). compare (map fold a) (map fold b)) c.mask_in.ensures.bytes c.mask_in-2.ensures.bytes in
    c.is_lt.ensures ∙ ap is_less stands
