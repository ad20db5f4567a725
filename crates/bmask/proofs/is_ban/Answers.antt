-- `is_ban` meets its contract. Assumes nothing.
use mathlib.Core.Path.{ap, ◌∙◌}
use mathlib.Core.List.{List}
use Prim.Native.Nat.{ℕ}
use lib.Dec.{eqb}
use lib.Pointwise.{pointwise}
use Rattle.bmask.specs.Masks.{ban_type}
use Rattle.bmask.proofs.Listed.{pointwise_same}
use Rattle.bmask.proofs.is_ban.Goals as goal

pub returns : goal.returns
returns c =
    c.eq.ensures ∙ ap (λ (t : List ℕ). pointwise eqb c.args.kind.now t) c.as_slice.ensures ∙ pointwise_same c.args.kind.now ban_type
