-- `inserted` meets its contract: the rooms behind move up, and the mask's goes between. Assumes nothing.
use mathlib.Core.Path.{◌≡◌, ap₂, ◌∙◌}
use mathlib.Core.List.{List}
use Prim.Native.Nat.{ℕ, ◌+◌}
use lib.ListN.{length, set}
use borrow.Author.Rules.{rules}
use Rattle.bans.specs.Limits.{list_size}
use Rattle.bans.proofs.Placing.{made-spliced}
use Rattle.bans.proofs.rooms.inserted.Goals as goal

pub returns : goal.returns
returns c =
    let whole : length c.args.list.room ≡ list_size = search rules in
    ap₂ (λ (l : List ℕ) (n : ℕ). set l 0 (n + 1))
    (made-spliced c.args.list.room c.args.m.now _ _ c.args.at whole (search rules) (c.copy_from_slice.ensures.after ∙ c.room_of.ensures) c.copy_within.ensures.after)
    c.mask_count-count.ensures
