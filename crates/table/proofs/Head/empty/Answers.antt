-- `Head::empty` meets its contract: sixteen empty records and no link, and every byte of the lists zero. Assumes nothing.
use mathlib.Core.Path.{◌≡◌, ap, ap₂, ◌∙◌}
use Prim.Native.Nat.{ℕ}
use lib.ListN.{length, replicate}
use Rattle.links.specs.declared.Links.{Links}
use Rattle.channel.specs.declared.Record.{Record}
use Rattle.channel.specs.Limits.{slot_count}
use Rattle.bans.specs.Limits.{bans_size}
use Rattle.bans.specs.Slots.{empty_lists}
use Rattle.table.specs.declared.Head.{Head}
use Rattle.table.specs.Table.{empty_table}
use Rattle.table.proofs.Head.empty.Goals as goal

-- a head with the same record in every slot
filled : Record → Links → Head
filled r links = record { slots = replicate slot_count r; links = links }

pub returns : goal.returns
unfolding empty_table empty_lists filled
returns c =
    let size : length c.args.bans.now ≡ bans_size = c.clear_all-arg-1.given.0.1 in record { answer = ap₂ filled c.empty.ensures.value c.none.ensures.value; lists = c.clear_all.ensures ∙ ap (λ (n : ℕ). replicate n 0) size }
