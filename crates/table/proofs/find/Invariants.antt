-- `find` meets its contract. The invariants: no slot below k holds the name; and the bytes that are left of the name that slot k holds and of the name sought
-- are as many, and equal exactly if the two names are. Assumes nothing.
use mathlib.Core.Path.{◌≡◌}
use Prim.Native.Nat.{◌+◌}
use lib.ListN.{length, drop}
use Rattle.std.specs.Slice.Iter.{iter_rest}
use Rattle.std.specs.Iterator.Adapters.{zip_first, zip_second}
use Rattle.names.specs.Fold.{same_name}
use Rattle.channel.specs.Record.{decode}
use Rattle.table.specs.Table.{holds}
use Rattle.table.specs.Slots.{first_at}
use Rattle.table.proofs.find.Given as goal

abbrev pub invariant-loop-held : goal.invariant-loop-held
invariant-loop-held l =
    let a = iter_rest (zip_first l.held-iterator) in
    let b = iter_rest (zip_second l.held-iterator) in
    (length a ≡ length b) × (same_name a b ≡ same_name (decode l.r).name l.name)

abbrev pub invariant-slots : goal.invariant-slots
invariant-slots l =
    first_at (holds l.name) l.t.slots ≡ l.k + first_at (holds l.name) (drop l.k l.t.slots)
