-- `Roster::insert` meets its contract: so many members are smaller, and the one behind them has the same id, or is moved up with those behind it. Assumes nothing.
use mathlib.Core.Path.{sym}
use borrow.Author.Rules.{rules}
use Rattle.std.proofs.lemmas.List.Sorted.{IsPartitionPoint-from_clause}
use Rattle.channel.proofs.Placing.{smaller, put-same, put-before, put-last}
use Rattle.channel.proofs.Roster.insert.Goals as goal
use Rattle.channel.proofs.Roster.insert.Goals.{else-place-self-via-then-place-self+else-is_same, else-place-self-via-else-place-self}

pub returns-then-is_same : goal.returns-then-is_same
returns-then-is_same c =
    let r = c.args.self.now in
    put-same r.list r.count c.args.m c.requires c.members.result.now c.members.ensures.list c.partition_point-place.result c.partition_point-place.ensures.bound
    (λ part. IsPartitionPoint-from_clause (smaller c.args.m) _ _ c.partition_point-place.ensures.partitioned part (λ a b f q. search rules)) _ c.if-place-self.true (sym c.if-is_same.ensures)

pub returns-else-place-self : goal.returns-else-place-self
returns-else-place-self c =
    let r = c.args.self.now in
    let p = c.partition_point-place in
    rw c.copy_within.ensures.after
    (elim c.else-place-self.branch [
      | else-place-self-via-then-place-self+else-is_same w ↦ put-before r.list r.count c.args.m c.requires c.members.result.now c.members.ensures.list p.result p.ensures.bound (λ part. IsPartitionPoint-from_clause (smaller c.args.m) _ _ p.ensures.partitioned part (λ a b f q. search rules)) _ w.if-place-self.true (sym w.if-is_same.ensures)
      | else-place-self-via-else-place-self w ↦ put-last r.list r.count c.args.m c.requires c.members.result.now c.members.ensures.list p.result p.ensures.bound (λ part. IsPartitionPoint-from_clause (smaller c.args.m) _ _ p.ensures.partitioned part (λ a b f q. search rules)) w.if-place-self.false
    ])
