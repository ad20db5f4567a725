-- `put_entries` meets its contract: each turn puts the entry at its place. Assumes nothing.
use Rattle.std.proofs.Common.{◌≡◌, length, take, length-take, arith}
use borrow.Author.Rules.{rules}
use Rattle.octets.proofs.Pages.{added_step, added_end}
use Rattle.channel.specs.Limits.{member_limit}
use Rattle.channel.specs.Record.{decode}
use Rattle.telling.proofs.Lines.{entries-step, entries-past}
use Rattle.telling.proofs.pieces.put_entries.Goals as goal

pub loop-k-preserved : goal.loop-k-preserved
loop-k-preserved c =
    let r = c.args.r in
    let long : length r.members ≡ member_limit = search rules in
    added_step _ _ _ _ _ _ _ (entries-step r.members r.count c.loop-k.k _ (omega arith) (omega arith)) c.put_next.ensures c.loop-k.invariant

pub returns : goal.returns
unfolding decode
returns c =
    let r = c.args.r in
    let long : length r.members ≡ member_limit = search rules in
    added_end _ _ _ _ (entries-past (take r.count r.members) c.loop-k.k (omega (arith, length-take r.count r.members))) c.loop-k.invariant
