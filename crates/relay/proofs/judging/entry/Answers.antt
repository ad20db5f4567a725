-- `entry` meets its contract: where no rule applies, the link is registered. Assumes nothing.
use mathlib.Core.Path.{sym, ◌∙◌}
use Prim.Native.Nat.{◌<◌, ◌^◌}
use borrow.Author.Rules.{rules}
use Rattle.links.specs.Links.{link_count}
use Rattle.relay.proofs.Entering.{entry-passes}
use Rattle.relay.proofs.judging.entry.Goals as goal

pub returns : goal.returns
returns c =
    let small : c.args.links.set < 2 ^ link_count = search rules in
    let a = c.args in
    sym (entry-passes a.good a.links a.link a.n c.if-not-good.false c.if-n-lt-LINE_LIMIT.false small (sym c.has_link.ensures ∙ c.if-not-has_link.false))
