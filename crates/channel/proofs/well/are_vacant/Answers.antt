-- `are_vacant` meets its contract. The invariant: all places are unused exactly if there are no bits so far and those from the next on are. Assumes nothing.
use mathlib.Core.Path.{sym, ◌∙◌}
use borrow.Author.Rules.{rules}
use Rattle.laws.proofs.Bitwise.{or_step, or-past}
use Rattle.channel.specs.WellFormed.{is_vacant}
use Rattle.channel.proofs.well.are_vacant.Goals as goal

pub loop-m-preserved : goal.loop-m-preserved
loop-m-preserved c =
    let l = c.loop-m in
    l.invariant ∙ or_step is_vacant c.args.places.now l.m-index l.bits _ _ (search rules) c.bits-bits.ensures

pub returns : goal.returns
returns c =
    let l = c.loop-m in
    sym (l.invariant ∙ or-past is_vacant c.args.places.now l.m-index l.bits (search rules))
