-- `less` meets its contract: a link that is in a set of 32 bits is below 32, so that 1 shifted to its place is its bit, and taking that off leaves the
-- others. Assumes nothing.
use mathlib.Core.Path.{sym}
use borrow.Author.Rules.{rules}
use Rattle.laws.proofs.Bitwise.{bit_below, bit-value, shifted_one}
use Rattle.links.specs.Links.{link_count}
use Rattle.links.proofs.Sets.{less-in, less-out}
use Rattle.links.proofs.less.Goals as goal

pub overflow_shl-result : goal.overflow_shl-result
overflow_shl-result c =
    bit_below c.args.set link_count c.args.link (search rules) (sym c.if-has_link.ensures)

pub overflow_sub-result : goal.overflow_sub-result
overflow_sub-result c =
    let a = c.args in
    let e = sym c.if-has_link.ensures in
    rw (shifted_one link_count a.link (bit_below a.set link_count a.link (search rules) e)) (bit-value a.set a.link e)

pub returns-then-has_link : goal.returns-then-has_link
returns-then-has_link c =
    let a = c.args in
    let e = sym c.if-has_link.ensures in
    rw (shifted_one link_count a.link (bit_below a.set link_count a.link (search rules) e)) (sym (less-in a.set a.link (search rules) e))

pub returns-else-has_link : goal.returns-else-has_link
returns-else-has_link c =
    sym (less-out c.args.set c.args.link (search rules) (sym c.if-has_link.ensures))
