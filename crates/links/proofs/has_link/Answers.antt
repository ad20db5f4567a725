-- `has_link` meets its contract: a shift and a mask take the bit out, and past the last link a set of 32 bits has none. Assumes nothing.
use mathlib.Core.Path.{sym, ◌∙◌}
use borrow.Author.Rules.{rules}
use borrow.Author.Tests.{le-ltb}
use Rattle.laws.proofs.Bitwise.{bit-tested, bit_past}
use Rattle.links.specs.Links.{link_count}
use Rattle.links.proofs.has_link.Goals as goal

pub returns-then-link-lt-COUNT : goal.returns-then-link-lt-COUNT
returns-then-link-lt-COUNT c =
    bit-tested c.args.set c.args.link

pub returns-else-link-lt-COUNT : goal.returns-else-link-lt-COUNT
returns-else-link-lt-COUNT c =
    le-ltb c.args.link link_count (search rules) ∙ sym (bit_past c.args.set link_count c.args.link (search rules) (search rules))
