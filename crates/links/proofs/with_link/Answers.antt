-- `with_link` meets its contract: 1 shifted to a link's place is its bit, and a number that is no link's changes nothing. Assumes nothing.
use mathlib.Core.Path.{sym, ap, ◌∙◌}
use Prim.Native.Nat.{ℕ}
use borrow.Author.Rules.{rules}
use lib.Bits.{bit_or}
use Rattle.laws.proofs.Bitwise.{shifted_one}
use Rattle.links.specs.Links.{link_count, links}
use Rattle.links.proofs.Sets.{with-is, with_none}
use Rattle.links.proofs.with_link.Goals as goal

pub returns-then-link-lt-COUNT : goal.returns-then-link-lt-COUNT
returns-then-link-lt-COUNT c =
    let a = c.args in
    ap (λ (bit : ℕ). links (bit_or a.links.set bit)) (shifted_one link_count a.link (search rules)) ∙ sym (with-is a.links a.link (search rules))

pub returns-else-link-lt-COUNT : goal.returns-else-link-lt-COUNT
returns-else-link-lt-COUNT c =
    sym (with_none c.args.links c.args.link (search rules))
