-- `is_well_formed` meets its contract: its tests are the definition's, in another order. Assumes nothing.
use native.Mathlib.Omega.{arith}
use borrow.Author.Rules.{rules}
use Rattle.std.proofs.lemmas.Grind.{common_steps}
use Rattle.std.proofs.lemmas.Bool.Decides.{nat_tests}
use Rattle.laws.specs.Lists.{all}
use Rattle.laws.proofs.Lists.{unmapped}
use Rattle.channel.specs.Record.{decode}
use Rattle.channel.proofs.Judging.{well-tests}
use Rattle.channel.proofs.is_well_formed.Goals as goal

pub returns-then-are_vacant : goal.returns-then-are_vacant
unfolding all decode
returns-then-are_vacant c =
    rw (well-tests c.args.r.now (search (rules, unmapped)))
    (grind (arith, nat_tests, common_steps))

pub returns-else-are_vacant : goal.returns-else-are_vacant
unfolding all decode
returns-else-are_vacant c =
    rw (well-tests c.args.r.now (search (rules, unmapped)))
    (grind (arith, nat_tests, common_steps))
