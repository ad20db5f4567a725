-- `has_member` meets its contract: one of the members passes the test of the id. Assumes nothing.
use mathlib.Core.Path.{ap, ◌∙◌}
use borrow.Author.Rules.{rules}
use borrow.Author.Tests.{tests}
use Rattle.std.proofs.lemmas.Iterator.{YieldsList-from_slice}
use Rattle.std.proofs.lemmas.Iterator.Search.{any_from_yields_List}
use Rattle.laws.specs.Lists.{same}
use Rattle.channel.specs.declared.Member.{Member}
use Rattle.channel.specs.Members.{has_member}
use Rattle.channel.proofs.Others.{has-listed}
use Rattle.channel.proofs.members.has_member.Goals as goal

pub returns : goal.returns
returns c =
    let id = c.args.id in
    any_from_yields_List (λ (m : Member). same id m.id) _ _ _ c.any.ensures.ran (YieldsList-from_slice c.members.result.now cc) (λ x b q k. search (rules, tests))
    ∙ has-listed id c.members.result.now ∙ ap (has_member id) c.members.ensures.list
