-- `bare` meets its contract: each member is the one in its place, without status. Assumes nothing.
use mathlib.Core.Path.{◌≡◌, sym, ◌∙◌}
use mathlib.Core.List.{map}
use native.Mathlib.Omega.{arith}
use lib.ListN.{length, get_or, length-map}
use borrow.Author.Rules.{rules}
use Rattle.std.proofs.lemmas.List.{same_lists, get_or-map}
use Rattle.laws.proofs.Lists.{unmapped}
use Rattle.channel.specs.Limits.{member_limit}
use Rattle.channel.specs.Channel.{member}
use Rattle.channel.specs.Standing.{bare}
use Rattle.relay.proofs.joining.bare.Goals as goal

pub returns : goal.returns
unfolding bare
returns c =
    let m = c.args.members in
    let long : length m ≡ member_limit = search (rules, unmapped) in
    same_lists c.map.result (map (λ x. member x.id 0) m) (c.map.ensures.items.long ∙ sym (length-map m (λ x. member x.id 0) ∙ long))
    (λ k d h. let e = c.map.ensures.items.at k d d (omega (arith, h, c.map.ensures.items.long)) in
    let same : get_or c.map.result k d ≡ member (get_or m k d).id 0 = search rules in
    same ∙ sym (get_or-map (λ x. member x.id 0) m k d d (omega (arith, h, c.map.ensures.items.long, long))))
