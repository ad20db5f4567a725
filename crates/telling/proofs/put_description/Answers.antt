-- `put_description` meets its contract: every part of a record has its limit. Assumes nothing.
use Rattle.std.proofs.Common.{◌≡◌, refl, ◌≤◌, length, length-take, arith}
use Rattle.std.proofs.lemmas.List.{map-id}
use borrow.Author.Rules.{rules}
use Rattle.laws.proofs.Elements.{each_at}
use Rattle.laws.proofs.Lists.{unmapped}
use Rattle.names.specs.Names.{name_limit, user_id_length}
use Rattle.channel.specs.declared.Member.{Member}
use Rattle.channel.specs.Limits.{member_limit, key_limit}
use Rattle.channel.specs.Record.{decode}
use Rattle.channel.specs.contracts.Member as of-member
use Rattle.telling.specs.Telling.{described, description_limit}
use Rattle.telling.proofs.Described.{Whole, whole_take, described-few}
use Rattle.telling.proofs.put_description.Goals as goal

pub returns-clause-limit : goal.returns-clause-limit
unfolding decode
returns-clause-limit c =
    let r = c.args.r in
    let whole : Whole r.members =
    λ k d h. each_at (of-member.the_row).own_val (λ (m : Member). m) (λ (m : Member). length m.id ≡ user_id_length) (λ x u s. s.1.1.0.1.0.1)
    r.members c.well_formed.1.0.1.1.1.1.1.1.1.1.1.0.0 (rw map-id c.well_formed.1.0.1.1.1.1.1.1.1.1.1.0.1.1) k d h in
    let name : length r.name ≡ name_limit = search (rules, unmapped) in
    let key : length r.key ≡ key_limit = search (rules, unmapped) in
    let members : length r.members ≡ member_limit = search (rules, unmapped) in
    let small : length (described (decode r)) ≤ description_limit =
    described-few (decode r) (search rules) (omega (arith, length-take r.name_len r.name)) (omega (arith, length-take r.key_len r.key)) (search rules)
    (omega (arith, length-take r.count r.members)) (whole_take r.count r.members whole) in
    (small, refl)
