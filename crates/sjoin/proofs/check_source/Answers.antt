-- `check_source` meets its contract: each return is the first rule of count and source that applies, after the tests that led there. Assumes nothing.
use Rattle.std.proofs.Common.{◌≡◌, ℕ, ◌≤◌, ◌<◌, true, false, List, length, arith, rules, ◌⊎◌, inl, inr}
use Rattle.refusal.specs.Numbers.{wrong_param_count}
use Rattle.refusal.specs.Rules.{first_of}
use Rattle.laws.proofs.Lists.{unmapped}
use Rattle.names.specs.Names.{is_server_id}
use Rattle.names.proofs.UserIds.{no-server-id}
use Rattle.message.specs.declared.Message.{Message}
use Rattle.message.specs.Grammar.{param_limit}
use Rattle.message.specs.Parts.{content_by}
use Rattle.message.proofs.SpanContents.{params-count}
use Rattle.message.proofs.Prefixes.{prefix-told}
use Rattle.sjoin.specs.Join.{fewest, most, good_count, source_rules}
use Rattle.sjoin.proofs.Judged.{few, many, counted, unsourced, sourced}
use Rattle.sjoin.proofs.check_source.Goals as goal

-- so many parameters are there
module _ (text : List ℕ) (m : Message) (full : length m.params ≡ param_limit) where
  uncounted : (m.count < fewest) ⊎ (most < m.count) → wrong_param_count ≡ first_of (source_rules (content_by text m))
  uncounted (inl h) = few (content_by text m) (omega (arith, params-count text m full))
  uncounted (inr h) = many (content_by text m) (omega (arith, params-count text m full))

  good : (fewest ≤ m.count) × (m.count ≤ most) → good_count (content_by text m) ≡ true
  good h = counted (content_by text m) (omega (arith, h, params-count text m full)) (omega (arith, h, params-count text m full))

pub returns-then-not-contains : goal.returns-then-not-contains
returns-then-not-contains c =
    let full : length c.args.m.params ≡ param_limit = search (rules, unmapped) in
    let h : (c.args.m.count < fewest) ⊎ (most < c.args.m.count) = search rules in
    uncounted c.args.text.now c.args.m full h

pub returns-then-not-is_server_id : goal.returns-then-not-is_server_id
returns-then-not-is_server_id c =
    let text = c.args.text.now in
    let full : length c.args.m.params ≡ param_limit = search (rules, unmapped) in
    let h : (fewest ≤ c.args.m.count) × (c.args.m.count ≤ most) = search rules in
    unsourced (content_by text c.args.m) (good text c.args.m full h) (prefix-told is_server_id no-server-id (content_by text c.args.m).prefix _ _ false c.prefix_in.ensures.bytes c.is_server_id.ensures c.if-not-is_server_id.true)

pub returns : goal.returns
returns c =
    let text = c.args.text.now in
    let full : length c.args.m.params ≡ param_limit = search (rules, unmapped) in
    let h : (fewest ≤ c.args.m.count) × (c.args.m.count ≤ most) = search rules in
    sourced (content_by text c.args.m) (good text c.args.m full h) (prefix-told is_server_id no-server-id (content_by text c.args.m).prefix _ _ true c.prefix_in.ensures.bytes c.is_server_id.ensures c.if-not-is_server_id.false)
