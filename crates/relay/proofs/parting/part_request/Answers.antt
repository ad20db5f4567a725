-- `part_request` meets its contract: each refusal is that of the first rule that applies. Assumes nothing.
use mathlib.Core.Path.{◌≡◌, sym, ap, ◌∙◌}
use mathlib.Core.Bool.{true, false}
use Prim.Native.Nat.{◌≤◌, min}
use native.Mathlib.Omega.{arith}
use lib.ListN.{length}
use borrow.Author.Rules.{rules}
use Rattle.std.proofs.lemmas.Result.{err_from_is_err_and}
use Rattle.std.proofs.lemmas.Bool.Decides.{nat_tests}
use Rattle.std.proofs.lemmas.Grind.{common_steps}
use Rattle.laws.proofs.Lists.{unmapped}
use Rattle.names.specs.Names.{is_channel}
use Rattle.message.specs.Grammar.{param_limit}
use Rattle.message.specs.Content.{Content}
use Rattle.message.specs.Parts.{content_by}
use Rattle.message.proofs.SpanContents.{params-count}
use Rattle.relay.specs.Part.{parted_in}
use Rattle.relay.proofs.Told.{told-ok, told-err}
use Rattle.relay.proofs.Part.{part-miscounted, part-unsourced, part-unnamed, part-passes}
use Rattle.relay.proofs.parting.part_request.Goals as goal

pub returns-then-not-contains : goal.returns-then-not-contains
returns-then-not-contains c =
    let content : Content = content_by c.args.line.now c.args.m in
    let count : length content.params ≡ min c.args.m.count param_limit = params-count c.args.line.now c.args.m (search (rules, unmapped)) in
    let value = c.contains.ensures.value in
    rw (part-miscounted content (λ h k. grind (arith, nat_tests, common_steps)))

pub returns-in_err-user : goal.returns-in_err-user
returns-in_err-user c =
    let content : Content = content_by c.args.line.now c.args.m in
    let count : length content.params ≡ min c.args.m.count param_limit = params-count c.args.line.now c.args.m (search (rules, unmapped)) in
    let cases = c.if-not-contains.ensures.cases in
    let few : 1 ≤ c.args.m.count = grind (arith, common_steps) in
    let many : c.args.m.count ≤ 2 = grind (arith, common_steps) in
    let p = err_from_is_err_and c.from_residual.result c.from_residual.ensures.1 in
    let told = told-err _ _ _ _ c.in_err-user.ensures in
    rw (p.1, p.2, part-unsourced content (omega arith) (omega arith) told.0, told.1)

pub returns-then-not-is_channel : goal.returns-then-not-is_channel
returns-then-not-is_channel c =
    let content : Content = content_by c.args.line.now c.args.m in
    let count : length content.params ≡ min c.args.m.count param_limit = params-count c.args.line.now c.args.m (search (rules, unmapped)) in
    let cases = c.if-not-contains.ensures.cases in
    let few : 1 ≤ c.args.m.count = grind (arith, common_steps) in
    let many : c.args.m.count ≤ 2 = grind (arith, common_steps) in
    let told = told-ok _ _ _ _ c.in_ok-user.ensures in
    let named : is_channel (parted_in content) ≡ false = ap is_channel (sym c.param_in.ensures.bytes) ∙ sym c.is_channel.ensures ∙ c.if-not-is_channel.true in
    rw (part-unnamed content (omega arith) (omega arith) told.0 named)

pub returns : goal.returns
returns c =
    let content : Content = content_by c.args.line.now c.args.m in
    let count : length content.params ≡ min c.args.m.count param_limit = params-count c.args.line.now c.args.m (search (rules, unmapped)) in
    let cases = c.if-not-contains.ensures.cases in
    let few : 1 ≤ c.args.m.count = grind (arith, common_steps) in
    let many : c.args.m.count ≤ 2 = grind (arith, common_steps) in
    let told = told-ok _ _ _ _ c.in_ok-user.ensures in
    let named : is_channel (parted_in content) ≡ true = ap is_channel (sym c.param_in.ensures.bytes) ∙ sym c.is_channel.ensures ∙ c.if-not-is_channel.false in
    rw (part-passes content (omega arith) (omega arith) told.0 named, told.1)
