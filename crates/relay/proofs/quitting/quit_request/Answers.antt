-- `quit_request` meets its contract: each refusal is that of the first rule that applies. Assumes nothing.
use mathlib.Core.Path.{◌≡◌}
use Prim.Native.Nat.{min}
use native.Mathlib.Omega.{arith}
use lib.ListN.{length}
use borrow.Author.Rules.{rules}
use Rattle.std.proofs.lemmas.Result.{err_from_is_err_and}
use Rattle.laws.proofs.Lists.{unmapped}
use Rattle.message.specs.Grammar.{param_limit}
use Rattle.message.specs.Content.{Content}
use Rattle.message.specs.Parts.{content_by}
use Rattle.message.proofs.SpanContents.{params-count}
use Rattle.relay.proofs.Told.{told-ok, told-err}
use Rattle.relay.proofs.Quit.{quit-many, quit-unsourced, quit-passes}
use Rattle.relay.proofs.quitting.quit_request.Goals as goal

pub returns-then-m-gt1 : goal.returns-then-m-gt1
returns-then-m-gt1 c =
    let content : Content = content_by c.args.line.now c.args.m in
    let count : length content.params ≡ min c.args.m.count param_limit = params-count c.args.line.now c.args.m (search (rules, unmapped)) in
    rw (quit-many content (omega arith))

pub returns-in_err-user : goal.returns-in_err-user
returns-in_err-user c =
    let content : Content = content_by c.args.line.now c.args.m in
    let count : length content.params ≡ min c.args.m.count param_limit = params-count c.args.line.now c.args.m (search (rules, unmapped)) in
    let p = err_from_is_err_and c.from_residual.result c.from_residual.ensures.1 in
    let told = told-err _ _ _ _ c.in_err-user.ensures in
    rw (p.1, p.2, quit-unsourced content (omega arith) told.0, told.1)

pub returns : goal.returns
returns c =
    let content : Content = content_by c.args.line.now c.args.m in
    let count : length content.params ≡ min c.args.m.count param_limit = params-count c.args.line.now c.args.m (search (rules, unmapped)) in
    let told = told-ok _ _ _ _ c.in_ok-user.ensures in
    rw (quit-passes content (omega arith) told.0, told.1)
