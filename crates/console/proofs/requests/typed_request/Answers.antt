-- `typed_request` meets its contract: whether the line is empty or `help` is told as the definition tells it. Assumes nothing.
use mathlib.Core.Path.{◌≡◌, ◌∙◌}
use lib.ListN.{length}
use Rattle.std.proofs.lemmas.Grind.{common_steps}
use Rattle.std.proofs.lemmas.Bool.Decides.{nat_tests}
use Rattle.std.proofs.Common.{arith}
use Rattle.console.proofs.Typing.{typed_nothing, typed-help, typed-other}
use Rattle.console.proofs.requests.typed_request.Goals as goal

pub returns-then-is_empty : goal.returns-then-is_empty
returns-then-is_empty c = typed_nothing c.args.input.now _ c.ended-text.ensures (grind (arith, nat_tests, common_steps))

pub returns-then-eq : goal.returns-then-eq
returns-then-eq c =
    let some : length c.ended-text.result.now ≡ 0 → ⊥ = grind (arith, nat_tests, common_steps) in
    typed-help c.args.input.now _ c.ended-text.ensures some c.eq.result (cc) c.if-eq.true

pub returns-else-eq : goal.returns-else-eq
returns-else-eq c =
    let some : length c.ended-text.result.now ≡ 0 → ⊥ = grind (arith, nat_tests, common_steps) in
    c.request_in.ensures ∙ typed-other c.args.input.now _ c.ended-text.ensures some c.eq.result (cc) c.if-eq.false
