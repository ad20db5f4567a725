-- `taking` meets its contract: what stands before the first SPACE is a number, or none. Assumes nothing.
use native.Mathlib.Omega.{arith}
use mathlib.Core.Path.{◌≡◌, refl}
use lib.ListN.{take}
use Rattle.std.proofs.Common.{Some, None}
use Rattle.std.proofs.lemmas.Grind.{common_steps}
use Rattle.octets.specs.Bytes.{space}
use Rattle.octets.proofs.Search.{before-within}
use Rattle.console.specs.Requests.{link_in}
use Rattle.console.proofs.Asking.{asks-end, asks-take}
use Rattle.console.proofs.requests.taking.Goals as goal

pub returns-then-end-input : goal.returns-then-end-input
returns-then-end-input c = asks-end c.args.input.now _ c.place_of-end.ensures c.if-end-input.true

pub slice_bounds-link_in-end : goal.slice_bounds-link_in-end
slice_bounds-link_in-end c =
    let within = before-within space c.args.input.now in
    grind (arith, common_steps, within)

pub overflow_add-result : goal.overflow_add-result
overflow_add-result c = omega (arith, before-within space c.args.input.now, c.place_of-end.ensures)

pub returns-in-Some : goal.returns-in-Some
returns-in-Some c =
    let text = take c.place_of-end.result c.args.input.now in
    let it = asks-take c.args.input.now _ c.place_of-end.ensures c.if-end-input.false text refl in
    let number : link_in text ≡ Some c.in-Some.link = grind (arith, common_steps) in
    rw number at it

pub returns-in-None : goal.returns-in-None
returns-in-None c =
    let text = take c.place_of-end.result c.args.input.now in
    let it = asks-take c.args.input.now _ c.place_of-end.ensures c.if-end-input.false text refl in
    let number : link_in text ≡ None = grind (arith, common_steps) in
    rw number at it
