-- `rest` and `middle` meet their contracts together: each return is a law of `Runs` at what the tests before it showed. Assumes nothing.
use Rattle.std.proofs.Common.{◌≡◌, ap, ◌+◌, ◌≤◌, length, arith}
use Rattle.message.specs.declared.Message.{Message}
use Rattle.message.specs.Private.Scan.{with_param}
use Rattle.message.proofs.Runs.{start-in, stop-in, middle-stops, middle-goes, rest-nothing, rest-trailing, rest-last, rest_goes}
use Rattle.message.proofs.scan.+middle_rest.Goals as goal

pub middle-returns-then-stop-body : goal.middle-returns-then-stop-body
middle-returns-then-stop-body t c =
    let a = c.args in
    middle-stops a.body.now a.m a.start a.at c.word_end-stop.result c.requires.0 c.word_end-stop.ensures c.with_param-next.result c.with_param-next.ensures c.if-stop-body.true

pub middle-overflow_add-stop : goal.middle-overflow_add-stop
middle-overflow_add-stop t c =
    omega (arith, stop-in c.args.body.now c.args.at c.word_end-stop.result c.requires.0 c.word_end-stop.ensures)

pub middle-rest-requires : goal.middle-rest-requires
unfolding with_param
middle-rest-requires t c =
    let a = c.args in
    let h : c.word_end-stop.result ≤ length a.body.now = stop-in a.body.now a.at c.word_end-stop.result c.requires.0 c.word_end-stop.ensures in
    let n : c.with_param-next.result.count ≡ a.m.count + 1 = ap (λ (x : Message). x.count) c.with_param-next.ensures in
    omega arith

pub middle-returns : goal.middle-returns
middle-returns t c =
    let a = c.args in
    middle-goes a.body.now a.m a.start a.at c.word_end-stop.result c.requires.0 c.word_end-stop.ensures c.with_param-next.result c.rest.result c.with_param-next.ensures c.rest.ensures c.if-stop-body.false

pub rest-returns-then-start-body : goal.rest-returns-then-start-body
rest-returns-then-start-body t c =
    let a = c.args in
    rest-nothing a.body.now a.m a.at c.spaces_end-start.result c.requires.0 c.spaces_end-start.ensures c.if-start-body.true

pub rest-bounds-body-start : goal.rest-bounds-body-start
rest-bounds-body-start t c =
    omega (arith, start-in c.args.body.now c.args.at c.spaces_end-start.result c.requires.0 c.spaces_end-start.ensures)

pub rest-returns-then-body-start-eq58 : goal.rest-returns-then-body-start-eq58
rest-returns-then-body-start-eq58 t c =
    let a = c.args in
    rest-trailing a.body.now a.m a.at c.spaces_end-start.result c.requires.0 c.spaces_end-start.ensures c.with_param.result c.with_param.ensures c.if-start-body.false c.if-body-start-eq58.true

pub rest-returns-then-m-eq-MIDDLE_LIMIT : goal.rest-returns-then-m-eq-MIDDLE_LIMIT
rest-returns-then-m-eq-MIDDLE_LIMIT t c =
    let a = c.args in
    rest-last a.body.now a.m a.at c.spaces_end-start.result c.requires.0 c.spaces_end-start.ensures c.with_param-then-m-eq-MIDDLE_LIMIT.result c.with_param-then-m-eq-MIDDLE_LIMIT.ensures c.if-start-body.false c.if-body-start-eq58.false c.if-m-eq-MIDDLE_LIMIT.true

pub rest-overflow_add-start-2 : goal.rest-overflow_add-start-2
rest-overflow_add-start-2 t c =
    omega (arith, start-in c.args.body.now c.args.at c.spaces_end-start.result c.requires.0 c.spaces_end-start.ensures)

pub rest-middle-requires : goal.rest-middle-requires
rest-middle-requires t c =
    omega (arith, start-in c.args.body.now c.args.at c.spaces_end-start.result c.requires.0 c.spaces_end-start.ensures)

pub rest-returns : goal.rest-returns
rest-returns t c =
    let a = c.args in
    rest_goes a.body.now a.m a.at c.spaces_end-start.result c.requires.0 c.spaces_end-start.ensures c.middle.result c.middle.ensures c.if-start-body.false c.if-body-start-eq58.false c.if-m-eq-MIDDLE_LIMIT.false
