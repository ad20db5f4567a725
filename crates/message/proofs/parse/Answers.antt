-- `parse` meets its contract: each return is a law of `Readings` at what the tests before it showed. Assumes nothing.
use Rattle.std.proofs.Common.{◌≡◌, sym, ◌∙◌, List, ℕ, Err, length, rules, tests, arith}
use Rattle.refusal.specs.declared.Refusal.TheVariants.{LineTooLong, NoLineEnd, ForbiddenByte, EmptyLine}
use Rattle.message.specs.Reading.{body_of}
use Rattle.message.proofs.Readings.{ends-as, answer-number, answer-count, parses-refused, parses-body, number-long, number-unended, number-control, number-empty, number-body}
use Rattle.message.proofs.parse.Goals as goal

pub returns-then-line-gt-LINE_LIMIT : goal.returns-then-line-gt-LINE_LIMIT
returns-then-line-gt-LINE_LIMIT c =
    let line : List ℕ = c.args.line.now in
    let is = parses-refused line LineTooLong (number-long line c.if-line-gt-LINE_LIMIT.true) in
    record { parsed = is; number = answer-number line (Err LineTooLong) is; count = answer-count line (Err LineTooLong) is }

pub returns-in_default : goal.returns-in_default
returns-in_default c =
    let line : List ℕ = c.args.line.now in
    let is = parses-refused line NoLineEnd (number-unended line c.if-line-gt-LINE_LIMIT.false (sym (ends-as line) ∙ c.in_default.ensures.cases)) in
    record { parsed = is; number = answer-number line (Err NoLineEnd) is; count = answer-count line (Err NoLineEnd) is }

pub returns-then-not-all_in : goal.returns-then-not-all_in
unfolding body_of
returns-then-not-all_in c =
    let line : List ℕ = c.args.line.now in
    let found = c.in-Some.ensures.cases in
    let is = parses-refused line ForbiddenByte
    (number-control line c.if-line-gt-LINE_LIMIT.false (sym (ends-as line) ∙ found.0) _ found.1 (sym c.all_in.ensures ∙ c.if-not-all_in.true)) in
    record { parsed = is; number = answer-number line (Err ForbiddenByte) is; count = answer-count line (Err ForbiddenByte) is }

pub returns-then-is_empty : goal.returns-then-is_empty
unfolding body_of
returns-then-is_empty c =
    let line : List ℕ = c.args.line.now in
    let found = c.in-Some.ensures.cases in
    let none : length c.in-Some.body.now ≡ 0 = search (rules, tests) in
    let two : length line ≡ 2 = omega (arith, found.2) in
    let is = parses-refused line EmptyLine
    (number-empty line c.if-line-gt-LINE_LIMIT.false (sym (ends-as line) ∙ found.0) _ found.1 (sym c.all_in.ensures ∙ c.if-not-all_in.false) two) in
    record { parsed = is; number = answer-number line (Err EmptyLine) is; count = answer-count line (Err EmptyLine) is }

pub returns : goal.returns
unfolding body_of
returns c =
    let line : List ℕ = c.args.line.now in
    let found = c.in-Some.ensures.cases in
    let some : length c.in-Some.body.now ≡ 0 → ⊥ = search (rules, tests) in
    let more : length line ≡ 2 → ⊥ = λ e. some (omega (arith, found.2, e)) in
    let is = parses-body line c.parse_body.result _ found.1
    (number-body line c.if-line-gt-LINE_LIMIT.false (sym (ends-as line) ∙ found.0) _ found.1 (sym c.all_in.ensures ∙ c.if-not-all_in.false) more) c.parse_body.ensures in
    record { parsed = is; number = answer-number line c.parse_body.result is; count = answer-count line c.parse_body.result is }
