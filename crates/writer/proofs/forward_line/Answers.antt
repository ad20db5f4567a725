-- `forward_line` meets its contract: the parts that the reader found are written, to which none of the writer's rules applies. Assumes nothing.
use mathlib.Core.Path.{refl, ap, ◌∙◌}
use mathlib.Core.List.{List}
use Prim.Native.Nat.{ℕ, ◌≤◌}
use native.Mathlib.Omega.{arith}
use lib.ListN.{length}
use Rattle.refusal.specs.Numbers.{output_too_short}
use Rattle.message.specs.Grammar.{line_limit}
use Rattle.message.specs.Reading.{number_for}
use Rattle.message.proofs.Readings.{parsed-read, parsed-refused, number-none, refused-number}
use Rattle.writer.specs.Writing.{forward_rules, forwarded}
use Rattle.writer.proofs.Rules.{forward-number, forward-short}
use Rattle.writer.proofs.Rounds.{read-forwards}
use Rattle.writer.proofs.Answers.{answers-refused, answers-same}
use Rattle.writer.proofs.forward_line.Goals as goal

pub returns-then-out-lt-LINE_LIMIT : goal.returns-then-out-lt-LINE_LIMIT
returns-then-out-lt-LINE_LIMIT c =
    let a = c.args in let both = answers-refused (forward_rules a.line.now a.out.now) _ _ output_too_short (forward-short a.line.now a.out.now c.if-out-lt-LINE_LIMIT.true) (λ q. omega arith) (record { number = output_too_short; len = 0 }) refl in record { answer = both.0; output = both.1 }

pub returns-in_default : goal.returns-in_default
returns-in_default c =
    let line : List ℕ = c.args.line.now in
    let out : List ℕ = c.args.out.now in
    let is = parsed-refused line c.unwrap_err.result (rw c.unwrap_err.ensures at c.parse-answer.ensures.parsed) in
    let both = answers-refused (forward_rules line out) (forwarded line) out (number_for line) (forward-number line out c.if-out-lt-LINE_LIMIT.false) (refused-number line is.0)
    _ (ap (λ (k : ℕ). record { number = k; len = 0 }) is.1) in
    record { answer = both.0; output = both.1 }

pub returns : goal.returns
returns c =
    let line : List ℕ = c.args.line.now in
    let out : List ℕ = c.args.out.now in
    let room : line_limit ≤ length out = c.if-out-lt-LINE_LIMIT.false in
    let is = parsed-read line _ c.in-Ok.ensures.parsed in
    let made = read-forwards line out c.in-Ok.m is.1 is.0 room in
    let both = answers-same _ (forward_rules line out) made.0 (forward-number line out room ∙ number-none line is.0) _ (forwarded line) out made.1 _ _
    (c.write_cased.ensures.answer, c.write_cased.ensures.output) in
    record { answer = both.0; output = both.1 }
