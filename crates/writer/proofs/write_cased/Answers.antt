-- `write_cased` meets its contract: each refusal is the first rule that applies, and what is copied out is the written form. Assumes nothing.
use Rattle.std.proofs.Common.{◌≡◌, refl, sym, ap, ◌∙◌, ◌≤◌, ◌<◌, length, arith}
use Rattle.refusal.specs.Numbers.{output_too_short, unwritable, no_room}
use Rattle.refusal.specs.Rules.{first_of}
use Rattle.octets.specs.Pages.{Page, added}
use Rattle.message.specs.Grammar.{line_limit}
use Rattle.message.specs.Parts.{content_by}
use Rattle.writer.specs.Form.{written}
use Rattle.writer.specs.Writing.{write_rules}
use Rattle.writer.specs.Private.Fit.{cased}
use Rattle.writer.proofs.Rules.{write-short, write-unfit, write-long, write-accepts}
use Rattle.writer.proofs.Answers.{answers-refused, answers-copied, cased-length, fit_count}
use Rattle.writer.proofs.write_cased.Goals as goal

pub returns-then-out-lt-LINE_LIMIT : goal.returns-then-out-lt-LINE_LIMIT
returns-then-out-lt-LINE_LIMIT c =
    let a = c.args in
    let both = answers-refused (write_rules a.text.now a.m a.out.now) (written (cased a.capitals (content_by a.text.now a.m))) a.out.now output_too_short (write-short a.text.now a.m a.out.now c.if-out-lt-LINE_LIMIT.true) (λ q. omega arith) _ refl in
    record { answer = both.0; output = both.1 }

pub returns-then-not-fit : goal.returns-then-not-fit
returns-then-not-fit c =
    let a = c.args in
    let both = answers-refused (write_rules a.text.now a.m a.out.now) (written (cased a.capitals (content_by a.text.now a.m))) a.out.now unwritable
    (write-unfit a.text.now a.m a.out.now c.if-out-lt-LINE_LIMIT.false (sym c.fit.ensures ∙ c.if-not-fit.true)) (λ q. omega arith) _ refl in
    record { answer = both.0; output = both.1 }

pub put_message-requires : goal.put_message-requires
put_message-requires c = fit_count c.args.text.now c.args.m (sym c.fit.ensures ∙ c.if-not-fit.false)

pub returns : goal.returns
returns c =
    let a = c.args in
    let room : line_limit ≤ length a.out.now = c.if-out-lt-LINE_LIMIT.false in
    let ok = sym c.fit.ensures ∙ c.if-not-fit.false in
    let w = written (cased a.capitals (content_by a.text.now a.m)) in
    let sized : length w ≡ length (written (content_by a.text.now a.m)) = cased-length a.capitals (content_by a.text.now a.m) in
    let long : line_limit < length w → first_of (write_rules a.text.now a.m a.out.now) ≡ no_room = λ h. write-long a.text.now a.m a.out.now room ok (omega arith) in
    let both = answers-copied (write_rules a.text.now a.m a.out.now) w a.out.now line_limit long (λ h. long (omega arith)) (λ h k. write-accepts a.text.now a.m a.out.now room ok (omega arith))
    _ (c.put_message.ensures ∙ ap (λ (g : Page). added g w) c.new-line.ensures) _ c.copy_to.ensures.length _ c.copy_to.ensures.output in
    record { answer = rw c.ok_or.ensures.value both.0; output = both.1 }
