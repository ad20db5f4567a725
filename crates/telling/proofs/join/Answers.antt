-- `join` meets its contract: each refusal is the first rule that applies, and what is copied out is the written form. Assumes nothing.
use Rattle.std.proofs.Common.{◌≡◌, refl, ap, ◌∙◌, ◌≤◌, ◌<◌, length, arith}
use Rattle.refusal.specs.Numbers.{output_too_short, no_room}
use Rattle.refusal.specs.Rules.{first_of}
use Rattle.octets.specs.Pages.{Page, added}
use Rattle.octets.proofs.Pages.{text-fits, text-over}
use Rattle.channel.specs.Record.{decode}
use Rattle.message.specs.Grammar.{line_limit}
use Rattle.writer.specs.Form.{written}
use Rattle.writer.proofs.Answers.{answers-refused, answers-copied}
use Rattle.telling.specs.Telling.{list_text, join_message, tell_rules}
use Rattle.telling.proofs.Lines.{join_over, tell-short, tell-long, tell-accepts}
use Rattle.telling.proofs.join.Goals as goal

pub returns-then-out-lt-LINE_LIMIT : goal.returns-then-out-lt-LINE_LIMIT
returns-then-out-lt-LINE_LIMIT c =
    let a = c.args in
    let both = answers-refused (tell_rules a.source.now (decode a.r) a.out.now) (written (join_message a.source.now (decode a.r))) a.out.now output_too_short (tell-short a.source.now (decode a.r) a.out.now c.if-out-lt-LINE_LIMIT.true) (λ q. omega arith) _ refl in
    record { answer = both.0; output = both.1 }

pub returns-in_default : goal.returns-in_default
returns-in_default c =
    let a = c.args in
    let list = list_text (decode a.r).members in
    let over = text-over _ line_limit list (c.put_entries.ensures ∙ ap (λ (g : Page). added g list) c.new-list.ensures) c.in_default.ensures in
    let long = tell-long a.source.now (decode a.r) a.out.now c.if-out-lt-LINE_LIMIT.false (join_over a.source.now (decode a.r) line_limit over) in
    let both = answers-refused (tell_rules a.source.now (decode a.r) a.out.now) (written (join_message a.source.now (decode a.r))) a.out.now no_room long (λ q. omega arith) _ refl in
    record { answer = both.0; output = both.1 }

pub put_join-requires : goal.put_join-requires
put_join-requires c =
    (text-fits _ line_limit _ (c.put_entries.ensures ∙ ap (λ (g : Page). added g (list_text (decode c.args.r).members)) c.new-list.ensures) _ c.in-Some.ensures).0

pub returns : goal.returns
returns c =
    let a = c.args in
    let w = written (join_message a.source.now (decode a.r)) in
    let room : line_limit ≤ length a.out.now = c.if-out-lt-LINE_LIMIT.false in
    let long : line_limit < length w → first_of (tell_rules a.source.now (decode a.r) a.out.now) ≡ no_room = tell-long a.source.now (decode a.r) a.out.now room in
    let both = answers-copied (tell_rules a.source.now (decode a.r) a.out.now) w a.out.now line_limit long (λ h. long (omega arith)) (λ h k. tell-accepts a.source.now (decode a.r) a.out.now room h)
    _ (c.put_join.ensures ∙ ap (λ (g : Page). added g w) c.new-line.ensures) _ c.copy_to.ensures.length _ c.copy_to.ensures.output in
    record { answer = rw c.ok_or.ensures.value both.0; output = both.1 }
