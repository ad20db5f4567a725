-- `requested` meets its contract: each command asks by its own function. Assumes nothing.
use mathlib.Core.Path.{◌≡◌, refl, sym, ◌∙◌}
use mathlib.Core.Bool.{Bool, true, false, false≢true}
use Rattle.std.proofs.lemmas.Result.{err_from_is_err_and}
use Rattle.refusal.proofs.Rules.{first_plain}
use Rattle.message.specs.Content.{Content}
use Rattle.message.specs.Parts.{content_by}
use Rattle.bmask.specs.Masks.{bmask_rules}
use Rattle.bmask.proofs.Rules.{rules-plain}
use Rattle.relay.specs.Commands.{Part, Quit, Bmask}
use Rattle.relay.specs.Part.{part_rules}
use Rattle.relay.specs.Quit.{quit_rules}
use Rattle.relay.proofs.Words.{word-join, word-part, word-quit, word-mask, word-unknown}
use Rattle.relay.proofs.Asking.{asked-ok, asked-err, asked-unknown}
use Rattle.relay.proofs.requests.requested.Goals as goal

pub returns-in_err-part_request : goal.returns-in_err-part_request
unfolding part_rules
returns-in_err-part_request c =
    let p = err_from_is_err_and c.from_residual.result c.from_residual.ensures.1 in
    let word = c.command_in-word.ensures.bytes in
    let is = c.eq_ignore_ascii_case-else-eq_ignore_ascii_case.ensures.test.0 c.if-eq_ignore_ascii_case-2.true in
    rw (p.1, p.2, ← word, word-part c.command_in-word.result.now is) (asked-err Part c.args.line.now c.args.m (first_plain (part_rules (content_by c.args.line.now c.args.m)) refl) _ c.in_err-part_request.ensures)

pub returns-then-eq_ignore_ascii_case : goal.returns-then-eq_ignore_ascii_case
returns-then-eq_ignore_ascii_case c =
    let word = c.command_in-word.ensures.bytes in
    let is = c.eq_ignore_ascii_case.ensures.test.0 c.if-eq_ignore_ascii_case.true in
    rw (← word, word-join c.command_in-word.result.now is) c.join_request.ensures

pub returns-in_ok-part_request : goal.returns-in_ok-part_request
returns-in_ok-part_request c =
    let word = c.command_in-word.ensures.bytes in
    let is = c.eq_ignore_ascii_case-else-eq_ignore_ascii_case.ensures.test.0 c.if-eq_ignore_ascii_case-2.true in
    rw (← word, word-part c.command_in-word.result.now is) (asked-ok Part c.args.line.now c.args.m _ c.in_ok-part_request.ensures)

pub returns-in_err-quit_request : goal.returns-in_err-quit_request
unfolding quit_rules
returns-in_err-quit_request c =
    let p = err_from_is_err_and c.from_residual-in_err-quit_request.result c.from_residual-in_err-quit_request.ensures.1 in
    let word = c.command_in-word.ensures.bytes in
    let is = c.eq_ignore_ascii_case-else-eq_ignore_ascii_case-2.ensures.test.0 c.if-eq_ignore_ascii_case-3.true in
    rw (p.1, p.2, ← word, word-quit c.command_in-word.result.now is) (asked-err Quit c.args.line.now c.args.m (first_plain (quit_rules (content_by c.args.line.now c.args.m)) refl) _ c.in_err-quit_request.ensures)

pub returns-in_ok-quit_request : goal.returns-in_ok-quit_request
returns-in_ok-quit_request c =
    let word = c.command_in-word.ensures.bytes in
    let is = c.eq_ignore_ascii_case-else-eq_ignore_ascii_case-2.ensures.test.0 c.if-eq_ignore_ascii_case-3.true in
    rw (← word, word-quit c.command_in-word.result.now is) (asked-ok Quit c.args.line.now c.args.m _ c.in_ok-quit_request.ensures)

pub returns-in_err-mask_request : goal.returns-in_err-mask_request
returns-in_err-mask_request c =
    let p = err_from_is_err_and c.from_residual-in_err-mask_request.result c.from_residual-in_err-mask_request.ensures.1 in
    let content : Content = content_by c.args.line.now c.args.m in
    let word = c.command_in-word.ensures.bytes in
    let is = c.eq_ignore_ascii_case-else-eq_ignore_ascii_case-3.ensures.test.0 c.if-eq_ignore_ascii_case-4.true in
    rw (p.1, p.2, ← word, word-mask c.command_in-word.result.now is) (asked-err Bmask c.args.line.now c.args.m (first_plain (bmask_rules content) (rules-plain content)) _ c.in_err-mask_request.ensures)

pub returns-in_ok-mask_request : goal.returns-in_ok-mask_request
returns-in_ok-mask_request c =
    let word = c.command_in-word.ensures.bytes in
    let is = c.eq_ignore_ascii_case-else-eq_ignore_ascii_case-3.ensures.test.0 c.if-eq_ignore_ascii_case-4.true in
    rw (← word, word-mask c.command_in-word.result.now is) (asked-ok Bmask c.args.line.now c.args.m _ c.in_ok-mask_request.ensures)

pub returns-else-eq_ignore_ascii_case-4 : goal.returns-else-eq_ignore_ascii_case-4
returns-else-eq_ignore_ascii_case-4 c =
    let word = c.command_in-word.ensures.bytes in
    let other : (x : Bool) (P : Type 0) → x ≡ false → (P → x ≡ true) → P → ⊥ = λ x P e f z. false≢true (sym e ∙ f z) in
    rw (
      c.into.ensures,
      ← word,
      word-unknown c.command_in-word.result.now (other _ _ c.if-eq_ignore_ascii_case.false c.eq_ignore_ascii_case.ensures.test.1)
          (other _ _ c.if-eq_ignore_ascii_case-2.false c.eq_ignore_ascii_case-else-eq_ignore_ascii_case.ensures.test.1)
          (other _ _ c.if-eq_ignore_ascii_case-3.false c.eq_ignore_ascii_case-else-eq_ignore_ascii_case-2.ensures.test.1)
          (other _ _ c.if-eq_ignore_ascii_case-4.false c.eq_ignore_ascii_case-else-eq_ignore_ascii_case-3.ensures.test.1),
    ) (asked-unknown c.args.line.now c.args.m)
