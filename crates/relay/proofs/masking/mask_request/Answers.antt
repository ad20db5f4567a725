-- `mask_request` meets its contract: a BMASK is refused by its own rules, or asks for its masks, with their time. Assumes nothing.
use mathlib.Core.Path.{◌≡◌, sym, ap, ◌∙◌}
use borrow.Author.Tests.{ne_eqb}
use Rattle.std.proofs.lemmas.Result.{err_from_is_err_and}
use Rattle.refusal.specs.Numbers.{accepted}
use Rattle.refusal.specs.Refusals.{number_of}
use Rattle.refusal.specs.Rules.{first_of}
use Rattle.octets.specs.Decimals.{value_of}
use Rattle.message.specs.Content.{Content}
use Rattle.message.specs.Parts.{content_by}
use Rattle.sjoin.specs.Join.{time_in}
use Rattle.bmask.specs.Masks.{Listing, bmask_rules, listing_in}
use Rattle.refusal.proofs.Refusals.{number-given}
use Rattle.relay.proofs.masking.mask_request.Goals as goal

pub returns-in_err-time : goal.returns-in_err-time
unfolding listing_in
returns-in_err-time c =
    let content : Content = content_by c.args.line.now c.args.m in
    let p = err_from_is_err_and c.from_residual.result c.from_residual.ensures.1 in
    let e = c.in_err-time.field-0.0 in
    let number : first_of (bmask_rules content) ≡ number_of e = sym (ap (λ (l : Listing). l.number) c.in_err-time.ensures) in
    rw (p.1, p.2, number, ne_eqb _ accepted (number-given e))

pub returns : goal.returns
unfolding listing_in
returns c =
    let content : Content = content_by c.args.line.now c.args.m in
    let number : first_of (bmask_rules content) ≡ accepted = sym (ap (λ (l : Listing). l.number) c.in_ok-time.ensures) in
    let time : c.in_ok-time.time ≡ value_of (time_in content) = ap (λ (l : Listing). l.time) c.in_ok-time.ensures ∙ rw number in
    rw (number, time)
