-- `parse_body` meets its contract: each return is a law of `Readings` at what the tests before it showed. Assumes nothing.
use Rattle.std.proofs.Common.{◌≡◌, sym, ap, ◌∙◌, ℕ, List, false, ◌&&◌, eqb}
use Rattle.refusal.specs.declared.Refusal.TheVariants.{EmptyPrefix, BadCommand}
use Rattle.message.specs.Grammar.{command, is_command}
use Rattle.message.specs.Parts.{content_by}
use Rattle.message.proofs.Readings.{command-in, body-empty-prefix, body-no-command, body_reads, body_refused}
use Rattle.message.proofs.parse_body.Goals as goal

pub returns-then-has_empty_prefix : goal.returns-then-has_empty_prefix
returns-then-has_empty_prefix c =
    let m = c.message_in-message in
    body_refused c.args.body.now c.args.n EmptyPrefix (body-empty-prefix c.args.body.now _ m.result m.ensures (sym c.has_empty_prefix.ensures ∙ c.if-has_empty_prefix.true))

pub returns-then-not-is_command : goal.returns-then-not-is_command
unfolding content_by
returns-then-not-is_command c =
    let m = c.message_in-message in
    let body : List ℕ = c.args.body.now in
    let full : (m.result.has_prefix && eqb m.result.prefix.start m.result.prefix.end) ≡ false = sym c.has_empty_prefix.ensures ∙ c.if-has_empty_prefix.false in
    let tested : is_command (command body) ≡ c.is_command.result =
    ap is_command (sym (command-in body c.args.n m.result m.ensures).same ∙ sym c.command_in.ensures.bytes) ∙ sym c.is_command.ensures in
    body_refused body c.args.n BadCommand (body-no-command body _ m.result m.ensures full (tested ∙ c.if-not-is_command.true))

pub returns : goal.returns
unfolding content_by
returns c =
    let m = c.message_in-message in
    let body : List ℕ = c.args.body.now in
    let full : (m.result.has_prefix && eqb m.result.prefix.start m.result.prefix.end) ≡ false = sym c.has_empty_prefix.ensures ∙ c.if-has_empty_prefix.false in
    let tested : is_command (command body) ≡ c.is_command.result =
    ap is_command (sym (command-in body c.args.n m.result m.ensures).same ∙ sym c.command_in.ensures.bytes) ∙ sym c.is_command.ensures in
    body_reads body _ m.result m.ensures full (tested ∙ c.if-not-is_command.false)
