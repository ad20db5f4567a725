-- `message_in` meets its contract: prefix and command are found where the definition has them. Assumes nothing.
use Rattle.std.proofs.Common.{◌≡◌, sym, ap, ◌∙◌, ℕ, ◌≤◌, List, true, length}
use Rattle.octets.specs.Bytes.{colon}
use Rattle.message.specs.declared.Message.{Message}
use Rattle.message.specs.Grammar.{has_prefix}
use Rattle.message.specs.Parts.{span, blank}
use Rattle.message.specs.Private.Scan.{from_command}
use Rattle.message.proofs.Runs.{start-in, stop-in}
use Rattle.message.proofs.Places.{prefix-long}
use Rattle.message.proofs.Gathered.{found-prefixed, found-bare, begins-as}
use Rattle.message.proofs.scan.message_in.Goals as goal

pub from_command-requires-clause-none : goal.from_command-requires-clause-none
unfolding blank
from_command-requires-clause-none c = ap (λ (m : Message). m.count) c.blank-blank.ensures

pub returns-then-not-starts_with : goal.returns-then-not-starts_with
unfolding blank
returns-then-not-starts_with c =
    let body : List ℕ = c.args.body.now in
    found-bare body c.args.end c.from_command.result (sym (begins-as colon body) ∙ sym c.starts_with.ensures.value ∙ c.if-not-starts_with.true)
    (c.from_command.ensures ∙ ap (from_command body 0) c.blank-blank.ensures)

pub word_end-stop-requires : goal.word_end-stop-requires
word_end-stop-requires c = prefix-long c.args.body.now (sym (begins-as colon c.args.body.now) ∙ sym c.starts_with.ensures.value ∙ c.if-not-starts_with.false)

pub spaces_end-requires : goal.spaces_end-requires
spaces_end-requires c =
    let body : List ℕ = c.args.body.now in
    let has : has_prefix body ≡ true = sym (begins-as colon body) ∙ sym c.starts_with.ensures.value ∙ c.if-not-starts_with.false in
    stop-in body 1 c.word_end-stop.result (prefix-long body has) c.word_end-stop.ensures

pub from_command-requires-2-clause-at : goal.from_command-requires-2-clause-at
from_command-requires-2-clause-at c =
    let body : List ℕ = c.args.body.now in
    let has : has_prefix body ≡ true = sym (begins-as colon body) ∙ sym c.starts_with.ensures.value ∙ c.if-not-starts_with.false in
    let within : c.word_end-stop.result ≤ length body = stop-in body 1 c.word_end-stop.result (prefix-long body has) c.word_end-stop.ensures in
    start-in body c.word_end-stop.result c.spaces_end.result within c.spaces_end.ensures

pub from_command-requires-2-clause-none : goal.from_command-requires-2-clause-none
unfolding blank
from_command-requires-2-clause-none c = ap (λ (m : Message). m.count) c.blank-blank.ensures

pub returns : goal.returns
unfolding blank
returns c =
    let body : List ℕ = c.args.body.now in
    let has : has_prefix body ≡ true = sym (begins-as colon body) ∙ sym c.starts_with.ensures.value ∙ c.if-not-starts_with.false in
    found-prefixed body c.args.end c.from_command-2.result has c.word_end-stop.result c.spaces_end.result c.word_end-stop.ensures c.spaces_end.ensures
    (c.from_command-2.ensures ∙ ap (λ (m : Message). from_command body c.spaces_end.result (record m { has_prefix = true; prefix = span 1 c.word_end-stop.result })) c.blank-blank.ensures)
