-- `take` meets its contract: a refusal is that of the first rule that applies, or the change that the line is judged to be is made. Assumes nothing.
use mathlib.Core.Path.{sym, ap, ◌∙◌}
use mathlib.Core.Bool.{Bool}
use mathlib.Core.List.{List}
use Prim.Native.Nat.{ℕ}
use lib.ListN.{length}
use Rattle.std.proofs.lemmas.Result.{err_from_is_err_and}
use Rattle.refusal.specs.Rules.{first_of}
use Rattle.octets.specs.Room.{front}
use Rattle.message.specs.declared.Message.{Message}
use Rattle.message.specs.Content.{Content}
use Rattle.message.specs.Parts.{content_by}
use Rattle.message.proofs.Readings.{read_small}
use Rattle.message.proofs.SpanContents.{message-holds}
use Rattle.table.specs.Network.{Table, network_of, table_with}
use Rattle.relay.specs.Arrival.{arrival}
use Rattle.relay.specs.Relay.{entry_rules}
use Rattle.relay.specs.Private.Acting.{head_with, done_by, written_by}
use Rattle.relay.specs.Private.Commands.{settled_in}
use Rattle.relay.proofs.Deciding.{read-line, message-is, parts-ask, entry-refused, reader-refused, request-refused, change-refused, change-inside, change-made}
use Rattle.relay.proofs.take.Goals as goal

pub returns-in_err-entry : goal.returns-in_err-entry
returns-in_err-entry c =
    let a = c.args in
    let p = err_from_is_err_and c.from_residual.result c.from_residual.ensures.1 in
    let is = c.in_err-entry.ensures ∙ ap (λ (g : Bool). first_of (entry_rules g (length a.out.now) a.t.now.links a.link)) c.is_well_formed-good.ensures in
    let r = entry-refused (table_with a.t.now a.bans.now) (arrival a.link a.line.now) a.out.now _ is in record { answer = rw (p.1, p.2) r.answer; lists = r.lists; output = r.output }

pub returns-in_default : goal.returns-in_default
returns-in_default c =
    let a = c.args in
    let passes = ap (λ (g : Bool). first_of (entry_rules g (length a.out.now) a.t.now.links a.link)) (sym c.is_well_formed-good.ensures) ∙ sym c.in_ok-entry.ensures in
    let r = reader-refused (table_with a.t.now a.bans.now) (arrival a.link a.line.now) a.out.now passes _ (rw c.unwrap_err.ensures at c.parse-answer.ensures.number) in
    record { answer = rw c.into.ensures r.answer; lists = r.lists; output = r.output }

pub requested-requires : goal.requested-requires
requested-requires c =
    read_small c.args.line.now (read-line c.args.line.now c.in-Ok.ensures.number)

pub returns-in_err-request : goal.returns-in_err-request
returns-in_err-request c =
    let a = c.args in
    let p = err_from_is_err_and c.from_residual-in_err-request.result c.from_residual-in_err-request.ensures.1 in
    let passes = ap (λ (g : Bool). first_of (entry_rules g (length a.out.now) a.t.now.links a.link)) (sym c.is_well_formed-good.ensures) ∙ sym c.in_ok-entry.ensures in
    let read = read-line a.line.now c.in-Ok.ensures.number in
    let asks = c.in_err-request.ensures ∙ parts-ask a.line.now c.in-Ok.m (message-is c.args.line.now c.in-Ok.m c.in-Ok.ensures.parsed) in
    let r = request-refused (table_with a.t.now a.bans.now) (arrival a.link a.line.now) a.out.now passes read _ asks in record { answer = rw (p.1, p.2) r.answer; lists = r.lists; output = r.output }

pub returns-in_err-change : goal.returns-in_err-change
returns-in_err-change c =
    let a = c.args in
    let t : Table = table_with a.t.now a.bans.now in
    let p = err_from_is_err_and c.from_residual-in_err-change.result c.from_residual-in_err-change.ensures.1 in
    let passes = ap (λ (g : Bool). first_of (entry_rules g (length a.out.now) a.t.now.links a.link)) (sym c.is_well_formed-good.ensures) ∙ sym c.in_ok-entry.ensures in
    let read = read-line a.line.now c.in-Ok.ensures.number in
    let asks = c.in_ok-request.ensures ∙ parts-ask a.line.now c.in-Ok.m (message-is c.args.line.now c.in-Ok.m c.in-Ok.ensures.parsed) in
    let says = ap (content_by a.line.now) (message-is c.args.line.now c.in-Ok.m c.in-Ok.ensures.parsed) ∙ message-holds a.line.now in
    let is = c.in_err-change.ensures ∙ ap (settled_in (network_of t) a.line.now c.in_ok-request.request) says in
    let r = change-refused t (arrival a.link a.line.now) a.out.now passes read _ asks _ is in record { answer = rw (p.1, p.2) r.answer; lists = r.lists; output = r.output }

pub act-requires : goal.act-requires
act-requires c =
    let a = c.args in
    let t : Table = table_with a.t.now a.bans.now in
    let passes = ap (λ (g : Bool). first_of (entry_rules g (length a.out.now) a.t.now.links a.link)) (sym c.is_well_formed-good.ensures) ∙ sym c.in_ok-entry.ensures in
    let read = read-line a.line.now c.in-Ok.ensures.number in
    let asks = c.in_ok-request.ensures ∙ parts-ask a.line.now c.in-Ok.m (message-is c.args.line.now c.in-Ok.m c.in-Ok.ensures.parsed) in
    let says = ap (content_by a.line.now) (message-is c.args.line.now c.in-Ok.m c.in-Ok.ensures.parsed) ∙ message-holds a.line.now in
    let is = c.in_ok-change.ensures ∙ ap (settled_in (network_of t) a.line.now c.in_ok-request.request) says in
    change-inside t (arrival a.link a.line.now) a.out.now passes read _ asks _ is

pub returns : goal.returns
returns c =
    let a = c.args in
    let t : Table = table_with a.t.now a.bans.now in
    let j = c.in_ok-change.change in
    let passes = ap (λ (g : Bool). first_of (entry_rules g (length a.out.now) a.t.now.links a.link)) (sym c.is_well_formed-good.ensures) ∙ sym c.in_ok-entry.ensures in
    let read = read-line a.line.now c.in-Ok.ensures.number in
    let asks = c.in_ok-request.ensures ∙ parts-ask a.line.now c.in-Ok.m (message-is c.args.line.now c.in-Ok.m c.in-Ok.ensures.parsed) in
    let says = ap (content_by a.line.now) (message-is c.args.line.now c.in-Ok.m c.in-Ok.ensures.parsed) ∙ message-holds a.line.now in
    let is = c.in_ok-change.ensures ∙ ap (settled_in (network_of t) a.line.now c.in_ok-request.request) says in
    let writes = ap (λ (m : Message). written_by j.sending a.line.now m a.out.now) (message-is c.args.line.now c.in-Ok.m c.in-Ok.ensures.parsed) in
    let r = change-made t (arrival a.link a.line.now) a.out.now passes read _ asks j is _ _ _ _ _
    c.receivers-set.ensures
    (c.send-len.ensures.answer ∙ ap (λ (l : List ℕ). length l) writes)
    (c.send-len.ensures.output ∙ ap (λ (l : List ℕ). front l a.out.now) writes)
    (c.act.ensures.head ∙ ap (λ (x : Content). head_with a.t.now (done_by j.deed x (network_of t)).slots) says)
    (c.act.ensures.lists ∙ ap (λ (x : Content). (done_by j.deed x (network_of t)).bans) says) in record { answer = r.answer; lists = r.lists; output = r.output }
