-- `describe` meets its contract: each refusal is the first rule that applies, and an accepted record's text is what was put. Assumes nothing.
use Prim.Native.Nat.{ℕ}
use mathlib.Core.Path.{refl, sym, ap, ◌∙◌}
use mathlib.Core.List.{List}
use native.Mathlib.Omega.{arith}
use lib.ListN.{length}
use Rattle.refusal.specs.Numbers.{not_well_formed, no_room}
use Rattle.octets.specs.Room.{front}
use Rattle.channel.specs.Record.{decode}
use Rattle.writer.proofs.Answers.{answers-refused, answers-written}
use Rattle.telling.specs.Telling.{described, described_in}
use Rattle.capi.specs.Describing.{describe_rules}
use Rattle.capi.proofs.Describing.{ill, full, whole, blank}
use Rattle.capi.proofs.describe.Goals as goal

pub returns-then-not-is_well_formed : goal.returns-then-not-is_well_formed
returns-then-not-is_well_formed c =
    let a = c.args in
    let bad = sym c.is_well_formed.ensures ∙ c.if-not-is_well_formed.true in
    let refused = answers-refused (describe_rules a.r a.out.now) _ _ not_well_formed (ill a.r a.out.now bad) (λ q. omega arith) _ refl in
    record { answer = refused.0; output = refused.1 }

pub returns-then-len-eq0 : goal.returns-then-len-eq0
returns-then-len-eq0 c =
    let said = c.describe-len.ensures in
    let a = c.args in
    let good = sym c.is_well_formed.ensures ∙ c.if-not-is_well_formed.false in
    let none = sym said.answer ∙ c.if-len-eq0.true in
    let refused = answers-refused (describe_rules a.r a.out.now) (described (decode a.r)) a.out.now no_room (full a.r a.out.now good none) (λ q. omega arith) _ refl in
    record { answer = refused.0; output = said.output ∙ blank (described_in a.out.now (decode a.r)) a.out.now none ∙ refused.1 }

pub returns : goal.returns
returns c =
    let said = c.describe-len.ensures in
    let a = c.args in
    let good = sym c.is_well_formed.ensures ∙ c.if-not-is_well_formed.false in
    let all = whole a.r a.out.now good (λ z. c.if-len-eq0.false (said.answer ∙ z)) in
    let written = answers-written (describe_rules a.r a.out.now) (described (decode a.r)) a.out.now all.0 c.describe-len.result
    (said.answer ∙ ap (λ (l : List ℕ). length l) all.1)
    _ (said.output ∙ ap (λ (l : List ℕ). front l a.out.now) all.1)
    in
    record { answer = written.0; output = written.1 }
