-- `find` meets its contract. The invariants: no slot below k holds the name; and the bytes that are left of the name that slot k holds and of the name sought
-- are as many, and equal exactly if the two names are. Assumes nothing.
use mathlib.Core.Path.{◌≡◌, sym, ap, ◌∙◌}
use mathlib.Core.List.{List}
use Prim.Native.Nat.{ℕ}
use native.Mathlib.Omega.{arith}
use lib.ListN.{length}
use borrow.Author.Rules.{rules}
use borrow.Author.Tests.{tests}
use Rattle.std.proofs.lemmas.Iterator.{YieldsList-from_slice, empty_from_Zip}
use Rattle.std.proofs.lemmas.Iterator.Search.{position_from_yields_List}
use Rattle.std.proofs.lemmas.Slice.Zip.{Zip-more}
use Rattle.laws.proofs.Lists.{unmapped}
use Rattle.names.specs.Fold.{same_name}
use Rattle.names.proofs.Folds.{lengths_differ}
use Rattle.channel.specs.Limits.{slot_count}
use Rattle.table.specs.Table.{is_free}
use Rattle.table.proofs.Searching.{nothing, free-holds, used-holds, heads-stop, heads-go, none-left, searched-is, number-found, slot-over, slot-answers, free-answers, full-answers}
use Rattle.table.proofs.find.Goals as goal
use Rattle.table.proofs.find.Goals.{then-r-eq0-via-then-r-eq0, then-r-eq0-via-else-r-eq0+then-name}

pub slots-preserved-then-r-eq0 : goal.slots-preserved-then-r-eq0
slots-preserved-then-r-eq0 c =
    let sixteen : length c.args.t.now.slots ≡ slot_count = search (rules, unmapped) in
    slot-over c.args.t.now.slots c.args.name.now c.slots.k c.slots.invariant nothing (omega (arith, sixteen))
    (elim c.then-r-eq0.branch [
      | then-r-eq0-via-then-r-eq0 w ↦ free-holds _ _ w.if-r-eq0.true
      | then-r-eq0-via-else-r-eq0+then-name w ↦ used-holds _ _ w.if-r-eq0.false w.name.result.now w.name.ensures ∙ lengths_differ _ _ w.if-name.true
    ])

pub slots-preserved : goal.slots-preserved
slots-preserved c =
    let sixteen : length c.args.t.now.slots ≡ slot_count = search (rules, unmapped) in
    let more = Zip-more c.loop-held.held-iterator c.next.new.self _ _ c.in-Some.is c.next.ensures.steps in
    slot-over c.args.t.now.slots c.args.name.now c.slots.k c.slots.invariant nothing (omega (arith, sixteen))
    (used-holds _ _ c.if-r-eq0.false c.name-in-slots.result.now c.name-in-slots.ensures ∙ ap (λ (n : List ℕ). same_name n c.args.name.now) c.name-in-slots.ensures ∙ sym c.loop-held.invariant.1
    ∙ rw (more.0, more.1) (heads-stop _ _ _ _ (λ e. c.if-fold.true (c.fold.ensures ∙ e ∙ sym c.fold-in-loop-held.ensures))))

pub loop-held-preserved : goal.loop-held-preserved
loop-held-preserved c =
    let more = Zip-more c.loop-held.held-iterator c.next.new.self _ _ c.in-Some.is c.next.ensures.steps in
    let both = rw (more.0, more.1) at c.loop-held.invariant in
    (omega (arith, both.0), sym (heads-go _ _ _ _ (sym c.fold.ensures ∙ c.if-fold.false ∙ c.fold-in-loop-held.ensures)) ∙ both.1)

pub returns-in-slots-clause-found : goal.returns-in-slots-clause-found
returns-in-slots-clause-found c =
    let sixteen : length c.args.t.now.slots ≡ slot_count = search (rules, unmapped) in
    let slots = c.args.t.now.slots in
    slot-answers slots c.args.name.now c.slots.k c.slots.invariant nothing (omega (arith, sixteen))
    (used-holds _ _ c.if-r-eq0.false c.name-in-slots.result.now c.name-in-slots.ensures ∙ ap (λ (n : List ℕ). same_name n c.args.name.now) c.name-in-slots.ensures ∙ sym c.loop-held.invariant.1
    ∙ none-left _ _ (empty_from_Zip c.loop-held.held-iterator c.next.new.self _ c.in-None.is c.next.ensures.steps c.loop-held.invariant.0))

pub returns-in-slots-clause-number : goal.returns-in-slots-clause-number
returns-in-slots-clause-number c =
    let sixteen : length c.args.t.now.slots ≡ slot_count = search (rules, unmapped) in
    let slots = c.args.t.now.slots in
    number-found slots c.args.name.now _
    (slot-answers slots c.args.name.now c.slots.k c.slots.invariant nothing (omega (arith, sixteen))
    (used-holds _ _ c.if-r-eq0.false c.name-in-slots.result.now c.name-in-slots.ensures ∙ ap (λ (n : List ℕ). same_name n c.args.name.now) c.name-in-slots.ensures ∙ sym c.loop-held.invariant.1
    ∙ none-left _ _ (empty_from_Zip c.loop-held.held-iterator c.next.new.self _ c.in-None.is c.next.ensures.steps c.loop-held.invariant.0)))

pub returns-in-Some-position-clause-found : goal.returns-in-Some-position-clause-found
returns-in-Some-position-clause-found c =
    let slots = c.args.t.now.slots in
    let sixteen : length slots ≡ slot_count = search (rules, unmapped) in
    let place = searched-is slots c.position.result (position_from_yields_List is_free _ _ c.position.result c.position.ensures.ran (YieldsList-from_slice slots cc) (λ x b q k. search (rules, tests))) in
    free-answers slots c.args.name.now c.slots.k c.slots.invariant (omega arith) c.in-Some-position.k (place ∙ c.in-Some-position.is)

pub returns-in-Some-position-clause-number : goal.returns-in-Some-position-clause-number
returns-in-Some-position-clause-number c =
    let slots = c.args.t.now.slots in
    let sixteen : length slots ≡ slot_count = search (rules, unmapped) in
    let place = searched-is slots c.position.result (position_from_yields_List is_free _ _ c.position.result c.position.ensures.ran (YieldsList-from_slice slots cc) (λ x b q k. search (rules, tests))) in
    number-found slots c.args.name.now _ (free-answers slots c.args.name.now c.slots.k c.slots.invariant (omega arith) c.in-Some-position.k (place ∙ c.in-Some-position.is))

pub returns-in-None-position-clause-found : goal.returns-in-None-position-clause-found
returns-in-None-position-clause-found c =
    let slots = c.args.t.now.slots in
    let sixteen : length slots ≡ slot_count = search (rules, unmapped) in
    let place = searched-is slots c.position.result (position_from_yields_List is_free _ _ c.position.result c.position.ensures.ran (YieldsList-from_slice slots cc) (λ x b q k. search (rules, tests))) in
    full-answers slots c.args.name.now c.slots.k c.slots.invariant (omega arith) (place ∙ c.in-None-position.is)

pub returns-in-None-position-clause-number : goal.returns-in-None-position-clause-number
returns-in-None-position-clause-number c =
    let slots = c.args.t.now.slots in
    let sixteen : length slots ≡ slot_count = search (rules, unmapped) in
    let place = searched-is slots c.position.result (position_from_yields_List is_free _ _ c.position.result c.position.ensures.ran (YieldsList-from_slice slots cc) (λ x b q k. search (rules, tests))) in
    number-found slots c.args.name.now _ (full-answers slots c.args.name.now c.slots.k c.slots.invariant (omega arith) (place ∙ c.in-None-position.is))
