-- What isn't well formed gets 1 from every function that gives it; and what isn't: a table with two slots that hold one name, and a ban list in which a mask
-- stands before one that has to come first, or before one with the same fold; so names, and masks, that differ in '~' and '^' alone make them so. True since 1 is
-- the first rule of each. Assumes nothing.
use Prim.Native.Nat.{ℕ, ◌<◌}
use mathlib.Core.Path.{◌≡◌, refl, sym, ap, ◌∙◌}
use mathlib.Core.Bool.{Bool, false, true, ◌&&◌, and-false}
use mathlib.Core.List.{List, [], map}
use native.Mathlib.Omega.{arith}
use lib.ListN.{length, get_or}
use Rattle.refusal.specs.Numbers.{accepted, not_well_formed}
use Rattle.refusal.specs.Rules.{first_of}
use Rattle.names.specs.Fold.{with_caret}
use Rattle.names.proofs.Folds.{tilde-folds, tilde-name}
use Rattle.links.specs.Links.{with_link, without_link}
use Rattle.channel.specs.declared.Record.{Record}
use Rattle.channel.specs.Record.{empty_record}
use Rattle.bans.specs.declared.WholeRecord.{WholeRecord}
use Rattle.bans.specs.Masks.{comes_before, masks}
use Rattle.bans.specs.Slots.{list_at}
use Rattle.bans.specs.Records.{well_formed_whole}
use Rattle.bans.proofs.Misplaced.{one-fold, misplaced, list-decides}
use Rattle.merging.proofs.Answers.{answer-ill}
use Rattle.table.specs.Network.{Table}
use Rattle.table.specs.Table.{is_free, holds, good_table}
use Rattle.table.proofs.WellFormed.{holding-equal, held-twice, list-ill}
use Rattle.table.proofs.Registering.{links-ill-formed}
use Rattle.table.proofs.Questions.{banned-ill}
use Rattle.message.specs.Reading.{message_of}
use Rattle.sjoin.proofs.Answers.{place_none}
use Rattle.relay.specs.Arrival.{Arrival}
use Rattle.relay.specs.Relay.{process_rules, refused}
use Rattle.relay.specs.IllFormed.{TableGets1, RecordGets1}
use Rattle.relay.proofs.Entering.{entry-ill-formed, entry-refuses}
use Rattle.relay.proofs.Answering.{answer-refused, sent-nothing}

-- ---- what isn't well formed gets 1
pub table-gets-1 : (t : Table) → good_table t ≡ false → TableGets1 t
table-gets-1 t ill = record {
  taking = λ a n. sym (answer-refused t a n not_well_formed (number a n) some) ∙ ap (refused t not_well_formed) (place_none not_well_formed a.line (message_of a.line) refl);
  sending = λ a n. sent-nothing t a n not_well_formed (number a n) some;
  registering = λ link. links-ill-formed t link (with_link t.links link) ill;
  dropping = λ link. links-ill-formed t link (without_link t.links link) ill;
  asking = λ name text. sym (banned-ill t name text ill);
}
  where
    some : not_well_formed ≡ accepted → ⊥
    some z = omega (arith, z)

    number : (a : Arrival) (n : ℕ) → first_of (process_rules t a n) ≡ not_well_formed
    number a n =
        let e = entry-ill-formed (good_table t) t.links a.link n ill in
        entry-refuses t a n (λ z. some (sym e ∙ z)) ∙ e

pub record-gets-1 : (w : WholeRecord) → well_formed_whole w ≡ false → RecordGets1 w
record-gets-1 w ill = record {
  first = λ v. answer-ill w v (rw ill);
  second = λ v. answer-ill v w (ap (λ (t : Bool). well_formed_whole v && t) ill ∙ and-false (well_formed_whole v));
}

-- ---- two slots that hold one name
module _ (t : Table) where
  abbrev slot : ℕ → Record
  slot k = get_or t.slots k empty_record

  pub named-twice : (name : List ℕ) (i j : ℕ) → (i ≡ j → ⊥) → i < length t.slots → j < length t.slots → holds name (slot i) ≡ true → holds name (slot j) ≡ true → TableGets1 t
  named-twice name i j ne h k e f = table-gets-1 t (held-twice t name empty_record i j ne h k e f)

  -- ---- a used slot's list in which the mask at place i doesn't come before the one at place j
  pub table-misplaced : (k : ℕ) → k < length t.slots → is_free (slot k) ≡ false → (i j : ℕ) → i < j → j < length (masks (list_at t.bans k))
      → comes_before (get_or (masks (list_at t.bans k)) i []) (get_or (masks (list_at t.bans k)) j []) ≡ false → TableGets1 t
  table-misplaced k h used i j l m e = table-gets-1 t (list-ill t empty_record k h used (misplaced (list_at t.bans k) i j l m e))

-- ---- the same in a record
pub record-misplaced : (w : WholeRecord) (i j : ℕ) → i < j → j < length (masks w.bans.room)
    → comes_before (get_or (masks w.bans.room) i []) (get_or (masks w.bans.room) j []) ≡ false → RecordGets1 w
record-misplaced w i j l m e = record-gets-1 w (list-decides w (misplaced w.bans.room i j l m e))

-- ---- '~' and '^', which are one letter (document 02, §4)
-- two slots that hold names which differ in these letters alone
pub tilde-named : (t : Table) (a b : List ℕ) → map with_caret a ≡ map with_caret b → (i j : ℕ) → (i ≡ j → ⊥) → i < length t.slots → j < length t.slots
    → holds a (slot t i) ≡ true → holds b (slot t j) ≡ true → TableGets1 t
tilde-named t a b q i j ne h k e f = named-twice t b i j ne h k (holding-equal a b (slot t i) (tilde-name a b q) e) f

-- two masks of a used slot's list that do
pub tilde-listed : (t : Table) (k : ℕ) → k < length t.slots → is_free (slot t k) ≡ false → (i j : ℕ) → i < j → j < length (masks (list_at t.bans k))
    → map with_caret (get_or (masks (list_at t.bans k)) i []) ≡ map with_caret (get_or (masks (list_at t.bans k)) j []) → TableGets1 t
tilde-listed t k h used i j l m q =
    let s : List (List ℕ) = masks (list_at t.bans k) in
    table-misplaced t k h used i j l m (one-fold (get_or s i []) (get_or s j []) (tilde-folds (get_or s i []) (get_or s j []) q))

-- or of a record's
pub tilde-recorded : (w : WholeRecord) (i j : ℕ) → i < j → j < length (masks w.bans.room)
    → map with_caret (get_or (masks w.bans.room) i []) ≡ map with_caret (get_or (masks w.bans.room) j []) → RecordGets1 w
tilde-recorded w i j l m q =
    let s : List (List ℕ) = masks w.bans.room in
    record-misplaced w i j l m (one-fold (get_or s i []) (get_or s j []) (tilde-folds (get_or s i []) (get_or s j []) q))
