-- Laws of one turn of a replay, by what stands first in the bytes that are left: a record that is taken, one that is refused, the end or a fault. Assumes nothing.
use Prim.Native.Nat.{ℕ, ◌+◌}
use mathlib.Core.Path.{◌≡◌, refl, sym, ap, ap₂, ◌∙◌}
use mathlib.Core.Bool.{Bool, true, false, not, ◌&&◌, false≢true}
use mathlib.Core.List.{List}
use mathlib.Core.Option.{some, none}
use native.Mathlib.Omega.{arith}
use lib.ListN.{drop}
use lib.Seq.{drop-drop}
use lib.Dec.{eqb}
use borrow.Author.Tests.{ne_eqb, eqb-true, eqb-false}
use Rattle.refusal.specs.Numbers.{accepted, log_cut}
use Rattle.octets.specs.Room.{part}
use Rattle.message.specs.declared.Span.{Span}
use Rattle.message.specs.Grammar.{line_limit}
use Rattle.table.specs.Network.{Table}
use Rattle.relay.specs.Arrival.{arrival}
use Rattle.relay.specs.Relay.{Outcome, process_answer}
use Rattle.relay.proofs.Taking.{answer-number}
use Rattle.relay.proofs.Answering.{answer-refused}
use Rattle.journal.specs.declared.RecordRead.{RecordRead}
use Rattle.journal.specs.Reading.{Entry, size_of, Fault, Found, End, Whole, Faulty, found, Log, fault_at, log_from, missing_for, answer_at, read_answer}
use Rattle.journal.specs.Pieces.{fault_if}
use Rattle.journal.proofs.Logs.{log-end, log-faulty, log-whole}
use Rattle.journal.proofs.Pieces.{none-counts, end-counts, cut-passes, other-counts}
use Rattle.journal.proofs.Told.{ReadsWhole, reads-record}
use Rattle.replay.specs.Replay.{Replay, taking, ended, stopped, replay_of, replay_from}
use Rattle.replay.specs.Private.Stopping.{read_on}
use Rattle.replay.proofs.Records.{replay-first, replay-stops}

-- ---- a record
-- One that is refused leaves the table as it is.
pub refused-stays : (t : Table) (e : Entry) → ((taking t e).number ≡ accepted → ⊥) → (taking t e).table ≡ t
refused-stays t e ne =
    let a = arrival e.link e.line in
    ap (λ (o : Outcome). o.table) (sym (answer-refused t a line_limit _ refl (λ z. ne (answer-number t a line_limit ∙ z))))

module _ (last : Bool) (t : Table) (at : ℕ) (s : List ℕ) where
  -- what a log that was read comes to
  abbrev comes_to : Log → Replay
  comes_to log = replay_of t at log.entries (fault_if last log.fault)

  module _ (e : Entry) (is : found s ≡ Whole e) where
    -- it is taken, and the replay goes on behind it
    pub step-taken : (taking t e).number ≡ accepted → replay_from last t at s ≡ replay_from last (taking t e).table (at + size_of e) (drop (size_of e) s)
    step-taken passes = let rest = log_from (at + size_of e) (drop (size_of e) s) in ap comes_to (log-whole at s e is) ∙ replay-first t at e rest.entries (fault_if last rest.fault) passes

    -- it is refused, and stops the replay
    pub step-refused : ((taking t e).number ≡ accepted → ⊥) → replay_from last t at s ≡ stopped t at (taking t e).number
    step-refused ne =
        let rest = log_from (at + size_of e) (drop (size_of e) s) in
        ap comes_to (log-whole at s e is) ∙ replay-stops t at e rest.entries (fault_if last rest.fault) (taking t e).number refl ne

  -- no record: the end, or a fault
  step_end : found s ≡ End → replay_from last t at s ≡ ended t at none
  unfolding replay_of
  step_end is = ap comes_to (log-end at s is) ∙ ap (ended t at) (none-counts last)

  step-fault : (f : Fault) → found s ≡ Faulty f → replay_from last t at s ≡ ended t at (fault_if last (some (fault_at at f)))
  unfolding replay_of
  step-fault f is = ap comes_to (log-faulty at s f is)

-- ---- at a place of a log
-- A record is told of there, and taken: behind it the replay comes to the same.
pub goes_on : (log : List ℕ) (last : Bool) (t : Table) (at : ℕ) (r : RecordRead) (w : ReadsWhole log at r) → (taking t w.entry).number ≡ accepted
    → replay_from last (taking t w.entry).table r.line.end (drop r.line.end log) ≡ replay_from last t at (drop at log)
goes_on log last t at r w passes =
    let e = w.entry in
    let next = (taking t e).table in
    ap (λ (k : ℕ). replay_from last next k (drop k log)) w.next
    ∙ ap (replay_from last next (at + size_of e)) (sym (drop-drop (size_of e) at log))
    ∙ sym (step-taken last t at (drop at log) e w.is passes)

-- ---- what is told of a place where the log may go on
module _ (last : Bool) (r : RecordRead) where
  -- a record is told of where one stands
  pub read-found : (q : RecordRead) → q.found ≡ true → q ≡ read_on last r → q ≡ r
  unfolding read_on
  read-found q told e = go (not last && eqb r.number log_cut) refl
    where
      go : (t : Bool) → not last && eqb r.number log_cut ≡ t → q ≡ r
      go true h = let f = rw h at e in absurd (false≢true (sym (ap (λ (x : RecordRead). x.found) f) ∙ told))
      go false h = rw h at e

  -- what has another number is told as it is
  pub read_same : (r.number ≡ log_cut → ⊥) → read_on last r ≡ r
  unfolding read_on
  read_same ne = rw (ne_eqb r.number log_cut ne, and-false)
    where
      and-false : (not last && false) ≡ false
      and-false = elim last as (λ t. (not t && false) ≡ false) [ true ↦ refl | false ↦ refl ]

-- None is: that is the end, or the fault, and the replay stops with what is told of it.
module _ (t : Table) (at : ℕ) where
  pub stops : (log : List ℕ) (last : Bool) (number place : ℕ) → missing_for number place ≡ read_on last (read_answer log at)
      → replay_from last t at (drop at log) ≡ record { table = t; used = at; number = number; place = place }
  unfolding read_answer read_on
  stops log last number place e = go (found (drop at log)) refl
    where
      told : Replay → Type 0
      told x = x ≡ record { table = t; used = at; number = number; place = place }

      by-number : (x : RecordRead) → (x.number ≡ log_cut → ⊥) → read_answer log at ≡ x → missing_for number place ≡ x
      by-number x ne is = e ∙ ap (read_on last) is ∙ read_same last x ne

      fault : (f : Fault) → missing_for number place ≡ read_on last (missing_for f.number f.place) → told (ended t at (fault_if last (some f)))
      fault f q = cases last refl (eqb f.number log_cut) refl
        where
          same : missing_for number place ≡ missing_for f.number f.place → told (ended t at (some f))
          same q = rw (ap (λ (x : RecordRead). x.number) q, ap (λ (x : RecordRead). x.place) q)

          cases : (l : Bool) → last ≡ l → (b : Bool) → eqb f.number log_cut ≡ b → told (ended t at (fault_if last (some f)))
          cases true h b k = let g = rw h at q in rw (h, end-counts (some f)) (same g)
          cases false h true k = let g = rw (h, k) at q in rw (h, cut-passes f (eqb-true f.number log_cut k), ap (λ (x : RecordRead). x.number) g, ap (λ (x : RecordRead). x.place) g)
          cases false h false k = let g = rw (h, k) at q in rw (h, other-counts f (eqb-false f.number log_cut k)) (same g)

      go : (x : Found) → found (drop at log) ≡ x → replay_from last t at (drop at log) ≡ record { table = t; used = at; number = number; place = place }
      go End is =
          let q = by-number (missing_for accepted 0) (λ z. omega (arith, z)) (ap (answer_at at) is) in
          step_end last t at (drop at log) is ∙ rw (ap (λ (x : RecordRead). x.number) q, ap (λ (x : RecordRead). x.place) q)
      go (Whole w) is =
          let q = by-number (answer_at at (Whole w)) (λ z. omega (arith, z)) (ap (answer_at at) is) in
          absurd (false≢true (ap (λ (x : RecordRead). x.found) q))
      go (Faulty f) is = step-fault last t at (drop at log) f is ∙ fault (fault_at at f) (e ∙ ap (λ (x : Found). read_on last (answer_at at x)) is)

-- ---- a turn
-- A record is told of at a place.
pub stands : (log : List ℕ) (last : Bool) (at : ℕ) (line : Span) (link : ℕ)
    → record { line = line; place = 0; link = link; number = accepted; found = true } ≡ read_on last (read_answer log at)
    → ReadsWhole log at (record { line = line; place = 0; link = link; number = accepted; found = true })
stands log last at line link e =
    let r : RecordRead = record { line = line; place = 0; link = link; number = accepted; found = true } in
    reads-record log at r (read-found last (read_answer log at) r refl e) refl

module _ (log : List ℕ) (last : Bool) (t : Table) (at : ℕ) (r : RecordRead) (w : ReadsWhole log at r) where
  -- what taking its line comes to
  pub line-taken : (line : List ℕ) → line ≡ part log r.line.start r.line.end → process_answer t (arrival r.link line) line_limit ≡ taking t w.entry
  line-taken line e = ap₂ (λ (link : ℕ) (s : List ℕ). process_answer t (arrival link s) line_limit) w.link (e ∙ w.line)

  module _ (next : Table) (e : next ≡ (taking t w.entry).table) where
    -- it is taken: behind it the replay comes to the same
    pub turn-taken : accepted ≡ (taking t w.entry).number → replay_from last next r.line.end (drop r.line.end log) ≡ replay_from last t at (drop at log)
    turn-taken n = rw e (goes_on log last t at r w (sym n))

    -- it is refused: the replay stops
    pub turn-refused : (number : ℕ) → number ≡ (taking t w.entry).number → (number ≡ accepted → ⊥) → record { table = next; used = at; number = number; place = at } ≡ replay_from last t at (drop at log)
    turn-refused number n ne =
        let some : (taking t w.entry).number ≡ accepted → ⊥ = λ z. ne (n ∙ z) in
        rw (e, refused-stays t w.entry some, n) (sym (step-refused last t at (drop at log) w.entry w.is some))
