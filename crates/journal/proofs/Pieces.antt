-- Laws of a log that is read in pieces: what is read of a piece is the log's, and what is left comes with the next one; so whatever the cuts, the records of the log
-- are read, and its fault. What is left of a piece is less than the longest record. Assumes nothing.
use Prim.Native.Nat.{ℕ, zero, suc, ◌+◌, ◌<◌}
use mathlib.Core.Path.{◌≡◌, refl, sym, ap, ◌∙◌}
use mathlib.Core.Bool.{Bool, true, false, true≢false}
use mathlib.Core.List.{List, [], ◌∷◌, ◌++◌, append-nil, append_assoc}
use mathlib.Core.Option.{Option, some, none}
use native.Mathlib.Omega.{arith}
use lib.ListN.{length, drop, length-drop}
use lib.Seq.{drop-append-le, drop-drop}
use lib.Dec.{eqb}
use borrow.Author.Tests.{eq-eqb, ne_eqb, eqb-true, eqb-false}
use Rattle.refusal.specs.Numbers.{log_cut}
use Rattle.laws.specs.Joins.{concatenated}
use Rattle.journal.specs.Reading.{Entry, size_of, written_log, size_of_all, Fault, Found, End, Whole, Faulty, found, Log, fault_at, log_from, log_of, record_limit}
use Rattle.journal.specs.Pieces.{fault_if, is_sound, behind, read_over}
use Rattle.journal.specs.Division.{AllLoggable}
use Rattle.journal.proofs.Checks.{some-none}
use Rattle.journal.proofs.Found.{end-length, whole-fits, whole_append, fault-append, cut_short}
use Rattle.journal.proofs.Logs.{moved_on, log-end, log-faulty, log-whole, reads-back}

-- reading goes on behind the piece
abbrev pub goes_on : Log → Bool
goes_on log = is_sound (fault_if false log.fault)

-- it does at the end of the bytes, and where a record is cut there
nothing-stands : (at : ℕ) (s : List ℕ) → found s ≡ End → goes_on (log_from at s) ≡ true
unfolding fault_if
nothing-stands at s is = rw (log-end at s is)

cut_stands : (at : ℕ) (s : List ℕ) (f : Fault) → found s ≡ Faulty f → f.number ≡ log_cut → goes_on (log_from at s) ≡ true
unfolding fault_if
cut_stands at s f is e = rw (log-faulty at s f is, eq-eqb f.number log_cut e)

-- and at no other fault
only-cut : (at : ℕ) (s : List ℕ) (f : Fault) → found s ≡ Faulty f → goes_on (log_from at s) ≡ true → f.number ≡ log_cut
unfolding fault_if
only-cut at s f is g = go (eqb f.number log_cut) refl
  where
    go : (t : Bool) → eqb f.number log_cut ≡ t → f.number ≡ log_cut
    go true e = eqb-true f.number log_cut e
    go false e = absurd (true≢false (sym (rw (log-faulty at s f is, e) at g)))

-- ---- more bytes behind a piece
module _ (t : List ℕ) where
  -- records of the piece are read of the log, and then what is left of the piece, with what stands behind it
  abbrev Continues : ℕ → List ℕ → List Entry → Type 0
  Continues at s es = log_from at (s ++ t) ≡ behind es (log_from (at + size_of_all es) (drop (size_of_all es) s ++ t))

  none_read : (at : ℕ) (s : List ℕ) → Continues at s []
  unfolding size_of_all
  none_read at s = ap (λ (k : ℕ). log_from k (s ++ t)) {x = at} {y = at + 0} (omega arith)

  continues : (n : ℕ) (s : List ℕ) (at : ℕ) → length s < n → goes_on (log_from at s) ≡ true → Continues at s (log_from at s).entries
  unfolding size_of_all
  continues zero s at = λ h g. absurd (omega arith)
  continues (suc n) s at = λ h g. go h g (continues n) (found s) refl
    where
      go : length s < suc n → goes_on (log_from at s) ≡ true → ((r : List ℕ) (b : ℕ) → length r < n → goes_on (log_from b r) ≡ true → Continues b r (log_from b r).entries)
          → (f : Found) → found s ≡ f → Continues at s (log_from at s).entries
      go h g ih End is = rw (log-end at s is) (none_read at s)
      go h g ih (Faulty f) is = rw (log-faulty at s f is) (none_read at s)
      go h g ih (Whole e) is =
          let r : List ℕ = drop (size_of e) s in
          let b : ℕ = at + size_of e in
          let es : List Entry = (log_from b r).entries in
          let m : ℕ = size_of_all es in
          let goes : goes_on (log_from b r) ≡ true = ap goes_on (sym (log-whole at s e is)) ∙ g in
          rw (log-whole at s e is)
          (log-whole at (s ++ t) e (whole_append s t e is)
          ∙ ap (λ (l : List ℕ). behind (e ∷ []) (log_from b l)) (drop-append-le (size_of e) s t (whole-fits s e is))
          ∙ ap (behind (e ∷ [])) (ih r b (omega (arith, length-drop (size_of e) s, whole-fits s e is)) goes)
          ∙ ap (λ (k : ℕ). behind (e ∷ es) (log_from k (drop m r ++ t))) {x = b + m} {y = at + (size_of e + m)} (omega arith)
          ∙ ap (λ (l : List ℕ). behind (e ∷ es) (log_from (at + (size_of e + m)) (l ++ t))) (drop-drop m (size_of e) s))

  -- Where the log can go on behind a piece, what is read of it is what is read of the piece, and then of what is left of that with what stands behind it.
  pub log-continues : (s : List ℕ) (at : ℕ) → goes_on (log_from at s) ≡ true → Continues at s (log_from at s).entries
  log-continues s at g = continues (suc (length s)) s at (omega arith) g

  stops : (n : ℕ) (s : List ℕ) (at : ℕ) → length s < n → goes_on (log_from at s) ≡ false → log_from at (s ++ t) ≡ log_from at s
  stops zero s at = λ h g. absurd (omega arith)
  stops (suc n) s at = λ h g. go h g (stops n) (found s) refl
    where
      go : length s < suc n → goes_on (log_from at s) ≡ false → ((r : List ℕ) (b : ℕ) → length r < n → goes_on (log_from b r) ≡ false → log_from b (r ++ t) ≡ log_from b r)
          → (f : Found) → found s ≡ f → log_from at (s ++ t) ≡ log_from at s
      go h g ih End is = absurd (true≢false (sym (nothing-stands at s is) ∙ g))
      go h g ih (Faulty f) is = log-faulty at (s ++ t) f (fault-append s t f is (λ e. true≢false (sym (cut_stands at s f is e) ∙ g))) ∙ sym (log-faulty at s f is)
      go h g ih (Whole e) is =
          let r : List ℕ = drop (size_of e) s in
          let b : ℕ = at + size_of e in
          let stands : goes_on (log_from b r) ≡ false = ap goes_on (sym (log-whole at s e is)) ∙ g in
          log-whole at (s ++ t) e (whole_append s t e is)
          ∙ ap (λ (l : List ℕ). behind (e ∷ []) (log_from b l)) (drop-append-le (size_of e) s t (whole-fits s e is))
          ∙ ap (behind (e ∷ [])) (ih r b (omega (arith, length-drop (size_of e) s, whole-fits s e is)) stands)
          ∙ sym (log-whole at s e is)

  -- Where the piece has a fault, the log has it, and what is read is what is read of the piece.
  pub log-stops : (s : List ℕ) (at : ℕ) → goes_on (log_from at s) ≡ false → log_from at (s ++ t) ≡ log_from at s
  log-stops s at g = stops (suc (length s)) s at (omega arith) g

-- ---- which fault counts
pub none-counts : (last : Bool) → fault_if last none ≡ none
unfolding fault_if
none-counts last = refl

-- where the log ends, any
pub end-counts : (o : Option Fault) → fault_if true o ≡ o
unfolding fault_if
end-counts none = refl
end-counts (some f) = refl

-- where it goes on, any but that a record is cut
pub cut-passes : (f : Fault) → f.number ≡ log_cut → fault_if false (some f) ≡ none
unfolding fault_if
cut-passes f e = rw (eq-eqb f.number log_cut e)

pub other-counts : (f : Fault) → (f.number ≡ log_cut → ⊥) → fault_if false (some f) ≡ some f
unfolding fault_if
other-counts f ne = rw (ne_eqb f.number log_cut ne)

-- A fault that counts is one of the bytes.
pub fault-kept : (last : Bool) (o : Option Fault) (f : Fault) → fault_if last o ≡ some f → o ≡ some f
fault-kept last none f given = some-none (sym given ∙ none-counts last)
fault-kept true (some g) f given = sym (end-counts (some g)) ∙ given
fault-kept false (some g) f given = go (eqb g.number log_cut) refl
  where
    go : (b : Bool) → eqb g.number log_cut ≡ b → some g ≡ some f
    go true e = some-none (sym given ∙ cut-passes g (eqb-true g.number log_cut e))
    go false e = sym (other-counts g (eqb-false g.number log_cut e)) ∙ given

-- One that counts where the log goes on counts where it ends.
pub fault-still : (last : Bool) (o : Option Fault) → is_sound (fault_if false o) ≡ false → fault_if last o ≡ fault_if false o
fault-still last none e = none-counts last ∙ sym (none-counts false)
fault-still false (some f) e = refl
fault-still true (some f) e = go (eqb f.number log_cut) refl
  where
    go : (b : Bool) → eqb f.number log_cut ≡ b → fault_if true (some f) ≡ fault_if false (some f)
    go true g = absurd (true≢false (ap is_sound (sym (cut-passes f (eqb-true f.number log_cut g))) ∙ e))
    go false g = end-counts (some f) ∙ sym (other-counts f (eqb-false f.number log_cut g))

-- It doesn't matter at which place the bytes stand.
pub fault-moved : (last : Bool) (k : ℕ) (o : Option Fault) → fault_if last (moved_on k o) ≡ moved_on k (fault_if last o)
unfolding fault_if
fault-moved last k none = refl
fault-moved true k (some f) = refl
fault-moved false k (some f) = go (eqb f.number log_cut) refl
  where
    go : (b : Bool) → eqb f.number log_cut ≡ b → fault_if false (some (fault_at k f)) ≡ moved_on k (fault_if false (some f))
    go true e = rw e
    go false e = rw e

-- ---- one piece after the other
over : (pieces : List (List ℕ)) (at : ℕ) (kept : List ℕ) → read_over at kept pieces ≡ log_from at (kept ++ concatenated pieces)
unfolding read_over
over [] at kept = ap (log_from at) (sym (append-nil kept))
over (piece ∷ pieces) at kept = go (goes_on (log_from at s)) refl (over pieces) ∙ ap (log_from at) (append_assoc kept piece (concatenated pieces))
  where
    s : List ℕ
    s = kept ++ piece

    go : (t : Bool) → goes_on (log_from at s) ≡ t → ((b : ℕ) (left : List ℕ) → read_over b left pieces ≡ log_from b (left ++ concatenated pieces))
        → read_over at kept (piece ∷ pieces) ≡ log_from at (s ++ concatenated pieces)
    go true e ih =
        let n : ℕ = size_of_all (log_from at s).entries in
        rw (e, ih (at + n) (drop n s)) (sym (log-continues (concatenated pieces) s at e))
    go false e ih = rw e (sym (log-stops (concatenated pieces) s at e))

-- Whatever the cuts, what is read of the pieces is what is read of the log.
pub read-over : (pieces : List (List ℕ)) → read_over 0 [] pieces ≡ log_of (concatenated pieces)
read-over pieces = over pieces 0 []

-- So a log that was written record by record is read, in any pieces, as exactly those records.
pub reads-back-over : (es : List Entry) (pieces : List (List ℕ)) → AllLoggable es → concatenated pieces ≡ written_log es
    → read_over 0 [] pieces ≡ record { entries = es; fault = none }
reads-back-over es pieces h e = read-over pieces ∙ ap log_of e ∙ reads-back es h

-- ---- what is left of a piece
left-short : (n : ℕ) (s : List ℕ) (at : ℕ) → length s < n → goes_on (log_from at s) ≡ true → length (drop (size_of_all (log_from at s).entries) s) < record_limit
unfolding size_of_all
left-short zero s at = λ h g. absurd (omega arith)
left-short (suc n) s at = λ h g. go h g (left-short n) (found s) refl
  where
    go : length s < suc n → goes_on (log_from at s) ≡ true
        → ((r : List ℕ) (b : ℕ) → length r < n → goes_on (log_from b r) ≡ true → length (drop (size_of_all (log_from b r).entries) r) < record_limit)
        → (f : Found) → found s ≡ f → length (drop (size_of_all (log_from at s).entries) s) < record_limit
    go h g ih End is = rw (log-end at s is) (omega (arith, end-length s is))
    go h g ih (Faulty f) is = rw (log-faulty at s f is) (cut_short s f is (only-cut at s f is g)).0
    go h g ih (Whole e) is =
        let r : List ℕ = drop (size_of e) s in
        let b : ℕ = at + size_of e in
        let goes : goes_on (log_from b r) ≡ true = ap goes_on (sym (log-whole at s e is)) ∙ g in
        rw (log-whole at s e is, ← drop-drop (size_of_all (log_from b r).entries) (size_of e) s) (ih r b (omega (arith, length-drop (size_of e) s, whole-fits s e is)) goes)

-- It is less than the longest record, so that a program needs no more room for it.
pub left-few : (s : List ℕ) (at : ℕ) → goes_on (log_from at s) ≡ true → length (drop (size_of_all (log_from at s).entries) s) < record_limit
left-few s at g = left-short (suc (length s)) s at (omega arith) g
