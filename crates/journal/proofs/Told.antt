-- What stands at a place of a log, by the answer of `read_record`: a record, whose line is the part of the log that is told, or the log's end, or a fault. For the
-- crates above. Assumes nothing.
use Prim.Native.Nat.{ℕ, ◌+◌, ◌≤◌}
use mathlib.Core.Path.{◌≡◌, refl, sym, ap, ◌∙◌}
use mathlib.Core.Bool.{true, false, true≢false, false≢true}
use mathlib.Core.List.{List}
use native.Mathlib.Omega.{arith}
use lib.ListN.{length, take, drop, length-drop}
use lib.Seq.{drop-drop}
use Rattle.refusal.specs.Numbers.{accepted}
use Rattle.octets.specs.Room.{part}
use Rattle.octets.proofs.Room.{part-next}
use Rattle.journal.specs.declared.RecordRead.{RecordRead}
use Rattle.journal.specs.Journal.{head_length, length_in, line_in}
use Rattle.journal.specs.Reading.{Entry, size_of, Fault, Found, End, Whole, Faulty, found, missing_for, answer_at, read_answer}
use Rattle.journal.proofs.Found.{whole-line, whole_length, whole-fits}

-- A record stands there. Its link is told, and its line by its part of the log, behind which the next record begins; and the log is that long.
pub record ReadsWhole (log : List ℕ) (at : ℕ) (r : RecordRead) : Type 0 where
  pub entry : Entry
  pub is : found (drop at log) ≡ Whole entry
  pub link : r.link ≡ entry.link
  pub line : part log r.line.start r.line.end ≡ entry.line
  pub next : r.line.end ≡ at + size_of entry
  pub fits : at + size_of entry ≤ length log

-- No record does.
pub data ReadsNone (log : List ℕ) (at : ℕ) (r : RecordRead) : Type 0 where
  AtEnd : found (drop at log) ≡ End → r ≡ missing_for accepted 0 → ReadsNone log at r
  AtFault : (f : Fault) → found (drop at log) ≡ Faulty f → r ≡ missing_for f.number (at + f.place) → ReadsNone log at r

module _ (log : List ℕ) (at : ℕ) where
  abbrev rest : List ℕ
  rest = drop at log

  -- the part that is told of a record is its line
  line-part : (e : Entry) → found rest ≡ Whole e → part log (at + head_length) (at + size_of e) ≡ e.line
  unfolding line_in
  line-part e is =
      ap (part log (at + head_length)) {x = at + size_of e} {y = at + head_length + length_in rest} (omega (arith, whole_length rest e is))
      ∙ part-next log (at + head_length) (length_in rest)
      ∙ ap (take (length_in rest)) (sym (drop-drop head_length at log))
      ∙ whole-line rest e is

  module _ (r : RecordRead) (answered : r ≡ read_answer log at) where
    by-found : (f : Found) → found rest ≡ f → r ≡ answer_at at f
    unfolding read_answer
    by-found f is = answered ∙ ap (answer_at at) is

    -- A record is told of where one stands.
    pub reads-record : r.found ≡ true → ReadsWhole log at r
    reads-record told = go (found rest) refl
      where
        go : (f : Found) → found rest ≡ f → ReadsWhole log at r
        go End is = absurd (false≢true (sym (ap (λ (x : RecordRead). x.found) (by-found End is)) ∙ told))
        go (Faulty f) is = absurd (false≢true (sym (ap (λ (x : RecordRead). x.found) (by-found (Faulty f) is)) ∙ told))
        go (Whole e) is =
            let q = by-found (Whole e) is in record {
              entry = e;
              is = is;
              link = ap (λ (x : RecordRead). x.link) q;
              line = ap (λ (x : RecordRead). part log x.line.start x.line.end) q ∙ line-part e is;
              next = ap (λ (x : RecordRead). x.line.end) q;
              fits = omega (arith, whole-fits rest e is, length-drop at log);
            }

    -- And none where none does.
    pub reads_none : r.found ≡ false → ReadsNone log at r
    reads_none told = go (found rest) refl
      where
        go : (f : Found) → found rest ≡ f → ReadsNone log at r
        go End is = AtEnd is (by-found End is)
        go (Faulty f) is = AtFault f is (by-found (Faulty f) is)
        go (Whole e) is = absurd (true≢false (sym (ap (λ (x : RecordRead). x.found) (by-found (Whole e) is)) ∙ told))
