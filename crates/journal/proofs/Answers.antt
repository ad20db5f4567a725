-- What `read_record` answers, by the bytes from the place on: the end where there are none, else their first fault, or the record. Assumes nothing.
use Prim.Native.Nat.{ℕ, ◌+◌, ◌≤◌, ◌<◌}
use mathlib.Core.Path.{◌≡◌, refl, sym, ap, ◌∙◌}
use mathlib.Core.Bool.{true}
use mathlib.Core.List.{List, [], ◌∷◌}
use mathlib.Core.Option.{some, none}
use native.Mathlib.Omega.{arith}
use lib.ListN.{length, drop, length-drop}
use Rattle.refusal.specs.Numbers.{accepted}
use Rattle.octets.specs.Room.{part}
use Rattle.octets.proofs.Room.{part-back}
use Rattle.message.specs.Parts.{span}
use Rattle.refusal.specs.Faults.{first_fault}
use Rattle.journal.specs.Journal.{head_length, link_in, length_in, line_in}
use Rattle.journal.specs.Reading.{Entry, entry, size_of, Fault, checks_of, Whole, found_by, found, missing_for, answer_at, read_answer}
use Rattle.journal.proofs.Checks.{clean, fault-place}
use Rattle.journal.proofs.Found.{found-by, found-clean, whole_length}

-- The bytes s are the log's from a place on.
module _ (log : List ℕ) (at : ℕ) (s : List ℕ) (is : s ≡ part log at (length log)) where
  rest : s ≡ drop at log
  rest = is ∙ part-back log at (length log) (omega arith)

  answer-is : read_answer log at ≡ answer_at at (found s)
  unfolding read_answer
  answer-is = ap (λ (l : List ℕ). answer_at at (found l)) (sym rest)

  -- there is none of them
  pub reads_end : length s ≡ 0 → missing_for accepted 0 ≡ read_answer log at
  unfolding found
  reads_end h = sym (answer-is ∙ go s h)
    where
      go : (l : List ℕ) → length l ≡ 0 → answer_at at (found l) ≡ missing_for accepted 0
      go [] k = refl
      go (b ∷ l) k = absurd (omega (arith, k))

  -- there are some, and so the log goes on behind the place
  module _ (some_left : 0 < length s) where
    pub within : at + length s ≤ length log
    within = omega (arith, ap (λ (l : List ℕ). length l) rest, length-drop at log)

    -- their first fault is told
    pub reads-fault : (f : Fault) → some f ≡ first_fault (checks_of s) → missing_for f.number (at + f.place) ≡ read_answer log at
    reads-fault f e = sym (answer-is ∙ ap (answer_at at) (found-by s some_left ∙ ap (found_by s) (sym e)))

    pub fault-within : (f : Fault) → some f ≡ first_fault (checks_of s) → at + f.place ≤ length log
    fault-within f e = omega (arith, within, fault-place s f (sym e))

    -- or the record that they begin with
    module _ (sound : none ≡ first_fault (checks_of s)) where
      pub record-within : at + head_length + length_in s ≤ length log
      record-within = omega (arith, within, (clean s (sym sound)).fits)

      pub reads_whole : record { line = span (at + head_length) (at + head_length + length_in s); place = 0; link = link_in s; number = accepted; found = true } ≡ read_answer log at
      reads_whole =
          let w : Entry = entry (link_in s) (line_in s) in
          let is_whole : found s ≡ Whole w = found-clean s (clean s (sym sound)) in
          let size : at + head_length + length_in s ≡ at + size_of w = omega (arith, whole_length s w is_whole) in
          sym (answer-is ∙ rw (is_whole, size))

-- all of these
pub ruleset reading = (reads_end, within, reads-fault, fault-within, record-within, reads_whole)
