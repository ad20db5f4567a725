-- Every log is records, and behind them its end or one fault: what is read of any bytes is the records that stand there as they were written, and what is wrong
-- behind them. Assumes nothing.
use Prim.Native.Nat.{ℕ, zero, suc, ◌+◌, ◌<◌}
use mathlib.Core.Path.{◌≡◌, refl, sym, ap, ◌∙◌}
use mathlib.Core.Bool.{true}
use mathlib.Core.Logic.{◌⊎◌, inl, inr}
use mathlib.Core.List.{List, [], ◌∷◌, ◌++◌, append_assoc}
use mathlib.Core.Option.{Option, some, none}
use native.Mathlib.Omega.{arith}
use lib.ListN.{length, drop, length-append, length-drop}
use Rattle.laws.specs.Lists.{all}
use Rattle.laws.proofs.Lists.{all_drop}
use Rattle.journal.specs.Reading.{Entry, bytes_of, size_of, written_log, Fault, Found, End, Whole, Faulty, found, Log, fault_at, log_from, log_of}
use Rattle.journal.specs.Division.{is_byte, AllLoggable, Divided}
use Rattle.journal.proofs.Found.{end-nil, whole-link, whole-short, whole-fits, whole-bytes}
use Rattle.journal.proofs.Logs.{log-end, log-faulty, log-whole, bytes-size}

-- what stands behind some records, which begin at a place
abbrev Ends : ℕ → List Entry → List ℕ → Option Fault → Type 0
Ends at es rest given =
    ((rest ≡ []) × (given ≡ none)) ⊎ ((f : Fault) × (found rest ≡ Faulty f) × (given ≡ some (fault_at (at + length (written_log es)) f)))

-- and behind one more before them
ends-behind : (at : ℕ) (e : Entry) (es : List Entry) (rest : List ℕ) (given : Option Fault) → Ends (at + size_of e) es rest given → Ends at (e ∷ es) rest given
ends-behind at e es rest given (inl h) = inl h
ends-behind at e es rest given (inr (f, is, g)) =
    let k : at + size_of e + length (written_log es) ≡ at + length (written_log (e ∷ es)) = omega (arith, length-append (bytes_of e) (written_log es), bytes-size e) in
    inr (f, is, g ∙ ap (λ (n : ℕ). some (fault_at n f)) k)

record DividedAt (at : ℕ) (s : List ℕ) (log : Log) : Type 0 where
  rest : List ℕ
  loggable : AllLoggable log.entries
  whole : s ≡ written_log log.entries ++ rest
  ends : Ends at log.entries rest log.fault

divided : (n : ℕ) (s : List ℕ) (at : ℕ) → length s < n → all is_byte s ≡ true → DividedAt at s (log_from at s)
divided zero s at = λ h b. absurd (omega arith)
divided (suc n) s at = λ h b. go h b (divided n) (found s) refl
  where
    go : length s < suc n → all is_byte s ≡ true → ((r : List ℕ) (k : ℕ) → length r < n → all is_byte r ≡ true → DividedAt k r (log_from k r)) → (f : Found) → found s ≡ f
        → DividedAt at s (log_from at s)
    go h b ih End is = rw (log-end at s is) (record { rest = []; loggable = tt; whole = end-nil s is; ends = inl (refl, refl) })
    go h b ih (Faulty f) is =
        rw (log-faulty at s f is)
        (record { rest = s; loggable = tt; whole = refl; ends = inr (f, is, ap (λ (k : ℕ). some (fault_at k f)) {x = at} {y = at + 0} (omega arith)) })
    go h b ih (Whole e) is =
        let r : List ℕ = drop (size_of e) s in
        let k : ℕ = at + size_of e in
        let d = ih r k (omega (arith, length-drop (size_of e) s, whole-fits s e is)) (all_drop is_byte (size_of e) s b) in
        let es : List Entry = (log_from k r).entries in
        rw (log-whole at s e is)
        (record {
          rest = d.rest;
          loggable = (record { link = whole-link s e is; short = whole-short s e is }, d.loggable);
          whole = whole-bytes s e is b ∙ ap (λ (l : List ℕ). bytes_of e ++ l) d.whole ∙ sym (append_assoc (bytes_of e) (written_log es) d.rest);
          ends = ends-behind at e es d.rest (log_from k r).fault d.ends;
        })

pub divides : (s : List ℕ) → all is_byte s ≡ true → Divided s (log_of s)
divides s b =
    let d = divided (suc (length s)) s 0 (omega arith) b in
    let zero-at : 0 + length (written_log (log_of s).entries) ≡ length (written_log (log_of s).entries) = omega arith in
    record { rest = d.rest; loggable = d.loggable; whole = d.whole; ends = rw zero-at at d.ends }
