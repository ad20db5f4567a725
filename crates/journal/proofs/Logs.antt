-- Laws of a whole log: what is read of it by what stands first; and a log that was written record by record reads back as exactly those
-- records. Assumes nothing.
use Prim.Native.Nat.{ℕ, zero, suc, ◌+◌, ◌≤◌, ◌<◌}
use mathlib.Core.Path.{◌≡◌, refl, sym, ap, ◌∙◌}
use mathlib.Core.List.{List, [], ◌∷◌, ◌++◌, append-nil, append_assoc, Memᴰ}
use mathlib.Core.Option.{Option, some, none}
use native.Mathlib.Omega.{arith}
use lib.ListN.{length, drop, length-append, length-drop}
use lib.Seq.{drop_at}
use Rattle.refusal.specs.Numbers.{log_order}
use Rattle.journal.specs.Journal.{head_length, head_of, record_of}
use Rattle.journal.specs.Reading.{Entry, bytes_of, size_of, written_log, size_of_all, Fault, Found, End, Whole, Faulty, found, fault_at, read_then, read_in, log_from, log_of}
use Rattle.journal.specs.Pieces.{behind}
use Rattle.journal.specs.Division.{AllLoggable}
use Rattle.journal.proofs.Checks.{some-none, fault-listed, fault-place}
use Rattle.journal.proofs.Found.{found-nil, faulty-first, found-record, whole-fits}

-- ---- by what stands first
-- more turns than bytes change nothing
log-turns : (n m : ℕ) (s : List ℕ) (at : ℕ) → length s < n → length s < m → read_in n at s ≡ read_in m at s
unfolding read_in
log-turns zero m s at = λ h k. absurd (omega arith)
log-turns (suc n) zero s at = λ h k. absurd (omega arith)
log-turns (suc n) (suc m) s at = λ h k. go h k (log-turns n m) (found s) refl
  where
    go : length s < suc n → length s < suc m → ((r : List ℕ) (b : ℕ) → length r < n → length r < m → read_in n b r ≡ read_in m b r) → (f : Found) → found s ≡ f
        → read_then at (λ e. read_in n (at + size_of e) (drop (size_of e) s)) (found s) ≡ read_then at (λ e. read_in m (at + size_of e) (drop (size_of e) s)) (found s)
    go h k ih End is = rw is
    go h k ih (Faulty f) is = rw is
    go h k ih (Whole e) is =
        let less : length (drop (size_of e) s) + head_length ≤ length s = omega (arith, length-drop (size_of e) s, whole-fits s e is) in
        rw (is, ih (drop (size_of e) s) (at + size_of e) (omega arith) (omega arith))

-- at the end no record, and no fault
pub log-end : (at : ℕ) (s : List ℕ) → found s ≡ End → log_from at s ≡ record { entries = []; fault = none }
unfolding read_in
log-end at s is = rw is

pub log-nil : (at : ℕ) → log_from at [] ≡ record { entries = []; fault = none }
log-nil at = log-end at [] found-nil

-- a fault ends it
pub log-faulty : (at : ℕ) (s : List ℕ) (f : Fault) → found s ≡ Faulty f → log_from at s ≡ record { entries = []; fault = some (fault_at at f) }
unfolding read_in
log-faulty at s f is = rw is

-- a record, and the log behind it
pub log-whole : (at : ℕ) (s : List ℕ) (e : Entry) → found s ≡ Whole e → log_from at s ≡ behind (e ∷ []) (log_from (at + size_of e) (drop (size_of e) s))
unfolding read_in
log-whole at s e is =
    let rest : List ℕ = drop (size_of e) s in
    rw is (ap (behind (e ∷ [])) (log-turns (length s) (suc (length rest)) rest (at + size_of e) (omega (arith, length-drop (size_of e) s, whole-fits s e is)) (omega arith)))

-- ---- from another place on
-- the same records are read, and the fault is as much further on
abbrev pub moved_on : ℕ → Option Fault → Option Fault
moved_on k none = none
moved_on k (some f) = some (fault_at k f)

turns-moved : (n : ℕ) (s : List ℕ) (k at : ℕ) → read_in n (k + at) s ≡ record { entries = (read_in n at s).entries; fault = moved_on k (read_in n at s).fault }
unfolding read_in
turns-moved zero s k at = refl
turns-moved (suc n) s k at = go (turns-moved n) (found s) refl
  where
    go : ((r : List ℕ) (k at : ℕ) → read_in n (k + at) r ≡ record { entries = (read_in n at r).entries; fault = moved_on k (read_in n at r).fault }) → (f : Found) → found s ≡ f
        → read_in (suc n) (k + at) s ≡ record { entries = (read_in (suc n) at s).entries; fault = moved_on k (read_in (suc n) at s).fault }
    go ih End is = rw is
    go ih (Faulty f) is = let e : k + at + f.place ≡ k + (at + f.place) = omega arith in rw (is, e)
    go ih (Whole e) is =
        let r : List ℕ = drop (size_of e) s in
        let p : k + at + size_of e ≡ k + (at + size_of e) = omega arith in
        rw (is, p, ih r k (at + size_of e))

pub log-moved : (k at : ℕ) (s : List ℕ) → log_from (k + at) s ≡ record { entries = (log_from at s).entries; fault = moved_on k (log_from at s).fault }
log-moved k at s = turns-moved (suc (length s)) s k at

-- ---- the number of a fault
turns-listed : (n : ℕ) (s : List ℕ) (at : ℕ) (f : Fault) → (read_in n at s).fault ≡ some f → Memᴰ f.number log_order
unfolding read_in
turns-listed zero s at f e = some-none (sym e)
turns-listed (suc n) s at f e = go (turns-listed n) (found s) refl
  where
    go : ((r : List ℕ) (b : ℕ) (g : Fault) → (read_in n b r).fault ≡ some g → Memᴰ g.number log_order) → (o : Found) → found s ≡ o → Memᴰ f.number log_order
    go ih End is = some-none (sym (rw is at e))
    go ih (Faulty g) is =
        let h : some (fault_at at g) ≡ some f = rw is at e in
        let k : g.number ≡ f.number = cc h in
        rw (sym k) (fault-listed s g (faulty-first s g is).1)
    go ih (Whole w) is = ih (drop (size_of w) s) (at + size_of w) f (rw is at e)

-- It is one of the log reader's.
pub log-listed : (at : ℕ) (s : List ℕ) (f : Fault) → (log_from at s).fault ≡ some f → Memᴰ f.number log_order
log-listed at s f e = turns-listed (suc (length s)) s at f e

-- ---- how far a log reaches
-- records and fault lie within the bytes
turns-within : (n : ℕ) (s : List ℕ) (at : ℕ) → (size_of_all (read_in n at s).entries ≤ length s) × ((f : Fault) → (read_in n at s).fault ≡ some f → f.place ≤ at + length s)
unfolding read_in size_of_all
turns-within zero s at = (omega arith, λ f e. some-none (sym e))
turns-within (suc n) s at = go (turns-within n) (found s) refl
  where
    go : ((r : List ℕ) (b : ℕ) → (size_of_all (read_in n b r).entries ≤ length r) × ((f : Fault) → (read_in n b r).fault ≡ some f → f.place ≤ b + length r))
        → (o : Found) → found s ≡ o
        → (size_of_all (read_in (suc n) at s).entries ≤ length s) × ((f : Fault) → (read_in (suc n) at s).fault ≡ some f → f.place ≤ at + length s)
    go ih End is = rw is (omega arith, λ f e. some-none (sym e))
    go ih (Faulty g) is =
        rw is (omega arith, λ f e. let k : at + g.place ≡ f.place = cc e in omega (arith, k, fault-place s g (faulty-first s g is).1))
    go ih (Whole w) is =
        let r : List ℕ = drop (size_of w) s in
        let (few, near) = ih r (at + size_of w) in
        rw is
        (omega (arith, few, length-drop (size_of w) s, whole-fits s w is), λ f e. omega (arith, near f e, length-drop (size_of w) s, whole-fits s w is))

pub records-within : (at : ℕ) (s : List ℕ) → size_of_all (log_from at s).entries ≤ length s
records-within at s = (turns-within (suc (length s)) s at).0

pub fault-within : (at : ℕ) (s : List ℕ) (f : Fault) → (log_from at s).fault ≡ some f → f.place ≤ at + length s
fault-within at s f e = (turns-within (suc (length s)) s at).1 f e

-- ---- a log that was written
-- a record is as long as its size says
pub bytes-size : (e : Entry) → length (bytes_of e) ≡ size_of e
unfolding record_of head_of
bytes-size e = omega arith

-- Records that were written one behind the other are read, and then what stands behind them.
pub log-written : (es : List Entry) (more : List ℕ) (at : ℕ) → AllLoggable es → log_from at (written_log es ++ more) ≡ behind es (log_from (at + size_of_all es) more)
unfolding size_of_all
log-written [] more at h = ap (λ (k : ℕ). log_from k more) {x = at} {y = at + 0} (omega arith)
log-written (e ∷ es) more at h =
    let s : List ℕ = bytes_of e ++ (written_log es ++ more) in
    let is : found s ≡ Whole e = found-record e.link e.line (written_log es ++ more) h.0.link h.0.short in
    ap (log_from at) (append_assoc (bytes_of e) (written_log es) more)
    ∙ log-whole at s e is
    ∙ ap (λ (l : List ℕ). behind (e ∷ []) (log_from (at + size_of e) l)) (drop_at (bytes_of e) (written_log es ++ more) (size_of e) (bytes-size e))
    ∙ ap (behind (e ∷ [])) (log-written es more (at + size_of e) h.1)
    ∙ ap (λ (k : ℕ). behind (e ∷ es) (log_from k more)) {x = at + size_of e + size_of_all es} {y = at + (size_of e + size_of_all es)} (omega arith)

-- So a log of them reads back as exactly those, without a fault.
pub reads-back : (es : List Entry) → AllLoggable es → log_of (written_log es) ≡ record { entries = es; fault = none }
reads-back es h =
    ap log_of (sym (append-nil (written_log es))) ∙ log-written es [] 0 h ∙ rw (log-nil (0 + size_of_all es)) (ap (λ (l : List Entry). record { entries = l; fault = none }) (append-nil es))

-- the records of some lines, and of others behind them
pub written-joined : (es fs : List Entry) → written_log (es ++ fs) ≡ written_log es ++ written_log fs
written-joined [] fs = refl
written-joined (e ∷ es) fs = ap (λ (l : List ℕ). bytes_of e ++ l) (written-joined es fs) ∙ sym (append_assoc (bytes_of e) (written_log es) (written_log fs))

pub loggable-joined : (es fs : List Entry) → AllLoggable es → AllLoggable fs → AllLoggable (es ++ fs)
loggable-joined [] fs h k = k
loggable-joined (e ∷ es) fs h k = (h.0, loggable-joined es fs h.1 k)

-- as many bytes as their sizes come to
pub written-size : (es : List Entry) → length (written_log es) ≡ size_of_all es
unfolding size_of_all
written-size [] = refl
written-size (e ∷ es) = length-append (bytes_of e) (written_log es) ∙ omega (arith, bytes-size e, written-size es)
