-- Laws of records that are taken one after the other: the first of them; two lists of them, one behind the other; how many bytes are used; and the same from another
-- place on. Assumes nothing.
use Prim.Native.Nat.{ℕ, ◌+◌, ◌≤◌}
use mathlib.Core.Path.{◌≡◌, refl, sym, ap, ◌∙◌}
use mathlib.Core.Bool.{Bool, true, false, cond}
use mathlib.Core.List.{List, [], ◌∷◌, ◌++◌}
use mathlib.Core.Option.{Option, some, none}
use native.Mathlib.Omega.{arith}
use lib.Dec.{eqb}
use borrow.Author.Tests.{eq-eqb, ne_eqb, eqb-true, eqb-false}
use Rattle.refusal.specs.Numbers.{accepted}
use Rattle.table.specs.Network.{Table}
use Rattle.journal.specs.Reading.{Entry, size_of, size_of_all, Fault}
use Rattle.journal.proofs.Logs.{moved_on}
use Rattle.replay.specs.Replay.{Replay, taking, stopped, replay_of}
use Rattle.replay.specs.Pieces.{placed_at}

-- ---- the first of some records
module _ (t : Table) (at : ℕ) (e : Entry) (es : List Entry) (fault : Option Fault) where
  -- it is taken, and the others are taken with the table that it leaves
  pub replay-first : (taking t e).number ≡ accepted → replay_of t at (e ∷ es) fault ≡ replay_of (taking t e).table (at + size_of e) es fault
  unfolding replay_of
  replay-first is = rw is

  -- or it stops the replay
  pub replay-stops : (k : ℕ) → (taking t e).number ≡ k → (k ≡ accepted → ⊥) → replay_of t at (e ∷ es) fault ≡ stopped t at k
  unfolding replay_of
  replay-stops k is ne = rw (is, ne_eqb k accepted ne)

-- ---- records that are all taken
-- Some records are all taken, the first of which meets a table and stands at a place.
abbrev pub AllTaken : Table → ℕ → List Entry → Type 0
AllTaken t at es = (replay_of t at es none).number ≡ accepted

-- the table that they leave
abbrev pub left_by : Table → ℕ → List Entry → Table
left_by t at es = (replay_of t at es none).table

-- the first of them is taken
pub taken-first : (t : Table) (at : ℕ) (e : Entry) (es : List Entry) → AllTaken t at (e ∷ es) → (taking t e).number ≡ accepted
taken-first t at e es all = go (eqb (taking t e).number accepted) refl
  where
    go : (b : Bool) → eqb (taking t e).number accepted ≡ b → (taking t e).number ≡ accepted
    go true is = eqb-true (taking t e).number accepted is
    go false is =
        let ne = eqb-false (taking t e).number accepted is in
        sym (ap (λ (r : Replay). r.number) (replay-stops t at e es none (taking t e).number refl ne)) ∙ all

-- and so are the others
pub taken-others : (t : Table) (at : ℕ) (e : Entry) (es : List Entry) → AllTaken t at (e ∷ es) → AllTaken (taking t e).table (at + size_of e) es
taken-others t at e es all = sym (ap (λ (r : Replay). r.number) (replay-first t at e es none (taken-first t at e es all))) ∙ all

-- ---- some records, and others behind them
-- where the first are all taken, the others meet the table that they leave; else they aren't looked at
pub replay-joined : (es fs : List Entry) (o : Option Fault) (t : Table) (at : ℕ)
    → replay_of t at (es ++ fs) o
    ≡ cond (eqb (replay_of t at es none).number accepted) (replay_of (replay_of t at es none).table (at + size_of_all es) fs o) (replay_of t at es none)
unfolding replay_of size_of_all
replay-joined [] fs o t at = ap (λ (k : ℕ). replay_of t k fs o) {x = at} {y = at + 0} (omega arith)
replay-joined (e ∷ es) fs o t at = go (eqb (taking t e).number accepted) refl (replay-joined es fs o)
  where
    go : (b : Bool) → eqb (taking t e).number accepted ≡ b
        → ((u : Table) (k : ℕ) → replay_of u k (es ++ fs) o
        ≡ cond (eqb (replay_of u k es none).number accepted) (replay_of (replay_of u k es none).table (k + size_of_all es) fs o) (replay_of u k es none))
        → replay_of t at (e ∷ (es ++ fs)) o
        ≡ cond (eqb (replay_of t at (e ∷ es) none).number accepted) (replay_of (replay_of t at (e ∷ es) none).table (at + (size_of e + size_of_all es)) fs o) (replay_of t at (e ∷ es) none)
    go true h ih = let k : at + (size_of e + size_of_all es) ≡ at + size_of e + size_of_all es = omega arith in rw (h, k) (ih (taking t e).table (at + size_of e))
    go false h ih = rw (h, h)

-- so it is where they are all taken
pub replay-behind : (t : Table) (at : ℕ) (es more : List Entry) (fault : Option Fault) → AllTaken t at es
    → replay_of t at (es ++ more) fault ≡ replay_of (left_by t at es) (at + size_of_all es) more fault
replay-behind t at es more fault all = replay-joined es more fault t at ∙ rw (eq-eqb (replay_of t at es none).number accepted all)

-- where all are taken, the bytes used are theirs
pub replay-used : (es : List Entry) (t : Table) (at : ℕ) → (replay_of t at es none).number ≡ accepted → (replay_of t at es none).used ≡ at + size_of_all es
unfolding replay_of size_of_all
replay-used [] t at e = omega arith
replay-used (w ∷ es) t at e = go (eqb (taking t w).number accepted) refl (replay-used es)
  where
    go : (b : Bool) → eqb (taking t w).number accepted ≡ b
        → ((u : Table) (k : ℕ) → (replay_of u k es none).number ≡ accepted → (replay_of u k es none).used ≡ k + size_of_all es)
        → (replay_of t at (w ∷ es) none).used ≡ at + (size_of w + size_of_all es)
    go true h ih = rw h (ih (taking t w).table (at + size_of w) (rw h at e) ∙ omega arith)
    go false h ih = absurd (eqb-false (taking t w).number accepted h (rw h at e))

-- a fault behind them is the answer's, unless one of them is refused
pub replay-fault : (es : List Entry) (f : Fault) (t : Table) (at : ℕ) → (f.number ≡ accepted → ⊥) → (replay_of t at es (some f)).number ≡ accepted → ⊥
unfolding replay_of
replay-fault [] f t at ne e = ne e
replay-fault (w ∷ es) f t at ne e = go (eqb (taking t w).number accepted) refl (replay-fault es f)
  where
    go : (b : Bool) → eqb (taking t w).number accepted ≡ b
        → ((u : Table) (k : ℕ) → (f.number ≡ accepted → ⊥) → (replay_of u k es (some f)).number ≡ accepted → ⊥) → ⊥
    go true h ih = ih (taking t w).table (at + size_of w) ne (rw h at e)
    go false h ih = eqb-false (taking t w).number accepted h (rw h at e)

-- ---- from another place on
-- every fault has a number
abbrev pub Numbered : Option Fault → Type 0
Numbered none = Unit {0}
Numbered (some f) = f.number ≡ accepted → ⊥

-- the same comes of them, at places that are as much further on
pub replay-moved : (k : ℕ) (es : List Entry) (o : Option Fault) (t : Table) (at : ℕ) → Numbered o → replay_of t (k + at) es (moved_on k o) ≡ placed_at k (replay_of t at es o)
unfolding replay_of
replay-moved k [] none t at h = refl
replay-moved k [] (some f) t at h = rw (ne_eqb f.number accepted h)
replay-moved k (e ∷ es) o t at h = go (eqb (taking t e).number accepted) refl (replay-moved k es o)
  where
    go : (b : Bool) → eqb (taking t e).number accepted ≡ b
        → ((u : Table) (at : ℕ) → Numbered o → replay_of u (k + at) es (moved_on k o) ≡ placed_at k (replay_of u at es o))
        → replay_of t (k + at) (e ∷ es) (moved_on k o) ≡ placed_at k (replay_of t at (e ∷ es) o)
    go true g ih = let p : k + at + size_of e ≡ k + (at + size_of e) = omega arith in rw (g, p) (ih (taking t e).table (at + size_of e) h)
    go false g ih = rw (g, g)

-- ---- how far they reach
-- no further than the records, or than the fault behind them
pub replay-within : (m : ℕ) (es : List Entry) (o : Option Fault) (t : Table) (at : ℕ) → at + size_of_all es ≤ m → ((f : Fault) → o ≡ some f → f.place ≤ m)
    → ((replay_of t at es o).used ≤ m) × ((replay_of t at es o).place ≤ m)
unfolding replay_of size_of_all
replay-within m [] none t at h near = (omega arith, omega arith)
replay-within m [] (some f) t at h near = (omega arith, near f refl)
replay-within m (e ∷ es) o t at h near = go (eqb (taking t e).number accepted) refl (replay-within m es o)
  where
    go : (b : Bool) → eqb (taking t e).number accepted ≡ b
        → ((u : Table) (k : ℕ) → k + size_of_all es ≤ m → ((f : Fault) → o ≡ some f → f.place ≤ m) → ((replay_of u k es o).used ≤ m) × ((replay_of u k es o).place ≤ m))
        → ((replay_of t at (e ∷ es) o).used ≤ m) × ((replay_of t at (e ∷ es) o).place ≤ m)
    go true g ih = rw g (ih (taking t e).table (at + size_of e) (omega arith) near)
    go false g ih = rw g (omega arith, omega arith)
