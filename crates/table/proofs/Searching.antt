-- Whether a slot holds a name, and what the search answers by where the first slot that holds it stands, and the first free one. Assumes nothing.
use mathlib.Core.Path.{◌≡◌, refl, sym, ap, ◌∙◌}
use mathlib.Core.Bool.{Bool, true, false, not, cond, ◌&&◌}
use mathlib.Core.List.{List, [], ◌∷◌}
use Rattle.std.proofs.Common.{Option, Some, None}
use Rattle.std.specs.List.{position_or_len}
use Prim.Native.Nat.{ℕ, ◌+◌, ◌≤◌, ◌<◌}
use native.Mathlib.Omega.{arith}
use lib.ListN.{length, drop, get_or}
use lib.Dec.{ltb}
use borrow.Author.Tests.{eq-eqb, ne_eqb, lt-ltb, le-ltb, ltb-true, ltb-false}
use Rattle.refusal.specs.Numbers.{no_free_slot}
use Rattle.refusal.specs.Rules.{◌when◌, first_of}
use Rattle.refusal.proofs.Rules.{skip, stop, first-nil}
use Rattle.laws.proofs.Lists.{get_or_any}
use Rattle.names.specs.Fold.{fold, same_name}
use Rattle.names.proofs.Folds.{name-past, name-stop, name-go}
use Rattle.channel.specs.declared.Record.{Record}
use Rattle.channel.specs.Record.{decode, empty_record}
use Rattle.table.specs.declared.Found as code
use Rattle.table.specs.declared.Found.TheVariants as answer
use Rattle.table.specs.Table.{is_free, holds}
use Rattle.table.specs.Slots.{Found, Held, Free, Full, first_at, free_slot, slot_for, is_held, held_in, as_found, found_for, slot_number, slot_rules}
use Rattle.table.proofs.First.{IsFirst, IsNone, first-here, first_next, first-end, first-is, first-none, first-all, first-listed}

-- what the code reads past the last slot
abbrev pub nothing : Record
nothing = record { name = []; name_len = 0; time = 0; modes = 0; key = []; key_len = 0; limit = 0; members = []; count = 0 }

-- ---- whether a slot holds the name
module _ (name : List ℕ) (r : Record) where
  -- a free slot holds no name
  pub free-holds : r.count ≡ 0 → holds name r ≡ false
  unfolding holds
  free-holds e = rw (eq-eqb r.count 0 e)

  -- its name is compared
  pub used-holds : (r.count ≡ 0 → ⊥) → (held : List ℕ) → held ≡ (decode r).name → holds name r ≡ same_name held name
  unfolding holds
  used-holds ne held e = rw (ne_eqb r.count 0 ne, e)

-- ---- two names, byte by byte
module _ (x y : ℕ) (a b : List ℕ) where
  -- bytes that differ decide
  pub heads-stop : (fold x ≡ fold y → ⊥) → same_name (x ∷ a) (y ∷ b) ≡ false
  heads-stop ne = name-stop (x ∷ a) (y ∷ b) 0 (omega arith) (omega arith) ne

  -- behind equal bytes the others decide
  pub heads-go : fold x ≡ fold y → same_name (x ∷ a) (y ∷ b) ≡ same_name a b
  heads-go e = name-go (x ∷ a) (y ∷ b) 0 (omega arith) (omega arith) e

-- where no bytes are left they are equal
pub none-left : (a b : List ℕ) → (a ≡ []) × (b ≡ []) → same_name a b ≡ true
none-left a b e = rw (e.0, e.1) (name-past [] [] 0 (omega arith) (omega arith))

-- ---- what the search answers
module _ (slots : List Record) where
  -- the answer is the first free slot, where there is one
  pub free-found : (k : ℕ) → first_at is_free slots ≡ k → k < length slots → Free k ≡ free_slot slots
  unfolding free_slot
  free-found k e h = rw (e, lt-ltb k (length slots) h)

  -- where there is none, the answer is that all are used
  pub free-full : length slots ≤ first_at is_free slots → Full ≡ free_slot slots
  unfolding free_slot
  free-full h = rw (le-ltb (first_at is_free slots) (length slots) h)

  -- no free slot has the name
  pub free-empty : held_in slots (free_slot slots) ≡ empty_record
  unfolding free_slot
  free-empty = go (ltb (first_at is_free slots) (length slots))
    where
      go : (t : Bool) → held_in slots (cond t (Free (first_at is_free slots)) Full) ≡ empty_record
      go true = refl
      go false = refl

  -- what the library's search for it answers
  abbrev pub searched : Option ℕ
  searched = cond (ltb (first_at is_free slots) (length slots)) (Some (first_at is_free slots)) None

  pub searched-is : (r : Option ℕ) → r ≡ cond (ltb (position_or_len is_free slots) (length slots)) (Some (position_or_len is_free slots)) None → searched ≡ r
  searched-is r e = ap (λ (n : ℕ). cond (ltb n (length slots)) (Some n) None) (sym (first-listed is_free slots)) ∙ sym e

  pub free-some : (k : ℕ) → searched ≡ Some k → Free k ≡ free_slot slots
  free-some k = go (ltb (first_at is_free slots) (length slots)) refl
    where
      go : (t : Bool) → ltb (first_at is_free slots) (length slots) ≡ t → cond t (Some (first_at is_free slots)) None ≡ Some k → Free k ≡ free_slot slots
      go true e q = let f : first_at is_free slots ≡ k = cc in free-found k f (omega (arith, ltb-true _ _ e))
      go false e q = let z : ◌≡◌ {A = ℕ} 0 1 = cc in absurd (omega arith)

  pub free-none : searched ≡ None → Full ≡ free_slot slots
  free-none = go (ltb (first_at is_free slots) (length slots)) refl
    where
      go : (t : Bool) → ltb (first_at is_free slots) (length slots) ≡ t → cond t (Some (first_at is_free slots)) None ≡ None → Full ≡ free_slot slots
      go true e q = let z : ◌≡◌ {A = ℕ} 0 1 = cc in absurd (omega arith)
      go false e q = free-full (ltb-false _ _ e)

  module _ (name : List ℕ) where
    -- a name uses the first slot that holds it, where there is one
    pub held_found : (k : ℕ) → first_at (holds name) slots ≡ k → k < length slots → Held k ≡ slot_for slots name
    unfolding slot_for
    held_found k e h = rw (e, lt-ltb k (length slots) h)

    -- where no slot holds the name, the answer is the lowest free one, or that all are used
    pub held_none : length slots ≤ first_at (holds name) slots → slot_for slots name ≡ free_slot slots
    unfolding slot_for
    held_none h = rw (le-ltb (first_at (holds name) slots) (length slots) h)

-- ---- what the code answers
-- one that holds nothing isn't the first kind
pub not-held : (f : code.Found) → ((k : ℕ) (r : _) → f ≡ answer.Held k r → ⊥) → is_held (as_found f).slot ≡ false
not-held (answer.Held k r) h = absurd (h k r refl)
not-held (answer.Free k) h = refl
not-held answer.Full h = refl

-- ---- what the answers say
-- The three ways in which a search can end.
data Ended (slots : List Record) (name : List ℕ) : Type 0 where
  held : first_at (holds name) slots < length slots → Held (first_at (holds name) slots) ≡ slot_for slots name → Ended slots name
  free : length slots ≤ first_at (holds name) slots → first_at is_free slots < length slots → Free (first_at is_free slots) ≡ slot_for slots name → Ended slots name
  full : length slots ≤ first_at (holds name) slots → length slots ≤ first_at is_free slots → Full ≡ slot_for slots name → Ended slots name

module _ (slots : List Record) (name : List ℕ) where
  ended : Ended slots name
  ended = go (ltb (first_at (holds name) slots) (length slots)) refl (ltb (first_at is_free slots) (length slots)) refl
    where
      go : (a : Bool) → ltb (first_at (holds name) slots) (length slots) ≡ a → (b : Bool) → ltb (first_at is_free slots) (length slots) ≡ b → Ended slots name
      go true e b f = let h = ltb-true _ _ e in held h (held_found slots name _ refl h)
      go false e true f = let h = ltb-false _ _ e in let k = ltb-true _ _ f in free h k (free-found slots _ refl k ∙ sym (held_none slots name h))
      go false e false f = let h = ltb-false _ _ e in let k = ltb-false _ _ f in full h k (free-full slots k ∙ sym (held_none slots name h))

  module _ (d : Record) where
    -- slot k is used and holds the name, and no lower one does
    pub slot_held : (k : ℕ) → slot_for slots name ≡ Held k → IsFirst (holds name) slots d k
    slot_held k e = go ended
      where
        go : Ended slots name → IsFirst (holds name) slots d k
        go (held h q) = let z : first_at (holds name) slots ≡ k = cc in first-is (holds name) slots d k z (omega arith)
        go (free h f q) = let z : ◌≡◌ {A = ℕ} 0 1 = cc in absurd (omega arith)
        go (full h f q) = let z : ◌≡◌ {A = ℕ} 0 1 = cc in absurd (omega arith)

    -- no slot holds it, and slot k is the lowest free one
    pub slot-free : (k : ℕ) → slot_for slots name ≡ Free k → IsNone (holds name) slots d × IsFirst is_free slots d k
    slot-free k e = go ended
      where
        go : Ended slots name → IsNone (holds name) slots d × IsFirst is_free slots d k
        go (held h q) = let z : ◌≡◌ {A = ℕ} 0 1 = cc in absurd (omega arith)
        go (free h f q) = let z : first_at is_free slots ≡ k = cc in (first-none (holds name) slots d h, first-is is_free slots d k z (omega arith))
        go (full h f q) = let z : ◌≡◌ {A = ℕ} 0 1 = cc in absurd (omega arith)

    -- no slot holds it, and none is free
    pub slot-full : slot_for slots name ≡ Full → IsNone (holds name) slots d × IsNone is_free slots d
    slot-full e = go ended
      where
        go : Ended slots name → IsNone (holds name) slots d × IsNone is_free slots d
        go (held h q) = let z : ◌≡◌ {A = ℕ} 0 1 = cc in absurd (omega arith)
        go (free h f q) = let z : ◌≡◌ {A = ℕ} 0 1 = cc in absurd (omega arith)
        go (full h f q) = (first-none (holds name) slots d h, first-none is_free slots d f)

  -- The answer settles its number.
  pub number_is : slot_number (slot_for slots name) ≡ first_of (slot_rules slots name)
  unfolding slot_for free_slot slot_rules
  number_is = rw (first-all (holds name) slots, first-all is_free slots) (go (ltb (first_at (holds name) slots) (length slots)) refl (ltb (first_at is_free slots) (length slots)) refl)
    where
      go : (a : Bool) → ltb (first_at (holds name) slots) (length slots) ≡ a → (b : Bool) → ltb (first_at is_free slots) (length slots) ≡ b
          → slot_number (slot_for slots name) ≡ first_of (no_free_slot when (not (ltb (first_at (holds name) slots) (length slots)) && not (ltb (first_at is_free slots) (length slots))) ∷ [])
      go true e b f = rw e (sym (skip _ _ refl ∙ first-nil))
      go false e true f = rw (e, f) (sym (skip _ _ refl ∙ first-nil))
      go false e false f = rw (e, f) (sym (stop _ _ refl))

  -- what is found settles it too
  pub number-found : (f : Found) → f ≡ found_for slots name → slot_number f.slot ≡ first_of (slot_rules slots name)
  number-found f e = ap (λ (g : Found). slot_number g.slot) e ∙ number_is

  -- ---- the search has passed over the slots below k
  module _ (k : ℕ) (passed : first_at (holds name) slots ≡ k + first_at (holds name) (drop k slots)) where
    module _ (d : Record) (h : k < length slots) where
      -- one that doesn't hold the name is passed over too
      pub slot-over : holds name (get_or slots k d) ≡ false → first_at (holds name) slots ≡ k + 1 + first_at (holds name) (drop (k + 1) slots)
      slot-over e = first_next (holds name) slots k d h passed e

      -- one that does is the answer
      pub slot-answers : holds name (get_or slots k d) ≡ true → record { slot = Held k; «record» = get_or slots k d } ≡ found_for slots name
      slot-answers e = rw (sym (held_found slots name k (first-here (holds name) slots k d h passed e) h), get_or_any slots k empty_record d h)

    -- past the last one the lowest free slot is
    module _ (h : length slots ≤ k) where
      none-holds : slot_for slots name ≡ free_slot slots
      none-holds = held_none slots name (first-end (holds name) slots k h passed)

      pub free-answers : (i : ℕ) → searched slots ≡ Some i → record { slot = Free i; «record» = empty_record } ≡ found_for slots name
      free-answers i e = rw (none-holds, ← free-some slots i e)

      -- or all are used
      pub full-answers : searched slots ≡ None → record { slot = Full; «record» = empty_record } ≡ found_for slots name
      full-answers e = rw (none-holds, ← free-none slots e)
