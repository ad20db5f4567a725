-- Slots changed: those that are emptied, or keep their names, or open one that no slot holds, leave no two slots alike; and a slot stays good where it holds a
-- well-formed record or loses a member. Assumes nothing.
use mathlib.Core.Path.{◌≡◌, refl, sym, ap, ◌∙◌}
use mathlib.Core.Bool.{Bool, true, false, not, and-false}
use mathlib.Core.Logic.{◌⊎◌, inl, inr}
use mathlib.Core.List.{List, [], ◌∷◌, map}
use Prim.Native.Nat.{ℕ, zero, suc}
use native.Mathlib.Omega.{arith}
use lib.ListN.{get_or, set, length-take}
use borrow.Author.Tests.{eq-eqb, ne_eqb, eqb-true, eqb-false, not-true}
use Rattle.laws.specs.Lists.{all}
use Rattle.laws.proofs.Bools.{and_left, and_right, and_intro, both_ways}
use Rattle.laws.proofs.Lists.{all_head, all_tail, all_cons, all-imp}
use Rattle.laws.proofs.Replaced.{all_set}
use Rattle.names.specs.Fold.{same_name}
use Rattle.names.proofs.Folds.{name-sym}
use Rattle.channel.specs.declared.Record.{Record}
use Rattle.channel.specs.Record.{decode, empty_record}
use Rattle.channel.specs.Members.{without}
use Rattle.channel.specs.WellFormed.{well_formed}
use Rattle.channel.proofs.Proper.{well-says}
use Rattle.channel.proofs.Blank.{empty-free, empty-blank}
use Rattle.channel.proofs.Removals.{without-free, without-name, without-well}
use Rattle.table.specs.Table.{is_free, holds, alike, distinct}
use Rattle.table.specs.Private.Parts.{good_record}
use Rattle.table.proofs.WellFormed.{good-free, good-used, unlike}

-- ---- a slot that is good
-- a well-formed record has members
pub well-used : (r : Record) → well_formed r ≡ true → is_free r ≡ false
unfolding decode
well-used r h = ne_eqb r.count 0 (λ e. omega (arith, (well-says r h).holds.some, length-take r.count r.members))

-- a slot with a well-formed record is good
pub well-good : (r : Record) → well_formed r ≡ true → good_record r ≡ true
well-good r h = good-used r (eqb-false r.count 0 (well-used r h)) ∙ h

-- the empty slot is good
pub empty-slot : good_record empty_record ≡ true
empty-slot = good-free empty_record empty-free ∙ empty-blank

-- one at any place of good slots, past their end the empty one
pub good-at : (l : List Record) (k : ℕ) → all good_record l ≡ true → good_record (get_or l k empty_record) ≡ true
good-at [] k h = empty-slot
good-at (r ∷ l) zero h = all_head good_record r l h
good-at (r ∷ l) (suc k) h = good-at l k (all_tail good_record r l h)

-- a good slot that a user is taken out of stays good
pub without-good : (id : List ℕ) (r : Record) → good_record r ≡ true → good_record (without id r) ≡ true
without-good id r h = go (is_free r) refl
  where
    used : (without id r ≡ empty_record) ⊎ (well_formed (without id r) ≡ true) → good_record (without id r) ≡ true
    used (inl e) = rw e empty-slot
    used (inr w) = well-good (without id r) w

    go : (t : Bool) → is_free r ≡ t → good_record (without id r) ≡ true
    go true e = rw (without-free id r (eqb-true r.count 0 e)) empty-slot
    go false e = used (without-well id r (sym (good-used r (eqb-false r.count 0 e)) ∙ h))

-- ---- a slot that is emptied, or keeps its name
-- the second slot is free, or the first is used and the second has its name
abbrev pub Keeps : Record → Record → Type 0
Keeps r s = (is_free s ≡ true) ⊎ ((is_free r ≡ false) × ((decode s).name ≡ (decode r).name))

keeps_same : (r : Record) → Keeps r r
keeps_same r = go (is_free r) refl
  where
    go : (t : Bool) → is_free r ≡ t → Keeps r r
    go true e = inl e
    go false e = inr (e, refl)

-- a slot that a user is taken out of is emptied or keeps its name
pub without-keeps : (id : List ℕ) (r : Record) → Keeps r (without id r)
without-keeps id r = go (is_free r) refl
  where
    emptied : without id r ≡ empty_record → Keeps r (without id r)
    emptied e = inl (rw e (eq-eqb empty_record.count 0 empty-free))

    used : is_free r ≡ false → (without id r ≡ empty_record) ⊎ ((decode (without id r)).name ≡ (decode r).name) → Keeps r (without id r)
    used f (inl e) = emptied e
    used f (inr e) = inr (f, e)

    go : (t : Bool) → is_free r ≡ t → Keeps r (without id r)
    go true e = emptied (without-free id r (eqb-true r.count 0 e))
    go false e = used e (without-name id r)

unlike-keeps : (r s x y : Record) → Keeps r x → Keeps s y → alike r s ≡ false → alike x y ≡ false
unfolding alike holds
unlike-keeps r s x y (inl e) k h = rw e
unlike-keeps r s x y (inr e) (inl f) h = rw (f, and-false (not (is_free x)))
unlike-keeps r s x y (inr e) (inr f) h =
    let n : same_name (decode s).name (decode r).name ≡ false = rw (e.0, f.0) at h in
    rw (f.1, e.1, n, and-false (not (is_free y)), and-false (not (is_free x)))

-- ---- slots, each emptied or with its name
-- there are as many slots after as before, and each is emptied or keeps the name of the one in its place
abbrev pub Kept : List Record → List Record → Type 0
Kept [] [] = Unit {0}
Kept [] (s ∷ m) = ⊥
Kept (r ∷ l) [] = ⊥
Kept (r ∷ l) (s ∷ m) = Keeps r s × Kept l m

kept_same : (l : List Record) → Kept l l
kept_same [] = tt
kept_same (r ∷ l) = (keeps_same r, kept_same l)

-- one slot replaced: each is emptied or keeps its name if that one does
pub kept_set : (l : List Record) (k : ℕ) (x : Record) → Keeps (get_or l k empty_record) x → Kept l (set l k x)
kept_set [] k x h = tt
kept_set (r ∷ l) zero x h = (h, kept_same l)
kept_set (r ∷ l) (suc k) x h = (keeps_same r, kept_set l k x h)

-- every slot changed in one way: each is emptied or keeps its name if that way does so to any slot
pub kept_map : (f : Record → Record) → ((r : Record) → Keeps r (f r)) → (l : List Record) → Kept l (map f l)
kept_map f h [] = tt
kept_map f h (r ∷ l) = (h r, kept_map f h l)

unlike-kept : (r x : Record) → Keeps r x → (l m : List Record) → Kept l m → all (unlike r) l ≡ true → all (unlike x) m ≡ true
unfolding all
unlike-kept r x k [] [] q h = refl
unlike-kept r x k [] (t ∷ m) q h = absurd q
unlike-kept r x k (s ∷ l) [] q h = absurd q
unlike-kept r x k (s ∷ l) (t ∷ m) q h =
    all_cons (unlike x) t m (ap not (unlike-keeps r s x t k q.0 (not-true (alike r s) (all_head (unlike r) s l h))))
    (unlike-kept r x k l m q.1 (all_tail (unlike r) s l h))

-- distinct slots, each emptied or with its name, stay distinct
pub distinct-kept : (l m : List Record) → Kept l m → distinct l ≡ true → distinct m ≡ true
unfolding distinct
distinct-kept [] [] q h = refl
distinct-kept [] (s ∷ m) q h = absurd q
distinct-kept (r ∷ l) [] q h = absurd q
distinct-kept (r ∷ l) (s ∷ m) q h =
    and_intro (all (unlike s) m) (distinct m) (unlike-kept r s q.0 l m q.1 (and_left (all (unlike r) l) (distinct l) h))
    (distinct-kept l m q.1 (and_right (all (unlike r) l) (distinct l) h))

-- ---- a slot that takes a name that none holds
module _ (name : List ℕ) (x : Record) (is : (decode x).name ≡ name) where
  new-unlike : (s : Record) → holds name s ≡ false → alike x s ≡ false
  unfolding alike
  new-unlike s h = rw (is, h, and-false (not (is_free x)))

  unlike-new : (r : Record) → holds name r ≡ false → alike r x ≡ false
  unfolding alike holds
  unlike-new r h = go (is_free r) refl
    where
      go : (t : Bool) → is_free r ≡ t → alike r x ≡ false
      go true e = rw e
      go false e =
          let n : same_name (decode r).name name ≡ false = rw e at h in
          let turned = both_ways (same_name name (decode r).name) (same_name (decode r).name name) (name-sym name (decode r).name) (name-sym (decode r).name name) in
          let s : same_name (decode x).name (decode r).name ≡ false = rw is (turned ∙ n) in
          rw (e, s, and-false (not (is_free x)))

  abbrev lacks : Record → Bool
  lacks r = not (holds name r)

  -- distinct slots stay distinct where one takes a name that none of them holds
  pub distinct-new : (l : List Record) (k : ℕ) → all lacks l ≡ true → distinct l ≡ true → distinct (set l k x) ≡ true
  unfolding distinct
  distinct-new [] k n h = refl
  distinct-new (r ∷ l) zero n h =
      and_intro (all (unlike x) l) (distinct l)
      (all-imp lacks (unlike x) (λ s e. ap not (new-unlike s (not-true (holds name s) e))) l (all_tail lacks r l n))
      (and_right (all (unlike r) l) (distinct l) h)
  distinct-new (r ∷ l) (suc k) n h =
      and_intro (all (unlike r) (set l k x)) (distinct (set l k x))
      (all_set (unlike r) l k x (and_left (all (unlike r) l) (distinct l) h) (ap not (unlike-new r (not-true (holds name r) (all_head lacks r l n)))))
      (distinct-new l k (all_tail lacks r l n) (and_right (all (unlike r) l) (distinct l) h))
