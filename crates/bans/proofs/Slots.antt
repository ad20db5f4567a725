-- Laws of slots: where a list is, which are good, what storing one does to it and to the others, and the list without masks. Assumes nothing.
use mathlib.Core.Path.{◌≡◌, refl, sym, ap, ◌∙◌}
use mathlib.Core.Bool.{Bool, true, false}
use mathlib.Core.List.{List, []}
use Prim.Native.Nat.{ℕ, ◌+◌, ◌-◌, ◌≤◌, ◌<◌}
use native.Mathlib.Omega.{arith}
use lib.ListN.{length, drop, replicate, length-take, length-drop, length-replicate}
use lib.Dec.{eqb, ltb}
use borrow.Author.Tests.{eq-eqb, eqb-true, ltb-true, ltb-false}
use Rattle.laws.specs.Lists.{all}
use Rattle.laws.proofs.Bools.{and_left, and_right, and_intro}
use Rattle.laws.proofs.Lists.{padded-whole, all_head, all_drop, all_take, all_replicate}
use Rattle.octets.specs.Room.{part, put_at}
use Rattle.octets.specs.Bytes.{is_zero}
use Rattle.octets.proofs.Room.{part-next, length_part, part-short, part-put, part-before, part-behind, put_same}
use Rattle.ascending.proofs.Ascends.{ascends-short}
use Rattle.channel.specs.Limits.{slot_count}
use Rattle.channel.proofs.Records.{zeros}
use Rattle.bans.specs.declared.BanList.{BanList}
use Rattle.bans.specs.Limits.{list_size, bans_size}
use Rattle.bans.specs.Masks.{by_fold, mask_count, used_rooms, masks}
use Rattle.bans.specs.WellFormed.{well_formed_list, is_unused, good_list}
use Rattle.bans.specs.Slots.{offset, list_at, list_of, empty_list, empty_lists, stored}

-- ---- where a list is
-- a list's bytes are never more than its size
pub length-list : (a : List ℕ) (k : ℕ) → length (list_at a k) ≤ list_size
unfolding list_at
length-list a k = omega (arith, part-short a (offset k) (offset k + list_size))

-- where they are as many, the list lies within the lent bytes
pub list-fits : (a : List ℕ) (k : ℕ) → length (list_at a k) ≡ list_size → offset k + list_size ≤ length a
unfolding list_at
list-fits a k e = omega (arith, length-take list_size (drop (offset k) a), length-drop (offset k) a, ap (λ (l : List ℕ). length l) (sym (part-next a (offset k) list_size)))

-- all sixteen are there where the lent bytes are as many as theirs
pub list-there : (a : List ℕ) (k : ℕ) → length a ≡ bans_size → k < slot_count → length (list_at a k) ≡ list_size
unfolding list_at offset
list-there a k e h = length_part a (offset k) (offset k + list_size) (omega arith) ∙ omega arith

-- ---- good lists
-- the list of a slot in use is good where it is well formed
pub used-list : (s : List ℕ) → good_list true s ≡ well_formed_list s
unfolding good_list
used-list s = refl

-- and that of a free slot where it is zero
pub free-list : (s : List ℕ) → good_list false s ≡ is_unused s
unfolding good_list
free-list s = refl

-- either way it is there
pub good-there : (u : Bool) (s : List ℕ) → good_list u s ≡ true → length s ≡ list_size
unfolding good_list well_formed_list is_unused
good-there true s h = eqb-true (length s) list_size (all_head (λ t. t) _ _ h)
good-there false s h = eqb-true (length s) list_size (and_left (eqb (length s) list_size) (all is_zero s) h)

-- ---- a list stored
module _ (a : List ℕ) (k : ℕ) (b : BanList) where
  -- the list that is there stored again changes nothing
  pub stored_same : length (list_at a k) ≡ list_size → list_at a k ≡ b.room → stored a k b ≡ a
  unfolding stored list_at
  stored_same there e = ap (put_at a (offset k)) (sym e) ∙ put_same a (offset k) list_size (list-fits a k there)

  module _ (there : length (list_at a k) ≡ list_size) (whole : length b.room ≡ list_size) where
    fits : offset k + length b.room ≤ length a
    fits = omega (arith, whole, list-fits a k there)

    -- the slot holds it
    pub list-stored : list_at (stored a k b) k ≡ b.room
    unfolding list_at stored
    list-stored = ap (λ (n : ℕ). part (put_at a (offset k) b.room) (offset k) (offset k + n)) (sym whole) ∙ part-put a (offset k) b.room fits

    -- any other slot holds what it held
    pub list-other : (j : ℕ) → j < slot_count → k < slot_count → (j ≡ k → ⊥) → list_at (stored a k b) j ≡ list_at a j
    unfolding list_at stored offset
    list-other j g h ne = go (ltb j k) refl
      where
        go : (t : Bool) → ltb j k ≡ t → list_at (stored a k b) j ≡ list_at a j
        go true e = part-before a (offset k) b.room fits (offset j) list_size (omega (arith, ltb-true j k e))
        go false e = part-behind a (offset k) b.room fits (offset j) (offset j + list_size) (omega (arith, ltb-false j k e, ne))

-- bytes that are as many as a list's are loaded as they are
pub load-whole : (s : List ℕ) → length s ≡ list_size → (list_of s).room ≡ s
unfolding list_of
load-whole s e = padded-whole 0 list_size s e

-- ---- the list without masks
abbrev zero_room : List ℕ
zero_room = replicate list_size 0

all-zero : all is_zero zero_room ≡ true
all-zero = all_replicate is_zero 0 list_size refl

-- it is whole
pub empty-whole : length empty_list.room ≡ list_size
unfolding empty_list
empty-whole = length-replicate {A = ℕ} list_size 0

-- it has no masks
pub empty-masks : masks empty_list.room ≡ []
unfolding masks used_rooms mask_count empty_list
empty-masks = refl

-- it is zero
pub empty-unused : is_unused empty_list.room ≡ true
unfolding is_unused empty_list
empty-unused = rw (eq-eqb (length zero_room) list_size empty-whole) all-zero

-- it is well formed
pub empty-well : well_formed_list empty_list.room ≡ true
unfolding well_formed_list empty_list all mask_count used_rooms
empty-well = rw (eq-eqb (length zero_room) list_size empty-whole, all_drop is_zero 1 zero_room all-zero, ascends-short by_fold [] (omega arith))

-- bytes of a list that are zero are it
pub unused-empty : (s : List ℕ) → is_unused s ≡ true → s ≡ empty_list.room
unfolding is_unused empty_list
unused-empty s h =
    zeros s (and_right (eqb (length s) list_size) (all is_zero s) h) ∙ ap (λ (n : ℕ). replicate n 0) (eqb-true (length s) list_size (and_left (eqb (length s) list_size) (all is_zero s) h))

-- so they are well formed
pub unused-well : (s : List ℕ) → is_unused s ≡ true → well_formed_list s ≡ true
unused-well s h = ap well_formed_list (unused-empty s h) ∙ empty-well

-- sixteen of them are as many bytes as sixteen lists
pub empty-size : length empty_lists ≡ bans_size
unfolding empty_lists
empty-size = length-replicate {A = ℕ} bans_size 0

empty-zero : all is_zero empty_lists ≡ true
unfolding empty_lists
empty-zero = all_replicate is_zero 0 bans_size refl

-- and each of those is it
pub lists-empty : (k : ℕ) → k < slot_count → list_at empty_lists k ≡ empty_list.room
unfolding list_at part is_unused
lists-empty k h =
    unused-empty (list_at empty_lists k)
    (and_intro (eqb (length (list_at empty_lists k)) list_size) (all is_zero (list_at empty_lists k))
    (eq-eqb _ list_size (list-there empty_lists k empty-size h))
    (all_take is_zero (offset k + list_size - offset k) _ (all_drop is_zero (offset k) empty_lists empty-zero)))
