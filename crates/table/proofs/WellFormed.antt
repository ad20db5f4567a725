-- Laws of well-formed tables: their slots judged one after the other, each with its ban list; the empty table is one; a slot changed with its list leaves one; and
-- at most one slot holds a name. Assumes nothing.
use Prim.Native.Nat.{ℕ, zero, suc, ◌+◌, ◌≤◌, ◌<◌}
use mathlib.Core.Path.{◌≡◌, refl, sym, ap, ap₂, ◌∙◌}
use mathlib.Core.Bool.{Bool, true, false, true≢false, not, ◌&&◌}
use mathlib.Core.List.{List, [], ◌∷◌}
use native.Mathlib.Omega.{arith}
use lib.ListN.{length, drop, get_or, set, replicate, drop_of_length-le, length-replicate, length-set}
use lib.Seq.{get_or-set_same, get_or-set_other}
use lib.Dec.{eqb, leb, ltb}
use borrow.Author.Tests.{eq-eqb, ne_eqb, eqb-true, eqb-false, le-leb, leb-true, ltb-true, ltb-false, not-true}
use Rattle.laws.specs.Lists.{all}
use Rattle.laws.proofs.Bools.{and_left, and_right, and_intro, and-three, and-swap, refuted, refuted-by}
use Rattle.laws.proofs.Lists.{drop-step, all-at, all_replicate}
use Rattle.laws.proofs.Replaced.{all_set}
use Rattle.octets.specs.Room.{part}
use Rattle.names.specs.Fold.{same_name}
use Rattle.names.proofs.Folds.{name-sym, name-trans}
use Rattle.channel.specs.declared.Record.{Record}
use Rattle.channel.specs.Limits.{slot_count}
use Rattle.channel.specs.Record.{decode, empty_record}
use Rattle.channel.specs.WellFormed.{is_blank, well_formed}
use Rattle.channel.proofs.Blank.{empty-free, empty-blank}
use Rattle.channel.proofs.Decoded.{decoded-name}
use Rattle.bans.specs.declared.BanList.{BanList}
use Rattle.bans.specs.Limits.{list_size}
use Rattle.bans.specs.WellFormed.{well_formed_list, good_list}
use Rattle.bans.specs.Slots.{list_at, empty_list, empty_lists, stored}
use Rattle.bans.specs.Records.{whole, good_whole}
use Rattle.bans.proofs.Records.{whole_parts}
use Rattle.bans.proofs.Slots.{used-list, free-list, good-there, list-stored, list-other, empty-unused, empty-well, lists-empty}
use Rattle.table.specs.Network.{Table, Network, network_of, with_slots, with_bans, with_list, emptied_if, empty_network}
use Rattle.table.specs.Table.{is_free, wholes_from, wholes, holds, alike, distinct, good_network, good_table, empty_table}
use Rattle.table.specs.Private.Parts.{good_record, good_lists}

-- ---- one slot
module _ (r : Record) where
  -- a free slot is good exactly if it is zero
  pub good-free : r.count ≡ 0 → good_record r ≡ is_blank r
  unfolding good_record
  good-free e = rw (eq-eqb r.count 0 e)

  -- a used slot is good exactly if its record is well formed
  pub good-used : (r.count ≡ 0 → ⊥) → good_record r ≡ well_formed r
  unfolding good_record
  good-used ne = rw (ne_eqb r.count 0 ne)

-- ---- two slots
-- the part of the first one's room that its name takes up is sought in the second
module _ (r s : Record) where
  -- a free slot is like no slot
  pub free-alike : r.count ≡ 0 → alike r s ≡ false
  unfolding alike
  free-alike e = rw (eq-eqb r.count 0 e)

  -- a used slot is like those that hold its name
  pub used-alike : (r.count ≡ 0 → ⊥) → (name : List ℕ) → name ≡ part r.name 0 r.name_len → alike r s ≡ holds name s
  unfolding alike
  used-alike ne name e = rw (ne_eqb r.count 0 ne, e, decoded-name r)

-- the second slot isn't like the first
abbrev pub unlike : Record → Record → Bool
unlike r s = not (alike r s)

-- ---- the empty table
module _ (r : Record) where
  -- copies of a free slot are distinct
  pub free-distinct : (n : ℕ) → r.count ≡ 0 → distinct (replicate n r) ≡ true
  unfolding distinct
  free-distinct zero e = refl
  free-distinct (suc n) e = and_intro (all (unlike r) (replicate n r)) (distinct (replicate n r)) (all_replicate (unlike r) r n (ap not (free-alike r r e))) (free-distinct n e)

-- ---- each slot with its list
-- what makes a slot good: its record, and its list
pub whole-good : (r : Record) (b : BanList) → good_whole (whole r b) ≡ good_record r && good_list (not (is_free r)) b.room
unfolding good_record
whole-good r b = whole_parts (whole r b)

module _ (bans : List ℕ) where
  -- all slots are good where all records and all lists are
  wholes-parts : (k : ℕ) (slots : List Record) → all good_whole (wholes_from k slots bans) ≡ all good_record slots && good_lists k slots bans
  unfolding wholes_from good_lists all
  wholes-parts k [] = refl
  wholes-parts k (r ∷ rs) =
      let b : BanList = record { room = list_at bans k } in
      ap₂ ◌&&◌ (whole-good r b) (wholes-parts (suc k) rs) ∙ and-swap (good_record r) (good_list (not (is_free r)) (list_at bans k)) (all good_record rs) (good_lists (suc k) rs bans)

  -- the list of each slot is good for it
  lists_at : (slots : List Record) (k j : ℕ) (d : Record) → good_lists k slots bans ≡ true → j < length slots → good_list (not (is_free (get_or slots j d))) (list_at bans (k + j)) ≡ true
  unfolding good_lists
  lists_at [] k j d h i = absurd (omega arith)
  lists_at (r ∷ rs) k zero d h i = let e : k + 0 ≡ k = omega arith in rw e (and_left (good_list (not (is_free r)) (list_at bans k)) (good_lists (suc k) rs bans) h)
  lists_at (r ∷ rs) k (suc j) d h i =
      let e : k + suc j ≡ suc k + j = omega arith in
      rw e (lists_at rs (suc k) j d (and_right (good_list (not (is_free r)) (list_at bans k)) (good_lists (suc k) rs bans) h) (omega arith))

  -- and where each is, all are
  pub at-lists : (slots : List Record) (k : ℕ) (d : Record) → ((j : ℕ) → j < length slots → good_list (not (is_free (get_or slots j d))) (list_at bans (k + j)) ≡ true) → good_lists k slots bans ≡ true
  unfolding good_lists
  at-lists [] k d h = refl
  at-lists (r ∷ rs) k d h =
      let e : k + 0 ≡ k = omega arith in
      and_intro _ _ (rw e at (h 0 (omega arith))) (at-lists rs (suc k) d (λ j i. let f : k + suc j ≡ suc k + j = omega arith in rw f at (h (suc j) (omega arith))))

  -- ---- from slot k on
  -- the slot with its list, and those behind it
  pub wholes-step : (slots : List Record) (k : ℕ) (d : Record) → k < length slots
      → wholes_from k (drop k slots) bans ≡ whole (get_or slots k d) (record { room = list_at bans k }) ∷ wholes_from (k + 1) (drop (k + 1) slots) bans
  unfolding wholes_from
  wholes-step slots k d h = let e : suc k ≡ k + 1 = omega arith in rw (drop-step slots k d h, e)

  -- past the last one there is none
  pub wholes-past : (slots : List Record) (k : ℕ) → length slots ≤ k → wholes_from k (drop k slots) bans ≡ []
  unfolding wholes_from
  wholes-past slots k h = rw (drop_of_length-le slots h)

  abbrev pub all_from : ℕ → List Record → Bool
  all_from k slots = all good_whole (wholes_from k (drop k slots) bans)

  module _ (slots : List Record) (k : ℕ) (d : Record) (h : k < length slots) where
    here-then : all_from k slots ≡ (good_record (get_or slots k d) && good_list (not (is_free (get_or slots k d))) (list_at bans k)) && all_from (k + 1) slots
    unfolding all
    here-then = rw (wholes-step slots k d h, whole-good (get_or slots k d) (record { room = list_at bans k }))

    -- a record that isn't good decides
    pub record-stops : good_record (get_or slots k d) ≡ false → all_from k slots ≡ false
    record-stops e = here-then ∙ rw e

    -- or a list
    pub list-stops : good_record (get_or slots k d) ≡ true → good_list (not (is_free (get_or slots k d))) (list_at bans k) ≡ false → all_from k slots ≡ false
    list-stops e f = here-then ∙ rw (e, f)

    -- else the slots behind it do
    pub slot-passes : good_record (get_or slots k d) ≡ true → good_list (not (is_free (get_or slots k d))) (list_at bans k) ≡ true → all_from k slots ≡ all_from (k + 1) slots
    slot-passes e f = here-then ∙ rw (e, f)

  -- past the last one all are good
  pub slots-past : (slots : List Record) (k : ℕ) → length slots ≤ k → all_from k slots ≡ true
  unfolding all
  slots-past slots k h = rw (wholes-past slots k h)

-- ---- a well-formed network
module _ (n : Network) where
  abbrev sixteen : Bool
  sixteen = leb (length n.slots) slot_count

  network-parts : good_network n ≡ sixteen && ((all good_record n.slots && good_lists 0 n.slots n.bans) && distinct n.slots)
  unfolding good_network
  network-parts = ap (λ (t : Bool). sixteen && (t && distinct n.slots)) (wholes-parts n.bans 0 n.slots)

  module _ (few : length n.slots ≤ slot_count) where
    -- where there are no more slots than there may be, the slots and their names decide
    pub network-slots : good_network n ≡ all good_whole (wholes n) && distinct n.slots
    unfolding good_network
    network-slots = rw (le-leb (length n.slots) slot_count few)

    -- it is what has these parts
    pub network-made : all good_record n.slots ≡ true → good_lists 0 n.slots n.bans ≡ true → distinct n.slots ≡ true → good_network n ≡ true
    network-made g l d = network-parts ∙ and_intro sixteen _ (le-leb (length n.slots) slot_count few) (and_intro _ _ (and_intro _ _ g l) d)

  module _ (g : good_network n ≡ true) where
    parts : (sixteen ≡ true) × (all good_record n.slots && good_lists 0 n.slots n.bans ≡ true) × (distinct n.slots ≡ true)
    parts = and-three sixteen _ _ (sym network-parts ∙ g)

    -- there are no more than sixteen slots
    pub slots-few : length n.slots ≤ slot_count
    slots-few = leb-true (length n.slots) slot_count parts.0

    -- each record is good for its slot
    pub slots-good : all good_record n.slots ≡ true
    slots-good = and_left (all good_record n.slots) (good_lists 0 n.slots n.bans) parts.1

    -- no two slots are alike
    pub slots-distinct : distinct n.slots ≡ true
    slots-distinct = parts.2

    -- each list is good for its slot
    pub list-good : (k : ℕ) (d : Record) → k < length n.slots → good_list (not (is_free (get_or n.slots k d))) (list_at n.bans k) ≡ true
    list-good k d h =
        let e : 0 + k ≡ k = omega arith in
        rw e at (lists_at n.bans n.slots 0 k d (and_right (all good_record n.slots) (good_lists 0 n.slots n.bans) parts.1) h)

    -- so that it is there
    pub list-whole : (k : ℕ) → k < length n.slots → length (list_at n.bans k) ≡ list_size
    list-whole k h = good-there _ (list_at n.bans k) (list-good k empty_record h)

-- ---- the empty table
-- the list without masks is good for any slot
pub empty-either : (used : Bool) → good_list used empty_list.room ≡ true
empty-either true = used-list empty_list.room ∙ empty-well
empty-either false = free-list empty_list.room ∙ empty-unused

-- and where no list has masks, each is
pub empty-lists : (slots : List Record) → length slots ≤ slot_count → good_lists 0 slots empty_lists ≡ true
empty-lists slots h =
    at-lists empty_lists slots 0 empty_record (λ j i. let e : 0 + j ≡ j = omega arith in rw e (ap (good_list (not (is_free (get_or slots j empty_record)))) (lists-empty j (omega arith)) ∙ empty-either _))

-- The empty table is well formed.
pub empty-good : good_table empty_table ≡ true
unfolding empty_table
empty-good =
    let few : length (replicate slot_count empty_record) ≤ slot_count = omega (arith, length-replicate slot_count empty_record) in
    network-made empty_network few (all_replicate good_record empty_record slot_count (good-free empty_record empty-free ∙ empty-blank)) (empty-lists (replicate slot_count empty_record) few)
    (free-distinct empty_record slot_count empty-free)

-- ---- one slot of a well-formed network changed
module _ (n : Network) (g : good_network n ≡ true) (k : ℕ) (h : k < length n.slots) where
  -- its list stored, and every other list as it was
  stored-lists : (slots : List Record) (b : BanList) → length slots ≡ length n.slots → ((j : ℕ) → (j ≡ k → ⊥) → get_or slots j empty_record ≡ get_or n.slots j empty_record)
      → good_list (not (is_free (get_or slots k empty_record))) b.room ≡ true → good_lists 0 slots (stored n.bans k b) ≡ true
  stored-lists slots b e other own = at-lists (stored n.bans k b) slots 0 empty_record (λ j i. let z : 0 + j ≡ j = omega arith in rw z (go j i (eqb j k) refl))
    where
      size : length b.room ≡ list_size
      size = good-there _ b.room own

      go : (j : ℕ) → j < length slots → (t : Bool) → eqb j k ≡ t → good_list (not (is_free (get_or slots j empty_record))) (list_at (stored n.bans k b) j) ≡ true
      go j i true q = rw (eqb-true j k q, list-stored n.bans k b (list-whole n g k h) size) own
      go j i false q =
          let ne = eqb-false j k q in
          let few = slots-few n g in
          rw (list-other n.bans k b (list-whole n g k h) size j (omega (arith, e, few)) (omega (arith, few)) ne, other j ne) (list-good n g j empty_record (omega (arith, e)))

  -- Another list that is well formed leaves the network so, where the slot is used.
  pub list-change : (b : BanList) → is_free (get_or n.slots k empty_record) ≡ false → well_formed_list b.room ≡ true → good_network (with_list n k b) ≡ true
  list-change b used w =
      network-made (with_list n k b) (slots-few n g) (slots-good n g) (stored-lists n.slots b refl (λ j ne. refl) (rw used (used-list b.room ∙ w))) (slots-distinct n g)

  -- Another record leaves the network well formed where it is good and no slot is like it, its list emptied or good for it: no other test looks at them.
  pub slot-change : (r : Record) (b : Bool) → good_record r ≡ true → distinct (set n.slots k r) ≡ true → (b ≡ false → good_list (not (is_free r)) (list_at n.bans k) ≡ true)
      → good_network (with_bans (with_slots n (set n.slots k r)) (emptied_if b k n.bans)) ≡ true
  slot-change r b good apart left = go b left
    where
      next : List Record
      next = set n.slots k r

      few : length next ≤ slot_count
      few = omega (arith, length-set n.slots k r, slots-few n g)

      here : get_or next k empty_record ≡ r
      here = get_or-set_same n.slots k r empty_record h

      other : (j : ℕ) → (j ≡ k → ⊥) → get_or next j empty_record ≡ get_or n.slots j empty_record
      other j ne = get_or-set_other n.slots k j r empty_record ne

      go : (t : Bool) → (t ≡ false → good_list (not (is_free r)) (list_at n.bans k) ≡ true) → good_network (with_bans (with_slots n next) (emptied_if t k n.bans)) ≡ true
      go true f =
          network-made (with_bans (with_slots n next) (stored n.bans k empty_list)) few (all_set good_record n.slots k r (slots-good n g) good)
          (stored-lists next empty_list (length-set n.slots k r) other (empty-either _)) apart
      go false f =
          network-made (with_slots n next) few (all_set good_record n.slots k r (slots-good n g) good)
          (at-lists n.bans next 0 empty_record (λ j i. let z : 0 + j ≡ j = omega arith in rw z (kept j i (eqb j k) refl))) apart
        where
          kept : (j : ℕ) → j < length next → (t : Bool) → eqb j k ≡ t → good_list (not (is_free (get_or next j empty_record))) (list_at n.bans j) ≡ true
          kept j i true q = rw (eqb-true j k q, here) (f refl)
          kept j i false q = rw (other j (eqb-false j k q)) (list-good n g j empty_record (omega (arith, length-set n.slots k r)))

-- ---- at most one slot holds a name
module _ (name : List ℕ) where
  -- a slot that holds the name is used
  pub holding-used : (r : Record) → holds name r ≡ true → is_free r ≡ false
  unfolding holds
  holding-used r e = not-true (is_free r) (and_left (not (is_free r)) (same_name (decode r).name name) e)

  -- and its own name equals that one
  pub holding-name : (r : Record) → holds name r ≡ true → same_name (decode r).name name ≡ true
  unfolding holds
  holding-name r e = and_right (not (is_free r)) (same_name (decode r).name name) e

  -- so it holds every name that equals it
  pub holding-equal : (other : List ℕ) (r : Record) → same_name name other ≡ true → holds name r ≡ true → holds other r ≡ true
  unfolding holds
  holding-equal other r q e = rw (holding-used r e) (name-trans (decode r).name name other (holding-name r e) q)

  holding-alike : (r s : Record) → holds name r ≡ true → holds name s ≡ true → alike r s ≡ true
  unfolding alike holds
  holding-alike r s e f =
      simp (holding-used r e, holding-used s f) (name-trans (decode s).name name (decode r).name (holding-name s f) (name-sym (decode r).name name (holding-name r e)))

  two-hold : (l : List Record) (d : Record) (i j : ℕ) → distinct l ≡ true → i < j → j < length l → holds name (get_or l i d) ≡ true → holds name (get_or l j d) ≡ true → ⊥
  unfolding distinct
  two-hold [] d i j = λ q b h e f. absurd (omega arith)
  two-hold (r ∷ rs) d zero zero = λ q b h e f. absurd (omega arith)
  two-hold (r ∷ rs) d zero (suc j) = λ q b h e f.
      true≢false (sym (holding-alike r (get_or rs j d) e f) ∙ not-true _ (all-at (unlike r) rs j d (and_left (all (unlike r) rs) (distinct rs) q) (omega arith)))
  two-hold (r ∷ rs) d (suc i) zero = λ q b h e f. absurd (omega arith)
  two-hold (r ∷ rs) d (suc i) (suc j) = λ q b h e f. two-hold rs d i j (and_right (all (unlike r) rs) (distinct rs) q) (omega arith) (omega arith) e f

  -- Two slots of a well-formed table that hold the name are the same slot.
  pub held-once : (t : Table) → good_table t ≡ true → (d : Record) (i j : ℕ) → i < length t.slots → j < length t.slots
      → holds name (get_or t.slots i d) ≡ true → holds name (get_or t.slots j d) ≡ true → i ≡ j
  held-once t g d i j h k e f = go (ltb i j) refl (ltb j i) refl
    where
      q : distinct t.slots ≡ true
      q = slots-distinct (network_of t) g

      go : (a : Bool) → ltb i j ≡ a → (b : Bool) → ltb j i ≡ b → i ≡ j
      go true x b y = absurd (two-hold t.slots d i j q (ltb-true i j x) k e f)
      go false x true y = absurd (two-hold t.slots d j i q (ltb-true j i y) h f e)
      go false x false y = omega (arith, ltb-false i j x, ltb-false j i y)

-- ---- what isn't a well-formed table
module _ (t : Table) where
  -- one with two slots that hold a name
  pub held-twice : (name : List ℕ) (d : Record) (i j : ℕ) → (i ≡ j → ⊥) → i < length t.slots → j < length t.slots
      → holds name (get_or t.slots i d) ≡ true → holds name (get_or t.slots j d) ≡ true → good_table t ≡ false
  held-twice name d i j ne h k e f = refuted (good_table t) (λ g. ne (held-once name t g d i j h k e f))

  -- one with a used slot whose list isn't well formed
  pub list-ill : (d : Record) (k : ℕ) → k < length t.slots → is_free (get_or t.slots k d) ≡ false → well_formed_list (list_at t.bans k) ≡ false → good_table t ≡ false
  list-ill d k h used = refuted-by (good_table t) _ (λ g. sym (used-list (list_at t.bans k)) ∙ rw used at (list-good (network_of t) g k d h))
