-- Tables whose slots are all free, or all but the first: they are well formed, and the first is the slot that a name uses, where it is free or holds that
-- name. Assumes nothing.
use Prim.Native.Nat.{ℕ, zero, suc, ◌≤◌, ◌<◌}
use mathlib.Core.Path.{◌≡◌, refl, sym, ap, ap₂, ◌∙◌}
use mathlib.Core.Bool.{true, false, not, and-false}
use mathlib.Core.List.{List, ◌∷◌}
use native.Mathlib.Omega.{arith}
use lib.ListN.{length, replicate, length-replicate}
use borrow.Author.Tests.{eq-eqb}
use Rattle.laws.proofs.Bools.{and_intro}
use Rattle.laws.proofs.Lists.{all_cons, all_replicate}
use Rattle.names.specs.Fold.{same_name}
use Rattle.channel.specs.declared.Record.{Record}
use Rattle.channel.specs.Limits.{slot_count}
use Rattle.channel.specs.Channel.{Channel}
use Rattle.channel.specs.Record.{encode, decode, empty_record}
use Rattle.channel.specs.WellFormed.{well_formed}
use Rattle.channel.proofs.Blank.{empty-free}
use Rattle.channel.proofs.Records.{decode-encode}
use Rattle.channel.proofs.Proper.{Proper, proper-fits, encode-well}
use Rattle.bans.specs.Slots.{empty_lists}
use Rattle.table.specs.Network.{Table, network_of, empty_network}
use Rattle.table.specs.Table.{is_free, holds, alike, distinct, good_network, good_table, empty_table}
use Rattle.table.specs.Private.Parts.{good_record}
use Rattle.table.specs.Slots.{Held, Free, first_at, slot_for}
use Rattle.table.proofs.Searching.{free-holds, free-found, held_found, held_none}
use Rattle.table.proofs.WellFormed.{unlike, free-distinct, network-made, empty-lists, empty-good}
use Rattle.table.proofs.Changing.{well-used, well-good, empty-slot}

-- ---- all free
-- a table whose slots are all free, and whose lists are zero, is well formed
pub free-good : (t : Table) → network_of t ≡ empty_network → good_table t ≡ true
unfolding empty_table
free-good t e = ap good_network e ∙ empty-good

none-holds : (name : List ℕ) (n : ℕ) → first_at (holds name) (replicate n empty_record) ≡ n
unfolding first_at
none-holds name zero = refl
none-holds name (suc n) = rw (free-holds name empty_record empty-free) (ap suc (none-holds name n))

first-free : (l : List Record) → first_at is_free (empty_record ∷ l) ≡ 0
unfolding first_at
first-free l = rw (eq-eqb empty_record.count 0 empty-free)

-- where all slots are free, a name uses the first
pub free-slot : (name : List ℕ) (n : ℕ) → slot_for (replicate (suc n) empty_record) name ≡ Free 0
free-slot name n =
    let slots = replicate (suc n) empty_record in
    held_none slots name (omega (arith, none-holds name (suc n), length-replicate (suc n) empty_record)) ∙ sym (free-found slots 0 (first-free (replicate n empty_record)) (omega arith))

-- ---- all but the first
module _ (r : Record) where
  alone-distinct : (n : ℕ) → distinct (r ∷ replicate n empty_record) ≡ true
  unfolding distinct alike
  alone-distinct n =
      let e : alike r empty_record ≡ false = rw (free-holds (decode r).name empty_record empty-free) (and-false (not (is_free r))) in
      and_intro _ _ (all_replicate (unlike r) empty_record n (ap not e)) (free-distinct empty_record n empty-free)

  -- a table whose first slot holds a well-formed record, the others free, and whose lists are zero, is well formed
  pub alone-good : well_formed r ≡ true → (t : Table) (n : ℕ) → n < slot_count → t.slots ≡ r ∷ replicate n empty_record → t.bans ≡ empty_lists → good_table t ≡ true
  alone-good h t n few e z =
      let slots = r ∷ replicate n empty_record in
      let within : length slots ≤ slot_count = omega (arith, length-replicate n empty_record) in
      let made = network-made (record { slots = slots; bans = empty_lists }) within
      (all_cons good_record r (replicate n empty_record) (well-good r h) (all_replicate good_record empty_record n empty-slot)) (empty-lists slots within) (alone-distinct n) in
      ap good_network (ap₂ (λ (s : List Record) (b : List ℕ). record { slots = s; bans = b }) e z) ∙ made

-- where the first slot holds the name, the name uses it
pub held_first : (name : List ℕ) (r : Record) (l : List Record) → holds name r ≡ true → slot_for (r ∷ l) name ≡ Held 0
unfolding first_at
held_first name r l e = sym (held_found (r ∷ l) name 0 (rw e) (omega arith))

-- a slot that holds a channel holds its name
pub encoded-holds : (name : List ℕ) (c : Channel) → Proper c → same_name c.name name ≡ true → holds name (encode c) ≡ true
unfolding holds
encoded-holds name c p e = rw (well-used (encode c) (encode-well c p), decode-encode c (proper-fits c p)) e
