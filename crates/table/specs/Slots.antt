-- The slot that a name uses (document 01, 'SJOIN': "The slot used is the one whose folded name equals the line's; else the lowest free slot").
use Rattle.std.specs.Prelude.{ℕ, suc, Bool, true, false, not, cond, ◌&&◌, List, [], ◌∷◌, length, get_or, ltb}
use Rattle.refusal.specs.Numbers.{accepted, no_free_slot}
use Rattle.refusal.specs.Rules.{Rule, ◌when◌}
use Rattle.laws.specs.Lists.{all}
use Rattle.channel.specs.declared.Record.{Record}
use Rattle.channel.specs.Record.{empty_record}
use Rattle.table.specs.declared.Found as code
use Rattle.table.specs.declared.Found.TheVariants as answer
use Rattle.table.specs.Network.{Network}
use Rattle.table.specs.Table.{is_free, holds}

-- The slot that a name uses: the one that holds it, else the lowest free one; or every slot holds another name.
pub data Slot : Type 0 where
  Held : ℕ → Slot
  Free : ℕ → Slot
  Full : Slot

-- The slot that a name uses, and the record in it that has the name: the empty one where no slot has it.
pub record Found : Type 0 where
  pub slot : Slot
  pub «record» : Record

-- the place of the first that passes the test, or how many there are
unfoldable pub first_at : {A : Type 0} → (A → Bool) → List A → ℕ
first_at p [] = 0
first_at p (x ∷ l) = cond (p x) 0 (suc (first_at p l))

-- the lowest free slot
unfoldable pub free_slot : List Record → Slot
free_slot slots = cond (ltb (first_at is_free slots) (length slots)) (Free (first_at is_free slots)) Full

-- the slot that holds the name, else the lowest free one
unfoldable pub slot_for : List Record → List ℕ → Slot
slot_for slots name = cond (ltb (first_at (holds name) slots) (length slots)) (Held (first_at (holds name) slots)) (free_slot slots)

-- the same of a network
abbrev pub slot_in : Network → List ℕ → Slot
slot_in n name = slot_for n.slots name

-- ---- the answer, by cases
-- the record in the slot that has the name; the empty one where no slot has it
abbrev pub held_in : List Record → Slot → Record
held_in slots (Held k) = get_or slots k empty_record
held_in slots (Free k) = empty_record
held_in slots Full = empty_record

-- the slot that a name uses, and the record that has it
abbrev pub found_for : List Record → List ℕ → Found
found_for slots name = record { slot = slot_for slots name; «record» = held_in slots (slot_for slots name) }

-- what the code answers, as the slot and the record
abbrev pub as_found : code.Found → Found
as_found (answer.Held k r) = record { slot = Held k; «record» = r.now }
as_found (answer.Free k) = record { slot = Free k; «record» = empty_record }
as_found answer.Full = record { slot = Full; «record» = empty_record }

-- the number that a record of that name gets: 21 where there is no slot for it
abbrev pub slot_number : Slot → ℕ
slot_number (Held k) = accepted
slot_number (Free k) = accepted
slot_number Full = no_free_slot

abbrev pub is_held : Slot → Bool
is_held (Held k) = true
is_held (Free k) = false
is_held Full = false

-- the place of the slot; past all slots where there is none
abbrev pub place_of : List Record → Slot → ℕ
place_of slots (Held k) = k
place_of slots (Free k) = k
place_of slots Full = length slots

-- number 21: new name, all slots used
unfoldable pub slot_rules : List Record → List ℕ → List Rule
slot_rules slots name = no_free_slot when (all (λ r. not (holds name r)) slots && all (λ r. not (is_free r)) slots) ∷ []
