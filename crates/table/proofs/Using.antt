-- The slot that holds a name, where all slots are good, holds a well-formed record, since a slot that holds a name is used. Assumes nothing.
use mathlib.Core.Path.{◌≡◌, sym, ◌∙◌}
use mathlib.Core.Bool.{true}
use mathlib.Core.List.{List}
use Prim.Native.Nat.{ℕ}
use lib.ListN.{get_or}
use borrow.Author.Tests.{eqb-false}
use Rattle.laws.specs.Lists.{all}
use Rattle.laws.proofs.Lists.{all-at}
use Rattle.channel.specs.declared.Record.{Record}
use Rattle.channel.specs.Record.{empty_record}
use Rattle.channel.specs.WellFormed.{well_formed}
use Rattle.table.specs.Slots.{Held, slot_for}
use Rattle.table.specs.Private.Parts.{good_record}
use Rattle.table.proofs.Searching.{slot_held}
use Rattle.table.proofs.WellFormed.{good-used, holding-used}

-- Where all slots are good, the slot that holds a name holds a well-formed record.
pub held-well : (slots : List Record) → all good_record slots ≡ true → (name : List ℕ) (k : ℕ) → slot_for slots name ≡ Held k → well_formed (get_or slots k empty_record) ≡ true
held-well slots good name k e =
    let r = get_or slots k empty_record in
    let f = slot_held slots name empty_record k e in
    sym (good-used r (eqb-false r.count 0 (holding-used name r f.passes))) ∙ all-at good_record slots k empty_record good f.inside
