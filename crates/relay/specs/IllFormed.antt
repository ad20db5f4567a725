-- What a table, or a record with its ban list, that isn't well formed gets (document 01, number 1: "table or record not well formed"): from every function that
-- gives 1 for one, whatever else it is given, 1 and nothing else, and what was given stays as it is. A feeder's state, and a record that is described by
-- itself, have no two names and no masks, and are judged apart.
use Rattle.std.specs.Prelude.{ℕ, ◌≡◌, false, List, []}
use Rattle.refusal.specs.Numbers.{not_well_formed}
use Rattle.bans.specs.declared.WholeRecord.{WholeRecord}
use Rattle.merging.specs.Merging.{merge_answer}
use Rattle.table.specs.Network.{Table}
use Rattle.table.specs.Table.{register_answer, unregister_answer}
use Rattle.table.specs.Banned.{banned_answer}
use Rattle.relay.specs.Arrival.{Arrival}
use Rattle.relay.specs.Relay.{refused, process_answer, sent}

-- The table gets 1 from taking any line, which writes nothing; from registering and dropping any link; and from the question whether any text is banned.
pub record TableGets1 (t : Table) : Type 0 where
  pub taking : (a : Arrival) (n : ℕ) → process_answer t a n ≡ refused t not_well_formed 0
  pub sending : (a : Arrival) (n : ℕ) → sent t a n ≡ []
  pub registering : (link : ℕ) → register_answer t link ≡ record { number = not_well_formed; table = t }
  pub dropping : (link : ℕ) → unregister_answer t link ≡ record { number = not_well_formed; table = t }
  pub asking : (name text : List ℕ) → banned_answer t name text ≡ record { number = not_well_formed; yes = false }

-- The record gets 1 from merging with any other, before it or behind it.
pub record RecordGets1 (w : WholeRecord) : Type 0 where
  pub first : (v : WholeRecord) → merge_answer w v ≡ record { number = not_well_formed; result = w }
  pub second : (v : WholeRecord) → merge_answer v w ≡ record { number = not_well_formed; result = v }
