-- Our taking meets demand 1: where a rule applies, its answer is that refusal by definition, each rule's number is from the list, and the place of one of modes is in the line.
-- Assumes nothing.
use Prim.Native.Nat.{ℕ}
use mathlib.Core.Path.{◌≡◌, refl, sym, ap, ◌∙◌}
use mathlib.Core.List.{List}
use lib.ListN.{length}
use Rattle.refusal.specs.Numbers.{accepted, is_mode_number}
use Rattle.refusal.proofs.Rules.{first-listed}
use Rattle.octets.specs.Room.{front}
use Rattle.table.specs.Network.{Table}
use Rattle.relay.specs.Arrival.{Arrival}
use Rattle.relay.specs.Relay.{process_rules, refused, process_answer, sent}
use Rattle.relay.proofs.Taking.{answer-number, rules-ascend}
use Rattle.relay.proofs.Places.{place-plain, place_inside}
use Rattle.relay.proofs.Answering.{answer-refused, sent-nothing}
use Rattle.convergence.specs.Demands.{ruled, placed, Listed, Demand1}
use Rattle.convergence.specs.Ours.{ours}

module _ (t : Table) (a : Arrival) (out : List ℕ) (bad : ruled t a out ≡ accepted → ⊥) where
  answered : process_answer t a (length out) ≡ refused t (ruled t a out) (placed t a out)
  answered = sym (answer-refused t a (length out) (ruled t a out) refl bad)

  untouched : front (sent t a (length out)) out ≡ out
  untouched = ap (λ (w : List ℕ). front w out) (sent-nothing t a (length out) (ruled t a out) refl bad)

  refuses : ours t a out ≡ (refused t (ruled t a out) (placed t a out), out)
  refuses = λ i. (answered i, untouched i)

  listed : Listed (ours t a out).0.number
  listed = rw answered (first-listed (process_rules t a (length out)) (rules-ascend t a (length out)) bad)

-- Our taking meets demand 1.
pub demand1 : Demand1 ours
demand1 = record {
  one = λ t a out. (ours t a out, refl, λ b e. sym e);
  refuses = refuses;
  listed = listed;
  places = λ t a out m. place_inside t a (length out) (ap is_mode_number (answer-number t a (length out)) ∙ m);
  unplaced = λ t a out m. place-plain t a (length out) (ap is_mode_number (answer-number t a (length out)) ∙ m);
}
