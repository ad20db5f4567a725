-- Our taking meets demand 2: where no rule applies, its answer and its output are what they should be by definition, and the relayed line reads back as the
-- message that goes out; a BMASK that is later than its channel leaves all as it was. Assumes nothing.
use Prim.Native.Nat.{ℕ}
use mathlib.Core.Path.{◌≡◌, refl, ap, ◌∙◌}
use mathlib.Core.Bool.{Bool, true, false, not, cond}
use mathlib.Core.List.{List, []}
use lib.ListN.{length, take, drop}
use lib.Seq.{take-append_seam}
use Rattle.refusal.specs.Numbers.{accepted}
use Rattle.refusal.specs.Rules.{first_of}
use Rattle.laws.specs.Bits.{has_bit}
use Rattle.octets.specs.Room.{front}
use Rattle.links.specs.Links.{relay_set, links_from, links_in}
use Rattle.links.proofs.Sets.{has-relay}
use Rattle.message.specs.Reading.{is_read, content_of}
use Rattle.writer.specs.Form.{written}
use Rattle.table.specs.Network.{Table, Network, network_of, with_network}
use Rattle.relay.specs.Arrival.{Arrival}
use Rattle.relay.specs.Relay.{taken_rules, goes_by, message_by, relayed, taken}
use Rattle.relay.proofs.Taking.{relayed-reads, goes-unless, silent-stays}
use Rattle.relay.proofs.Answering.{passed, answer-accepted, sent-line}
use Rattle.convergence.specs.Demands.{ruled, Relays, Silent, is_late_mask, Accepts, Demand2}
use Rattle.convergence.specs.Ours.{ours}

to_none : length (links_in 0) ≡ 0
unfolding links_from has_bit
to_none = refl

module _ (t : Table) (a : Arrival) (out : List ℕ) (good : ruled t a out ≡ accepted) where
  abbrev network : Network
  network = network_of t

  abbrev after : List ℕ
  after = front (relayed network a) out

  none : first_of (taken_rules network a) ≡ accepted
  none = (passed t a (length out) good).2

  -- it goes out, unless it is a BMASK that is later than its channel
  pub goes : (late : Bool) → is_late_mask t a ≡ late → goes_by network a ≡ not late
  goes late e = goes-unless network a none ∙ ap not e

  relays : is_late_mask t a ≡ false → Relays t a out (taken t a) after
  relays e =
      let w = written (message_by network a) in
      let p = passed t a (length out) good in
      let r = relayed-reads network a none p.0 in
      let f : take (length w) (front w out) ≡ w = take-append_seam w (drop (length w) out) in
      rw (goes false e) (record {
        links = has-relay t.links a.link;
        count = refl;
        len = refl;
        output = refl;
        reads = ap is_read f ∙ r.read;
        message = ap content_of f ∙ r.message;
      })

  silent : is_late_mask t a ≡ true → Silent t out (taken t a) after
  silent e =
      let g = goes true e in
      let to = relay_set t.links a.link in
      let w = written (message_by network a) in
      record {
        table = ap (with_network t) (silent-stays network a g);
        set = ap (λ (b : Bool). cond b to 0) g;
        count = ap (λ (b : Bool). length (links_in (cond b to 0))) g ∙ to_none;
        len = ap (λ (b : Bool). length (cond b w [])) g;
        output = ap (λ (b : Bool). front (cond b w []) out) g;
      }

  accepts : Accepts t a out (taken t a) after
  accepts = record { number = refl; place = refl; table = refl; relays = relays; silent = silent }

-- Our taking meets demand 2.
pub demand2 : Demand2 ours
demand2 t a out good = rw (answer-accepted t a (length out) good, sent-line t a (length out) good) (accepts t a out good)
