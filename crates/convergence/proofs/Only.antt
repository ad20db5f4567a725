-- Demands 1 and 2 settle the taking, and `Merges` the merging: what meets them, as ours does, answers as ours on every input, since they give each part of an
-- answer, the relay set by its bits. Assumes nothing.
use Prim.Native.Nat.{ℕ}
use mathlib.Core.Path.{◌≡◌, refl, sym, ap, ◌∙◌}
use mathlib.Core.Bool.{Bool, true, false}
use mathlib.Core.List.{List}
use lib.ListN.{length}
use lib.Dec.{eqb}
use borrow.Author.Tests.{eqb-true, eqb-false}
use Rattle.refusal.specs.Numbers.{accepted}
use Rattle.laws.proofs.Bitwise.{same_bits}
use Rattle.bans.specs.declared.WholeRecord.{WholeRecord}
use Rattle.links.specs.Links.{links_in}
use Rattle.table.specs.Network.{Table}
use Rattle.relay.specs.Arrival.{Arrival}
use Rattle.relay.specs.Relay.{Outcome}
use Rattle.convergence.specs.Demands.{Taking, Merging, ruled, ruled_merge, is_late_mask, Accepts, Demand1, Demand2, Merges}
use Rattle.convergence.specs.Ours.{ours, our_merging}
use Rattle.convergence.proofs.Demand1.{demand1}
use Rattle.convergence.proofs.Demand2.{demand2}
use Rattle.convergence.proofs.Merges.{merges}

-- a number that is none, or one
module _ {A : Type 0} (n : ℕ) where
  by_number : (n ≡ accepted → A) → ((n ≡ accepted → ⊥) → A) → A
  by_number good bad = go (eqb n accepted) refl
    where
      go : (t : Bool) → eqb n accepted ≡ t → A
      go true e = good (eqb-true n accepted e)
      go false e = bad (eqb-false n accepted e)

module _ (t : Table) (a : Arrival) (out : List ℕ) where
  -- an accepted answer is settled
  settled : (x y : Outcome) (v w : List ℕ) → Accepts t a out x v → Accepts t a out y w → ◌≡◌ {A = Outcome × List ℕ} (x, v) (y, w)
  settled x y v w p q = go (is_late_mask t a) refl
    where
      both : x.set ≡ y.set → x.count ≡ y.count → x.len ≡ y.len → v ≡ w → ◌≡◌ {A = Outcome × List ℕ} (x, v) (y, w)
      both set count len output =
          let number : x.number ≡ y.number = p.number ∙ sym q.number in
          let table : x.table ≡ y.table = p.table ∙ sym q.table in
          let place : x.place ≡ y.place = p.place ∙ sym q.place in
          λ i. (record { number = number i; place = place i; table = table i; len = len i; set = set i; count = count i }, output i)

      go : (late : Bool) → is_late_mask t a ≡ late → ◌≡◌ {A = Outcome × List ℕ} (x, v) (y, w)
      go true e =
          let f = p.silent e in
          let g = q.silent e in
          both (f.set ∙ sym g.set) (f.count ∙ sym g.count) (f.len ∙ sym g.len) (f.output ∙ sym g.output)
      go false e =
          let f = p.relays e in
          let g = q.relays e in
          let set : x.set ≡ y.set = same_bits x.set y.set (λ k. f.links k ∙ sym (g.links k)) in
          both set (f.count ∙ ap (λ (s : ℕ). length (links_in s)) set ∙ sym g.count) (f.len ∙ sym g.len) (f.output ∙ sym g.output)

  -- A taking that meets demands 1 and 2 answers as ours does on every input.
  pub only : (taking : Taking) → Demand1 taking → Demand2 taking → taking t a out ≡ ours t a out
  only taking one two =
      by_number (ruled t a out)
      (λ good. settled _ _ _ _ (two t a out good) (demand2 t a out good))
      (λ bad. one.refuses t a out bad ∙ sym (demand1.refuses t a out bad))

-- A merging that is as `Merges` asks answers as ours does for any two records.
pub only-merging : (merging : Merging) → Merges merging → (a b : WholeRecord) → merging a b ≡ our_merging a b
only-merging merging m a b =
    by_number (ruled_merge a b) (λ good. m.accepts a b good ∙ sym (merges.accepts a b good)) (λ bad. m.refuses a b bad ∙ sym (merges.refuses a b bad))
