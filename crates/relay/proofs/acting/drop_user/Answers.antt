-- `drop_user` meets its contract. The invariant: the user has left the first k slots, and of their lists those have gone whose last member it was; the rest are
-- as they were. Assumes nothing.
use mathlib.Core.Path.{◌≡◌, sym, ap, ap₂, ◌∙◌}
use mathlib.Core.Bool.{Bool}
use mathlib.Core.List.{List, map}
use Prim.Native.Nat.{ℕ, ◌+◌, ◌<◌}
use native.Mathlib.Omega.{arith}
use lib.ListN.{length, take, drop, get_or, set, length-map}
use lib.Seq.{length-take-le}
use lib.Dec.{eqb}
use Rattle.std.proofs.lemmas.List.{get_or_at}
use Rattle.laws.proofs.Lists.{drop-step}
use Rattle.laws.proofs.Mapped.{mapped, mapped-none, mapped-step, mapped-all}
use Rattle.channel.specs.declared.Record.{Record}
use Rattle.channel.specs.Members.{without}
use Rattle.channel.proofs.Removals.{without-free}
use Rattle.table.specs.Network.{emptied_if}
use Rattle.relay.specs.Leaving.{left_lists}
use Rattle.relay.proofs.Leaving.{left-none, left_step, left-all, free-last, used-last}
use Rattle.relay.proofs.acting.drop_user.Goals as goal

module _ (user : List ℕ) (slots now : List Record) (k : ℕ) (r : Record) (h : k < length slots) (e : now ≡ mapped (without user) slots k) where
  -- slot k is as it was
  still : get_or now k r ≡ get_or slots k r
  unfolding mapped
  still =
      let done = map (without user) (take k slots) in
      let long : length done ≡ k = length-map (take k slots) (without user) ∙ length-take-le k slots (omega arith) in
      rw (e, drop-step slots k r h) (get_or_at done (get_or slots k r) (drop (k + 1) slots) r k long)

  -- it is set to what the user leaves
  steps : (left : Record) → left ≡ without user (get_or now k r) → set now k left ≡ mapped (without user) slots (k + 1)
  steps left is = rw (is, still, e) (mapped-step (without user) slots k r h)

  module _ (bans before : List ℕ) (f : before ≡ left_lists user 0 (take k slots) bans) where
    -- a free slot's list stays
    free-stays : (get_or now k r).count ≡ 0 → before ≡ left_lists user 0 (take (k + 1) slots) bans
    free-stays free = f ∙ sym (left_step user slots bans k r h ∙ ap (λ (b : Bool). emptied_if b k (left_lists user 0 (take k slots) bans)) (free-last user (get_or slots k r) (rw still at free)))

    -- a used one's goes with its last member
    used-goes : ((get_or now k r).count ≡ 0 → ⊥) → (left : Record) → left ≡ without user (get_or now k r) → (after : List ℕ) → after ≡ emptied_if (eqb left.count 0) k before
        → after ≡ left_lists user 0 (take (k + 1) slots) bans
    used-goes used left is after g =
        g
        ∙ ap₂ (λ (b : Bool) (x : List ℕ). emptied_if b k x) (ap (λ (x : Record). eqb x.count 0) (rw still at is) ∙ sym (used-last user (get_or slots k r) (rw still at used))) f
        ∙ sym (left_step user slots bans k r h)

-- ---- the needs
pub loop-k-init : goal.loop-k-init
loop-k-init c =
    let a = c.args in record { slots = sym (mapped-none (without a.user) a.slots.now); lists = sym (left-none a.user a.slots.now a.bans.now) }

pub loop-k-preserved-then-slots-k-eq0 : goal.loop-k-preserved-then-slots-k-eq0
loop-k-preserved-then-slots-k-eq0 c =
    let a = c.args in
    let l = c.loop-k in
    let free = c.if-slots-k-eq0.true in
    let h : l.k < length a.slots.now = omega (arith, c.told-slots) in record {
      slots = steps a.user a.slots.now l.slots l.k _ h l.invariant.slots c.empty.result (c.empty.ensures.value ∙ sym (without-free a.user _ free));
      lists = free-stays a.user a.slots.now l.slots l.k _ h l.invariant.slots a.bans.now l.bans l.invariant.lists free;
    }

pub loop-k-preserved : goal.loop-k-preserved
loop-k-preserved c =
    let a = c.args in
    let l = c.loop-k in
    let left = c.without-left in
    let h : l.k < length a.slots.now = omega (arith, c.told-slots) in record {
      slots = steps a.user a.slots.now l.slots l.k _ h l.invariant.slots left.result left.ensures;
      lists = used-goes a.user a.slots.now l.slots l.k _ h l.invariant.slots a.bans.now l.bans l.invariant.lists c.if-slots-k-eq0.false left.result left.ensures _ c.empty_if.ensures;
    }

pub returns-clause-slots : goal.returns-clause-slots
returns-clause-slots c =
    c.loop-k.invariant.slots ∙ mapped-all (without c.args.user) c.args.slots.now c.loop-k.k (omega (arith, c.told-slots))

pub returns-clause-lists : goal.returns-clause-lists
returns-clause-lists c =
    c.loop-k.invariant.lists ∙ left-all c.args.user c.args.slots.now c.args.bans.now c.loop-k.k (omega (arith, c.told-slots))
