-- Each useless relay fails: lines that the rules accept, and what is wrong after them. `later` has the time 1200, `earlier` 1000, an empty slot 0. A merging that
-- never refuses meets demand 3, and fails what else is asked. Assumes nothing.
use Prim.Native.Nat.{ℕ, ◌-◌}
use mathlib.Core.Path.{◌≡◌, refl, sym, ap, ap₂, ◌∙◌}
use mathlib.Core.Bool.{Bool, true, false, true≢false, not, ◌&&◌, cond}
use mathlib.Core.Logic.{◌⊎◌, inl, inr, ⊎_elim}
use mathlib.Core.List.{List, [], ◌∷◌, ◌++◌, map}
use native.Mathlib.Omega.{arith}
use lib.ListN.{length, set}
use lib.Dec.{eqb}
use borrow.Author.Tests.{eq-eqb, eqb-true, eqb-false}
use Rattle.refusal.specs.Numbers.{accepted, not_well_formed, is_mode_number}
use Rattle.refusal.proofs.Rules.{stop}
use Rattle.laws.specs.Bits.{has_bit}
use Rattle.laws.specs.Lists.{all, same_by}
use Rattle.laws.proofs.Lists.{all_replicate}
use Rattle.octets.specs.Bytes.{capital}
use Rattle.octets.specs.Order.{compare}
use Rattle.ascending.specs.Ascending.{insert, put, unite}
use Rattle.links.specs.Links.{has_link, set_below, less_link, relay_set, links_from, links_in}
use Rattle.message.specs.Reading.{content_of}
use Rattle.channel.specs.Limits.{slot_count}
use Rattle.channel.specs.Record.{encode, empty_record}
use Rattle.channel.proofs.Examples.{2cd, 1ab, stored, incoming}
use Rattle.channel.proofs.Blank.{empty-free}
use Rattle.bans.specs.declared.WholeRecord.{WholeRecord}
use Rattle.bans.specs.Slots.{empty_list}
use Rattle.bans.specs.Records.{whole, well_formed_whole}
use Rattle.bans.proofs.Records.{whole_says}
use Rattle.merging.specs.declared.Merged.{Merged}
use Rattle.merging.specs.Merging.{merge_rules}
use Rattle.merging.specs.Plain.{earliest, entries, everyone}
use Rattle.merging.proofs.Plains.{plain-time}
use Rattle.table.specs.Network.{Table, network_of, with_network, with_slots}
use Rattle.table.specs.Table.{is_free}
use Rattle.table.proofs.Alone.{free-slot}
use Rattle.table.proofs.Changing.{well-used}
use Rattle.telling.specs.Telling.{sjoin}
use Rattle.relay.specs.Arrival.{arrival}
use Rattle.relay.specs.Relay.{network_by, Outcome}
use Rattle.relay.proofs.Answering.{answer-accepted}
use Rattle.relay.proofs.Taking.{network-joined}
use Rattle.relay.proofs.Joined.{command-join, opened}
use Rattle.convergence.specs.Demands.{Taking, Merging, ruled, ruled_merge, Merges, Accepts, Demand2, Join, good_lines, take_join, table_after, channel_of, Kept, plain_record, plain_whole, holding, first_slot, is_late_mask, Demand3, Demand1}
use Rattle.convergence.specs.Ours.{ours}
use Rattle.convergence.specs.Useless.{refusing, constant, unaltering, first_only, counted_as, first_record, never_refusing, unpointing}
use Rattle.convergence.proofs.Demand2.{goes}
use Rattle.convergence.proofs.Demand3.{first_plain, demand3}
use Rattle.convergence.proofs.Lines.{earlier, later, earlier-command, later-command, room, start, earlier_from, later_from, earlier-tells, later-tells, earlier-number, later-number, stored-race, incoming-race, kept_by, not_none, twice, twice-number}

-- ---- the lines are good: links 0, 3 and 5 are registered
abbrev links : ℕ
links = 41

on-0 : has_link links 0 ≡ true
unfolding has_bit
on-0 = refl

on-3 : has_link links 3 ≡ true
unfolding has_bit
on-3 = refl

later-good : good_lines (start links) (later_from 3 ∷ []) ≡ later ∷ []
unfolding good_lines
later-good = rw (later-number links 3 on-3)

earlier-good : good_lines (start links) (earlier_from 0 ∷ []) ≡ earlier ∷ []
unfolding good_lines
earlier-good = rw (earlier-number links 0 on-0)

both-good : good_lines (start links) (later_from 3 ∷ earlier_from 0 ∷ []) ≡ later ∷ earlier ∷ []
unfolding good_lines
both-good = rw (later-number links 3 on-3, earlier-number links 0 on-0)

-- and keep to one channel and 64 users
later-kept : Kept (later ∷ [])
unfolding everyone entries insert put unite compare incoming 1ab
later-kept = kept_by (later ∷ []) (incoming ∷ []) (rw later-tells) (incoming-race, tt) (omega arith)

earlier-kept : Kept (earlier ∷ [])
unfolding everyone entries insert put unite compare stored 2cd
earlier-kept = kept_by (earlier ∷ []) (stored ∷ []) (rw earlier-tells) (stored-race, tt) (omega arith)

both-kept : Kept (later ∷ earlier ∷ [])
unfolding everyone entries insert put unite compare incoming stored 1ab 2cd
both-kept = kept_by (later ∷ earlier ∷ []) (incoming ∷ stored ∷ []) (rw (later-tells, earlier-tells)) (incoming-race, (stored-race, tt)) (omega arith)

-- ---- the time in the first slot
abbrev first_time : Table → ℕ
first_time t = (first_slot t).«record».time

start-time : first_time (start links) ≡ 0
unfolding empty_record encode
start-time = refl

-- after one line is taken
taken-network : (link : ℕ) (l : List ℕ) → map capital (content_of l).command ≡ sjoin
    → network_by (network_of (start links)) (arrival link l) ≡ with_slots (network_of (start links)) (set (start links).slots 0 (encode (channel_of l)))
taken-network link l e =
    network-joined (network_of (start links)) (arrival link l) (command-join l e) ∙ opened (network_of (start links)) (channel_of l) 0 (free-slot (channel_of l).name (slot_count - 1))

taken-time : (link : ℕ) (l : List ℕ) → map capital (content_of l).command ≡ sjoin → first_time (with_network (start links) (network_by (network_of (start links)) (arrival link l))) ≡ (channel_of l).time
unfolding encode
taken-time link l e = rw (taken-network link l e)

-- where the plain record of lines is held
record-time : (l : List ℕ) (s : List (List ℕ)) → (plain_record (l ∷ s)).time ≡ earliest (channel_of l) (map channel_of s)
unfolding plain_record encode
record-time l s = plain-time (channel_of l) (map channel_of s)

held-time : (l : List ℕ) (s : List (List ℕ)) → first_time (holding (start links) (l ∷ s)) ≡ earliest (channel_of l) (map channel_of s)
unfolding holding
held-time l s = record-time l s

later-time : (channel_of later).time ≡ 1200
unfolding incoming
later-time = rw later-tells

earlier-time : (channel_of earlier).time ≡ 1000
unfolding stored
earlier-time = rw earlier-tells

-- after each alone, and after both
later-held : first_time (holding (start links) (good_lines (start links) (later_from 3 ∷ []))) ≡ 1200
unfolding earliest
later-held = rw later-good (held-time later [] ∙ later-time)

earlier-held : first_time (holding (start links) (good_lines (start links) (earlier_from 0 ∷ []))) ≡ 1000
unfolding earliest
earlier-held = rw earlier-good (held-time earlier [] ∙ earlier-time)

both-held : first_time (holding (start links) (good_lines (start links) (later_from 3 ∷ earlier_from 0 ∷ []))) ≡ 1000
unfolding earliest
both-held = rw both-good (held-time later (earlier ∷ []) ∙ omega (arith, later-time, earlier-time))

-- ---- what it is to fail
-- a line that the rules accept, and that isn't taken as demand 2 says
abbrev pub Fails2 : Taking → ℕ → List ℕ → Type 0
Fails2 taking link line =
    (ruled (start links) (arrival link line) room ≡ accepted) × (Accepts (start links) (arrival link line) room (taking (start links) (arrival link line) room).0 (taking (start links) (arrival link line) room).1 → ⊥)

-- joins that meet the premises of demand 3, and that leave another table than it says
abbrev pub Fails3 : Taking → List Join → Type 0
Fails3 taking js = Kept (good_lines (start links) js) × (table_after taking (start links) js ≡ holding (start links) (good_lines (start links) js) → ⊥)

fails-2 : (taking : Taking) (link : ℕ) (line : List ℕ) → Fails2 taking link line → Demand2 taking → ⊥
fails-2 taking link line f d = f.1 (d (start links) (arrival link line) room f.0)

fails-3 : (taking : Taking) (js : List Join) → Fails3 taking js → (merging : Merging) → Demand3 taking merging → ⊥
fails-3 taking js f merging d = f.1 (d.leaves (start links) js refl f.0)

-- ---- refusing all
-- `later` isn't taken as demand 2 says
pub refusing-later : Fails2 refusing 3 later
refusing-later =
    let n = later-number links 3 on-3 in
    (n, λ a. let e : not_well_formed ≡ accepted = rw n at a.number in absurd (omega (arith, e)))

-- A relay that refuses all doesn't meet demand 2.
pub refusing-fails : Demand2 refusing → ⊥
refusing-fails = fails-2 refusing 3 later refusing-later

-- ---- a constant answer: whatever it is, it is wrong for one of two lines
module _ (answer : Outcome) (after : List ℕ) where
  -- `later` isn't taken as demand 2 says, or `earlier` isn't
  pub constant-line : Fails2 (constant answer after) 3 later ⊎ Fails2 (constant answer after) 0 earlier
  constant-line = go (eqb (first_time answer.table) 1200) refl
    where
      go : (t : Bool) → eqb (first_time answer.table) 1200 ≡ t → Fails2 (constant answer after) 3 later ⊎ Fails2 (constant answer after) 0 earlier
      go true e =
          inr (
            earlier-number links 0 on-0,
            λ a. omega (arith, eqb-true (first_time answer.table) 1200 e, ap first_time a.table, taken-time 0 earlier earlier-command, earlier-time),
          )
      go false e = inl (later-number links 3 on-3, λ a. eqb-false (first_time answer.table) 1200 e (ap first_time a.table ∙ taken-time 3 later later-command ∙ later-time))

  -- a join of `later` leaves another table than demand 3 says, or one of `earlier` does
  pub constant-joins : Fails3 (constant answer after) (later_from 3 ∷ []) ⊎ Fails3 (constant answer after) (earlier_from 0 ∷ [])
  unfolding table_after
  constant-joins = go (eqb (first_time answer.table) 1200) refl
    where
      go : (t : Bool) → eqb (first_time answer.table) 1200 ≡ t → Fails3 (constant answer after) (later_from 3 ∷ []) ⊎ Fails3 (constant answer after) (earlier_from 0 ∷ [])
      go true e = inr (rw earlier-good earlier-kept, λ a. omega (arith, eqb-true (first_time answer.table) 1200 e, ap first_time a, earlier-held))
      go false e = inl (rw later-good later-kept, λ a. eqb-false (first_time answer.table) 1200 e (ap first_time a ∙ later-held))

  -- A relay with a constant answer doesn't meet demand 2.
  pub constant-fails-2 : Demand2 (constant answer after) → ⊥
  constant-fails-2 d = ⊎_elim (λ (f : Fails2 (constant answer after) 3 later). fails-2 _ 3 later f d) (λ (f : Fails2 (constant answer after) 0 earlier). fails-2 _ 0 earlier f d) constant-line

  -- A relay with a constant answer doesn't meet demand 3, whatever the merging.
  pub constant-fails-3 : (merging : Merging) → Demand3 (constant answer after) merging → ⊥
  constant-fails-3 merging d =
      ⊎_elim
      (λ (f : Fails3 (constant answer after) (later_from 3 ∷ [])). fails-3 _ (later_from 3 ∷ []) f merging d)
      (λ (f : Fails3 (constant answer after) (earlier_from 0 ∷ [])). fails-3 _ (earlier_from 0 ∷ []) f merging d) constant-joins

-- ---- a table that never alters
-- `later` isn't taken as demand 2 says
pub unaltering-later : Fails2 unaltering 3 later
unaltering-later = (later-number links 3 on-3, λ a. omega (arith, ap first_time a.table, taken-time 3 later later-command, later-time, start-time))

-- a join of `later` leaves another table than demand 3 says
pub unaltering-join : Fails3 unaltering (later_from 3 ∷ [])
unfolding table_after
unaltering-join = (rw later-good later-kept, λ a. omega (arith, ap first_time a, later-held, start-time))

-- A relay that never alters the table doesn't meet demand 2.
pub unaltering-fails-2 : Demand2 unaltering → ⊥
unaltering-fails-2 = fails-2 unaltering 3 later unaltering-later

-- A relay that never alters the table doesn't meet demand 3, whatever the merging.
pub unaltering-fails-3 : (merging : Merging) → Demand3 unaltering merging → ⊥
unaltering-fails-3 = fails-3 unaltering (later_from 3 ∷ []) unaltering-join

-- ---- the first join alone folded
-- the table after `later`
abbrev next : Table
next = with_network (start links) (network_by (network_of (start links)) (arrival 3 later))

start-free : all is_free (start links).slots ≡ true
start-free = all_replicate is_free empty_record slot_count (eq-eqb empty_record.count 0 empty-free)

next-used : all is_free next.slots ≡ false
unfolding all encode incoming
next-used = rw (taken-network 3 later later-command, later-tells)

first-takes : (take_join first_only (start links) (later_from 3)).table ≡ next
first-takes =
    ap (λ (free : Bool). (cond free (ours (start links) (arrival 3 later) room) (unaltering (start links) (arrival 3 later) room)).0.table) start-free
    ∙ ap (λ (a : Outcome). a.table) (answer-accepted (start links) (arrival 3 later) (length room) (later-number links 3 on-3))

first-leaves : (take_join first_only next (earlier_from 0)).table ≡ next
first-leaves = ap (λ (free : Bool). (cond free (ours next (arrival 0 earlier) room) (unaltering next (arrival 0 earlier) room)).0.table) next-used

-- joins of `later` and then `earlier` leave another table than demand 3 says
pub first-joins : Fails3 first_only (later_from 3 ∷ earlier_from 0 ∷ [])
unfolding table_after
first-joins =
    let e : first_time (table_after first_only (start links) (later_from 3 ∷ earlier_from 0 ∷ [])) ≡ 1200 =
    ap first_time (ap (λ (t : Table). (take_join first_only t (earlier_from 0)).table) first-takes ∙ first-leaves) ∙ taken-time 3 later later-command ∙ later-time in
    (rw both-good both-kept, λ a. omega (arith, e, ap first_time a, both-held))

-- A relay that folds the first join alone doesn't meet demand 3, whatever the merging.
pub first-fails : (merging : Merging) → Demand3 first_only merging → ⊥
first-fails = fails-3 first_only (later_from 3 ∷ earlier_from 0 ∷ []) first-joins

-- ---- a count of links that is made up: from link 3 of 0, 3 and 5 it would have to be 2, and from a link alone 0
alone : has_link 1 0 ≡ true
unfolding has_bit
alone = refl

two-others : length (links_in (relay_set (start links).links 3)) ≡ 2
unfolding relay_set less_link set_below links_from has_bit
two-others = refl

no_other : length (links_in (relay_set (start 1).links 0)) ≡ 0
unfolding relay_set less_link set_below links_from has_bit
no_other = refl

-- `later` is no BMASK
later-relayed : (set link : ℕ) → is_late_mask (start set) (arrival link later) ≡ false
unfolding same_by
later-relayed set link = rw later-command

module _ (n : ℕ) (d : Demand2 (counted_as n)) where
  counts : (set link : ℕ) → has_link set link ≡ true → n ≡ length (links_in (relay_set (start set).links link))
  counts set link on =
      let good = later-number set link on in
      sym (ap (λ (k : ℕ). cond (eqb k accepted) n 0) good)
      ∙ ((d (start set) (arrival link later) room good).relays (later-relayed set link)).count
      ∙ ap (λ (a : Outcome). length (links_in a.set)) (answer-accepted (start set) (arrival link later) (length room) good)
      ∙ ap (λ (b : Bool). length (links_in (cond b (relay_set (start set).links link) 0))) (goes (start set) (arrival link later) room good false (later-relayed set link))

-- A relay that answers the same count of links to every accepted line doesn't meet demand 2.
pub counted-fails : (n : ℕ) → Demand2 (counted_as n) → ⊥
counted-fails n d = omega (arith, counts n d links 3 on-3 ∙ two-others, counts n d 1 0 alone ∙ no_other)

-- ---- a relay that never tells the place: `twice` has its second n at place 21
-- A relay that never tells the place doesn't meet demand 1.
pub unpointing-fails : Demand1 unpointing → ⊥
unpointing-fails d =
    let n = twice-number links 3 on-3 in
    let p = d.places (start links) (arrival 3 twice) room (ap is_mode_number n) in
    omega (arith, p.0)

-- ---- a merging that answers its first record, whatever the taking
-- for the records of `later` and of `earlier` it doesn't answer the record of both lines
pub first-record : first_record (plain_whole (later ∷ [])) (plain_whole (earlier ∷ [])) ≡ record { number = accepted; result = plain_whole (later ∷ earlier ∷ []) } → ⊥
unfolding earliest
first-record e =
    let f : (plain_record (later ∷ [])).time ≡ (plain_record (later ∷ earlier ∷ [])).time = ap (λ (m : Merged). m.result.«record».time) e in
    omega (arith, f, record-time later [], record-time later (earlier ∷ []), later-time, earlier-time)

-- A merging that answers its first record doesn't meet demand 3, whatever the taking.
pub first-record-fails : (taking : Taking) → Demand3 taking first_record → ⊥
unfolding holding
first-record-fails taking d =
    let left = d.leaves (start links) (later_from 3 ∷ []) refl (rw later-good later-kept) ∙ ap (holding (start links)) later-good in
    let answer = d.merges (start links) (start links) (later_from 3 ∷ []) (earlier_from 0 ∷ []) refl refl (not_none later-good) (not_none earlier-good) (rw (later-good, earlier-good) both-kept) in
    first-record (sym (ap answered (ap first_slot left ∙ first_plain (start links) (later ∷ []) refl)) ∙ answer ∙ ap₂ (λ (s t : List (List ℕ)). answered (plain_whole (s ++ t))) later-good earlier-good)
  where
    answered : WholeRecord → Merged
    answered r = record { number = accepted; result = r }

-- ---- a merging that never refuses: it meets demand 3, so that more is to be asked of a merging
-- no channel, and no masks
abbrev pub none : WholeRecord
none = whole empty_record empty_list

-- With our taking, the merging that never refuses meets demand 3.
pub never-refusing-meets : Demand3 ours never_refusing
never-refusing-meets = record {
  verdicts = demand3.verdicts;
  leaves = demand3.leaves;
  alike = demand3.alike;
  merges = λ start other js ks empty void some any kept. ap unrefused (demand3.merges start other js ks empty void some any kept);
}
  where
    unrefused : Merged → Merged
    unrefused m = record { number = accepted; result = cond (eqb m.number accepted) m.result none }

-- no channel merged with no channel is to be refused: a well-formed record has members
empty-ill : well_formed_whole none ≡ false
empty-ill = go (well_formed_whole none) refl
  where
    go : (t : Bool) → well_formed_whole none ≡ t → t ≡ false
    go true e = absurd (true≢false (sym (eq-eqb empty_record.count 0 empty-free) ∙ well-used empty_record (whole_says none e).0))
    go false e = refl

-- the rules refuse two empty records as not well formed
pub empty-number : ruled_merge none none ≡ not_well_formed
unfolding merge_rules
empty-number = stop _ _ (ap (λ (t : Bool). not (t && t)) empty-ill)

-- and so don't accept them
pub empty-refused : ruled_merge none none ≡ accepted → ⊥
empty-refused e = omega (arith, e, empty-number)

-- The merging that never refuses isn't as `Merges` asks.
pub never-refusing-fails : Merges never_refusing → ⊥
never-refusing-fails m = empty-refused (sym (ap (λ (a : Merged). a.number) (m.refuses none none empty-refused)))
