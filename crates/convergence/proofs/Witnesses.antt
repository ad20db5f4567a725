-- Joins that meet the premises of the three demands, and what the theorems say of them: good and bad ones in one list, the good lines in another order and with
-- a repeat, from another start. Assumes nothing.
use Prim.Native.Nat.{ℕ}
use mathlib.Core.Path.{◌≡◌, refl, sym, ap, ◌∙◌}
use mathlib.Core.Bool.{true, false}
use mathlib.Core.List.Memᴰ
use mathlib.Core.List.{List, [], ◌∷◌, ◌++◌, map}
use native.Mathlib.Omega.{arith}
use lib.ListN.{length, set}
use Rattle.refusal.specs.Numbers.{accepted, not_well_formed, bad_link, empty_prefix, zero_time, bad_modes, mode_twice, is_mode_number}
use Rattle.laws.specs.Bits.{has_bit}
use Rattle.laws.specs.Lists.{same_by}
use Rattle.octets.specs.Order.{compare}
use Rattle.ascending.specs.Ascending.{insert, put, unite}
use Rattle.channel.specs.Channel.{Channel, member}
use Rattle.channel.specs.Record.{encode}
use Rattle.channel.specs.Modes.{with_mode}
use Rattle.channel.specs.Standing.{counts, settings_at, bare, standing}
use Rattle.channel.specs.Members.{status_in}
use Rattle.channel.proofs.Examples.{2cd, 1ab, stored, incoming}
use Rattle.merging.specs.declared.Merged.{Merged}
use Rattle.merging.specs.Settings.{greater, join_settings}
use Rattle.bans.specs.Slots.{empty_list}
use Rattle.bans.specs.Records.{whole}
use Rattle.merging.specs.Merging.{merged_whole, merge_answer}
use Rattle.merging.specs.Plain.{earliest, entries, everyone, status_at, plain}
use Rattle.links.specs.Links.{has_link}
use Rattle.table.specs.Network.{network_of, with_network, with_slots}
use Rattle.relay.specs.Arrival.{arrival}
use Rattle.sjoin.specs.Join.{span_place, line_place}
use Rattle.relay.specs.Relay.{Outcome, refused}
use Rattle.relay.specs.Former.{former_answer}
use Rattle.relay.proofs.Former.{splits}
use Rattle.convergence.specs.Demands.{ruled, ruled_merge, Accepts, Join, Verdict, verdict, verdict_at, good_lines, verdicts_of, table_after, Kept, plain_record, holding, first_slot, Among, Alike}
use Rattle.convergence.specs.Ours.{ours}
use Rattle.convergence.proofs.Demand1.{demand1}
use Rattle.convergence.proofs.Demand2.{demand2}
use Rattle.convergence.proofs.Demand3.{demand3}
use Rattle.convergence.proofs.Merges.{merges}
use Rattle.convergence.proofs.Failures.{none, empty-number, empty-refused}
use Rattle.convergence.proofs.Lines.{earlier, later, equal, unread, third, room, start, earlier_from, later_from, equal_from, unread_from, untimed_from, later-is, earlier-tells, later-tells, equal-tells, off-link, earlier-number, later-number, equal-number, unread-number, untimed-number, stored-race, incoming-race, third-race, kept_by, not_none, twice, twice_from, twice-number, twice-place}

-- ---- two starts: links 0, 3 and 5, and links 0, 1 and 2
on-first : (has_link 41 0 ≡ true) × (has_link 41 3 ≡ true) × (has_link 41 5 ≡ true) × (has_link 41 7 ≡ false)
unfolding has_bit
on-first = (refl, refl, refl, refl)

on-second : (has_link 7 0 ≡ true) × (has_link 7 1 ≡ true) × (has_link 7 2 ≡ true)
unfolding has_bit
on-second = (refl, refl, refl)

-- ---- demand 1: a line that isn't read
unread-bad : ruled (start 41) (arrival 3 unread) room ≡ accepted → ⊥
unread-bad e = omega (arith, e, unread-number 41 3 on-first.1)

unread-refused : ours (start 41) (arrival 3 unread) room ≡ (refused (start 41) empty_prefix 0, room)
unfolding span_place
unread-refused = demand1.refuses (start 41) (arrival 3 unread) room unread-bad ∙ ap (λ (n : ℕ). (refused (start 41) n (line_place n unread), room)) (unread-number 41 3 on-first.1)

-- and one whose modes have a letter twice, at place 21
twice-bad : ruled (start 41) (arrival 3 twice) room ≡ accepted → ⊥
twice-bad e = omega (arith, e, twice-number 41 3 on-first.1)

twice-refused : ours (start 41) (arrival 3 twice) room ≡ (refused (start 41) mode_twice 21, room)
twice-refused =
    demand1.refuses (start 41) (arrival 3 twice) room twice-bad
    ∙ ap (λ (n : ℕ). (refused (start 41) n (line_place n twice), room)) (twice-number 41 3 on-first.1)
    ∙ ap (λ (p : ℕ). (refused (start 41) mode_twice p, room)) twice-place

-- which was 17 before, and nothing else of the answer was another
twice-was : (former_answer (start 41) (arrival 3 twice) (length room)).number ≡ bad_modes
twice-was = (splits (start 41) (arrival 3 twice) (length room)).only (ap (λ (answer : Outcome × List ℕ). is_mode_number answer.0.number) twice-refused)

-- ---- demand 2: a line by the rules
later-ruled : ruled (start 41) (arrival 3 later) room ≡ accepted
later-ruled = later-number 41 3 on-first.1

later-taken : Accepts (start 41) (arrival 3 later) room (ours (start 41) (arrival 3 later) room).0 (ours (start 41) (arrival 3 later) room).1
later-taken = demand2 (start 41) (arrival 3 later) room later-ruled

-- ---- demand 3: a list with good joins and bad ones
-- not read, on a link that isn't registered, at time 0, with a letter twice
js : List Join
js = later_from 3 ∷ unread_from 3 ∷ earlier_from 0 ∷ later_from 7 ∷ untimed_from 5 ∷ twice_from 3 ∷ equal_from 5 ∷ []

-- what they get at the start
verdicts : List Verdict
verdicts = verdict accepted 0 ∷ verdict empty_prefix 0 ∷ verdict accepted 0 ∷ verdict bad_link 0 ∷ verdict zero_time 0 ∷ verdict mode_twice 21 ∷ verdict accepted 0 ∷ []

js-verdicts : map (verdict_at (start 41)) js ≡ verdicts
unfolding js span_place verdicts
js-verdicts =
    let (on-0, on-3, on-5, off-7) = on-first in
    rw (later-number 41 3 on-3, unread-number 41 3 on-3, earlier-number 41 0 on-0, off-link 41 7 later later-is off-7, untimed-number 41 5 on-5, twice-number 41 3 on-3, equal-number 41 5 on-5)
    (ap (λ (p : ℕ). verdict accepted 0 ∷ verdict empty_prefix 0 ∷ verdict accepted 0 ∷ verdict bad_link 0 ∷ verdict zero_time 0 ∷ verdict mode_twice p ∷ verdict accepted 0 ∷ []) twice-place)

js-good : good_lines (start 41) js ≡ later ∷ earlier ∷ equal ∷ []
unfolding good_lines js
js-good =
    let (on-0, on-3, on-5, off-7) = on-first in
    rw (later-number 41 3 on-3, unread-number 41 3 on-3, earlier-number 41 0 on-0, off-link 41 7 later later-is off-7, untimed-number 41 5 on-5, twice-number 41 3 on-3, equal-number 41 5 on-5)

-- they keep to one channel and 64 users
js-kept : Kept (good_lines (start 41) js)
unfolding everyone entries insert put unite compare incoming stored third 1ab 2cd
js-kept =
    rw js-good
    (kept_by (later ∷ earlier ∷ equal ∷ []) (incoming ∷ stored ∷ third ∷ []) (rw (later-tells, earlier-tells, equal-tells)) (incoming-race, (stored-race, (third-race, tt))) (omega arith))

-- each is answered as at the start
js-answered : verdicts_of ours (start 41) js ≡ verdicts
js-answered = demand3.verdicts (start 41) js refl js-kept ∙ js-verdicts

-- #race, as the first good line spells it; at time 1000 two lines count: k and l, the greater key, the limit, operator and voice
after : Channel
after = record {
  name = 35 ∷ 114 ∷ 97 ∷ 99 ∷ 101 ∷ [];
  time = 1000;
  settings = record { modes = 192; key = 99 ∷ 111 ∷ 118 ∷ 101 ∷ []; limit = 20 };
  members = member (1ab 65) 0 ∷ member (1ab 66) 0 ∷ member 2cd 3 ∷ [];
}

js-plain : plain incoming (stored ∷ third ∷ []) ≡ after
unfolding plain earliest counts settings_at bare standing everyone entries status_in status_at same_by insert put unite compare greater join_settings with_mode stored incoming third after 1ab 2cd
js-plain = refl

js-left : table_after ours (start 41) js ≡ with_network (start 41) (with_slots (network_of (start 41)) (set (start 41).slots 0 (encode after)))
unfolding holding plain_record
js-left = demand3.leaves (start 41) js refl js-kept ∙ rw (js-good, later-tells, earlier-tells, equal-tells, js-plain)

-- with no good join all is as at the start
bad : List Join
bad = unread_from 3 ∷ later_from 7 ∷ []

bad-good : good_lines (start 41) bad ≡ []
unfolding good_lines bad
bad-good = rw (unread-number 41 3 on-first.1, off-link 41 7 later later-is on-first.3)

bad-kept : Kept (good_lines (start 41) bad)
unfolding everyone entries unite
bad-kept = rw bad-good (kept_by [] [] refl tt (omega arith))

bad-left : table_after ours (start 41) bad ≡ start 41
unfolding holding
bad-left = demand3.leaves (start 41) bad refl bad-kept ∙ rw bad-good

-- ---- the same good lines in another order, one of them twice, from another start
ks : List Join
ks = equal_from 1 ∷ later_from 0 ∷ earlier_from 2 ∷ later_from 2 ∷ []

ks-good : good_lines (start 7) ks ≡ equal ∷ later ∷ earlier ∷ later ∷ []
unfolding good_lines ks
ks-good =
    let (on-0, on-1, on-2) = on-second in
    rw (equal-number 7 1 on-1, later-number 7 0 on-0, earlier-number 7 2 on-2, later-number 7 2 on-2)

there : Among (later ∷ earlier ∷ equal ∷ []) (equal ∷ later ∷ earlier ∷ later ∷ [])
there l (Memᴰ.head e) = Memᴰ.tail (Memᴰ.head e)
there l (Memᴰ.tail (Memᴰ.head e)) = Memᴰ.tail (Memᴰ.tail (Memᴰ.head e))
there l (Memᴰ.tail (Memᴰ.tail (Memᴰ.head e))) = Memᴰ.head e
there l (Memᴰ.tail (Memᴰ.tail (Memᴰ.tail m))) = absurd (Memᴰ.not-nil m)

back : Among (equal ∷ later ∷ earlier ∷ later ∷ []) (later ∷ earlier ∷ equal ∷ [])
back l (Memᴰ.head e) = Memᴰ.tail (Memᴰ.tail (Memᴰ.head e))
back l (Memᴰ.tail (Memᴰ.head e)) = Memᴰ.head e
back l (Memᴰ.tail (Memᴰ.tail (Memᴰ.head e))) = Memᴰ.tail (Memᴰ.head e)
back l (Memᴰ.tail (Memᴰ.tail (Memᴰ.tail (Memᴰ.head e)))) = Memᴰ.head e
back l (Memᴰ.tail (Memᴰ.tail (Memᴰ.tail (Memᴰ.tail m)))) = absurd (Memᴰ.not-nil m)

any_order : Alike (first_slot (table_after ours (start 41) js)) (first_slot (table_after ours (start 7) ks))
any_order = demand3.alike (start 41) (start 7) js ks refl refl js-kept (rw (js-good, ks-good) there) (rw (js-good, ks-good) back)

-- ---- two lists folded apart and merged
first : List Join
first = later_from 3 ∷ untimed_from 5 ∷ []

second : List Join
second = equal_from 1 ∷ earlier_from 0 ∷ []

first_good : good_lines (start 41) first ≡ later ∷ []
unfolding good_lines first
first_good = rw (later-number 41 3 on-first.1, untimed-number 41 5 on-first.2)

second-good : good_lines (start 7) second ≡ equal ∷ earlier ∷ []
unfolding good_lines second
second-good = rw (equal-number 7 1 on-second.1, earlier-number 7 0 on-second.0)

apart-kept : Kept (good_lines (start 41) first ++ good_lines (start 7) second)
unfolding everyone entries insert put unite compare incoming stored third 1ab 2cd
apart-kept =
    rw (first_good, second-good)
    (kept_by (later ∷ equal ∷ earlier ∷ []) (incoming ∷ third ∷ stored ∷ []) (rw (later-tells, earlier-tells, equal-tells)) (incoming-race, (third-race, (stored-race, tt))) (omega arith))

apart-plain : plain incoming (third ∷ stored ∷ []) ≡ after
unfolding plain earliest counts settings_at bare standing everyone entries status_in status_at same_by insert put unite compare greater join_settings with_mode stored incoming third after 1ab 2cd
apart-plain = refl

apart : merge_answer (first_slot (table_after ours (start 41) first)) (first_slot (table_after ours (start 7) second)) ≡ record { number = accepted; result = whole (encode after) empty_list }
unfolding plain_record
apart =
    demand3.merges (start 41) (start 7) first second refl refl (not_none first_good) (not_none second-good) apart-kept ∙ rw (first_good, second-good, later-tells, earlier-tells, equal-tells, apart-plain)

-- ---- of a merging: a pair that is accepted, and one that is refused
apart-accepted : ruled_merge (first_slot (table_after ours (start 41) first)) (first_slot (table_after ours (start 7) second)) ≡ accepted
unfolding merge_answer
apart-accepted = ap (λ (m : Merged). m.number) apart

apart-merged : merged_whole (first_slot (table_after ours (start 41) first)) (first_slot (table_after ours (start 7) second)) ≡ whole (encode after) empty_list
apart-merged = ap (λ (m : Merged). m.result) (sym (merges.accepts _ _ apart-accepted) ∙ apart)

empty-merge : merge_answer none none ≡ record { number = not_well_formed; result = none }
empty-merge = merges.refuses none none empty-refused ∙ ap (λ (n : ℕ). record { number = n; result = none }) empty-number
