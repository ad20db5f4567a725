-- Joins taken one after the other from an empty table. The first slot holds the good lines so far, merged in their order, and is well formed; so a join that
-- isn't good has the number that it has at the start, and a good one finds the slot and room in it. Times don't matter here. Assumes nothing.
use Prim.Native.Nat.{ℕ, ◌≤◌, ◌-◌}
use mathlib.Core.Path.{◌≡◌, refl, sym, ap, ap₂, ◌∙◌}
use mathlib.Core.Bool.{Bool, true, false, cond}
use mathlib.Core.List.Memᴰ
use mathlib.Core.List.{List, [], ◌∷◌, ◌++◌, map, append_assoc, append-nil, Memᴰ}
use native.Mathlib.Omega.{arith}
use lib.ListN.{length, get_or, set, replicate}
use lib.Seq.{set-set}
use lib.Dec.{eqb}
use borrow.Author.Tests.{eqb-true, eqb-false}
use Rattle.refusal.specs.Numbers.{accepted}
use Rattle.refusal.specs.Rules.{first_of}
use Rattle.octets.specs.Bytes.{capital}
use Rattle.ascending.proofs.Ascends.{Ascending}
use Rattle.names.specs.Fold.{fold}
use Rattle.names.proofs.Folds.{folds-name}
use Rattle.channel.specs.declared.Record.{Record}
use Rattle.channel.specs.Limits.{member_limit, slot_count}
use Rattle.channel.specs.Channel.{Channel, by_id}
use Rattle.channel.specs.Record.{encode, decode, empty_record}
use Rattle.channel.proofs.Records.{decode-encode}
use Rattle.channel.proofs.Proper.{Proper, proper-fits, encode-well}
use Rattle.bans.specs.Slots.{list_at, empty_lists}
use Rattle.bans.proofs.Slots.{lists-empty}
use Rattle.merging.specs.Merging.{merge}
use Rattle.merging.specs.Plain.{everyone}
use Rattle.merging.proofs.Proper.{proper-merge}
use Rattle.merging.proofs.Plains.{length-everyone}
use Rattle.merging.proofs.Merges.{folded, folded-name, folded-snoc, length-folded}
use Rattle.table.specs.Slots.{Held, Free}
use Rattle.table.specs.Network.{Table, Network, network_of, with_network, with_slots}
use Rattle.table.specs.Table.{good_table}
use Rattle.table.specs.Slots.{slot_for}
use Rattle.table.proofs.Alone.{free-good, free-slot, alone-good, held_first, encoded-holds}
use Rattle.sjoin.specs.Join.{line_place}
use Rattle.sjoin.proofs.Answers.{place_none}
use Rattle.message.specs.Reading.{message_of}
use Rattle.telling.specs.Telling.{sjoin}
use Rattle.relay.specs.Arrival.{said}
use Rattle.relay.specs.Sjoin.{joined}
use Rattle.relay.specs.Relay.{network_by, Outcome}
use Rattle.relay.proofs.Results.{free-rules}
use Rattle.relay.proofs.Taking.{network-joined}
use Rattle.relay.proofs.Answering.{answer-refused, answer-accepted}
use Rattle.relay.proofs.Joined.{command-join, earlier_rules, entered, join-refused, join-entered, opened, merged, merge-room}
use Rattle.convergence.specs.Demands.{Join, Empty, number_at, Verdict, verdict, verdict_at, is_good, good_lines, take_join, verdict_of, verdicts_of, table_after, channel_of, Kept}
use Rattle.convergence.specs.Ours.{ours}

-- the channels of the good lines
abbrev pub good : Table → List Join → List Channel
good start js = map channel_of (good_lines start js)

-- the start after these channels, merged in their order into the first slot
abbrev pub after : Table → List Channel → Table
after start [] = start
after start (l ∷ s) = with_network start (with_slots (network_of start) (set start.slots 0 (encode (folded l s))))

-- what holds of them: what they come to is proper, and their name is known
abbrev pub Sound : List ℕ → List Channel → Type 0
Sound name [] = Unit {0}
Sound name (l ∷ s) = Proper (folded l s) × (map fold l.name ≡ name) × Ascending by_id l.members

-- the folded name that channels share
abbrev shared : List Channel → List ℕ
shared [] = []
shared (l ∷ s) = map fold l.name

shares : (lines : List (List ℕ)) → Kept lines → (c : Channel) → Memᴰ c (map channel_of lines) → map fold c.name ≡ shared (map channel_of lines)
shares [] k c m = absurd (Memᴰ.not-nil m)
shares (l ∷ s) k c m = let (line, i, e) = Memᴰ.of_map channel_of (l ∷ s) m in rw (← e) (k.one line l i (Memᴰ.head refl))

module _ (start : Table) (empty : Empty start) where
  -- ---- the table so far
  -- no join adds a mask
  no-masks : start.bans ≡ empty_lists
  no-masks = ap (λ (n : Network). n.bans) empty

  one-slot : (r : Record) → set start.slots 0 r ≡ r ∷ replicate (slot_count - 1) empty_record
  one-slot r = ap (λ (n : Network). set n.slots 0 r) empty

  after-good : (name : List ℕ) (q : List Channel) → Sound name q → good_table (after start q) ≡ true
  after-good name [] h = free-good start empty
  after-good name (l ∷ s) h =
      alone-good (encode (folded l s)) (encode-well (folded l s) h.0) (after start (l ∷ s)) (slot_count - 1) (omega arith) (one-slot (encode (folded l s))) no-masks

  new-slot : (name : List ℕ) → slot_for start.slots name ≡ Free 0
  new-slot name = ap (λ (n : Network). slot_for n.slots name) empty ∙ free-slot name (slot_count - 1)

  held-slot : (l c : Channel) (s : List Channel) → Proper (folded l s) → map fold l.name ≡ map fold c.name → slot_for (after start (l ∷ s)).slots c.name ≡ Held 0
  held-slot l c s p e =
      rw (one-slot (encode (folded l s)))
      (held_first c.name (encode (folded l s)) _ (encoded-holds c.name (folded l s) p (folds-name (folded l s).name c.name (rw (folded-name l s) e))))

  held-is : (l : Channel) (s : List Channel) → Proper (folded l s) → decode (get_or (after start (l ∷ s)).slots 0 empty_record) ≡ folded l s
  held-is l s p = rw (one-slot (encode (folded l s))) (decode-encode (folded l s) (proper-fits (folded l s) p))

  -- ---- one join
  -- its number by the rules that don't depend on the slots
  abbrev entry : Join → ℕ
  entry j = first_of (earlier_rules start.links j.arrival (length j.output))

  -- at the start those decide: the channel is new, and a line names no more users than a record holds
  pub start-number : (j : Join) → number_at start j ≡ entry j
  start-number j = go (eqb (entry j) accepted) refl
    where
      go : (b : Bool) → eqb (entry j) accepted ≡ b → number_at start j ≡ entry j
      go true b =
          let e : entry j ≡ accepted = eqb-true (entry j) accepted b in
          let p = entered j.arrival j.reads start.links (length j.output) e in
          let k = channel_of j.arrival.line in
          join-entered j.arrival j.reads start (free-good start empty) (length j.output) e ∙ free-rules (network_of start) k p.1 0 (new-slot k.name) ∙ sym e
      go false b = join-refused j.arrival j.reads start (free-good start empty) (length j.output) (eqb-false (entry j) accepted b)

  -- a good line is SJOIN, and what it tells of is proper
  pub line-is : (j : Join) → number_at start j ≡ accepted → (map capital (said j.arrival).command ≡ sjoin) × Proper (channel_of j.arrival.line)
  line-is j g = entered j.arrival j.reads start.links (length j.output) (sym (start-number j) ∙ g)

  -- what it tells of comes into the network
  joins : (n : Network) (j : Join) → map capital (said j.arrival).command ≡ sjoin → network_by n j.arrival ≡ joined n (channel_of j.arrival.line)
  joins n j is = network-joined n j.arrival (command-join j.arrival.line is)

  -- a join that isn't good has the number that it has at the start
  bad-number : (name : List ℕ) (q : List Channel) → Sound name q → (j : Join) → (number_at start j ≡ accepted → ⊥) → number_at (after start q) j ≡ number_at start j
  bad-number name [] h j bad = refl
  bad-number name (l ∷ s) h j bad =
      join-refused j.arrival j.reads (after start (l ∷ s)) (after-good name (l ∷ s) h) (length j.output) (λ e. bad (start-number j ∙ e)) ∙ sym (start-number j)

  -- a good one is accepted and merged
  step : (name : List ℕ) (q : List Channel) (j : Join) → Sound name q → number_at start j ≡ accepted → map fold (channel_of j.arrival.line).name ≡ name
      → length (everyone (q ++ channel_of j.arrival.line ∷ [])) ≤ member_limit
      → (number_at (after start q) j ≡ accepted) × (with_network (after start q) (network_by (network_of (after start q)) j.arrival) ≡ after start (q ++ channel_of j.arrival.line ∷ [])) × Sound name (q ++ channel_of j.arrival.line ∷ [])
  unfolding folded
  step name [] j h g e f =
      let k = channel_of j.arrival.line in
      let p = line-is j g in
      (g, ap (with_network start) (joins (network_of start) j p.0 ∙ opened (network_of start) k 0 (new-slot k.name)), (p.1, e, p.1.ascending))
  step name (l ∷ s) j h g e f =
      let k = channel_of j.arrival.line in
      let t = after start (l ∷ s) in
      let p = line-is j g in
      let at : slot_for t.slots k.name ≡ Held 0 = held-slot l k s h.0 (h.1 ∙ sym e) in
      let is : merge (decode (get_or t.slots 0 empty_record)) k ≡ folded l (s ++ k ∷ []) = ap (λ (c : Channel). merge c k) (held-is l s h.0) ∙ sym (folded-snoc l k s) in
      let few : length (folded l (s ++ k ∷ [])).members ≤ member_limit = omega (arith, length-folded l (s ++ k ∷ []) h.2, f) in
      let room : length (merge (decode (get_or t.slots 0 empty_record)) k).members ≤ member_limit = rw is few in (
        join-entered j.arrival j.reads t (after-good name (l ∷ s) h) (length j.output) (sym (start-number j) ∙ g) ∙ merge-room (network_of t) k 0 at room,
        ap (with_network start)
            (joins (network_of t) j p.0
            ∙ merged (network_of t) k 0 at (ap (λ (b : List ℕ). list_at b 0) no-masks ∙ lists-empty 0 (omega arith))
            ∙ ap (λ (c : Channel). with_slots (network_of t) (set t.slots 0 (encode c))) is
            ∙ ap (with_slots (network_of start)) (set-set start.slots 0 _ _)),
        (rw (folded-snoc l k s) (proper-merge (folded l s) k h.0 p.1 (rw (← folded-snoc l k s) few)), h.1, h.2),
      )

  -- ---- the joins of a list
  -- the channels still to come, after those of q, keep to the name and to the room
  abbrev Ahead : List ℕ → List Channel → List Channel → Type 0
  Ahead name q s = ((c : Channel) → Memᴰ c s → map fold c.name ≡ name) × (length (everyone (q ++ s)) ≤ member_limit)

  -- what the joins answer, and what they leave
  abbrev Walked : List ℕ → List Join → List Channel → List Channel → Type 0
  Walked name js q s = (verdicts_of ours (after start q) js ≡ map (verdict_at start) js) × (table_after ours (after start q) js ≡ after start (q ++ s)) × Sound name (q ++ s)

  -- a number with its place in the line of a join
  abbrev numbered : Join → ℕ → Verdict
  numbered j n = verdict n (line_place n j.arrival.line)

  -- a good join has neither
  accepts : (j : Join) → number_at start j ≡ accepted → verdict_at start j ≡ verdict accepted 0
  accepts j g = ap (numbered j) g ∙ ap (verdict accepted) (place_none accepted j.arrival.line (message_of j.arrival.line) refl)

  onward : (name : List ℕ) (j : Join) (js : List Join) (p q s u : List Channel) → verdict_of (take_join ours (after start p) j) ≡ verdict_at start j → (take_join ours (after start p) j).table ≡ after start q → q ++ s ≡ p ++ u
      → Walked name js q s → Walked name (j ∷ js) p u
  unfolding verdicts_of table_after
  onward name j js p q s u a b c w =
      (ap₂ ◌∷◌ a (ap (λ (t : Table). verdicts_of ours t js) b ∙ w.0), ap (λ (t : Table). table_after ours t js) b ∙ w.1 ∙ ap (after start) c, rw c at w.2)

  walk : (name : List ℕ) (js : List Join) (q : List Channel) → Sound name q → Ahead name q (good start js) → Walked name js q (good start js)
  unfolding verdicts_of table_after good_lines
  walk name [] q h a = rw (append-nil q) (refl, refl, h)
  walk name (j ∷ js) q h a = go (is_good start j) refl (walk name js) a
    where
      k : Channel
      k = channel_of j.arrival.line

      lines : Bool → List Channel
      lines b = map channel_of (cond b (j.arrival.line ∷ good_lines start js) (good_lines start js))

      go : (b : Bool) → is_good start j ≡ b → ((r : List Channel) → Sound name r → Ahead name r (good start js) → Walked name js r (good start js))
          → Ahead name q (lines b) → Walked name (j ∷ js) q (lines b)
      go true e ih f =
          let g : number_at start j ≡ accepted = eqb-true (number_at start j) accepted e in
          let same : (q ++ k ∷ []) ++ good start js ≡ q ++ k ∷ good start js = append_assoc q (k ∷ []) (good start js) in
          let room : length (everyone ((q ++ k ∷ []) ++ good start js)) ≤ member_limit = rw same f.1 in
          let w = step name q j h g (f.0 k (Memᴰ.head refl)) (omega (arith, length-everyone (q ++ k ∷ []) (good start js), room)) in
          let t = answer-accepted (after start q) j.arrival (length j.output) w.0 in
          onward name j js q (q ++ k ∷ []) (good start js) (k ∷ good start js) (ap verdict_of t ∙ sym (accepts j g)) (ap (λ (a : Outcome). a.table) t ∙ w.1) same
          (ih (q ++ k ∷ []) w.2 (λ c i. f.0 c (Memᴰ.tail i), room))
      go false e ih f =
          let g : number_at start j ≡ accepted → ⊥ = eqb-false (number_at start j) accepted e in
          let same : number_at (after start q) j ≡ number_at start j = bad-number name q h j g in
          let t = sym (answer-refused (after start q) j.arrival (length j.output) _ refl (λ z. g (sym same ∙ z))) in
          onward name j js q q (good start js) (good start js) (ap verdict_of t ∙ ap (numbered j) same) (ap (λ (a : Outcome). a.table) t) refl (ih q h f)

  -- ---- the whole list
  -- Where the good lines keep to one channel and to 64 users, each join is answered its number at the start, with its place, and the table left holds the good lines, merged in
  -- their order. What they come to is proper.
  pub walked : (js : List Join) → Kept (good_lines start js) → Walked (shared (good start js)) js [] (good start js)
  walked js k = walk (shared (good start js)) js [] tt (shares (good_lines start js) k, k.few)
