-- The customer's three demands (document 00; document 01, 'Many joins, for demand 3' and 'How the promises are judged'; document 02, §2, §6 and §7) as predicates of
-- a relay. Two things vary in them: how a line is taken, and how two records are merged. All else is fixed by the definitions below this crate: the rules and their
-- numbers, what a line reads as, the fold, the limits, the plain record and the record that holds a channel.
use Rattle.std.specs.Prelude.{ℕ, ◌+◌, ◌≤◌, ◌≡◌, Bool, true, false, not, cond, ◌&&◌, ◌⊎◌, length, take, get_or, set, eqb}
use mathlib.Core.List.{List, [], ◌∷◌, ◌++◌, map, Memᴰ}
use Rattle.refusal.specs.Numbers.{accepted, is_mode_number, order}
use Rattle.refusal.specs.Rules.{first_of}
use Rattle.laws.specs.Bits.{has_bit}
use Rattle.laws.specs.Lists.{same}
use Rattle.octets.specs.Bytes.{capital}
use Rattle.octets.specs.Room.{front}
use Rattle.names.specs.Fold.{fold}
use Rattle.message.specs.Reading.{is_read, content_of}
use Rattle.writer.specs.Form.{written}
use Rattle.channel.specs.declared.Record.{Record}
use Rattle.channel.specs.Limits.{member_limit}
use Rattle.channel.specs.Channel.{Channel}
use Rattle.channel.specs.Record.{encode, empty_record}
use Rattle.bans.specs.declared.WholeRecord.{WholeRecord}
use Rattle.bans.specs.Slots.{empty_list}
use Rattle.bans.specs.Records.{whole}
use Rattle.merging.specs.declared.Merged.{Merged}
use Rattle.merging.specs.Merging.{merged_whole, merge_rules}
use Rattle.merging.specs.Plain.{everyone, plain}
use Rattle.links.specs.Links.{has_link, links_in}
use Rattle.table.specs.Network.{Table, network_of, with_network, with_slots, list_in, empty_network}
use Rattle.sjoin.specs.Join.{channel_in, line_place}
use Rattle.telling.specs.Telling.{sjoin}
use Rattle.relay.specs.Arrival.{Arrival}
use Rattle.relay.specs.Bmask.{bmask, is_later}
use Rattle.relay.specs.Relay.{network_by, message_by, process_rules, Outcome, refused}

-- ---- what varies
-- How a line is taken: a table, with its ban lists, the line with the link that it came by, and the lent output give an answer, the table after in it, and the
-- output after.
abbrev pub Taking : Type 0
Taking = Table → Arrival → List ℕ → Outcome × List ℕ

-- How two records are merged, each with its ban list: they give a number and a record.
abbrev pub Merging : Type 0
Merging = WholeRecord → WholeRecord → Merged

-- ---- the rules
-- the number that the rules give a line; `accepted` is none
abbrev pub ruled : Table → Arrival → List ℕ → ℕ
ruled t a out = first_of (process_rules t a (length out))

-- the place in the line that goes with it: where the fault of its modes is, with one of their numbers, and else 0
abbrev pub placed : Table → Arrival → List ℕ → ℕ
placed t a out = line_place (ruled t a out) a.line

-- the number that they give two records that are to be merged
abbrev pub ruled_merge : WholeRecord → WholeRecord → ℕ
ruled_merge a b = first_of (merge_rules a b)

-- ---- demand 1
-- the number is from the fixed list
abbrev pub Listed : ℕ → Type 0
Listed number = Memᴰ number order

-- there is one such, and no other
abbrev pub One : {A : Type 0} → (A → Type 0) → Type 0
One {A} P = (a : A) × P a × ((b : A) → P b → b ≡ a)

-- "Any bytes, on any link, with any table, get one answer. Bad input is refused by a number from a fixed list; the table and every lent buffer are then as
-- before." The line is lent too, but shared, and no call can write it. What the other functions refuse stands in their contracts.
pub record Demand1 (taking : Taking) : Type 0 where
  -- each input has one answer: by construction, since a taking is a function
  pub one : (t : Table) (a : Arrival) (out : List ℕ) → One (λ answer. taking t a out ≡ answer)
  -- where the rules give a number: that number with its place, the table as before, its lists too, relay set 0, count 0, length 0, the output as before
  pub refuses : (t : Table) (a : Arrival) (out : List ℕ) → (ruled t a out ≡ accepted → ⊥) → taking t a out ≡ (refused t (ruled t a out) (placed t a out), out)
  -- and the number is from the list
  pub listed : (t : Table) (a : Arrival) (out : List ℕ) → (ruled t a out ≡ accepted → ⊥) → Listed (taking t a out).0.number
  -- every answer has a place: over 0 and at most the line's length less 2 with a number of modes, and 0 with any other
  pub places : (t : Table) (a : Arrival) (out : List ℕ) → is_mode_number (ruled t a out) ≡ true → (1 ≤ (taking t a out).0.place) × ((taking t a out).0.place + 2 ≤ length a.line)
  pub unplaced : (t : Table) (a : Arrival) (out : List ℕ) → is_mode_number (ruled t a out) ≡ false → (taking t a out).0.place ≡ 0

-- Of a merging demand 1 asks the same, and a refused merge answers its first record as given. All else is merged by the rule of SJOIN (document 01: "Two whole
-- records merge by the same rule, the first one's spelling kept"), and the lists as document 02 says (§2). Demand 3 says nothing of a refused merge, and of an
-- accepted one only where both records were left by joins.
pub record Merges (merging : Merging) : Type 0 where
  -- where the rules give a number: that number, the first record as given
  pub refuses : (a b : WholeRecord) → (ruled_merge a b ≡ accepted → ⊥) → merging a b ≡ record { number = ruled_merge a b; result = a }
  -- and the number is from the list
  pub listed : (a b : WholeRecord) → (ruled_merge a b ≡ accepted → ⊥) → Listed (merging a b).number
  -- else the record of the two channels merged, with the merged list
  pub accepts : (a b : WholeRecord) → ruled_merge a b ≡ accepted → merging a b ≡ record { number = accepted; result = merged_whole a b }

-- ---- demand 2
-- The line goes out.
pub record Relays (t : Table) (a : Arrival) (out : List ℕ) (answer : Outcome) (after : List ℕ) : Type 0 where
  -- the relay set: every registered link except the source, and no other bit
  pub links : (k : ℕ) → has_bit answer.set k ≡ has_link t.links.set k && not (eqb k a.link)
  -- the number of links in it
  pub count : answer.count ≡ length (links_in answer.set)
  -- the line that goes out, in the writer's form, stands at the front of the output, the rest unchanged
  pub len : answer.len ≡ length (written (message_by (network_of t) a))
  pub output : after ≡ front (written (message_by (network_of t) a)) out
  -- and what was written reads as the message that goes out
  pub reads : is_read (take answer.len after) ≡ true
  pub message : content_of (take answer.len after) ≡ message_by (network_of t) a

-- Nothing does: relay set 0, nothing written, and the table as before (document 02, §2).
pub record Silent (t : Table) (out : List ℕ) (answer : Outcome) (after : List ℕ) : Type 0 where
  pub table : answer.table ≡ t
  pub set : answer.set ≡ 0
  pub count : answer.count ≡ 0
  pub len : answer.len ≡ 0
  pub output : after ≡ out

-- the line is a BMASK, in any case of letters, that is later than its channel
abbrev pub is_late_mask : Table → Arrival → Bool
is_late_mask t a = same (map capital (content_of a.line).command) bmask && is_later (network_of t) (content_of a.line)

-- The answer to a line that is taken, and the output after.
pub record Accepts (t : Table) (a : Arrival) (out : List ℕ) (answer : Outcome) (after : List ℕ) : Type 0 where
  pub number : answer.number ≡ accepted
  pub place : answer.place ≡ 0
  -- the network changes as SJOIN, PART, QUIT and BMASK say, and the links stay
  pub table : answer.table ≡ with_network t (network_by (network_of t) a)
  -- the line goes out
  pub relays : is_late_mask t a ≡ false → Relays t a out answer after
  -- unless it is such a BMASK
  pub silent : is_late_mask t a ≡ true → Silent t out answer after

-- "Lines are read by RFC 1459's grammar and written back in one fixed form that reads as the same message. Channel joins, parts and quits change the table as
-- TS6 and the plan say, and go to every registered link except the source." So do ban masks, but for those that come too late. The grammar is RFC 2812's for
-- the fifteenth parameter (document 02, §7). Every line by the rules is accepted. That any line is read by the grammar and any message written in the fixed form
-- are the contracts of `message::parse` and `writer::write`; that it reads back are the laws `written-reads` and `read-writes` (writer/proofs/Rounds.antt).
-- `Witnesses` and `Banning` of proofs/ have lines that are accepted.
abbrev pub Demand2 : Taking → Type 0
Demand2 taking =
    (t : Table) (a : Arrival) (out : List ℕ) → ruled t a out ≡ accepted → Accepts t a out (taking t a out).0 (taking t a out).1

-- ---- demand 3: joins
-- A join: one taking of a line that reads as SJOIN, in any case of letters, or isn't read, with its link and lent output. The line is a value, there before
-- the first call, and no call writes it.
pub record Join : Type 0 where
  pub arrival : Arrival
  pub output : List ℕ
  pub reads : (map capital (content_of arrival.line).command ≡ sjoin) ⊎ (is_read arrival.line ≡ false)

-- an empty table: each of the sixteen slots free, which is to say zero, its list too, any links registered
abbrev pub Empty : Table → Type 0
Empty t = network_of t ≡ empty_network

-- the number that the rules give a join at the start
abbrev pub number_at : Table → Join → ℕ
number_at start j = ruled start j.arrival j.output

-- A number, and its place in the line; `accepted` is none, and has 0.
pub record Verdict : Type 0 where
  pub number : ℕ
  pub place : ℕ

abbrev pub verdict : ℕ → ℕ → Verdict
verdict number place = record { number = number; place = place }

-- what they give it with the place
abbrev pub verdict_at : Table → Join → Verdict
verdict_at start j = verdict (number_at start j) (placed start j.arrival j.output)

-- a join is good if they give it none there
abbrev pub is_good : Table → Join → Bool
is_good start j = eqb (number_at start j) accepted

-- the lines of the good joins, in their order
unfoldable pub good_lines : Table → List Join → List (List ℕ)
good_lines start [] = []
good_lines start (j ∷ js) = cond (is_good start j) (j.arrival.line ∷ good_lines start js) (good_lines start js)

-- ---- the joins of a list taken, each given the table that the one before returned
abbrev pub take_join : Taking → Table → Join → Outcome
take_join taking t j = (taking t j.arrival j.output).0

-- the number that each is answered, with its place
abbrev pub verdict_of : Outcome → Verdict
verdict_of o = verdict o.number o.place

unfoldable pub verdicts_of : Taking → Table → List Join → List Verdict
verdicts_of taking t [] = []
verdicts_of taking t (j ∷ js) = verdict_of (take_join taking t j) ∷ verdicts_of taking (take_join taking t j).table js

-- the table after the last
unfoldable pub table_after : Taking → Table → List Join → Table
table_after taking t [] = t
table_after taking t (j ∷ js) = table_after taking (take_join taking t j).table js

-- ---- what the good lines come to
-- the channel that a line tells of
abbrev pub channel_of : List ℕ → Channel
channel_of line = channel_in (content_of line)

-- The lines are for one channel, which means names with equal folds, and name at most 64 users, which are different ids.
pub record Kept (lines : List (List ℕ)) : Type 0 where
  pub one : (k l : List ℕ) → Memᴰ k lines → Memᴰ l lines → map fold (channel_of k).name ≡ map fold (channel_of l).name
  pub few : length (everyone (map channel_of lines)) ≤ member_limit

-- the plain record of some lines, unused room zero; of none, the empty record
unfoldable pub plain_record : List (List ℕ) → Record
plain_record [] = empty_record
plain_record (l ∷ s) = encode (plain (channel_of l) (map channel_of s))

-- which has no masks
abbrev pub plain_whole : List (List ℕ) → WholeRecord
plain_whole lines = whole (plain_record lines) empty_list

-- the start with the first slot holding the plain record, and all else as it is, the ban lists too; with no line the start itself
unfoldable pub holding : Table → List (List ℕ) → Table
holding start [] = start
holding start (l ∷ s) = with_network start (with_slots (network_of start) (set start.slots 0 (plain_record (l ∷ s))))

-- the record in the first slot, with its list
abbrev pub first_slot : Table → WholeRecord
first_slot t = whole (get_or t.slots 0 empty_record) (list_in (network_of t) 0)

-- each of some lines, byte for byte, is one of others
abbrev pub Among : List (List ℕ) → List (List ℕ) → Type 0
Among s t = (line : List ℕ) → Memᴰ line s → Memᴰ line t

-- Two records agree in all but the bytes of the name, whose folds agree.
pub record Alike (w v : WholeRecord) : Type 0 where
  pub name : map fold w.«record».name ≡ map fold v.«record».name
  pub name_len : w.«record».name_len ≡ v.«record».name_len
  pub time : w.«record».time ≡ v.«record».time
  pub modes : w.«record».modes ≡ v.«record».modes
  pub key : w.«record».key ≡ v.«record».key
  pub key_len : w.«record».key_len ≡ v.«record».key_len
  pub limit : w.«record».limit ≡ v.«record».limit
  pub members : w.«record».members ≡ v.«record».members
  pub count : w.«record».count ≡ v.«record».count
  pub bans : w.bans ≡ v.bans

-- "This holds for every list of joins, refused ones included, from an empty table, each given the table that the last one left."
pub record Demand3 (taking : Taking) (merging : Merging) : Type 0 where
  -- each good join is accepted, every other is refused by the number that it has at the start, in the place that it has there
  pub verdicts : (start : Table) (js : List Join) → Empty start → Kept (good_lines start js) → verdicts_of taking start js ≡ map (verdict_at start) js
  -- after the list the first slot holds the plain record, the other fifteen are free, every ban list is empty, the links are as at the start; with no good join all
  -- is as at the start
  pub leaves : (start : Table) (js : List Join) → Empty start → Kept (good_lines start js) → table_after taking start js ≡ holding start (good_lines start js)
  -- two lists with the same good lines, in any order and with any repeats, give records alike in all but the spelling
  pub alike : (start other : Table) (js ks : List Join) → Empty start → Empty other → Kept (good_lines start js)
      → Among (good_lines start js) (good_lines other ks) → Among (good_lines other ks) (good_lines start js)
      → Alike (first_slot (table_after taking start js)) (first_slot (table_after taking other ks))
  -- two lists, each with a good join, folded apart and then merged give the record of both, the first list's lines first
  pub merges : (start other : Table) (js ks : List Join) → Empty start → Empty other → (good_lines start js ≡ [] → ⊥) → (good_lines other ks ≡ [] → ⊥)
      → Kept (good_lines start js ++ good_lines other ks)
      → merging (first_slot (table_after taking start js)) (first_slot (table_after taking other ks))
      ≡ record { number = accepted; result = plain_whole (good_lines start js ++ good_lines other ks) }
