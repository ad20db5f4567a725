-- Two records merged (document 01, 'SJOIN'): at the earlier of the two times each side gives its settings and statuses only if it counts then, and what both
-- give is united. So it is with their ban lists (document 02, §2). `Rules` of proofs/ has the paper's three cases, later, equal and earlier, as laws.
use Rattle.std.specs.Prelude.{ℕ, min, not, cond, ◌&&◌, List, [], ◌∷◌, ◌++◌, length, eqb, ltb, Result, Ok, Err}
use Rattle.refusal.specs.Numbers.{accepted, not_well_formed, bad_name, too_many_members, too_many_masks}
use Rattle.refusal.specs.Rules.{Rule, ◌when◌, first_of}
use Rattle.refusal.specs.Refusals.{number_of}
use Rattle.refusal.specs.declared.Refusal.{Refusal}
use Rattle.ascending.specs.Ascending.{unite, one_pass}
use Rattle.names.specs.Fold.{same_name}
use Rattle.channel.specs.declared.Member.{Member}
use Rattle.channel.specs.declared.Record.{Record}
use Rattle.channel.specs.Limits.{member_limit, ban_limit}
use Rattle.channel.specs.Channel.{Channel, by_id}
use Rattle.channel.specs.Record.{encode, decode}
use Rattle.channel.specs.Standing.{settings_at, standing}
use Rattle.bans.specs.declared.WholeRecord.{WholeRecord}
use Rattle.bans.specs.Masks.{by_spelling, masks}
use Rattle.bans.specs.Slots.{list_with}
use Rattle.bans.specs.Records.{whole, well_formed_whole}
use Rattle.merging.specs.declared.Merged.{Merged}
use Rattle.merging.specs.Settings.{join_settings}

-- two channels merged, `union` giving the members of both sides
abbrev pub merge_by : (List Member → List Member → List Member) → Channel → Channel → Channel
merge_by union a b =
    let time : ℕ = min a.time b.time in
    record {
      name = a.name;
      time = time;
      settings = join_settings (settings_at time a) (settings_at time b);
      members = union (standing time a) (standing time b);
    }

unfoldable pub merge : Channel → Channel → Channel
merge a b = merge_by (unite by_id) a b

-- ---- of two records
-- number 22
abbrev pub room_rules : Channel → List Rule
room_rules c = too_many_members when ltb member_limit (length c.members) ∷ []

-- The number of a refusal, or `accepted`, and the merged record, or the first one as given.
pub record Combined : Type 0 where
  pub number : ℕ
  pub result : Record

-- a number, and a record
abbrev pub answer_of : ℕ → Record → Combined
answer_of number r = record { number = number; result = r }

-- what the code answers of two records, a the first
abbrev pub combined_as : Record → Result Record Refusal → Combined
combined_as a (Ok r) = answer_of accepted r
combined_as a (Err e) = answer_of (number_of e) a

-- the number of the first rule that applies, and the first record as given; or the record of the merged channel
abbrev pub answered : List Rule → Record → Channel → Combined
answered rules a c = answer_of (first_of rules) (cond (eqb (first_of rules) accepted) (encode c) a)

-- two records that are known to be well formed and of one channel, which nothing tests again. For any others it is what one pass over the members of both makes
-- of them, as they stand.
unfoldable pub combined : Record → Record → Combined
combined a b =
    let c : Channel = merge_by (one_pass by_id) (decode a) (decode b) in
    answered (room_rules c) a c

-- ---- of two records with their lists (document 02, §2)
-- "Merged records at equal times unite their lists; else the earlier one's stands": the first one's spelling is kept
unfoldable pub merged_masks : WholeRecord → WholeRecord → List (List ℕ)
merged_masks a b =
    let x : ℕ = a.«record».time in
    let y : ℕ = b.«record».time in
    cond (eqb x y) (unite by_spelling (masks a.bans.room) (masks b.bans.room)) (masks (cond (ltb x y) a b).bans.room)

-- the record of the merged channel, with the merged list
unfoldable pub merged_whole : WholeRecord → WholeRecord → WholeRecord
merged_whole a b = whole (encode (merge (decode a.«record») (decode b.«record»))) (list_with (merged_masks a b))

-- the numbers 1, 16, 22 and 27
unfoldable pub merge_rules : WholeRecord → WholeRecord → List Rule
merge_rules a b =
    not_well_formed when not (well_formed_whole a && well_formed_whole b)
    ∷ bad_name when not (same_name (decode a.«record»).name (decode b.«record»).name)
    ∷ room_rules (merge (decode a.«record») (decode b.«record»)) ++ (too_many_masks when ltb ban_limit (length (merged_masks a b)) ∷ [])

-- the number of the first rule that applies, and the first record as given, with its list; or the two merged
unfoldable pub merge_answer : WholeRecord → WholeRecord → Merged
merge_answer a b =
    let number : ℕ = first_of (merge_rules a b) in
    record { number = number; result = cond (eqb number accepted) (merged_whole a b) a }
