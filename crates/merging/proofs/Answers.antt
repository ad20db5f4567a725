-- What a merge of two records answers, case by case, in the terms of the code: the refusals in their order, the record field by field, and its list. A record
-- that is known to be well formed needs no test. Assumes nothing.
use mathlib.Core.Path.{◌≡◌, refl, sym, ap, ap₂, ◌∙◌}
use mathlib.Core.Bool.{Bool, true, false, cond, ◌&&◌}
use mathlib.Core.List.{List, [], ◌∷◌, ◌++◌, map}
use Prim.Native.Nat.{ℕ, ◌≤◌, ◌<◌, min, max}
use native.Mathlib.Omega.{arith}
use lib.Bits.{bit_or}
use lib.ListN.{length, take}
use lib.Dec.{eqb, ltb}
use borrow.Author.Tests.{ne_eqb, lt-ltb, le-ltb}
use Rattle.laws.specs.Lists.{padded}
use Rattle.refusal.specs.Numbers.{accepted, not_well_formed, bad_name, too_many_members, too_many_masks}
use Rattle.refusal.specs.Rules.{Rule, ◌when◌, first_of}
use Rattle.std.specs.Prelude.{Option, Some, None, Ok, Err}
use Rattle.refusal.specs.declared.Refusal.{Refusal}
use Rattle.refusal.specs.declared.Refusal.TheVariants.{TooManyMembers}
use Rattle.refusal.specs.Refusals.{number_of}
use Rattle.refusal.proofs.Refusals.{number-given}
use Rattle.refusal.proofs.Rules.{skip, stop, first-nil, append-some, append-none}
use Rattle.ascending.specs.Ascending.{one_pass}
use Rattle.ascending.proofs.Ascends.{Ascending, pass-unite}
use Rattle.laws.proofs.Bools.{and_left, and_right, and_intro}
use Rattle.names.specs.Fold.{same_name}
use Rattle.channel.specs.declared.Member.{Member}
use Rattle.channel.specs.declared.Record.{Record}
use Rattle.channel.specs.declared.Roster.{Roster}
use Rattle.names.specs.Names.{name_limit}
use Rattle.channel.specs.Limits.{member_limit, key_limit, ban_limit}
use Rattle.channel.specs.Settings.{Settings}
use Rattle.channel.specs.Channel.{Channel, member, by_id}
use Rattle.channel.specs.Record.{encode, decode}
use Rattle.channel.specs.WellFormed.{well_formed}
use Rattle.channel.specs.Members.{roster}
use Rattle.channel.specs.Standing.{counts, settings_at, bare, standing}
use Rattle.channel.proofs.Fields.{channel-path}
use Rattle.channel.proofs.Records.{decode-encode}
use Rattle.channel.proofs.Proper.{Proper, proper-fits, well-says, encode-well}
use Rattle.channel.proofs.Statuses.{stays-by_id}
use Rattle.channel.proofs.Standing.{ascending-standing}
use Rattle.bans.specs.declared.BanList.{BanList}
use Rattle.bans.specs.declared.WholeRecord.{WholeRecord}
use Rattle.bans.specs.Putting.{added}
use Rattle.bans.specs.Slots.{empty_list}
use Rattle.bans.specs.Records.{whole, well_formed_whole}
use Rattle.bans.proofs.Records.{whole-well, whole_says}
use Rattle.bans.proofs.Slots.{empty-masks, empty-well}
use Rattle.merging.specs.declared.sides.Given.{Given}
use Rattle.merging.specs.Settings.{greater, join_settings}
use Rattle.merging.specs.Merging.{Combined, combined_as, merge_by, merge, answer_of, answered, room_rules, combined, merged_masks, merged_whole, merge_rules, merge_answer}
use Rattle.merging.specs.Private.Answers.{merged_by, refused_by, merged_lists}
use Rattle.merging.specs.Private.Sides.{settings_of, as_given}
use Rattle.merging.proofs.Masks.{Lists, lists-merged, masks-none, list-none}

-- ---- only the room for members is left to judge
module _ (c : Channel) where
  room-none : length c.members ≤ member_limit → first_of (room_rules c) ≡ accepted
  room-none h = skip (too_many_members when ltb member_limit (length c.members)) [] (le-ltb member_limit (length c.members) h) ∙ first-nil

  room-over : (a : Record) → member_limit < length c.members → answered (room_rules c) a c ≡ answer_of too_many_members a
  room-over a h = let e : first_of (room_rules c) ≡ too_many_members = stop (too_many_members when ltb member_limit (length c.members)) [] (lt-ltb member_limit (length c.members) h) in rw e

  room_fits : (a : Record) → first_of (room_rules c) ≡ accepted → answered (room_rules c) a c ≡ answer_of accepted (encode c)
  room_fits a e = rw e

-- ---- records without their lists
-- one pass over both unites members that ascend
pass-merge : (a b : Channel) → Ascending by_id b.members → merge_by (one_pass by_id) a b ≡ merge a b
unfolding merge
pass-merge a b h =
    let m : ℕ = min a.time b.time in
    channel-path refl refl refl (pass-unite by_id stays-by_id (standing m a) (standing m b) (ascending-standing m b h))

-- so a second record that is well formed needs no test
pub combined-merge : (a b : Record) → well_formed b ≡ true → combined a b ≡ answered (room_rules (merge (decode a) (decode b))) a (merge (decode a) (decode b))
unfolding combined
combined-merge a b w = ap (λ (c : Channel). answered (room_rules c) a c) (pass-merge (decode a) (decode b) (well-says b w).holds.ascending)

-- ---- with their lists
-- the channel that two records are merged to
abbrev merged_channel : WholeRecord → WholeRecord → Channel
merged_channel a b = merge (decode a.«record») (decode b.«record»)

module _ (a b : WholeRecord) where
  refused-with : (n : ℕ) → first_of (merge_rules a b) ≡ n → (n ≡ accepted → ⊥) → merge_answer a b ≡ refused_by n a
  unfolding merge_answer
  refused-with n e ne = rw (e, ne_eqb n accepted ne)

  -- one that is not well formed is refused
  pub answer-ill : well_formed_whole a && well_formed_whole b ≡ false → merge_answer a b ≡ refused_by not_well_formed a
  unfolding merge_rules
  answer-ill e = refused-with not_well_formed (stop _ _ (rw e)) (λ h. omega arith)

  module _ (w : well_formed_whole a && well_formed_whole b ≡ true) where
    -- other names are refused
    pub answer-name : same_name (decode a.«record»).name (decode b.«record»).name ≡ false → merge_answer a b ≡ refused_by bad_name a
    unfolding merge_rules
    answer-name e = refused-with bad_name (skip _ _ (rw w) ∙ stop _ _ (rw e)) (λ h. omega arith)

    module _ (s : same_name (decode a.«record»).name (decode b.«record»).name ≡ true) where
      abbrev masks_rule : Rule
      masks_rule = too_many_masks when ltb ban_limit (length (merged_masks a b))

      left : first_of (merge_rules a b) ≡ first_of (room_rules (merged_channel a b) ++ masks_rule ∷ [])
      unfolding merge_rules
      left = skip _ _ (rw w) ∙ skip _ _ (rw s)

      -- too many members are refused
      answer-over : (n : ℕ) → first_of (room_rules (merged_channel a b)) ≡ n → (n ≡ accepted → ⊥) → merge_answer a b ≡ refused_by n a
      answer-over n e ne = refused-with n (left ∙ append-some (masks_rule ∷ []) (room_rules (merged_channel a b)) (λ h. ne (sym e ∙ h)) ∙ e) ne

      module _ (fits : first_of (room_rules (merged_channel a b)) ≡ accepted) where
        masks-left : first_of (merge_rules a b) ≡ first_of (masks_rule ∷ [])
        masks-left = left ∙ append-none (masks_rule ∷ []) (room_rules (merged_channel a b)) refl fits

        -- too many masks are refused
        answer-full : ltb ban_limit (length (merged_masks a b)) ≡ true → merge_answer a b ≡ refused_by too_many_masks a
        answer-full e = refused-with too_many_masks (masks-left ∙ stop masks_rule [] e) (λ h. omega arith)

        -- else it is accepted
        answer-merged : ltb ban_limit (length (merged_masks a b)) ≡ false → merge_answer a b ≡ record { number = accepted; result = merged_whole a b }
        unfolding merge_answer
        answer-merged e =
            let n : first_of (merge_rules a b) ≡ accepted = masks-left ∙ skip masks_rule [] e ∙ first-nil in
            rw n

-- ---- in the terms of the code, once both are well formed and of one channel
module _ (a b : WholeRecord) (whole-both : well_formed_whole a && well_formed_whole b ≡ true) (s : same_name (decode a.«record»).name (decode b.«record»).name ≡ true) where
  own-well : well_formed_whole a ≡ true
  own-well = and_left (well_formed_whole a) (well_formed_whole b) whole-both

  other-well : well_formed_whole b ≡ true
  other-well = and_right (well_formed_whole a) (well_formed_whole b) whole-both

  module _ (r : Combined) (is : r ≡ combined a.«record» b.«record») where
    joined : r ≡ answered (room_rules (merged_channel a b)) a.«record» (merged_channel a b)
    joined = is ∙ combined-merge a.«record» b.«record» (whole_says b other-well).0

    numbered : first_of (room_rules (merged_channel a b)) ≡ r.number
    numbered = sym (ap (λ (q : Combined). q.number) joined)

  -- more members than there is room for
  pub merge-over : (e : Refusal) → combined_as a.«record» (Err e) ≡ combined a.«record» b.«record» → merged_by (number_of e) a ≡ merge_answer a b
  merge-over e is = sym (answer-over a b whole-both s (number_of e) (numbered (combined_as a.«record» (Err e)) is) (number-given e))

  module _ (r : Record) (is : combined_as a.«record» (Ok r) ≡ combined a.«record» b.«record») where
    fits : first_of (room_rules (merged_channel a b)) ≡ accepted
    fits = numbered (combined_as a.«record» (Ok r)) is

    held : (l : Option BanList) → added a.bans l ≡ merged_lists a.«record».time a.bans b.«record».time b.bans → Lists (added a.bans l) (merged_masks a b)
    held l lists = rw lists (lists-merged a b (whole_says a own-well).1 (whole_says b other-well).1)

    -- more masks than there is room for
    pub merge-full : added a.bans None ≡ merged_lists a.«record».time a.bans b.«record».time b.bans → merged_by too_many_masks a ≡ merge_answer a b
    merge-full lists = sym (answer-full a b whole-both s fits (sym (held None lists).full))

    -- else the two are merged, and their lists
    pub merge-both : (l : BanList) → added a.bans (Some l) ≡ merged_lists a.«record».time a.bans b.«record».time b.bans → merged_by accepted (whole r l) ≡ merge_answer a b
    unfolding merged_whole
    merge-both l lists =
        let h = held (Some l) lists in
        let result : r ≡ encode (merged_channel a b) = ap (λ (q : Combined). q.result) (joined (combined_as a.«record» (Ok r)) is ∙ room_fits (merged_channel a b) a.«record» fits) in
        ap₂ (λ (q : Record) (x : BanList). merged_by accepted (whole q x)) result (h.list refl) ∙ sym (answer-merged a b whole-both s fits (sym h.full))

-- ---- the records of two channels without masks
-- the record of a proper channel is well formed without masks
bare-well : (a : Channel) → Proper a → well_formed_whole (whole (encode a) empty_list) ≡ true
bare-well a p = whole-well (whole (encode a) empty_list) (encode-well a p) empty-well

-- merged they have none
pub answer-encoded : (a b : Channel) → Proper a → Proper b → same_name a.name b.name ≡ true → length (merge a b).members ≤ member_limit
    → merge_answer (whole (encode a) empty_list) (whole (encode b) empty_list) ≡ record { number = accepted; result = whole (encode (merge a b)) empty_list }
unfolding merged_whole
answer-encoded a b p q e h =
    let u : decode (encode a) ≡ a = decode-encode a (proper-fits a p) in
    let v : decode (encode b) ≡ b = decode-encode b (proper-fits b q) in
    let none : merged_masks (whole (encode a) empty_list) (whole (encode b) empty_list) ≡ [] = masks-none _ _ empty-masks empty-masks in
    rw (u, v, none, list-none) at
    (answer-merged (whole (encode a) empty_list) (whole (encode b) empty_list) (and_intro _ _ (bare-well a p) (bare-well b q)) (rw (u, v) e) (rw (u, v) (room-none (merge a b) h)) (rw none))

-- ---- what a side gives
as-counted : (l : List Member) → map (as_given true) l ≡ l
unfolding as_given
as-counted [] = refl
as-counted (m ∷ l) = ap (◌∷◌ m) (as-counted l)

-- the members that stand at a time, each as its side gives it
pub given-standing : (time : ℕ) (r : Record) (l : List Member) (t : Bool) → l ≡ (decode r).members → t ≡ eqb r.time time → map (as_given t) l ≡ standing time (decode r)
unfolding standing counts decode bare as_given
given-standing time r l t e f = rw (e, f) (go (eqb r.time time))
  where
    go : (t : Bool) → map (as_given t) (take r.count r.members) ≡ cond t (take r.count r.members) (map (λ m. member m.id 0) (take r.count r.members))
    go true = as-counted (take r.count r.members)
    go false = refl

-- ---- the record that is made of what the sides give
-- its fields, one by one
abbrev pub made : ℕ → List ℕ → Given → Given → List ℕ → ℕ → Roster → Record
made time name x y key limit all = record {
  name = padded name_limit 0 name;
  name_len = length name;
  time = time;
  modes = bit_or x.modes y.modes;
  key = padded key_limit 0 key;
  key_len = length key;
  limit = limit;
  members = all.list;
  count = all.count;
}

-- the members of both
abbrev pub members : Record → Record → ℕ → List Member
members a b time = one_pass by_id (standing time (decode a)) (standing time (decode b))

module _ (a b : Record) (time : ℕ) (et : time ≡ min a.time b.time) where
  abbrev both : Channel
  both = merge_by (one_pass by_id) (decode a) (decode b)

  both-members : both.members ≡ members a b time
  unfolding decode
  both-members = rw et

  -- more members than there is room for are refused
  pub combined-over : member_limit < length (members a b time) → combined_as a (Err TooManyMembers) ≡ combined a b
  unfolding combined
  combined-over h = sym (room-over both a (rw both-members h))

  -- else the record is made of what the sides give
  pub combined-fits : (name : List ℕ) (x y : Given) (key : List ℕ) (limit : ℕ) (all : Roster) → name ≡ (decode a).name → settings_of x ≡ settings_at time (decode a) → settings_of y ≡ settings_at time (decode b)
      → key ≡ greater x.key.now y.key.now → limit ≡ max x.limit y.limit → all ≡ roster (members a b time) → length (members a b time) ≤ member_limit
      → combined_as a (Ok (made time name x y key limit all)) ≡ combined a b
  unfolding combined encode decode join_settings roster
  combined-fits name x y key limit all es ex ey ek el ea h =
      let settings : ◌≡◌ {A = Settings} (record { modes = bit_or x.modes y.modes; key = key; limit = limit }) (join_settings (settings_at time (decode a)) (settings_at time (decode b))) =
      rw (ek, el) (ap₂ join_settings ex ey) in
      let same : ◌≡◌ {A = Channel} (record { name = (decode a).name; time = time; settings = record { modes = bit_or x.modes y.modes; key = key; limit = limit }; members = members a b time }) both =
      channel-path refl et (settings ∙ ap (λ (t : ℕ). join_settings (settings_at t (decode a)) (settings_at t (decode b))) et) (sym both-members) in
      rw (es, ea) (ap (λ (c : Channel). answer_of accepted (encode c)) same ∙ sym (room_fits both a (room-none both (rw both-members h))))
