-- What a well-formed record says of its channel, as named facts, and that the tests say just this. Assumes nothing.
use Prim.Native.Nat.{ℕ, ◌≤◌, ◌<◌, ◌^◌}
use mathlib.Core.Path.{◌≡◌, refl}
use mathlib.Core.Bool.{Bool, true, ◌||◌, not, beq}
use mathlib.Core.List.{List, [], ◌∷◌}
use native.Mathlib.Omega.{arith}
use lib.Bits.{bit_or, or_lt}
use lib.ListN.{length}
use lib.Dec.{leb, ltb}
use borrow.Author.Tests.{leb-true, ltb-true, le-leb, lt-ltb}
use Rattle.laws.specs.Lists.{all, is_nil}
use Rattle.laws.proofs.Bools.{and_left, and_right, and_intro, and-three, beq-says, beq-refl}
use Rattle.laws.proofs.Lists.{all_head, all_tail, all-passed}
use Rattle.ascending.proofs.Ascends.{Ascending, ascends-says, ascends-passes}
use Rattle.names.specs.Names.{is_channel, is_user_id}
use Rattle.names.proofs.Channels.{channel-length}
use Rattle.channel.specs.declared.Member.{Member}
use Rattle.channel.specs.declared.Record.{Record}
use Rattle.channel.specs.Limits.{member_limit, key_limit, time_limit, limit_limit}
use Rattle.channel.specs.Modes.{has_mode, mode_count, key_mode, limit_mode}
use Rattle.channel.specs.Key.{is_key}
use Rattle.channel.specs.Settings.{Settings, no_settings}
use Rattle.channel.specs.Channel.{Channel, member, by_id}
use Rattle.channel.specs.Record.{encode, decode}
use Rattle.channel.specs.WellFormed.{both_statuses, good_time, good_key, good_limit, good_settings, good_member, good_members, channel_tests, in_room, clear, well_formed}
use Rattle.channel.proofs.Letters.{has-no-mode}
use Rattle.channel.proofs.Keys.{key-length}
use Rattle.channel.proofs.Records.{Fits, decode-encode, encode-room, encode-clear}

-- Settings as document 01 has them: a key exactly with k, a limit exactly with l.
pub record ProperSettings (s : Settings) : Type 0 where
  pub modes : s.modes < 2 ^ mode_count
  pub keyed : has_mode s.modes key_mode ≡ not (is_nil s.key)
  pub key : (is_nil s.key || is_key s.key) ≡ true
  pub limited : has_mode s.modes limit_mode ≡ ltb 0 s.limit
  pub limit : s.limit ≤ limit_limit

-- A channel as document 01 has it.
pub record Proper (c : Channel) : Type 0 where
  pub name : is_channel c.name ≡ true
  pub from : 1 ≤ c.time
  pub until : c.time ≤ time_limit
  pub settings : ProperSettings c.settings
  pub some : 1 ≤ length c.members
  pub few : length c.members ≤ member_limit
  pub listed : all good_member c.members ≡ true
  pub ascending : Ascending by_id c.members

-- ---- a member: a user id with a status
module _ (m : Member) where
  -- what the test of a member says
  pub member-says : good_member m ≡ true → (is_user_id m.id ≡ true) × (m.status ≤ both_statuses)
  unfolding good_member
  member-says h = (and_left (is_user_id m.id) _ h, leb-true m.status both_statuses (and_right (is_user_id m.id) _ h))

  -- and what it asks
  pub member-passes : is_user_id m.id ≡ true → m.status ≤ both_statuses → good_member m ≡ true
  unfolding good_member
  member-passes h k = and_intro (is_user_id m.id) (leb m.status both_statuses) h (le-leb m.status both_statuses k)

-- one with the statuses of two is one too
pub both-statuses : (e d : Member) → good_member e ≡ true → good_member d ≡ true → good_member (member d.id (bit_or e.status d.status)) ≡ true
both-statuses e d h k =
    let s = member-says e h in
    let t = member-says d k in
    member-passes (member d.id (bit_or e.status d.status)) t.0 (omega (arith, or_lt 2 e.status d.status (omega (arith, s.1)) (omega (arith, t.1))))

-- ---- settings
-- to have none is proper
pub proper-none : ProperSettings no_settings
proper-none = record { modes = omega arith; keyed = has-no-mode key_mode; key = refl; limited = has-no-mode limit_mode; limit = omega arith }

-- what their tests say
settings-say : (s : Settings) → good_settings s ≡ true → ProperSettings s
unfolding good_settings good_key good_limit
settings-say s h =
    let t = and-three (ltb s.modes (2 ^ mode_count)) (good_key s.modes s.key) (good_limit s.modes s.limit) h in
    record {
      modes = ltb-true s.modes (2 ^ mode_count) t.0;
      keyed = beq-says (has_mode s.modes key_mode) (not (is_nil s.key)) (and_left _ _ t.1);
      key = and_right (beq (has_mode s.modes key_mode) (not (is_nil s.key))) _ t.1;
      limited = beq-says (has_mode s.modes limit_mode) (ltb 0 s.limit) (and_left _ _ t.2);
      limit = leb-true s.limit limit_limit (and_right (beq (has_mode s.modes limit_mode) (ltb 0 s.limit)) _ t.2);
    }

-- and ask no more
settings-pass : (s : Settings) → ProperSettings s → good_settings s ≡ true
unfolding good_settings good_key good_limit
settings-pass s p = simp (lt-ltb s.modes (2 ^ mode_count) p.modes, p.keyed, beq-refl, p.key, p.limited, le-leb s.limit limit_limit p.limit)

-- ---- the tests say just this
-- a channel that passes the tests is proper
pub proper-says : (c : Channel) → all (λ t. t) (channel_tests c) ≡ true → Proper c
unfolding channel_tests good_time good_members
proper-says c h =
    let t = all-passed (channel_tests c) h in
    let counted = t.1.1.1.0 in
    let fitting = and_right (leb 1 (length c.members)) _ counted in
    let each = and_right (leb (length c.members) member_limit) _ fitting in
    record {
      name = t.0;
      from = leb-true 1 c.time (and_left _ _ t.1.0);
      until = leb-true c.time time_limit (and_right (leb 1 c.time) _ t.1.0);
      settings = settings-say c.settings t.1.1.0;
      some = leb-true 1 (length c.members) (and_left _ _ counted);
      few = leb-true (length c.members) member_limit (and_left _ _ fitting);
      listed = and_left _ _ each;
      ascending = ascends-says by_id c.members (and_right (all good_member c.members) _ each);
    }

-- and a proper channel passes them
pub proper-passes : (c : Channel) → Proper c → all (λ t. t) (channel_tests c) ≡ true
unfolding channel_tests good_time good_members all
proper-passes c p =
    simp (
      p.name,
      le-leb 1 c.time p.from,
      le-leb c.time time_limit p.until,
      settings-pass c.settings p.settings,
      le-leb 1 (length c.members) p.some,
      le-leb (length c.members) member_limit p.few,
      p.listed,
      ascends-passes by_id c.members p.ascending,
    )

-- ---- a record that holds such a channel is well formed, and a well-formed record holds one
key-room : (k : List ℕ) → (is_nil k || is_key k) ≡ true → length k ≤ key_limit
key-room [] h = omega arith
key-room (b ∷ s) h = key-length (b ∷ s) h

-- a proper channel keeps to the room of a record
pub proper-fits : (c : Channel) → Proper c → Fits c
proper-fits c p = record { name = channel-length c.name p.name; key = key-room c.settings.key p.settings.key; members = p.few }

-- the three parts of being well formed
pub record Well (r : Record) : Type 0 where
  pub room : in_room r ≡ true
  pub rest : clear r ≡ true
  pub holds : Proper (decode r)

-- the tests say them
pub well-says : (r : Record) → well_formed r ≡ true → Well r
unfolding well_formed
well-says r h =
    let tests : List Bool = channel_tests (decode r) in
    let t = all_tail (λ t. t) (in_room r) (clear r ∷ tests) h in
    record {
      room = all_head (λ t. t) (in_room r) (clear r ∷ tests) h;
      rest = all_head (λ t. t) (clear r) tests t;
      holds = proper-says (decode r) (all_tail (λ t. t) (clear r) tests t);
    }

-- and ask no more
pub well-passes : (r : Record) → Well r → well_formed r ≡ true
unfolding well_formed all
well-passes r w = simp (w.room, w.rest, proper-passes (decode r) w.holds)

-- so the record of a proper channel is well formed
pub encode-well : (c : Channel) → Proper c → well_formed (encode c) ≡ true
encode-well c p =
    let f = proper-fits c p in
    well-passes (encode c) (record { room = encode-room c f; rest = encode-clear c; holds = rw (decode-encode c f) p })
