-- What of a channel stands at a time: whether it counts or not, its members are the same people, and only their statuses hang on it. What stands of a proper
-- channel is one, since each fact holds of all that it has and of nothing. Assumes nothing.
use Prim.Native.Nat.{ℕ, ◌≤◌, ◌<◌}
use mathlib.Core.Path.{◌≡◌, refl, ◌∙◌}
use mathlib.Core.Bool.{true, false, cond}
use mathlib.Core.List.{List}
use native.Mathlib.Omega.{arith}
use lib.ListN.{length, length-map}
use borrow.Author.Tests.{eq-eqb, ne_eqb}
use Rattle.laws.specs.Lists.{all}
use Rattle.laws.proofs.Lists.{all_map}
use Rattle.ascending.proofs.Ascends.{Ascending}
use Rattle.ascending.proofs.Contents.{has, ascending-restated, has-restated, content-restated}
use Rattle.names.specs.Names.{is_channel}
use Rattle.channel.specs.declared.Member.{Member}
use Rattle.channel.specs.Limits.{time_limit}
use Rattle.channel.specs.Settings.{no_settings}
use Rattle.channel.specs.Channel.{Channel, member, by_id}
use Rattle.channel.specs.WellFormed.{good_member}
use Rattle.channel.specs.Members.{status_in}
use Rattle.channel.specs.Standing.{counts, settings_at, bare, standing, channel_at}
use Rattle.channel.proofs.Statuses.{keyed-by_id, lawful-by_id, named}
use Rattle.channel.proofs.Proper.{ProperSettings, Proper, proper-none, member-says, member-passes}

-- ---- when a channel counts
-- at its own time
counts-own : (c : Channel) → counts c.time c ≡ true
unfolding counts
counts-own c = eq-eqb c.time c.time refl

-- not at an earlier one
pub counts-late : (time : ℕ) (c : Channel) → time < c.time → counts time c ≡ false
unfolding counts
counts-late time c k = ne_eqb c.time time (λ e. omega arith)

-- so at its own time all of it stands
pub settings-own : (c : Channel) → settings_at c.time c ≡ c.settings
unfolding settings_at
settings-own c = rw (counts-own c)

-- and its members with their statuses
pub standing-own : (c : Channel) → standing c.time c ≡ c.members
unfolding standing
standing-own c = rw (counts-own c)

-- and at an earlier one only its users do
module _ (time : ℕ) (c : Channel) (k : time < c.time) where
  -- none of its settings stand
  pub settings-late : settings_at time c ≡ no_settings
  unfolding settings_at
  settings-late = rw (counts-late time c k)

  -- its users stand without status
  pub standing-late : standing time c ≡ bare c.members
  unfolding standing
  standing-late = rw (counts-late time c k)

-- ---- members without status
module _ (x : List ℕ) (l : List Member) where
  has-bare : has by_id x (bare l) ≡ has by_id x l
  unfolding bare
  has-bare = has-restated by_id keyed-by_id x (λ y. 0) l

  -- none of them has one
  pub status-bare : status_in x (bare l) ≡ 0
  unfolding bare status_in
  status-bare = content-restated by_id 0 lawful-by_id x (λ y. 0) l ∙ elim (has by_id x l) as (λ t. ◌≡◌ {A = ℕ} (cond t 0 0) 0) [ true ↦ refl | false ↦ refl ]

-- ---- its members
module _ (time : ℕ) (c : Channel) where
  -- the same ids
  pub has-standing : (x : List ℕ) → has by_id x (standing time c) ≡ named x c
  unfolding standing
  has-standing x = elim (counts time c) as (λ t. has by_id x (cond t c.members (bare c.members)) ≡ named x c) [ true ↦ refl | false ↦ has-bare x c.members ]

  -- in the same order
  pub ascending-standing : Ascending by_id c.members → Ascending by_id (standing time c)
  unfolding standing bare
  ascending-standing h =
      elim (counts time c) as (λ t. Ascending by_id (cond t c.members (bare c.members))) [ true ↦ h | false ↦ ascending-restated by_id keyed-by_id (λ y. 0) c.members h ]

  -- as many
  pub length-standing : length (standing time c) ≡ length c.members
  unfolding standing bare
  length-standing = elim (counts time c) as (λ t. length (cond t c.members (bare c.members)) ≡ length c.members) [ true ↦ refl | false ↦ length-map c.members _ ]

-- ---- what a proper channel gives
module _ (time : ℕ) (c : Channel) (p : Proper c) where
  listed-standing : all good_member (standing time c) ≡ true
  unfolding standing bare
  listed-standing =
      elim (counts time c) as (λ t. all good_member (cond t c.members (bare c.members)) ≡ true)
      [ true ↦ p.listed | false ↦ all_map good_member (λ m. member m.id 0) (λ m h. member-passes (member m.id 0) (member-says m h).0 (omega arith)) c.members p.listed ]

  proper-settings : ProperSettings (settings_at time c)
  unfolding settings_at
  proper-settings = elim (counts time c) as (λ t. ProperSettings (cond t c.settings no_settings)) [ true ↦ p.settings | false ↦ proper-none ]

-- which is a proper channel too
pub proper-at : (name : List ℕ) (time : ℕ) (c : Channel) → is_channel name ≡ true → 1 ≤ time → time ≤ time_limit → Proper c → Proper (channel_at name time c)
proper-at name time c n h k p = record {
  name = n;
  from = h;
  until = k;
  settings = proper-settings time c p;
  some = omega (arith, length-standing time c, p.some);
  few = omega (arith, length-standing time c, p.few);
  listed = listed-standing time c p;
  ascending = ascending-standing time c p.ascending;
}
