-- Document 01's rules of SJOIN as laws of `merge`, a the stored record and b the incoming one, and 02's of their ban lists; and the refusals of merging in the
-- order of their numbers. Each rule says which side counts, and what a side that doesn't count gives is neutral. Assumes nothing.
use Prim.Native.Nat.{ℕ, ◌<◌, min}
use mathlib.Core.Path.{◌≡◌, refl, ap, ◌∙◌}
use mathlib.Core.Bool.{true, false}
use mathlib.Core.List.{List}
use native.Mathlib.Omega.{arith}
use lib.Bits.{bit_or, or_zero_r}
use borrow.Author.Tests.{eq-eqb, ne_eqb, lt-ltb, le-ltb}
use Rattle.refusal.specs.Rules.{ascend, ascend_from, place_in}
use Rattle.ascending.specs.Ascending.{unite}
use Rattle.laws.proofs.Joins.{join-none}
use Rattle.channel.specs.Settings.{no_settings}
use Rattle.channel.specs.Channel.{Channel, by_id}
use Rattle.channel.specs.Members.{status_in}
use Rattle.channel.specs.Standing.{settings_at, bare, standing}
use Rattle.channel.proofs.Fields.{channel-path, peopled}
use Rattle.channel.proofs.Statuses.{named, status-absent, status-unite}
use Rattle.channel.proofs.Standing.{settings-own, standing-own, settings-late, standing-late, status-bare}
use Rattle.bans.specs.declared.WholeRecord.{WholeRecord}
use Rattle.bans.specs.Masks.{by_spelling, masks}
use Rattle.merging.specs.Settings.{join_settings}
use Rattle.merging.specs.Merging.{merge, merged_masks, merge_rules}
use Rattle.merging.proofs.Settings.{joining-settings}
use Rattle.merging.proofs.Plains.{spelled}

module _ (a b : Channel) where
  -- incoming time later: only the users join, without status, and a member already there keeps its own
  pub merge-later : a.time < b.time → merge a b ≡ peopled a (unite by_id a.members (bare b.members))
  unfolding merge
  merge-later h =
      let m : min a.time b.time ≡ a.time = omega arith in
      rw (m, settings-own a, standing-own a, settings-late a.time b h, standing-late a.time b h) (channel-path refl refl (join-none join_settings no_settings joining-settings a.settings) refl)

  -- equal: modes and statuses are united; the larger limit; the greater key; where one side has none, the other's stands
  pub merge_equal : a.time ≡ b.time → merge a b ≡ record { name = a.name; time = a.time; settings = join_settings a.settings b.settings; members = unite by_id a.members b.members }
  unfolding merge
  merge_equal h =
      let m : min a.time b.time ≡ a.time = omega arith in
      let s : settings_at a.time b ≡ b.settings = rw h (settings-own b) in
      let t : standing a.time b ≡ b.members = rw h (standing-own b) in
      rw (m, settings-own a, standing-own a, s, t)

  -- incoming earlier: the time falls, old modes, key, limit and statuses go, the incoming ones stand; old members remain; the stored spelling stays
  pub merge-earlier : b.time < a.time → merge a b ≡ spelled a.name (peopled b (unite by_id (bare a.members) b.members))
  unfolding merge spelled
  merge-earlier h =
      let m : min a.time b.time ≡ b.time = omega arith in
      rw (m, settings-own b, standing-own b, settings-late b.time a h, standing-late b.time a h) (channel-path refl refl (joining-settings.unit b.settings) refl)

  -- what the first rule says of a status: a member already there keeps its own
  pub later-keeps : a.time < b.time → (x : List ℕ) → status_in x (merge a b).members ≡ status_in x a.members
  later-keeps h x = rw (merge-later h) (status-unite x a.members (bare b.members) ∙ ap (bit_or (status_in x a.members)) (status-bare x b.members) ∙ or_zero_r _)

  -- and everyone else has none
  pub later-none : a.time < b.time → (x : List ℕ) → named x a ≡ false → status_in x (merge a b).members ≡ 0
  later-none h x n = later-keeps h x ∙ status-absent x a.members n

-- ---- their ban lists
module _ (a b : WholeRecord) where
  -- their times
  abbrev x : ℕ
  x = a.«record».time

  abbrev y : ℕ
  y = b.«record».time

  -- incoming time later: the stored list stands
  pub masks-later : x < y → merged_masks a b ≡ masks a.bans.room
  unfolding merged_masks
  masks-later h = rw (ne_eqb x y (λ e. omega arith), lt-ltb x y h)

  -- equal: the masks of both, the stored one's spelling kept
  pub masks-equal : x ≡ y → merged_masks a b ≡ unite by_spelling (masks a.bans.room) (masks b.bans.room)
  unfolding merged_masks
  masks-equal h = rw (eq-eqb x y h)

  -- incoming earlier: the incoming list stands
  pub masks-earlier : y < x → merged_masks a b ≡ masks b.bans.room
  unfolding merged_masks
  masks-earlier h = rw (ne_eqb x y (λ e. omega arith), le-ltb x y (omega arith))

-- ---- refusals
-- the numbers of merging ascend, so the first in it that applies is given
pub rules-ascend : (a b : WholeRecord) → ascend (merge_rules a b) ≡ true
unfolding merge_rules ascend_from place_in
rules-ascend a b = refl
