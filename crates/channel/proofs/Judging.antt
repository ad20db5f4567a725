-- A well-formed record is one that passes the tests of `is_well_formed`, made in that order: what a byte, a number of 16 or 32 bits and an array cannot
-- be isn't tested. Assumes nothing.
use mathlib.Core.Path.{◌≡◌, refl}
use mathlib.Core.Bool.{Bool, true, false, ◌&&◌, and-true, and-false, and_assoc}
use mathlib.Core.List.{List, [], ◌∷◌}
use Prim.Native.Nat.{ℕ, ◌≤◌}
use native.Mathlib.Omega.{arith}
use lib.ListN.{length, take, drop, length-take}
use lib.Dec.{leb}
use borrow.Author.Tests.{le-leb, lt-leb, leb-true, leb-false}
use Rattle.laws.specs.Lists.{all}
use Rattle.laws.proofs.Bools.{and_right}
use Rattle.octets.specs.Bytes.{is_zero}
use Rattle.ascending.specs.Ascending.{ascends}
use Rattle.names.specs.Names.{name_limit, is_channel}
use Rattle.channel.specs.declared.Member.{Member}
use Rattle.channel.specs.declared.Record.{Record}
use Rattle.channel.specs.Limits.{member_limit, key_limit}
use Rattle.channel.specs.Channel.{by_id}
use Rattle.channel.specs.Record.{decode}
use Rattle.channel.specs.WellFormed.{is_vacant, good_time, good_settings, good_member, good_members, channel_tests, in_room, clear, well_formed}

-- every test of a list passes
abbrev pub passed : List Bool → Bool
passed ts = all (λ t. t) ts

-- behind a test that passes the others decide
pub pass : {t : Bool} (ts : List Bool) → t ≡ true → passed (t ∷ ts) ≡ passed ts
unfolding all
pass ts e = rw e

-- a test that fails decides
pub fail : {t : Bool} (ts : List Bool) → t ≡ false → passed (t ∷ ts) ≡ false
unfolding all
fail ts e = rw e

-- the last test decides alone
pub last : (t : Bool) → passed (t ∷ []) ≡ t
unfolding all
last t = and-true t

-- the tests that are made
abbrev pub tests : Record → List Bool
tests r =
    (leb 1 r.count && in_room r)
    ∷ all is_zero (drop r.name_len r.name)
    ∷ all is_zero (drop r.key_len r.key)
    ∷ (is_channel (decode r).name && (good_time (decode r).time && good_settings (decode r).settings))
    ∷ all is_vacant (drop r.count r.members)
    ∷ (all good_member (take r.count r.members) && ascends by_id (take r.count r.members))
    ∷ []

-- once what is in use keeps to its room, there are no more members than there is room for
pub in-room-count : (r : Record) → in_room r ≡ true → r.count ≤ member_limit
unfolding in_room
in-room-count r e =
    let k : leb r.key_len key_limit && leb r.count member_limit ≡ true = and_right (leb r.name_len name_limit) (leb r.key_len key_limit && leb r.count member_limit) e in
    leb-true r.count member_limit (and_right (leb r.key_len key_limit) (leb r.count member_limit) k)

-- of an array of members some are in use exactly if the count isn't 0, and never too many
module _ (l : List Member) (n : ℕ) (h : length l ≡ member_limit) where
  some-used : leb 1 (length (take n l)) ≡ leb 1 n
  some-used = go (leb 1 n) refl
    where
      go : (t : Bool) → leb 1 n ≡ t → leb 1 (length (take n l)) ≡ leb 1 n
      go true e = rw e (le-leb 1 (length (take n l)) (omega (arith, length-take n l, leb-true 1 n e)))
      go false e = rw e (lt-leb 1 (length (take n l)) (omega (arith, length-take n l, leb-false 1 n e)))

  not-over : leb (length (take n l)) member_limit ≡ true
  not-over = le-leb (length (take n l)) member_limit (omega (arith, length-take n l))

-- the tests in another order: whether there are members comes first, and whether the other places are vacant right before they are looked at
reordered : (s v i n k c t q m a : Bool) → i && (n && (k && (v && (c && (t && (q && (s && (m && a)))))))) ≡ s && (i && (n && (k && (c && (t && (q && (v && (m && a))))))))
reordered true true i n k c t q m a = refl
reordered true false i n k c t q m a = simp and-false
reordered false v i n k c t q m a = simp and-false

-- A record is well formed exactly if it passes the tests that are made.
module _ (r : Record) (m : length r.members ≡ member_limit) where
  pub well-tests : well_formed r ≡ passed (tests r)
  unfolding well_formed clear channel_tests decode good_members all
  well-tests = simp (some-used r.members r.count m, not-over r.members r.count m, and-true, and_assoc) (rw (reordered (leb 1 r.count) (all is_vacant (drop r.count r.members))))
