-- A record is blank exactly if it is the empty one: bytes that are all zero are that many zeros, and places that are all vacant that many vacant ones,
-- once the arrays have their lengths. Assumes nothing.
use mathlib.Core.Path.{◌≡◌, refl, sym, ap, ap₂, ◌∙◌}
use mathlib.Core.Bool.{true}
use mathlib.Core.List.{List, [], ◌∷◌}
use Prim.Native.Nat.{ℕ, suc, ◌<◌}
use native.Mathlib.Omega.{arith}
use lib.ListN.{length, get_or, replicate}
use borrow.Author.Tests.{eqb-true}
use Rattle.laws.specs.Lists.{all, padded}
use Rattle.laws.proofs.Lists.{all_head, all_tail, all-at}
use Rattle.names.specs.Names.{name_limit, user_id_length}
use Rattle.channel.specs.declared.Member.{Member}
use Rattle.channel.specs.declared.Record.{Record}
use Rattle.channel.specs.Limits.{member_limit, key_limit}
use Rattle.channel.specs.Record.{nobody, encode, empty_record}
use Rattle.channel.specs.WellFormed.{is_vacant, zero_tests, is_blank}
use Rattle.channel.proofs.Judging.{passed}
use Rattle.channel.proofs.Records.{Sized, zeros, vacant-nobody}

-- A record is blank exactly if it passes the nine tests for zero.
pub blank-tests : (r : Record) → is_blank r ≡ passed (zero_tests r)
unfolding is_blank
blank-tests r = refl

-- ---- places that are all vacant
vacants : (l : List Member) → ((k : ℕ) → k < length l → length (get_or l k nobody).id ≡ user_id_length) → all is_vacant l ≡ true → l ≡ replicate (length l) nobody
vacants [] w e = refl
vacants (m ∷ l) w e =
    ap₂ (λ (x : Member) (s : List Member). x ∷ s)
    (vacant-nobody m (w 0 (omega arith)) (all_head is_vacant m l e))
    (vacants l (λ k h. w (suc k) (omega arith)) (all_tail is_vacant m l e))

-- ---- whole records
-- the empty record has no members
pub empty-free : empty_record.count ≡ 0
unfolding empty_record encode
empty-free = refl

-- the empty record is blank
pub empty-blank : is_blank empty_record ≡ true
unfolding empty_record encode padded is_blank all
empty-blank = refl

-- A blank record whose arrays have their lengths is the empty one.
pub blank-empty : (r : Record) → Sized r → is_blank r ≡ true → r ≡ empty_record
unfolding empty_record encode padded
blank-empty r s e =
    let name : r.name ≡ replicate name_limit 0 = zeros r.name (tested 0 (omega arith)) ∙ ap (λ (k : ℕ). replicate k 0) s.name in
    let name_len : r.name_len ≡ 0 = eqb-true r.name_len 0 (tested 1 (omega arith)) in
    let time : r.time ≡ 0 = eqb-true r.time 0 (tested 2 (omega arith)) in
    let modes : r.modes ≡ 0 = eqb-true r.modes 0 (tested 3 (omega arith)) in
    let key : r.key ≡ replicate key_limit 0 = zeros r.key (tested 4 (omega arith)) ∙ ap (λ (k : ℕ). replicate k 0) s.key in
    let key_len : r.key_len ≡ 0 = eqb-true r.key_len 0 (tested 5 (omega arith)) in
    let limit : r.limit ≡ 0 = eqb-true r.limit 0 (tested 6 (omega arith)) in
    let members : r.members ≡ replicate member_limit nobody = vacants r.members (λ k h. s.ids k (omega (arith, s.members))) (tested 7 (omega arith)) ∙ ap (λ (k : ℕ). replicate k nobody) s.members in
    let count : r.count ≡ 0 = eqb-true r.count 0 (tested 8 (omega arith)) in
    rw (name, name_len, time, modes, key, key_len, limit, members, count)
  where
    tested : (k : ℕ) → k < 9 → get_or (zero_tests r) k true ≡ true
    tested k h = all-at (λ t. t) (zero_tests r) k true (sym (blank-tests r) ∙ e) h
