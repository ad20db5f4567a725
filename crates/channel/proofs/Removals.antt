-- A member removed: the record is well formed, or the empty one where nobody is left; the removed id isn't there, and all others keep their
-- statuses, since those with another id stay as they are and in their order. Assumes nothing.
use Prim.Native.Nat.{ℕ, ◌≤◌}
use mathlib.Core.Path.{◌≡◌, refl, sym, ap, ◌∙◌}
use mathlib.Core.Bool.{Bool, true, false, ◌||◌, cond, true≢false}
use mathlib.Core.Logic.{◌⊎◌, inl, inr}
use mathlib.Core.List.{List, [], ◌∷◌}
use native.Mathlib.Omega.{arith}
use lib.Bits.{bit_or, or_zero_l}
use lib.ListN.{length, drop}
use lib.Dec.{leb}
use borrow.Author.Tests.{le-leb}
use Rattle.laws.specs.Lists.{all, is_nil, same}
use Rattle.laws.proofs.Bools.{and-three}
use Rattle.laws.proofs.Lists.{all_head, all_tail, all_cons, all-padded, take-padded}
use Rattle.octets.specs.Bytes.{is_zero}
use Rattle.octets.proofs.Bytes.{same_true}
use Rattle.ascending.proofs.Ascends.{Above, Ascending}
use Rattle.ascending.proofs.Contents.{has}
use Rattle.names.specs.Names.{name_limit}
use Rattle.channel.specs.declared.Member.{Member}
use Rattle.channel.specs.declared.Record.{Record}
use Rattle.channel.specs.Limits.{member_limit, key_limit}
use Rattle.channel.specs.Channel.{Channel, by_id}
use Rattle.channel.specs.Record.{nobody, empty_record, encode, decode}
use Rattle.channel.specs.Members.{status_in, others, with_members, without}
use Rattle.channel.specs.WellFormed.{good_member, is_vacant, in_room, clear, well_formed}
use Rattle.channel.proofs.Fields.{channel-path, peopled}
use Rattle.channel.proofs.Statuses.{named}
use Rattle.channel.proofs.Others.{others-in}
use Rattle.channel.proofs.Proper.{Proper, well-says, well-passes}

-- ---- all but those with an id
module _ (id : List ℕ) where
  all_others : (p : Member → Bool) (l : List Member) → all p l ≡ true → all p (others id l) ≡ true
  unfolding others
  all_others p [] h = h
  all_others p (m ∷ l) h = go (same id m.id) (all_others p l (all_tail p m l h))
    where
      go : (t : Bool) → all p (others id l) ≡ true → all p (cond t (others id l) (m ∷ others id l)) ≡ true
      go true k = k
      go false k = all_cons p m (others id l) (all_head p m l h) k

  above-others : (x : List ℕ) (l : List Member) → Above by_id x l → Above by_id x (others id l)
  unfolding others
  above-others x [] h = tt
  above-others x (m ∷ l) h = go (same id m.id) (above-others x l h.1)
    where
      go : (t : Bool) → Above by_id x (others id l) → Above by_id x (cond t (others id l) (m ∷ others id l))
      go true k = k
      go false k = (h.0, k)

  ascending-others : (l : List Member) → Ascending by_id l → Ascending by_id (others id l)
  unfolding others
  ascending-others [] h = tt
  ascending-others (m ∷ l) h = go (same id m.id) (ascending-others l h.1)
    where
      go : (t : Bool) → Ascending by_id (others id l) → Ascending by_id (cond t (others id l) (m ∷ others id l))
      go true k = k
      go false k = (above-others m.id l h.0, k)

  -- the id isn't there
  others-lack : (l : List Member) → has by_id id (others id l) ≡ false
  unfolding others
  others-lack [] = refl
  others-lack (m ∷ l) = go (same id m.id) refl (others-lack l)
    where
      go : (t : Bool) → same id m.id ≡ t → has by_id id (others id l) ≡ false → has by_id id (cond t (others id l) (m ∷ others id l)) ≡ false
      go true e h = h
      go false e h = rw (e, h)

  -- what doesn't hang on a member with the id is as before
  module _ (x : List ℕ) (ne : same x id ≡ false) where
    others-has : (l : List Member) → has by_id x (others id l) ≡ has by_id x l
    unfolding others
    others-has [] = refl
    others-has (m ∷ l) = go (same id m.id) refl (others-has l)
      where
        go : (t : Bool) → same id m.id ≡ t → has by_id x (others id l) ≡ has by_id x l → has by_id x (cond t (others id l) (m ∷ others id l)) ≡ has by_id x (m ∷ l)
        go true e h = rw (← same_true id m.id e, ne) h
        go false e h = ap (◌||◌ (same x m.id)) h

    others-status : (l : List Member) → status_in x (others id l) ≡ status_in x l
    unfolding others status_in
    others-status [] = refl
    others-status (m ∷ l) = go (same id m.id) refl (others-status l)
      where
        go : (t : Bool) → same id m.id ≡ t → status_in x (others id l) ≡ status_in x l → status_in x (cond t (others id l) (m ∷ others id l)) ≡ status_in x (m ∷ l)
        go true e h = rw (← same_true id m.id e, ne) (h ∙ sym (or_zero_l (status_in x l)))
        go false e h = ap (bit_or (cond (same x m.id) m.status 0)) h

-- ---- the record
nil-says : {A : Type 0} (l : List A) → is_nil l ≡ true → l ≡ []
nil-says [] h = refl
nil-says (e ∷ l) h = absurd (true≢false (sym h))

nil_not : {A : Type 0} (l : List A) → is_nil l ≡ false → 1 ≤ length l
nil_not [] h = absurd (true≢false h)
nil_not (e ∷ l) h = omega arith

decode-with : (r : Record) (l : List Member) → length l ≤ member_limit → decode (with_members r l) ≡ peopled (decode r) l
unfolding decode with_members
decode-with r l h = channel-path refl refl refl (take-padded nobody member_limit l h)

well-with : (r : Record) (l : List Member) → well_formed r ≡ true → Proper (peopled (decode r) l) → well_formed (with_members r l) ≡ true
unfolding with_members in_room clear all
well-with r l h p =
    let w = well-says r h in
    let u = and-three (leb r.name_len name_limit) (leb r.key_len key_limit) (leb r.count member_limit) w.room in
    let z = and-three (all is_zero (drop r.name_len r.name)) (all is_zero (drop r.key_len r.key)) (all is_vacant (drop r.count r.members)) w.rest in
    well-passes (with_members r l) (record {
      room = simp (u.0, u.1, le-leb (length l) member_limit p.few);
      rest = simp (z.0, z.1, all-padded nobody is_vacant refl member_limit l);
      holds = rw (decode-with r l p.few) p;
    })

-- one that holds nobody is the empty one then
pub without-free : (id : List ℕ) (r : Record) → r.count ≡ 0 → without id r ≡ empty_record
unfolding without decode others
without-free id r e = rw e

-- any other keeps its name, or is emptied
pub without-name : (id : List ℕ) (r : Record) → (without id r ≡ empty_record) ⊎ ((decode (without id r)).name ≡ (decode r).name)
unfolding without with_members decode
without-name id r = go (is_nil (others id (decode r).members)) refl
  where
    go : (t : Bool) → is_nil (others id (decode r).members) ≡ t → (without id r ≡ empty_record) ⊎ ((decode (without id r)).name ≡ (decode r).name)
    go true e = inl (rw e)
    go false e = inr (rw e)

module _ (id : List ℕ) (r : Record) (h : well_formed r ≡ true) where
  abbrev rest : List Member
  rest = others id (decode r).members

  rest-few : length rest ≤ member_limit
  rest-few = omega (arith, others-in id (decode r).members, (well-says r h).holds.few)

  rest-proper : is_nil rest ≡ false → Proper (peopled (decode r) rest)
  rest-proper e =
      let p = (well-says r h).holds in
      record {
        name = p.name;
        from = p.from;
        until = p.until;
        settings = p.settings;
        some = nil_not rest e;
        few = rest-few;
        listed = all_others id good_member (decode r).members p.listed;
        ascending = ascending-others id (decode r).members p.ascending;
      }

  -- well formed, or the empty record where nobody is left
  pub without-well : (without id r ≡ empty_record) ⊎ (well_formed (without id r) ≡ true)
  unfolding without
  without-well = go (is_nil rest) refl
    where
      go : (t : Bool) → is_nil rest ≡ t → (without id r ≡ empty_record) ⊎ (well_formed (without id r) ≡ true)
      go true e = inl (rw e)
      go false e = inr (rw e (well-with r rest h (rest-proper e)))

  -- the others, in the order that they had
  pub without-members : (decode (without id r)).members ≡ rest
  unfolding without empty_record encode decode
  without-members = go (is_nil rest) refl
    where
      go : (t : Bool) → is_nil rest ≡ t → (decode (cond t empty_record (with_members r rest))).members ≡ rest
      go true e = sym (nil-says rest e)
      go false e = ap (λ (c : Channel). c.members) (decode-with r rest rest-few)

  -- the removed id isn't there
  pub without-lacks : named id (decode (without id r)) ≡ false
  without-lacks = rw without-members (others-lack id (decode r).members)

  -- every other is there if it was, with the status that it had
  module _ (x : List ℕ) (ne : same x id ≡ false) where
    -- it is there exactly if it was
    pub without-has : named x (decode (without id r)) ≡ named x (decode r)
    without-has = rw without-members (others-has id x ne (decode r).members)

    -- it has the status that it had
    pub without-status : status_in x (decode (without id r)).members ≡ status_in x (decode r).members
    without-status = rw without-members (others-status id x ne (decode r).members)
