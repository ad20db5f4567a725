-- A member put in its place among others that ascend: those behind the place move up by one. Assumes nothing.
use mathlib.Core.Path.{◌≡◌, refl, sym, ap, ◌∙◌}
use mathlib.Core.Bool.{Bool, true, false}
use mathlib.Core.List.{List, [], ◌∷◌, ◌++◌, append_assoc}
use Prim.Native.Nat.{ℕ, zero, suc, ◌+◌, ◌-◌, ◌≤◌, ◌<◌}
use native.Mathlib.Numerals.{add-one}
use native.Mathlib.Omega.{arith}
use lib.ListN.{length, take, drop, get_or, set, replicate, length-append, length-drop, take-append-drop, drop_of_length-le}
use lib.Seq.{paste, split_at, length-take-le, get_or-take, take-append_seam}
use lib.Bits.{bit_or}
use lib.Dec.{ltb}
use borrow.Author.Tests.{ltb-true, ltb-false}
use Rattle.std.specs.List.{AllWithin, copy_within}
use Rattle.std.specs.List.Sorted.{IsPartitionedBy, IsPartitionPoint}
use Rattle.laws.specs.Lists.{same, padded}
use Rattle.octets.specs.Order.{compare, is_less}
use Rattle.ascending.specs.Ascending.{put}
use Rattle.laws.proofs.Lists.{drop-step, length-padded, padded-behind, set-padded-at}
use Rattle.octets.proofs.Bytes.{same_true}
use Rattle.octets.proofs.Ordered.{Below, compare-trans}
use Rattle.ascending.proofs.Ascends.{Above, Under, Ascending, joined, less-says, less-fails, ascends-says, above-trans, ascending-at, put-between, put-joined, under-take, under-upto}
use Rattle.channel.specs.declared.Member.{Member}
use Rattle.channel.specs.declared.Roster.{Roster}
use Rattle.channel.specs.Limits.{member_limit}
use Rattle.laws.proofs.Joins.{joining-bits}
use Rattle.channel.specs.Channel.{member, by_id}
use Rattle.channel.specs.Record.{nobody}
use Rattle.channel.specs.Members.{roster}
use Rattle.channel.specs.Private.Rosters.{Sorted}
use Rattle.channel.proofs.Gathering.{gathers-roster}

-- ---- a list in longer room: what stands behind a place is moved up by one, and an element is put there
module _ {A : Type 0} (x e : A) where
  behind : (b z : List A) → drop (suc (length b)) (b ++ x ∷ z) ≡ z
  behind [] z = refl
  behind (y ∷ b) z = behind b z

  moved_first : (b z : List A) → set ((take 1 (b ++ x ∷ z) ++ take (length b) (b ++ x ∷ z)) ++ drop (suc (length b)) (b ++ x ∷ z)) 0 e ≡ e ∷ (b ++ z)
  moved_first [] z = refl
  moved_first (y ∷ b) z = rw (take-append_seam b (x ∷ z), behind b z)

  moved : (a b z : List A) → set (paste (a ++ (b ++ x ∷ z)) (suc (length a)) (drop (length a) (a ++ (b ++ x ∷ z))) (length b)) (length a) e ≡ a ++ e ∷ (b ++ z)
  moved [] b z = let k : 1 + length b ≡ suc (length b) = omega arith in rw k (moved_first b z)
  moved (y ∷ a) b z = let k : suc (suc (length a)) + length b ≡ suc (suc (length a) + length b) = omega arith in rw k (ap (λ (l : List A). y ∷ l) (moved a b z))

  pub shifted : (l z : List A) (p n : ℕ) → p ≤ n → n ≡ length l → set (copy_within (l ++ x ∷ z) p n (p + 1)) p e ≡ (take p l ++ e ∷ drop p l) ++ z
  shifted l z p n h k =
      let i : length (take p l) ≡ p = length-take-le p l (omega arith) in
      let j : length (drop p l) ≡ n - p = omega (arith, length-drop p l) in
      let all : l ++ x ∷ z ≡ take p l ++ (drop p l ++ x ∷ z) = ap (λ (m : List A). m ++ x ∷ z) (sym (take-append-drop p l)) ∙ append_assoc (take p l) (drop p l) (x ∷ z) in
      rw (all, add-one p) (rw (i, j) at (moved (take p l) (drop p l) z)) ∙ sym (append_assoc (take p l) (e ∷ drop p l) z)

-- behind a place of an ascending list the ids are greater
above-behind : (l : List Member) (i : ℕ) (d : Member) → Ascending by_id l → i < length l → Above by_id (get_or l i d).id (drop (suc i) l)
above-behind [] i d h = λ k. absurd (omega arith)
above-behind (m ∷ l) zero d h = λ k. h.0
above-behind (m ∷ l) (suc i) d h = λ k. above-behind l i d h.1 (omega arith)

-- a member's id is smaller than that of the one that is put
abbrev pub smaller : Member → Member → Bool
smaller e m = is_less (compare m.id e.id)

-- ---- a list in its room, and the member that is put into it
module _ (list : List Member) (count : ℕ) (e : Member) (s : Sorted list count) where
  abbrev l : List Member
  l = take count list

  used : length l ≡ count
  used = length-take-le count list (omega (arith, s.room, ap (λ (m : List Member). length m) s.clear, length-padded nobody member_limit l))

  asc : Ascending by_id l
  asc = ascends-says by_id l s.order

  -- those before a place are smaller, and the one at it has the same id
  joined_at : (q : ℕ) (d : Member) → q < count → e.id ≡ (get_or l q d).id
      → ◌≡◌ {A = Roster} (record { list = set list q (joined by_id e (get_or l q d)); count = count }) (roster (put by_id e l))
  joined_at q d h k =
      let v = joined by_id e (get_or l q d) in
      let j : length (take q l) ≡ q = length-take-le q l (omega (arith, used)) in
      let at : l ≡ take q l ++ get_or l q d ∷ drop (suc q) l = split_at l q d (omega (arith, used)) in
      let is : put by_id e l ≡ take q l ++ v ∷ drop (suc q) l =
      ap (put by_id e) at ∙ put-joined by_id e (get_or l q d) (take q l) (drop (suc q) l) (rw k (under-take by_id l q d asc (omega (arith, used)))) k in
      gathers-roster (set list q v) count (put by_id e l) (record {
        holds =
            ap (λ (m : List Member). set m q v) (s.clear ∙ ap (padded member_limit nobody) at)
            ∙ ap (λ (n : ℕ). set (padded member_limit nobody (take q l ++ get_or l q d ∷ drop (suc q) l)) n v) (sym j)
            ∙ set-padded-at nobody member_limit (take q l) (drop (suc q) l) (get_or l q d) v (omega (arith, s.room))
            ∙ ap (padded member_limit nobody) (sym is);
        counts = rw is (omega (arith, used, length-append (take q l) (v ∷ drop (suc q) l), length-drop (suc q) l));
      })

  -- those before a place are smaller, and those from it on are greater
  put-at : (p : ℕ) → p ≤ count → Under by_id e.id (take p l) → Above by_id e.id (drop p l)
      → ◌≡◌ {A = Roster} (record { list = set (copy_within list p count (p + 1)) p e; count = count + 1 }) (roster (put by_id e l))
  put-at p h under above =
      let is : put by_id e l ≡ take p l ++ e ∷ drop p l = ap (put by_id e) (sym (take-append-drop p l)) ∙ put-between by_id e (take p l) (drop p l) under above in
      let long : length (take p l ++ e ∷ drop p l) ≡ count + 1 = omega (arith, used, length-append (take p l) (e ∷ drop p l), length-take-le p l (omega (arith, used)), length-drop p l) in
      let free = member_limit - (count + 1) in
      let one : member_limit - length l ≡ suc free = omega (arith, used, s.room) in
      let open-1 : list ≡ l ++ nobody ∷ replicate free nobody = s.clear ∙ padded-behind nobody member_limit l (omega (arith, used, s.room)) ∙ ap (λ (n : ℕ). l ++ replicate n nobody) one in
      gathers-roster (set (copy_within list p count (p + 1)) p e) (count + 1) (put by_id e l) (record {
        holds =
            ap (λ (m : List Member). set (copy_within m p count (p + 1)) p e) open-1
            ∙ shifted nobody e l (replicate free nobody) p count h (sym used)
            ∙ ap (λ (n : ℕ). (take p l ++ e ∷ drop p l) ++ replicate (member_limit - n) nobody) (sym long)
            ∙ sym (padded-behind nobody member_limit (take p l ++ e ∷ drop p l) (omega (arith, long, s.room)))
            ∙ ap (padded member_limit nobody) (sym is);
        counts = rw is (sym long);
      })

  abbrev before : Member → Bool
  before = smaller e

  -- it holds of the first ones and of no other
  parted : IsPartitionedBy before l
  parted i j d h k b = go (ltb i j) refl
    where
      go : (t : Bool) → ltb i j ≡ t → before (get_or l i d) ≡ true
      go true lt =
          let less : Below (get_or l j d).id e.id = less-says (compare (get_or l j d).id e.id) b in
          ap is_less (compare-trans (get_or l i d).id (get_or l j d).id e.id (ascending-at by_id l i j d asc (ltb-true i j lt) k) less)
      go false ge = let q : i ≡ j = omega (arith, ltb-false i j ge) in rw q b

  under-first : (p : ℕ) → p ≤ count → AllWithin (λ m. before m ≡ true) l 0 p → Under by_id e.id (take p l)
  under-first zero h below = tt
  under-first (suc q) h below = rw add-one at (under-upto by_id e.id l q nobody asc (omega (arith, used)) (less-says (compare (get_or l q nobody).id e.id) (below q nobody (omega arith) (omega arith))))

  -- ---- the place in the list as it is lent: so many of its members are smaller
  module _ (lent : List Member) (is : lent ≡ l) (p : ℕ) (k : p ≤ length lent) (split : IsPartitionedBy (smaller e) lent → IsPartitionPoint (λ m. smaller e m ≡ true) (λ m. smaller e m ≡ false) lent p) where
    h : p ≤ count
    h = omega (arith, used, ap (λ (m : List Member). length m) is)

    at : IsPartitionPoint (λ m. before m ≡ true) (λ m. before m ≡ false) l p
    at = rw is at (split (rw is parted))

    under : Under by_id e.id (take p l)
    under = under-first p h at.0

    -- the member there has the same id
    pub put-same : (d : Member) → p < count → same (get_or list p d).id e.id ≡ true
        → ◌≡◌ {A = Roster} (record { list = set list p (member (get_or list p d).id (bit_or (get_or list p d).status e.status)); count = count }) (roster (put by_id e l))
    put-same d lt o =
        let m = get_or list p d in
        rw (joining-bits.comm m.status e.status) (rw (get_or-take count list p d lt) at (joined_at p d lt (rw (get_or-take count list p d lt) (sym (same_true m.id e.id o)))))

    -- it is greater
    pub put-before : (d : Member) → p < count → same (get_or list p d).id e.id ≡ false
        → ◌≡◌ {A = Roster} (record { list = set (copy_within list p count (p + 1)) p e; count = count + 1 }) (roster (put by_id e l))
    put-before d lt o =
        let m = get_or l p d in
        let one : m ≡ get_or list p d = get_or-take count list p d lt in
        let in-l : p < length l = omega (arith, used) in
        let greater : Below e.id m.id = less-fails m.id e.id (at.1 p d (omega arith) in-l) (rw one o) in
        put-at p h under (rw (drop-step l p d in-l) (greater, above-trans by_id e.id m.id (drop (p + 1) l) greater (rw add-one (above-behind l p d asc in-l))))

    -- all are smaller
    pub put-last : count ≤ p → ◌≡◌ {A = Roster} (record { list = set (copy_within list p count (p + 1)) p e; count = count + 1 }) (roster (put by_id e l))
    put-last past = put-at p h under (rw (drop_of_length-le l {i = p} (omega (arith, used))) tt)
