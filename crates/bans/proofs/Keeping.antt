-- A mask put into a well-formed list leaves it well formed, and its masks are those of before with this one in its place. Assumes nothing.
use mathlib.Core.Path.{◌≡◌, refl, sym, ap, ap₂, ◌∙◌}
use mathlib.Core.Bool.{Bool, true, false, true≢false}
use mathlib.Core.List.{List, [], ◌∷◌, ◌++◌, map, append_assoc}
use Prim.Native.Nat.{ℕ, zero, suc, ◌+◌, ◌*◌, ◌-◌, ◌≤◌}
use native.Mathlib.Omega.{arith}
use lib.ListN.{length, take, drop, get_or, length-append, length-take, length-drop, length-map}
use lib.Seq.{take_at, drop_at, take-append-add, length-take-le}
use lib.Dec.{eqb, leb, ltb}
use borrow.Author.Tests.{eq-eqb, eqb-true, le-leb, leb-true, leb-false, lt-ltb, le-ltb}
use Rattle.laws.specs.Lists.{all}
use Rattle.laws.specs.Joins.{concatenated}
use Rattle.laws.proofs.Bools.{and_left, and_right, and_intro}
use Rattle.laws.proofs.Lists.{Passed, all-passed, all_head, all_tail, all_cons, all_take, all-padded, drop-behind}
use Rattle.octets.specs.Bytes.{is_zero}
use Rattle.ascending.specs.Ascending.{put, ascends}
use Rattle.ascending.proofs.Ascends.{Stays, ascends-says, ascends-passes, ascending-put, all-put, length-put, put-made}
use Rattle.channel.specs.Limits.{mask_limit, ban_limit}
use Rattle.bans.specs.declared.BanList.{BanList}
use Rattle.bans.specs.Limits.{room_size, rooms_size, list_size}
use Rattle.bans.specs.Masks.{is_mask, mask_in, room_of, by_fold, by_spelling, chunks, rooms, mask_count, used_rooms, masks}
use Rattle.bans.specs.WellFormed.{good_room, list_tests, well_formed_list}
use Rattle.bans.specs.Putting.{put_in, with_rooms, put_answer}
use Rattle.bans.proofs.Places.{length-used}
use Rattle.bans.proofs.Placing.{mask-room, length-room}

-- ---- masks and rooms
-- of two with one fold the one that was there is kept, and with it the fold
stays-rooms : Stays by_fold
stays-rooms = record { stays = λ e d h. refl }

-- a mask is no longer than the limit
pub mask-short : (m : List ℕ) → is_mask m ≡ true → length m ≤ mask_limit
unfolding is_mask
mask-short m h = leb-true (length m) mask_limit (and_left (leb (length m) mask_limit) _ (and_right (leb 1 (length m)) _ h))

-- the room of a mask has zeros behind it
zeros-behind : (m : List ℕ) → length m ≤ mask_limit → all is_zero (drop (1 + get_or (room_of m) 0 0) (room_of m)) ≡ true
unfolding room_of
zeros-behind m h =
    let e : 1 + length (take mask_limit m) ≡ suc (length m) = omega (arith, length-take mask_limit m) in
    ap (λ (k : ℕ). all is_zero (drop k (room_of m))) e ∙ all-padded 0 is_zero refl mask_limit m

first_small : (m : List ℕ) → get_or (room_of m) 0 0 ≤ mask_limit
unfolding room_of
first_small m = omega (arith, length-take mask_limit m)

-- a mask's room is good
pub good-room-of : (m : List ℕ) → is_mask m ≡ true → good_room (room_of m) ≡ true
unfolding good_room
good-room-of m h =
    let short : length m ≤ mask_limit = mask-short m h in
    and_intro (leb (get_or (room_of m) 0 0) mask_limit) _ (le-leb (get_or (room_of m) 0 0) mask_limit (first_small m))
    (and_intro (is_mask (mask_in (room_of m))) _ (ap is_mask (mask-room m short) ∙ h) (zeros-behind m short))

-- a good room has a mask
pub good-mask : (r : List ℕ) → good_room r ≡ true → is_mask (mask_in r) ≡ true
unfolding good_room
good-mask r h = and_left (is_mask (mask_in r)) _ (and_right (leb (get_or r 0 0) mask_limit) _ h)

-- ---- rooms of the right size
abbrev pub sized : List ℕ → Bool
sized r = eqb (length r) room_size

sized-chunks : (n : ℕ) (t : List ℕ) → length t ≡ room_size * n → all sized (chunks n t) ≡ true
unfolding chunks all
sized-chunks zero t e = refl
sized-chunks (suc n) t e =
    all_cons sized (take room_size t) (chunks n (drop room_size t)) (eq-eqb (length (take room_size t)) room_size (length-take-le room_size t (omega arith)))
    (sized-chunks n (drop room_size t) (omega (arith, length-drop room_size t)))

-- the rooms in use of a whole list have the size of rooms
pub sized-used : (s : List ℕ) → length s ≡ list_size → all sized (used_rooms s) ≡ true
unfolding used_rooms rooms
sized-used s e = all_take sized (mask_count s) (chunks ban_limit (drop 1 s)) (sized-chunks ban_limit (drop 1 s) (omega (arith, length-drop 1 s)))

-- rooms one behind the other are as long as so many rooms
pub length-concatenated : (l : List (List ℕ)) → all sized l ≡ true → length (concatenated l) ≡ room_size * length l
length-concatenated [] h = refl
length-concatenated (r ∷ l) h = omega (arith, length-append r (concatenated l), eqb-true (length r) room_size (all_head sized r l h), length-concatenated l (all_tail sized r l h))

-- rooms one behind the other are found again
pub chunks-concatenated : (n : ℕ) (l : List (List ℕ)) (z : List ℕ) → all sized l ≡ true → length l ≤ n → take (length l) (chunks n (concatenated l ++ z)) ≡ l
unfolding chunks
chunks-concatenated n [] z h = λ k. refl
chunks-concatenated zero (r ∷ l) z h = λ k. absurd (omega arith)
chunks-concatenated (suc n) (r ∷ l) z h = λ k.
    let e : (r ++ concatenated l) ++ z ≡ r ++ (concatenated l ++ z) = append_assoc r (concatenated l) z in
    let size : length r ≡ room_size = eqb-true (length r) room_size (all_head sized r l h) in
    ap₂ ◌∷◌ (ap (take room_size) e ∙ take_at r (concatenated l ++ z) room_size size)
    (ap (λ (x : List ℕ). take (length l) (chunks n x)) (ap (drop room_size) e ∙ drop_at r (concatenated l ++ z) room_size size) ∙ chunks-concatenated n l z (all_tail sized r l h) (omega arith))

-- masks are those in the rooms in use
pub masks-of : (s : List ℕ) (l : List (List ℕ)) → used_rooms s ≡ l → masks s ≡ map mask_in l
unfolding masks
masks-of s l e = ap (map mask_in) e

-- ---- the tests of a well-formed list
module _ (s : List ℕ) where
  -- a list that passes each test is well formed
  pub well-made : length s ≡ list_size → get_or s 0 0 ≤ ban_limit → all is_zero (drop (1 + room_size * mask_count s) s) ≡ true → all good_room (used_rooms s) ≡ true
      → ascends by_fold (used_rooms s) ≡ true → well_formed_list s ≡ true
  unfolding well_formed_list all
  well-made e h z g o = simp (eq-eqb (length s) list_size e, le-leb (get_or s 0 0) ban_limit h, z, g, o)

  module _ (w : well_formed_list s ≡ true) where
    passed : Passed (list_tests s)
    unfolding well_formed_list
    passed = all-passed (list_tests s) w

    -- a well-formed list is whole
    pub well-size : length s ≡ list_size
    well-size = eqb-true (length s) list_size passed.0

    -- it says no more masks than there is room for
    pub well-count : get_or s 0 0 ≤ ban_limit
    well-count = leb-true (get_or s 0 0) ban_limit passed.1.0

    -- behind its rooms in use it is zero
    pub well-clear : all is_zero (drop (1 + room_size * mask_count s) s) ≡ true
    well-clear = passed.1.1.0

    -- its rooms in use are good
    pub well-good : all good_room (used_rooms s) ≡ true
    well-good = passed.1.1.1.0

    -- their masks ascend
    pub well-order : ascends by_fold (used_rooms s) ≡ true
    well-order = passed.1.1.1.1.0

-- ---- a well-formed list with other rooms in use, at least as many
module _ (s : List ℕ) (w : well_formed_list s ≡ true) (l : List (List ℕ)) (size : all sized l ≡ true) (more : mask_count s ≤ length l) (room : length l ≤ ban_limit) where
  abbrev rest : List ℕ
  rest = drop (1 + room_size * mask_count s) s

  abbrev z : List ℕ
  z = take (rooms_size - length (concatenated l)) (drop (1 + room_size * mask_count s) s)

  abbrev made : List ℕ
  made = length l ∷ (concatenated l ++ z)

  form : with_rooms l s ≡ made
  unfolding with_rooms
  form =
      let e : length (concatenated l) + (rooms_size - length (concatenated l)) ≡ rooms_size = omega (arith, length-concatenated l size) in
      ap (λ (t : List ℕ). length l ∷ t) (ap (λ (k : ℕ). take k (concatenated l ++ rest)) (sym e) ∙ take-append-add (concatenated l) rest (rooms_size - length (concatenated l)))

  length-made : length made ≡ list_size
  length-made =
      omega (arith, length-concatenated l size, length-append (concatenated l) z, length-take (rooms_size - length (concatenated l)) rest, length-drop (1 + room_size * mask_count s) s, well-size s w)

  count-made : mask_count made ≡ length l
  unfolding mask_count
  count-made = omega arith

  used-made : used_rooms made ≡ l
  unfolding used_rooms rooms
  used-made = ap (λ (n : ℕ). take n (chunks ban_limit (concatenated l ++ z))) count-made ∙ chunks-concatenated ban_limit l z size room

  clear-made : all is_zero (drop (1 + room_size * mask_count made) made) ≡ true
  clear-made =
      ap (λ (n : ℕ). all is_zero (drop (1 + room_size * n) made)) count-made
      ∙ ap (all is_zero) (drop-behind (length l) (concatenated l ++ z) (room_size * length l) ∙ drop_at (concatenated l) z (room_size * length l) (length-concatenated l size))
      ∙ all_take is_zero (rooms_size - length (concatenated l)) rest (well-clear s w)

  -- those rooms are then in use
  pub with-used : used_rooms (with_rooms l s) ≡ l
  with-used = ap used_rooms form ∙ used-made

  -- and if they are good and ascend, the list is well formed
  pub with-well : all good_room l ≡ true → ascends by_fold l ≡ true → well_formed_list (with_rooms l s) ≡ true
  with-well g o =
      ap well_formed_list form ∙ well-made made length-made room clear-made (ap (all good_room) used-made ∙ g) (ap (ascends by_fold) used-made ∙ o)

-- ---- a mask put into it
module _ (m : List ℕ) (b : BanList) (w : well_formed_list b.room ≡ true) (h : is_mask m ≡ true) where
  abbrev u : List (List ℕ)
  u = used_rooms b.room

  abbrev next : List (List ℕ)
  next = put by_fold (room_of m) u

  next-masks : map mask_in next ≡ put by_spelling m (masks b.room)
  unfolding masks
  next-masks = put-made by_fold by_spelling mask_in (λ e. refl) (λ e d. refl) (room_of m) u ∙ ap (λ (x : List ℕ). put by_spelling x (map mask_in u)) (mask-room m (mask-short m h))

  next-length : length next ≡ length (put by_spelling m (masks b.room))
  next-length = sym (length-map next mask_in) ∙ ap (λ (l : List (List ℕ)). length l) next-masks

  next-sized : all sized next ≡ true
  next-sized = all-put by_fold sized (λ e d p q. q) (room_of m) u (eq-eqb (length (room_of m)) room_size (length-room m)) (sized-used b.room (well-size b.room w))

  next-good : all good_room next ≡ true
  next-good = all-put by_fold good_room (λ e d p q. q) (room_of m) u (good-room-of m h) (well-good b.room w)

  next-order : ascends by_fold next ≡ true
  next-order = ascends-passes by_fold next (ascending-put by_fold stays-rooms (room_of m) u (ascends-says by_fold u (well-order b.room w)))

  next_more : mask_count b.room ≤ length next
  next_more = omega (arith, length-put by_fold (room_of m) u, length-used b.room)

  -- it is refused exactly if more masks than there is room for would result
  pub put_full : (put_answer m b).full ≡ ltb ban_limit (length (put by_spelling m (masks b.room)))
  unfolding put_answer put_in
  put_full = go (leb (length next) ban_limit) refl
    where
      go : (t : Bool) → leb (length next) ban_limit ≡ t → (put_answer m b).full ≡ ltb ban_limit (length (put by_spelling m (masks b.room)))
      go true e = rw (e, ← next-length) (sym (le-ltb ban_limit (length next) (leb-true (length next) ban_limit e)))
      go false e = rw (e, ← next-length) (sym (lt-ltb ban_limit (length next) (leb-false (length next) ban_limit e)))

  -- else the list is well formed, and has that mask in its place
  pub put_keeps : (put_answer m b).full ≡ false
      → (well_formed_list (put_answer m b).list.room ≡ true) × (masks (put_answer m b).list.room ≡ put by_spelling m (masks b.room))
  unfolding put_answer put_in
  put_keeps f = go (leb (length next) ban_limit) refl
    where
      go : (t : Bool) → leb (length next) ban_limit ≡ t
          → (well_formed_list (put_answer m b).list.room ≡ true) × (masks (put_answer m b).list.room ≡ put by_spelling m (masks b.room))
      go true e =
          let few : length next ≤ ban_limit = leb-true (length next) ban_limit e in
          rw e (with-well b.room w next next-sized next_more few next-good next-order, masks-are few)
        where
          masks-are : length next ≤ ban_limit → masks (with_rooms next b.room) ≡ put by_spelling m (masks b.room)
          masks-are few = masks-of (with_rooms next b.room) next (with-used b.room w next next-sized next_more few) ∙ next-masks
      go false e = absurd (true≢false (rw e at f))
