-- The rooms of a list by their places: the room i begins at 1 + 101 i, and the rooms in use, and their masks, are the first of them. Assumes nothing.
use mathlib.Core.Path.{◌≡◌, refl, sym, ap, ap₂, ◌∙◌}
use mathlib.Core.Bool.{Bool, true, false}
use mathlib.Core.List.{List, [], ◌∷◌, map}
use Prim.Native.Nat.{ℕ, zero, suc, ◌+◌, ◌*◌, ◌-◌, ◌≤◌, ◌<◌, min}
use native.Mathlib.Omega.{arith}
use lib.ListN.{length, take, drop, get_or, length-map, get_or-map, get_or-eq_default, length-take, length-drop, drop_of_length-le}
use lib.Dec.{leb}
use lib.Seq.{drop-drop, length-take-le, get_or-take, take_all}
use borrow.Author.Tests.{lt-ltb, le-ltb, leb-true, leb-false}
use Rattle.laws.proofs.Lists.{drop-step, get_or_any}
use Rattle.octets.proofs.Room.{part-next}
use Rattle.channel.specs.Limits.{ban_limit}
use Rattle.bans.specs.Limits.{room_size}
use Rattle.bans.specs.Masks.{is_mask, mask_in, chunks, rooms, mask_count, used_rooms, masks, mask_start}
use Rattle.bans.specs.WellFormed.{good_room}
use Rattle.bans.specs.Private.Placing.{room_in}

take-cut : (n k : ℕ) (s : List ℕ) → k ≡ min n (length s) → take n s ≡ take k s
take-cut n k s e = go (leb n (length s)) refl
  where
    go : (t : Bool) → leb n (length s) ≡ t → take n s ≡ take k s
    go true f = let q : k ≡ n = omega (arith, leb-true n (length s) f) in rw q
    go false f = take_all n s (omega (arith, leb-false n (length s) f)) ∙ sym (take_all k s (omega (arith, leb-false n (length s) f)))

drop-cut : (n k : ℕ) (s : List ℕ) → k ≡ min n (length s) → drop n s ≡ drop k s
drop-cut n k s e = go (leb n (length s)) refl
  where
    go : (t : Bool) → leb n (length s) ≡ t → drop n s ≡ drop k s
    go true f = let q : k ≡ n = omega (arith, leb-true n (length s) f) in rw q
    go false f = drop_of_length-le s (omega (arith, leb-false n (length s) f)) ∙ sym (drop_of_length-le s (omega (arith, leb-false n (length s) f)))

chunks-at : (n : ℕ) (s : List ℕ) (i : ℕ) (d : List ℕ) → i < n → get_or (chunks n s) i d ≡ take room_size (drop (room_size * i) s)
unfolding chunks
chunks-at zero s i d = λ h. absurd (omega arith)
chunks-at (suc n) s zero d = λ h. refl
chunks-at (suc n) s (suc i) d = λ h.
    let e : room_size + room_size * i ≡ room_size * suc i = omega arith in
    chunks-at n (drop room_size s) i d (omega arith) ∙ ap (take room_size) (drop-drop (room_size * i) room_size s ∙ ap (λ (k : ℕ). drop k s) e)

-- none of none
pub chunks_none : (n : ℕ) (s : List ℕ) → n ≡ 0 → chunks n s ≡ []
unfolding chunks
chunks_none zero s h = refl
chunks_none (suc n) s h = absurd (omega arith)

-- the first room is at the front
pub chunks-first : (n : ℕ) (s : List ℕ) → 0 < n → chunks n s ≡ take room_size s ∷ chunks (n - 1) (drop room_size s)
unfolding chunks
chunks-first zero s h = absurd (omega arith)
chunks-first (suc n) s h = let e : suc n - 1 ≡ n = omega arith in rw e

-- where the bytes end in it, it is all of them
pub chunks_step : (n k : ℕ) (s r t : List ℕ) → 0 < n → k ≡ min room_size (length s) → r ≡ take k s → t ≡ drop k s → chunks n s ≡ r ∷ chunks (n - 1) t
chunks_step n k s r t h e f g = chunks-first n s h ∙ ap₂ (λ (x y : List ℕ). x ∷ chunks (n - 1) y) (take-cut room_size k s e ∙ sym f) (drop-cut room_size k s e ∙ sym g)

-- as many rooms as are asked for
pub length_chunks : (n : ℕ) (s : List ℕ) → length (chunks n s) ≡ n
unfolding chunks
length_chunks zero s = refl
length_chunks (suc n) s = ap suc (length_chunks n (drop room_size s))

-- a list has as many rooms as it may have masks
length-rooms : (s : List ℕ) → length (rooms s) ≡ ban_limit
unfolding rooms
length-rooms s = length_chunks ban_limit (drop 1 s)

-- room i of a list is the part at its place
rooms-at : (s : List ℕ) (i : ℕ) (d : List ℕ) → i < ban_limit → get_or (rooms s) i d ≡ room_in s i
unfolding rooms room_in
rooms-at s i d h = chunks-at ban_limit (drop 1 s) i d h ∙ ap (take room_size) (drop-drop (room_size * i) 1 s) ∙ sym (part-next s (1 + room_size * i) room_size)

-- the first n of more rooms are those that n rooms would be
chunks-take : (n m : ℕ) (s : List ℕ) → n ≤ m → take n (chunks m s) ≡ chunks n s
unfolding chunks
chunks-take zero m s h = refl
chunks-take (suc n) zero s h = absurd (omega arith)
chunks-take (suc n) (suc m) s h = ap (◌∷◌ (take room_size s)) (chunks-take n m (drop room_size s) (omega arith))

-- ---- the first n rooms
module _ (s : List ℕ) (n i : ℕ) (h : i < n) (k : n ≤ ban_limit) where
  -- the room at a place is the first of those from there on
  pub front-step : drop i (take n (rooms s)) ≡ room_in s i ∷ drop (i + 1) (take n (rooms s))
  front-step =
      drop-step (take n (rooms s)) i [] (omega (arith, length-take-le n (rooms s) (omega (arith, length-rooms s)), length-rooms s))
      ∙ ap (λ (x : List ℕ). x ∷ drop (i + 1) (take n (rooms s))) (get_or-take n (rooms s) i [] h ∙ rooms-at s i [] (omega arith))

-- the first n rooms are n
pub length_front : (s : List ℕ) (n : ℕ) → n ≤ ban_limit → length (take n (rooms s)) ≡ n
length_front s n h = length-take-le n (rooms s) (omega (arith, length-rooms s))

-- ---- nothing where there are no bytes
-- no bytes as a list have no masks
pub count_none : (s : List ℕ) → length s ≡ 0 → 0 ≡ mask_count s
unfolding mask_count
count_none [] = λ h. omega arith
count_none (x ∷ s) = λ h. absurd (omega arith)

-- no bytes have the empty mask
pub mask_none : (r : List ℕ) → length r ≡ 0 → r ≡ mask_in r
unfolding mask_in
mask_none [] = λ h. sym (part-next [] 1 0)
mask_none (x ∷ r) = λ h. absurd (omega arith)

-- nor are they a good room
pub good_none : (r : List ℕ) → length r ≡ 0 → false ≡ good_room r
unfolding good_room is_mask mask_in
good_none [] = λ h. rw (part-next [] 1 0)
good_none (x ∷ r) = λ h. absurd (omega arith)

-- ---- those in use
-- never more masks than there is room for
pub count_room : (s : List ℕ) → mask_count s ≤ ban_limit
unfolding mask_count
count_room s = omega arith

-- as many rooms in use as masks
pub length-used : (s : List ℕ) → length (used_rooms s) ≡ mask_count s
unfolding used_rooms
length-used s = length_front s (mask_count s) (count_room s)

-- as many masks as the list says, or as there is room for
pub length-masks : (s : List ℕ) → length (masks s) ≡ mask_count s
unfolding masks
length-masks s = length-map (used_rooms s) mask_in ∙ length-used s

-- those in use are the rooms of what is behind the first byte
pub used-chunks : (s : List ℕ) → used_rooms s ≡ chunks (mask_count s) (drop 1 s)
unfolding used_rooms rooms
used-chunks s = chunks-take (mask_count s) ban_limit (drop 1 s) (count_room s)

module _ (s : List ℕ) (i : ℕ) (h : i < mask_count s) where
  -- the room at a place is the first of those in use from there on
  pub used_step : drop i (used_rooms s) ≡ room_in s i ∷ drop (i + 1) (used_rooms s)
  unfolding used_rooms
  used_step = front-step s (mask_count s) i h (count_room s)

  used-at : get_or (used_rooms s) i [] ≡ room_in s i
  unfolding used_rooms
  used-at = get_or-take (mask_count s) (rooms s) i [] h ∙ rooms-at s i [] (omega (arith, count_room s))

  -- it is the mask at that place
  pub masks-at : mask_in (room_in s i) ≡ get_or (masks s) i []
  unfolding masks
  masks-at =
      let few : i < length (map mask_in (used_rooms s)) = omega (arith, length-map (used_rooms s) mask_in, length-used s) in
      sym (get_or_any (map mask_in (used_rooms s)) i [] (mask_in []) few ∙ get_or-map mask_in (used_rooms s) i [] ∙ ap mask_in used-at)

  -- which begins one byte into the room
  pub starts-in : (r : List ℕ) → r ≡ room_in s i → min 1 (length r) + min (1 + room_size * i) (length s) ≡ mask_start s i
  unfolding mask_start room_in
  starts-in r e =
      let n : length r ≡ length (take room_size (drop (1 + room_size * i) s)) = ap (λ (l : List ℕ). length l) (e ∙ part-next s (1 + room_size * i) room_size) in
      rw (lt-ltb i (mask_count s) h) (omega (arith, n, length-take room_size (drop (1 + room_size * i) s), length-drop (1 + room_size * i) s))

-- past the last there is none
pub masks-past : (s : List ℕ) (i : ℕ) → mask_count s ≤ i → [] ≡ get_or (masks s) i []
masks-past s i h = sym (get_or-eq_default (masks s) [] (omega (arith, length-masks s)))

-- what is handed back for it begins where the list does
pub starts-past : (s : List ℕ) (i : ℕ) → mask_count s ≤ i → 0 ≡ mask_start s i
unfolding mask_start
starts-past s i h = rw (le-ltb i (mask_count s) h)
