-- A well-formed list is the one that its masks make, and masks made into a list are found again: lists are equal exactly if their masks are. Assumes nothing.
use mathlib.Core.Path.{◌≡◌, refl, sym, ap, ap₂, ◌∙◌}
use mathlib.Core.Bool.{true}
use mathlib.Core.List.{List, [], ◌∷◌, map}
use Prim.Native.Nat.{ℕ, ◌+◌, ◌*◌, ◌-◌, ◌≤◌, min}
use native.Mathlib.Omega.{arith}
use lib.ListN.{length, take, drop, get_or, replicate, length-take, length-map}
use lib.Dec.{leb}
use borrow.Author.Tests.{eq-eqb, eqb-true, leb-true}
use Rattle.laws.specs.Lists.{all, padded}
use Rattle.laws.specs.Joins.{concatenated}
use Rattle.laws.proofs.Bools.{and_left, and_right}
use Rattle.laws.proofs.Lists.{all_head, all_tail, all_cons, all_from, padded-take, length-padded, padded-behind, drop-behind}
use Rattle.octets.specs.Bytes.{is_zero}
use Rattle.octets.proofs.Room.{part-next}
use Rattle.channel.specs.Limits.{mask_limit, ban_limit}
use Rattle.bans.specs.Limits.{room_size, rooms_size, list_size}
use Rattle.bans.specs.Masks.{is_mask, mask_in, room_of, chunks, rooms, mask_count, used_rooms, masks, encode_list}
use Rattle.bans.specs.WellFormed.{good_room, well_formed_list}
use Rattle.bans.proofs.Places.{count_room, length-masks}
use Rattle.bans.proofs.Placing.{mask-room, length-room}
use Rattle.bans.proofs.Listing.{concatenated-used}
use Rattle.bans.proofs.Keeping.{sized, mask-short, masks-of, length-concatenated, chunks-concatenated, sized-used, well-size, well-count, well-clear, well-good}

-- what is zero from a place on is padded from there
padded-zero : (n m : ℕ) (l : List ℕ) → length l ≡ m → all is_zero (drop n l) ≡ true → padded m 0 (take n l) ≡ l
padded-zero n m l e h = padded-take 0 n m l e (λ k f g. eqb-true (get_or l k 0) 0 (all_from is_zero n l 0 h k f (omega arith)))

-- ---- a good room is that of its mask
room-mask : (r : List ℕ) → good_room r ≡ true → length r ≡ room_size → room_of (mask_in r) ≡ r
unfolding good_room room_of mask_in
room-mask [] h = λ e. absurd (omega arith)
room-mask (x ∷ b) h = λ e.
    let small : x ≤ mask_limit = leb-true x mask_limit (and_left (leb x mask_limit) _ h) in
    let n : length (take mask_limit (take x b)) ≡ x = omega (arith, length-take mask_limit (take x b), length-take x b) in
    let z : all is_zero (drop x b) ≡ true = ap (all is_zero) (sym (drop-behind x b x)) ∙ and_right (is_mask (mask_in (x ∷ b))) _ (and_right (leb x mask_limit) _ h) in
    ap (λ (m : List ℕ). length (take mask_limit m) ∷ padded mask_limit 0 m) (part-next (x ∷ b) 1 x) ∙ ap₂ ◌∷◌ n (padded-zero x mask_limit b (omega arith) z)

rooms-masks : (l : List (List ℕ)) → all good_room l ≡ true → all sized l ≡ true → map room_of (map mask_in l) ≡ l
rooms-masks [] h k = refl
rooms-masks (r ∷ l) h k =
    ap₂ ◌∷◌ (room-mask r (all_head good_room r l h) (eqb-true (length r) room_size (all_head sized r l k))) (rooms-masks l (all_tail good_room r l h) (all_tail sized r l k))

-- ---- a well-formed list is made of its masks
exact : (x : ℕ) (t : List ℕ) → x ≤ ban_limit → mask_count (x ∷ t) ≡ x
unfolding mask_count
exact x t c = omega arith

made_again : (s : List ℕ) → length s ≡ list_size → get_or s 0 0 ≤ ban_limit → all is_zero (drop (1 + room_size * mask_count s) s) ≡ true → map room_of (map mask_in (used_rooms s)) ≡ used_rooms s
    → encode_list (masks s) ≡ s
unfolding encode_list masks used_rooms rooms
made_again [] e c z r = absurd (omega arith)
made_again (x ∷ t) e c z r =
    let f : length t ≡ rooms_size = omega arith in
    let clear : all is_zero (drop (room_size * mask_count (x ∷ t)) t) ≡ true = ap (all is_zero) (sym (drop-behind x t (room_size * mask_count (x ∷ t)))) ∙ z in
    ap₂ ◌∷◌ (length-masks (x ∷ t) ∙ exact x t c)
    (ap (λ (l : List (List ℕ)). padded rooms_size 0 (concatenated l)) r
    ∙ ap (padded rooms_size 0) (concatenated-used t f (mask_count (x ∷ t)) (count_room (x ∷ t)))
    ∙ padded-zero (room_size * mask_count (x ∷ t)) rooms_size t f clear)

-- a well-formed list is the one that its masks make
pub encode-masks : (s : List ℕ) → well_formed_list s ≡ true → encode_list (masks s) ≡ s
encode-masks s w = made_again s (well-size s w) (well-count s w) (well-clear s w) (rooms-masks (used_rooms s) (well-good s w) (sized-used s (well-size s w)))

-- any masks make a whole list
pub length-encode : (l : List (List ℕ)) → length (encode_list l) ≡ list_size
unfolding encode_list
length-encode l = omega (arith, length-padded 0 rooms_size (concatenated (map room_of l)))

-- ---- and masks are found again
masks-rooms : (l : List (List ℕ)) → all is_mask l ≡ true → map mask_in (map room_of l) ≡ l
masks-rooms [] h = refl
masks-rooms (m ∷ l) h = ap₂ ◌∷◌ (mask-room m (mask-short m (all_head is_mask m l h))) (masks-rooms l (all_tail is_mask m l h))

sized-rooms : (l : List (List ℕ)) → all sized (map room_of l) ≡ true
unfolding all
sized-rooms [] = refl
sized-rooms (m ∷ l) = all_cons sized (room_of m) (map room_of l) (eq-eqb (length (room_of m)) room_size (length-room m)) (sized-rooms l)

used-encode : (l : List (List ℕ)) → length l ≤ ban_limit → used_rooms (encode_list l) ≡ map room_of l
unfolding encode_list used_rooms rooms mask_count
used-encode l h =
    let n : length (map room_of l) ≡ length l = length-map l room_of in
    let f : List ℕ = concatenated (map room_of l) in
    let c : min (length l) ban_limit ≡ length (map room_of l) = omega arith in
    ap₂ (λ (k : ℕ) (t : List ℕ). take k (chunks ban_limit t)) c (padded-behind 0 rooms_size f (omega (arith, length-concatenated (map room_of l) (sized-rooms l))))
    ∙ chunks-concatenated ban_limit (map room_of l) (replicate (rooms_size - length f) 0) (sized-rooms l) (omega arith)

-- masks, no more than there is room for, are those of the list that they make
pub masks-encode : (l : List (List ℕ)) → length l ≤ ban_limit → all is_mask l ≡ true → masks (encode_list l) ≡ l
masks-encode l h g = masks-of (encode_list l) (map room_of l) (used-encode l h) ∙ masks-rooms l g
