-- Masks and lists as computed from their definitions. Assumes nothing.
use mathlib.Core.Path.{◌≡◌, refl}
use mathlib.Core.Bool.{Bool, true, false, not}
use mathlib.Core.List.{List, [], ◌∷◌, ◌++◌, map}
use Prim.Native.Nat.{ℕ, ◌+◌, ◌*◌}
use lib.ListN.{replicate}
use Rattle.refusal.specs.Rules.{first_of}
use Rattle.laws.specs.Lists.{all, padded}
use Rattle.octets.specs.Bytes.{nul, bell, lf, cr, space, comma, colon, is_plain, within}
use Rattle.octets.specs.Order.{compare}
use Rattle.octets.specs.Room.{part}
use Rattle.ascending.specs.Ascending.{insert, put, unite, ascends}
use Rattle.names.specs.Fold.{fold}
use Rattle.glob.specs.Mask.{match_answer, match_rules, after_run, first_then, matches_byte}
use Rattle.glob.specs.Mask as mask
use Rattle.channel.specs.Limits.{slot_count, ban_limit, mask_limit}
use Rattle.bans.specs.declared.BanList.{BanList}
use Rattle.bans.specs.Limits.{room_size, rooms_size, list_size, bans_size}
use Rattle.bans.specs.Masks.{is_mask, mask_in, room_of, by_spelling, chunks, rooms, mask_count, used_rooms, masks, mask_start, encode_list}
use Rattle.bans.specs.WellFormed.{good_room, well_formed_list, is_unused, good_list}
use Rattle.bans.specs.Putting.{put_in, with_rooms, put_answer, put_all, add_answer, unite_answer}
use Rattle.bans.specs.Slots.{offset, list_with}
use Rattle.bans.specs.Matching.{some_matches}

-- the sizes are those of their parts
room-size : room_size ≡ 1 + mask_limit
room-size = refl

rooms-size : rooms_size ≡ ban_limit * room_size
rooms-size = refl

list-size : list_size ≡ 1 + rooms_size
list-size = refl

bans-size : bans_size ≡ slot_count * list_size
bans-size = refl

are-masks : all is_mask ((42 ∷ []) ∷ (colon ∷ comma ∷ bell ∷ 255 ∷ []) ∷ replicate mask_limit 97 ∷ []) ≡ true
unfolding all is_mask is_plain
are-masks = refl

no-masks : all (λ m. not (is_mask m)) ([] ∷ replicate (mask_limit + 1) 97 ∷ (97 ∷ space ∷ []) ∷ (nul ∷ []) ∷ (cr ∷ []) ∷ (lf ∷ []) ∷ []) ≡ true
unfolding all is_mask is_plain
no-masks = refl

-- b, A, a, ab, _, ~, ^: of A and a, and of ~ and ^, the first is kept; a beginning comes first; ~ stands where ^ would, before _, and _ before the letters
in_order : unite by_spelling [] ((98 ∷ []) ∷ (65 ∷ []) ∷ (97 ∷ []) ∷ (97 ∷ 98 ∷ []) ∷ (95 ∷ []) ∷ (126 ∷ []) ∷ (94 ∷ []) ∷ [])
    ≡ (126 ∷ []) ∷ (95 ∷ []) ∷ (65 ∷ []) ∷ (97 ∷ 98 ∷ []) ∷ (98 ∷ []) ∷ []
unfolding unite put insert compare fold within
in_order = refl

-- A, b is a list, and ~, _, a; b, A is none, nor is A, a, nor _, ~, nor ^, ~
lists : all (λ l. well_formed_list (encode_list l)) (((65 ∷ []) ∷ (98 ∷ []) ∷ []) ∷ ((126 ∷ []) ∷ (95 ∷ []) ∷ (97 ∷ []) ∷ []) ∷ []) ≡ true
unfolding well_formed_list encode_list all ascends good_room is_mask is_plain mask_in part room_of padded chunks rooms mask_count used_rooms compare fold within
lists = refl

no-lists : all (λ l. not (well_formed_list (encode_list l)))
    (((98 ∷ []) ∷ (65 ∷ []) ∷ []) ∷ ((65 ∷ []) ∷ (97 ∷ []) ∷ []) ∷ ((95 ∷ []) ∷ (126 ∷ []) ∷ []) ∷ ((94 ∷ []) ∷ (126 ∷ []) ∷ []) ∷ [])
    ≡ true
unfolding well_formed_list encode_list all ascends good_room is_mask is_plain mask_in part room_of padded chunks rooms mask_count used_rooms compare fold within
no-lists = refl

-- A in a list: a is there already, and its spelling stays
first-spelling : masks (put_answer (97 ∷ []) (list_with ((65 ∷ []) ∷ []))).list.room ≡ (65 ∷ []) ∷ []
unfolding put_answer put_in with_rooms masks put insert encode_list mask_in part room_of padded chunks rooms mask_count used_rooms compare fold within
first-spelling = refl

-- A and b united with a and c: a is there already, and the others come in their order
united : masks (unite_answer (list_with ((65 ∷ []) ∷ (98 ∷ []) ∷ [])) (list_with ((97 ∷ []) ∷ (99 ∷ []) ∷ []))).list.room
    ≡ (65 ∷ []) ∷ (98 ∷ []) ∷ (99 ∷ []) ∷ []
unfolding add_answer put_all put_answer put_in with_rooms masks put insert encode_list mask_in part room_of padded chunks rooms mask_count used_rooms compare fold within
united = refl

-- 32 masks of one byte each: ! is one of them, a would be the 33rd
many : List (List ℕ)
many = map (λ b. b ∷ []) (33 ∷ 34 ∷ 35 ∷ 36 ∷ 37 ∷ 38 ∷ 39 ∷ 40 ∷ 41 ∷ 42 ∷ 43 ∷ 44 ∷ 45 ∷ 46 ∷ 47 ∷ 48 ∷ 49 ∷ 50 ∷ 51 ∷ 52 ∷ 53 ∷ 54 ∷ 55 ∷ 56 ∷ 57 ∷ 58 ∷ 59 ∷ 60 ∷ 61 ∷ 62 ∷ 63 ∷ 64 ∷ [])

up-to-32 : map (λ m. (put_answer m (list_with many)).full) ((33 ∷ []) ∷ (97 ∷ []) ∷ []) ≡ false ∷ true ∷ []
unfolding many put_answer put_in put insert encode_list mask_in part room_of padded chunks rooms mask_count used_rooms compare fold within
up-to-32 = refl

-- a slot in use has a list with masks or without, any other none
for-slots : map (λ l. good_list true (encode_list l)) ([] ∷ ((65 ∷ []) ∷ []) ∷ []) ++ map (λ l. good_list false (encode_list l)) ([] ∷ ((65 ∷ []) ∷ []) ∷ []) ≡ true ∷ true ∷ true ∷ false ∷ []
unfolding good_list is_unused well_formed_list encode_list all ascends good_room is_mask is_plain mask_in part room_of padded chunks rooms mask_count used_rooms compare fold within
for-slots = refl

-- list 1 begins behind list 0, and what begins where there is no list is behind them all
begins : map offset (0 ∷ 1 ∷ 15 ∷ 16 ∷ 17 ∷ []) ≡ 0 ∷ list_size ∷ 48495 ∷ bans_size ∷ bans_size ∷ []
unfolding offset
begins = refl

-- masks 0 and 1 of A, b begin one byte into their rooms, there is no mask 2, and bytes that end before mask 1 have it at their end
mask-starts : map (mask_start (encode_list ((65 ∷ []) ∷ (98 ∷ []) ∷ []))) (0 ∷ 1 ∷ 2 ∷ []) ++ map (mask_start (2 ∷ 1 ∷ 65 ∷ [])) (0 ∷ 1 ∷ []) ≡ 2 ∷ 103 ∷ 0 ∷ 2 ∷ 3 ∷ []
unfolding mask_start encode_list room_of padded mask_count
mask-starts = refl

-- a*b and c: AxB is matched, ax isn't
matched : map (λ t. some_matches t ((97 ∷ 42 ∷ 98 ∷ []) ∷ (99 ∷ []) ∷ [])) ((65 ∷ 120 ∷ 66 ∷ []) ∷ (97 ∷ 120 ∷ []) ∷ []) ≡ true ∷ false ∷ []
unfolding some_matches match_answer match_rules first_of mask.matches after_run first_then matches_byte fold within
matched = refl

-- three lists, each well formed: A and b, a and c, d
abbrev one : BanList
one = list_with ((65 ∷ []) ∷ (98 ∷ []) ∷ [])

abbrev two : BanList
two = list_with ((97 ∷ []) ∷ (99 ∷ []) ∷ [])

abbrev three : BanList
three = list_with ((100 ∷ []) ∷ [])

well : all (λ (b : BanList). well_formed_list b.room) (one ∷ two ∷ three ∷ []) ≡ true
unfolding well_formed_list encode_list all ascends good_room is_mask is_plain mask_in part room_of padded chunks rooms mask_count used_rooms compare fold within
well = refl

-- united in either grouping they are accepted
grouped : all (λ (t : Bool). not t)
    ((unite_answer one two).full ∷ (unite_answer two three).full ∷ (unite_answer (unite_answer one two).list three).full ∷ (unite_answer one (unite_answer two three).list).full ∷ [])
    ≡ true
unfolding all add_answer put_all put_answer put_in with_rooms masks put insert encode_list mask_in part room_of padded chunks rooms mask_count used_rooms compare fold within
grouped = refl
