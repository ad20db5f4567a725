-- Masks, each in its room, and the list that they make (document 02, §2): in folded byte order, equal folds once in the first spelling.
use Rattle.std.specs.Prelude.{Bool, cond, ◌&&◌, List, [], ◌∷◌, map, ℕ, zero, suc, ◌+◌, ◌*◌, min, length, take, drop, get_or, leb, ltb}
use Rattle.laws.specs.Lists.{all, padded}
use Rattle.laws.specs.Joins.{concatenated}
use Rattle.octets.specs.Bytes.{is_plain, is_non_space}
use Rattle.octets.specs.Order.{compare, is_less}
use Rattle.octets.specs.Room.{part}
use Rattle.ascending.specs.Ascending.{Kind}
use Rattle.names.specs.Fold.{fold}
use Rattle.channel.specs.Limits.{mask_limit, ban_limit}
use Rattle.bans.specs.Limits.{room_size, rooms_size}

-- ---- one mask
-- a mask: 1 to 100 bytes, none SPACE, NUL, CR or LF
unfoldable pub is_mask : List ℕ → Bool
is_mask m = leb 1 (length m) && (leb (length m) mask_limit && (all is_plain m && all is_non_space m))

-- the mask in a room, behind the byte with its length
unfoldable pub mask_in : List ℕ → List ℕ
mask_in r = part r 1 (1 + get_or r 0 0)

-- the room of a mask, of which no more than 100 bytes are kept
unfoldable pub room_of : List ℕ → List ℕ
room_of m = length (take mask_limit m) ∷ padded mask_limit 0 m

-- masks in folded byte order; equal folds stand once, in the first spelling: the one that was there is kept
abbrev pub by_spelling : Kind (List ℕ) (List ℕ)
by_spelling = record { key = λ m. map fold m; load = λ m. m; make = λ k m. m; join = λ m d. d }

-- a mask comes before another: its fold is the smaller one
abbrev pub comes_before : List ℕ → List ℕ → Bool
comes_before m d = is_less (compare (map fold m) (map fold d))

-- rooms in the order of their masks, of two with one fold the one that was there
abbrev pub by_fold : Kind (List ℕ) (List ℕ)
by_fold = record { key = λ r. map fold (mask_in r); load = λ r. r; make = λ k r. r; join = λ r d. d }

-- ---- a list
-- the first n rooms of some bytes
unfoldable pub chunks : ℕ → List ℕ → List (List ℕ)
chunks zero s = []
chunks (suc n) s = take room_size s ∷ chunks n (drop room_size s)

-- a list's rooms, behind the byte with the number of masks
unfoldable pub rooms : List ℕ → List (List ℕ)
rooms s = chunks ban_limit (drop 1 s)

-- how many masks a list has: as many as it says, and no more than there is room for
unfoldable pub mask_count : List ℕ → ℕ
mask_count s = min (get_or s 0 0) ban_limit

-- the rooms in use
unfoldable pub used_rooms : List ℕ → List (List ℕ)
used_rooms s = take (mask_count s) (rooms s)

-- what the list means: its masks
unfoldable pub masks : List ℕ → List (List ℕ)
masks s = map mask_in (used_rooms s)

-- where mask i begins in the bytes: behind the number of masks, the rooms before its own, and its length, or at the bytes' end where that comes first;
-- at their start where the list has no such mask
unfoldable pub mask_start : List ℕ → ℕ → ℕ
mask_start s i = cond (ltb i (mask_count s)) (min (2 + room_size * i) (length s)) 0

-- the list of these masks, unused room zero
unfoldable pub encode_list : List (List ℕ) → List ℕ
encode_list l = length l ∷ padded rooms_size 0 (concatenated (map room_of l))
