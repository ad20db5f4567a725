-- Masks added to a list, and two lists united (document 02, §2: masks are added, equal folds once in the first spelling, up to 32 a channel). Any bytes are taken
-- for a list. Of a well-formed one and masks it is `unite by_spelling`, and full exactly if over 32 would result: `put_full`, `put_keeps` (proofs/Keeping.antt),
-- `add-full`, `add-list`, `unite-list` (proofs/Uniting.antt).
use Rattle.std.specs.Prelude.{Bool, true, false, cond, Option, Some, None, List, [], ◌∷◌, ◌++◌, ℕ, ◌+◌, ◌*◌, length, take, drop, leb}
use Rattle.laws.specs.Joins.{concatenated}
use Rattle.ascending.specs.Ascending.{put}
use Rattle.channel.specs.Limits.{ban_limit}
use Rattle.bans.specs.declared.BanList.{BanList}
use Rattle.bans.specs.Limits.{room_size, rooms_size}
use Rattle.bans.specs.Masks.{room_of, by_fold, mask_count, used_rooms, masks}

-- Whether more masks would result than a list has room for, and the list after, which is then the one given.
pub record Added : Type 0 where
  pub full : Bool
  pub list : BanList

-- what the code answers of the list b, which says None where there is no room
abbrev pub added : BanList → Option BanList → Added
added b (Some l) = record { full = false; list = l }
added b None = record { full = true; list = b }

-- the rooms in use, with that of a mask in its place
unfoldable pub put_in : List ℕ → List ℕ → List (List ℕ)
put_in m s = put by_fold (room_of m) (used_rooms s)

-- the list with these rooms in use, and behind them what stood in the unused ones
unfoldable pub with_rooms : List (List ℕ) → List ℕ → List ℕ
with_rooms l s = length l ∷ take rooms_size (concatenated l ++ drop (1 + room_size * mask_count s) s)

-- the list after, and whether there was no room
abbrev pub addition : Bool → List ℕ → Added
addition full s = record { full = full; list = record { room = s } }

-- a mask added in its place, where its fold isn't there yet; the list as given, where over 32 would result
unfoldable pub put_answer : List ℕ → BanList → Added
put_answer m b = cond (leb (length (put_in m b.room)) ban_limit) (addition false (with_rooms (put_in m b.room) b.room)) (addition true b.room)

-- masks put one after the other, until there is no room
unfoldable pub put_all : List (List ℕ) → BanList → Added
put_all [] b = addition false b.room
put_all (m ∷ l) b = cond (put_answer m b).full (addition true b.room) (put_all l (put_answer m b).list)

-- all of some masks added; the list as given, where over 32 would result
unfoldable pub add_answer : List (List ℕ) → BanList → Added
add_answer l b = cond (put_all l b).full (addition true b.room) (put_all l b)

-- the masks of b added to a, so that a's spelling is kept
abbrev pub unite_answer : BanList → BanList → Added
unite_answer a b = add_answer (masks b.room) a
