-- A mask's place in a list, and its room put there.
use Rattle.std.specs.Prelude.{◌≡◌, Result, Ok, Err, List, ◌∷◌, ◌++◌, ℕ, ◌+◌, ◌*◌, ◌-◌, ◌≤◌, length, take, drop}
use Rattle.octets.specs.Room.{part}
use Rattle.ascending.specs.Ascending.{put}
use Rattle.bans.specs.Limits.{room_size, list_size}
use Rattle.bans.specs.Masks.{room_of, by_fold}

-- a place, where a room stands or is to stand
abbrev pub place_of : Result ℕ ℕ → ℕ
place_of (Ok i) = i
place_of (Err i) = i

-- some rooms with the room e, which stands at its place or is to stand there
abbrev pub placed : List ℕ → List (List ℕ) → Result ℕ ℕ → List (List ℕ)
placed e l (Ok i) = l
placed e l (Err i) = take i l ++ e ∷ drop i l

-- The place is where the room e is put among l, or where one of its fold stands.
pub record PlacedIn (e : List ℕ) (l : List (List ℕ)) (p : Result ℕ ℕ) : Type 0 where
  pub inside : place_of p ≤ length l
  pub is : put by_fold e l ≡ placed e l p

-- a list with a mask's room between the first `at` and the others, the last room lost
unfoldable pub spliced : List ℕ → ℕ → List ℕ → List ℕ
spliced s at m = part s 0 (1 + room_size * at) ++ room_of m ++ part s (1 + room_size * at) (list_size - room_size)

-- the room of the mask i, as a part of the list's bytes
unfoldable pub room_in : List ℕ → ℕ → List ℕ
room_in s i = part s (1 + room_size * i) (1 + room_size * i + room_size)
