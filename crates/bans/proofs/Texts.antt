-- The masks of a list as a text, a mark between each two. It has room where their rooms have, and a byte to spare: a mark stands for the byte with the length, and
-- the first has none. Assumes nothing.
use mathlib.Core.Path.{ap}
use mathlib.Core.List.{List, [], ◌∷◌, map}
use Prim.Native.Nat.{ℕ, zero, suc, ◌*◌, ◌≤◌, ◌<◌}
use native.Mathlib.Omega.{arith}
use lib.ListN.{length, take, drop, get_or, length-append, length-drop, length-take}
use Rattle.laws.specs.Lists.{prefixed, separated}
use Rattle.octets.proofs.Room.{part-next}
use Rattle.channel.specs.Limits.{mask_limit, ban_limit}
use Rattle.bans.specs.Limits.{room_size, rooms_size}
use Rattle.bans.specs.Masks.{mask_in, chunks, rooms, mask_count, used_rooms, masks}

mask_fits : (r : List ℕ) → length r ≤ room_size → length (mask_in r) ≤ mask_limit
unfolding mask_in
mask_fits r h = omega (arith, ap (λ (l : List ℕ). length l) (part-next r 1 (get_or r 0 0)), length-take (get_or r 0 0) (drop 1 r), length-drop 1 r)

-- some of the first n rooms of any bytes, a mark before each
chunks_fit : (mark n k : ℕ) (t : List ℕ) → length (prefixed mark (map mask_in (take k (chunks n t)))) ≤ room_size * n
unfolding chunks prefixed
chunks_fit mark n zero t = omega arith
chunks_fit mark zero (suc k) t = omega arith
chunks_fit mark (suc n) (suc k) t =
    let first : List ℕ = take room_size t in
    let behind : List ℕ = drop room_size t in
    omega (
      arith,
      length-append (mask_in first) (prefixed mark (map mask_in (take k (chunks n behind)))),
      mask_fits first (omega (arith, length-take room_size t)),
      chunks_fit mark n k behind,
    )

-- the first mark is one byte
without-first : (mark n : ℕ) (l : List (List ℕ)) → 0 < n → length (prefixed mark l) ≤ n → length (separated mark l) < n
unfolding prefixed separated
without-first mark n [] some h = some
without-first mark n (m ∷ l) some h = omega arith

pub masks-fit : (mark : ℕ) (s : List ℕ) → length (separated mark (masks s)) < rooms_size
unfolding masks used_rooms rooms
masks-fit mark s = without-first mark rooms_size (masks s) (omega arith) (chunks_fit mark ban_limit (mask_count s) (drop 1 s))
