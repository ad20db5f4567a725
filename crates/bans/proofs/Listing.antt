-- A list's bytes and its rooms: the rooms one behind the other are the bytes, and a room put between others is what `with_rooms` says. Assumes nothing.
use mathlib.Core.Path.{◌≡◌, refl, sym, ap, ap₂, ◌∙◌}
use mathlib.Core.Bool.{true, false}
use mathlib.Core.List.{List, [], ◌∷◌, ◌++◌, append_assoc}
use Prim.Native.Nat.{ℕ, zero, suc, ◌+◌, ◌*◌, ◌-◌, ◌≤◌, ◌<◌}
use native.Mathlib.Omega.{arith}
use lib.ListN.{length, take, drop, set, length-append, length-take, length-drop, take-append-drop}
use lib.Seq.{take_all, take-add, take-take, drop_at, length-take-le, take-append-add}
use borrow.Author.Tests.{le-leb, lt-leb}
use Rattle.std.specs.Prelude.{Ok, Err}
use Rattle.laws.specs.Joins.{concatenated}
use Rattle.laws.proofs.Lists.{drop-behind}
use Rattle.laws.proofs.Joins.{concatenated-append}
use Rattle.octets.specs.Room.{part}
use Rattle.octets.proofs.Room.{part-front, part-next}
use Rattle.ascending.specs.Ascending.{put}
use Rattle.channel.specs.Limits.{mask_limit, ban_limit}
use Rattle.bans.specs.declared.BanList.{BanList}
use Rattle.bans.specs.Limits.{room_size, rooms_size, list_size}
use Rattle.bans.specs.Masks.{room_of, by_fold, chunks, rooms, mask_count, used_rooms}
use Rattle.bans.specs.Putting.{put_in, with_rooms, addition, put_answer}
use Rattle.bans.specs.Private.Placing.{PlacedIn, spliced}
use Rattle.bans.proofs.Places.{count_room, length-used}
use Rattle.bans.proofs.Placing.{length-room, room_cut}

-- ---- rooms one behind the other
-- the first i of a list's rooms, one behind the other, are the bytes at the front
concatenated-take : (n i : ℕ) (t : List ℕ) → length t ≡ room_size * n → i ≤ n → concatenated (take i (chunks n t)) ≡ take (room_size * i) t
unfolding chunks
concatenated-take n zero t e = λ h. refl
concatenated-take zero (suc i) t e = λ h. absurd (omega arith)
concatenated-take (suc n) (suc i) t e = λ h.
    let k : room_size + room_size * i ≡ room_size * suc i = omega arith in
    ap (◌++◌ (take room_size t)) (concatenated-take n i (drop room_size t) (omega (arith, length-drop room_size t)) (omega arith))
    ∙ sym (take-add room_size (room_size * i) t)
    ∙ ap (λ (j : ℕ). take j t) k

-- ---- the first n rooms of a list's bytes, and a room put behind the first i of them
module _ (t : List ℕ) (e : length t ≡ rooms_size) (n : ℕ) (h : n ≤ ban_limit) where
  abbrev u : List (List ℕ)
  u = take n (chunks ban_limit t)

  -- they are the bytes up to their end
  pub concatenated-used : concatenated u ≡ take (room_size * n) t
  concatenated-used = concatenated-take ban_limit n t (omega arith) h

  whole : concatenated u ++ drop (room_size * n) t ≡ t
  whole = rw concatenated-used (take-append-drop (room_size * n) t)

  module _ (i : ℕ) (k : i ≤ n) where
    concatenated-front : concatenated (take i u) ≡ take (room_size * i) t
    concatenated-front = ap concatenated (take-take i n (chunks ban_limit t) k) ∙ concatenated-take ban_limit i t (omega arith) (omega arith)

    length_front : length (take (room_size * i) t) ≡ room_size * i
    length_front = length-take-le (room_size * i) t (omega arith)

    rest-front : take (room_size * i) t ++ (concatenated (drop i u) ++ drop (room_size * n) t) ≡ t
    rest-front =
        ap (λ (l : List ℕ). l ++ (concatenated (drop i u) ++ drop (room_size * n) t)) (sym concatenated-front)
        ∙ sym (append_assoc (concatenated (take i u)) (concatenated (drop i u)) (drop (room_size * n) t))
        ∙ ap (λ (l : List ℕ). l ++ drop (room_size * n) t) (sym (concatenated-append (take i u) (drop i u)) ∙ ap concatenated (take-append-drop i u))
        ∙ whole

    back : concatenated (drop i u) ++ drop (room_size * n) t ≡ drop (room_size * i) t
    back =
        sym (drop_at (take (room_size * i) t) (concatenated (drop i u) ++ drop (room_size * n) t) (room_size * i) length_front)
        ∙ ap (drop (room_size * i)) rest-front

    rooms-spliced : (r : List ℕ) → concatenated (take i u ++ r ∷ drop i u) ++ drop (room_size * n) t ≡ take (room_size * i) t ++ (r ++ drop (room_size * i) t)
    rooms-spliced r =
        ap (λ (l : List ℕ). l ++ drop (room_size * n) t) (concatenated-append (take i u) (r ∷ drop i u) ∙ ap (λ (l : List ℕ). l ++ (r ++ concatenated (drop i u))) concatenated-front)
        ∙ append_assoc (take (room_size * i) t) (r ++ concatenated (drop i u)) (drop (room_size * n) t)
        ∙ ap (◌++◌ (take (room_size * i) t)) (append_assoc r (concatenated (drop i u)) (drop (room_size * n) t) ∙ ap (◌++◌ r) back)

    -- cut at the end of the list
    spliced-cut : (r : List ℕ) → length r ≡ room_size → i < ban_limit
        → take rooms_size (concatenated (take i u ++ r ∷ drop i u) ++ drop (room_size * n) t) ≡ (take (room_size * i) t ++ r) ++ take (rooms_size - room_size - room_size * i) (drop (room_size * i) t)
    spliced-cut r f g =
        let a : List ℕ = take (room_size * i) t ++ r in
        let m : ℕ = rooms_size - room_size - room_size * i in
        let q : length (take (room_size * i) t ++ r) + (rooms_size - room_size - room_size * i) ≡ rooms_size = omega (arith, length-append (take (room_size * i) t) r, length_front) in
        ap (take rooms_size) (rooms-spliced r ∙ sym (append_assoc (take (room_size * i) t) r (drop (room_size * i) t)))
        ∙ ap (λ (j : ℕ). take j ((take (room_size * i) t ++ r) ++ drop (room_size * i) t)) (sym q)
        ∙ take-append-add (take (room_size * i) t ++ r) (drop (room_size * i) t) (rooms_size - room_size - room_size * i)

-- ---- what `with_rooms` says
-- nothing changes but the number of masks, which is right then
with-same : (s : List ℕ) → length s ≡ list_size → set s 0 (mask_count s) ≡ with_rooms (used_rooms s) s
unfolding with_rooms used_rooms rooms
with-same [] = λ e. absurd (omega arith)
with-same (x ∷ t) = λ e.
    let n : ℕ = mask_count (x ∷ t) in
    let f : length t ≡ rooms_size = omega arith in
    ap₂ ◌∷◌ (sym (length-used (x ∷ t)))
    (sym (take_all rooms_size t (omega arith))
    ∙ ap (take rooms_size) (sym (whole t f (mask_count (x ∷ t)) (count_room (x ∷ t))) ∙ ap (◌++◌ (concatenated (take (mask_count (x ∷ t)) (chunks ban_limit t)))) (sym (drop-behind x t (room_size * mask_count (x ∷ t))))))

-- a room between others
module _ (x : ℕ) (t : List ℕ) (i : ℕ) where
  before : part (x ∷ t) 0 (1 + room_size * i) ≡ x ∷ take (room_size * i) t
  before = let e : 1 + room_size * i ≡ suc (room_size * i) = omega arith in part-front (x ∷ t) (1 + room_size * i) ∙ ap (λ (k : ℕ). take k (x ∷ t)) e

  behind : i < ban_limit → part (x ∷ t) (1 + room_size * i) (list_size - room_size) ≡ take (rooms_size - room_size - room_size * i) (drop (room_size * i) t)
  behind h =
      let e : list_size - room_size ≡ 1 + room_size * i + (rooms_size - room_size - room_size * i) = omega arith in
      ap (part (x ∷ t) (1 + room_size * i)) e
      ∙ part-next (x ∷ t) (1 + room_size * i) (rooms_size - room_size - room_size * i)
      ∙ ap (take (rooms_size - room_size - room_size * i)) (drop-behind x t (room_size * i))

-- one room more in use, between the first i and the others
with-spliced : (s : List ℕ) (i : ℕ) (m : List ℕ) → length s ≡ list_size → mask_count s < ban_limit → i ≤ mask_count s
    → set (spliced s i m) 0 (mask_count s + 1) ≡ with_rooms (take i (used_rooms s) ++ room_of m ∷ drop i (used_rooms s)) s
unfolding with_rooms used_rooms rooms spliced
with-spliced [] i m = λ e. absurd (omega arith)
with-spliced (x ∷ t) i m = λ e h k.
    let f : length t ≡ rooms_size = omega arith in
    let u : List (List ℕ) = take (mask_count (x ∷ t)) (chunks ban_limit t) in
    let n : length (take (mask_count (x ∷ t)) (chunks ban_limit t)) ≡ mask_count (x ∷ t) = length-used (x ∷ t) in
    let q : mask_count (x ∷ t) + 1 ≡ length (take i (take (mask_count (x ∷ t)) (chunks ban_limit t)) ++ room_of m ∷ drop i (take (mask_count (x ∷ t)) (chunks ban_limit t))) =
    omega (arith, length-append (take i (take (mask_count (x ∷ t)) (chunks ban_limit t))) (room_of m ∷ drop i (take (mask_count (x ∷ t)) (chunks ban_limit t))), length-take i (take (mask_count (x ∷ t)) (chunks ban_limit t)), length-drop i (take (mask_count (x ∷ t)) (chunks ban_limit t))) in
    ap₂ (λ (a b : List ℕ). set ((a ++ room_of m) ++ b) 0 (mask_count (x ∷ t) + 1)) (before x t i) (behind x t i (omega arith))
    ∙ ap₂ ◌∷◌ q
    (sym (spliced-cut t f (mask_count (x ∷ t)) (count_room (x ∷ t)) i k (room_of m) (length-room m) (omega arith))
    ∙ ap (λ (l : List ℕ). take rooms_size (concatenated (take i (take (mask_count (x ∷ t)) (chunks ban_limit t)) ++ room_of m ∷ drop i (take (mask_count (x ∷ t)) (chunks ban_limit t))) ++ l)) (sym (drop-behind x t (room_size * mask_count (x ∷ t)))))

-- ---- the answers of `put`
module _ (m : List ℕ) (b : BanList) (p : List ℕ) (size : length b.room ≡ list_size) (is : p ≡ part m 0 mask_limit) where
  abbrev s : List ℕ
  s = b.room

  same-room : room_of p ≡ room_of m
  same-room = ap room_of (is ∙ part-front m mask_limit) ∙ room_cut m

  -- its fold is there: the list as it is, with the number of its masks
  pub answered-there : (i n : ℕ) → PlacedIn (room_of p) (used_rooms b.room) (Ok i) → n ≡ mask_count b.room → addition false (set b.room 0 n) ≡ put_answer m b
  unfolding put_answer put_in
  answered-there i n placed e =
      let q : put by_fold (room_of m) (used_rooms s) ≡ used_rooms s = ap (λ (x : List ℕ). put by_fold x (used_rooms s)) (sym same-room) ∙ placed.is in
      rw (q, le-leb (length (used_rooms s)) ban_limit (omega (arith, length-used s, count_room s)), e) (ap (addition false) (with-same s size))

  module _ (at : ℕ) (placed : PlacedIn (room_of p) (used_rooms b.room) (Err at)) where
    fresh : put by_fold (room_of m) (used_rooms s) ≡ take at (used_rooms s) ++ room_of m ∷ drop at (used_rooms s)
    fresh =
        ap (λ (x : List ℕ). put by_fold x (used_rooms s)) (sym same-room)
        ∙ placed.is
        ∙ ap (λ (x : List ℕ). take at (used_rooms s) ++ x ∷ drop at (used_rooms s)) same-room

    one-longer : length (take at (used_rooms s) ++ room_of m ∷ drop at (used_rooms s)) ≡ mask_count s + 1
    one-longer = omega (arith, length-append (take at (used_rooms s)) (room_of m ∷ drop at (used_rooms s)), length-take at (used_rooms s), length-drop at (used_rooms s), length-used s, placed.inside)

    -- it is not there, and there is no room
    pub answered-full : mask_count b.room ≡ ban_limit → addition true b.room ≡ put_answer m b
    unfolding put_answer put_in
    answered-full e = rw (fresh, lt-leb (length (take at (used_rooms s) ++ room_of m ∷ drop at (used_rooms s))) ban_limit (omega (arith, one-longer)))

    -- it is not there, and is put in its place
    pub answered-put : (x : List ℕ) → mask_count b.room < ban_limit → x ≡ set (spliced b.room at p) 0 (mask_count b.room + 1) → addition false x ≡ put_answer m b
    unfolding put_answer put_in spliced
    answered-put x h e =
        rw (fresh, le-leb (length (take at (used_rooms s) ++ room_of m ∷ drop at (used_rooms s))) ban_limit (omega (arith, one-longer)))
        (ap (addition false) (e ∙ rw same-room (with-spliced s at m size h (omega (arith, placed.inside, length-used s)))))
