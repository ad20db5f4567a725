-- A room put among others from the front: it goes behind those that come before it. The room of a mask holds the mask. Assumes nothing.
use mathlib.Core.Path.{◌≡◌, sym, ap, ap₂, ◌∙◌}
use mathlib.Core.List.{List, [], ◌∷◌, ◌++◌, append_assoc, append-nil}
use Prim.Native.Nat.{ℕ, suc, ◌+◌, ◌*◌, ◌-◌, ◌≤◌, ◌<◌}
use native.Mathlib.Omega.{arith}
use lib.ListN.{length, take, drop, replicate, set, take-append-drop, drop_of_length-le, length-take, length-replicate}
use lib.Seq.{paste, take-take, take_all, take-append-le, drop-drop, drop_at, length-take-le, append_snoc}
use borrow.Rule.Slice.PartMut.{put_mid}
use Rattle.std.specs.Prelude.{Ok, Err}
use Rattle.laws.specs.Lists.{padded}
use Rattle.laws.proofs.Lists.{take_next, drop-next, take-padded, padded-cut, length-padded}
use Rattle.std.specs.declared.cmp.Ordering.TheVariants.{Less, Equal, Greater}
use Rattle.octets.specs.Order.{compare}
use Rattle.octets.specs.Room.{part, put_at}
use Rattle.octets.proofs.Ordered.{compare_same, more-below}
use Rattle.octets.proofs.Room.{part-front, part-next, part-short, put-fits, put_front, put-padded}
use Rattle.ascending.specs.Ascending.{put}
use Rattle.ascending.proofs.Ascends.{put-less, put_same, put-more, put_front as put_last}
use Rattle.channel.specs.Limits.{mask_limit, ban_limit}
use Rattle.bans.specs.Limits.{room_size, list_size}
use Rattle.bans.specs.Masks.{mask_in, room_of, by_fold}
use Rattle.bans.specs.Private.Placing.{PlacedIn, spliced}

-- ---- the room of a mask
-- the mask in it is that mask
pub mask-room : (m : List ℕ) → length m ≤ mask_limit → mask_in (room_of m) ≡ m
unfolding mask_in room_of
mask-room m h =
    let e : length (take mask_limit m) ≡ length m = omega (arith, length-take mask_limit m) in
    part-next (length (take mask_limit m) ∷ padded mask_limit 0 m) 1 (length (take mask_limit m)) ∙ ap (λ (n : ℕ). take n (padded mask_limit 0 m)) e ∙ take-padded 0 mask_limit m h

-- it has the size of a room
pub length-room : (m : List ℕ) → length (room_of m) ≡ room_size
unfolding room_of
length-room m = ap suc (length-padded 0 mask_limit m)

-- no more than 100 bytes are kept
pub room_cut : (m : List ℕ) → room_of (take mask_limit m) ≡ room_of m
unfolding room_of
room_cut m = rw (take-take mask_limit mask_limit m (omega arith), padded-cut 0 mask_limit m)

-- it is made of zeros, the length, and the mask
pub room-made : (m : List ℕ) → length m ≤ mask_limit → put_at (set (replicate room_size 0) 0 (length m)) 1 m ≡ room_of m
unfolding room_of
room-made m h =
    let z : List ℕ = replicate mask_limit 0 in
    let e : 1 + length m ≡ suc (length m) = omega arith in
    let f : length m ≡ length (take mask_limit m) = omega (arith, length-take mask_limit m) in
    put-fits (length m ∷ z) 1 m (omega (arith, length-replicate {A = ℕ} mask_limit 0))
    ∙ ap (λ (k : ℕ). length m ∷ (m ++ drop k (length m ∷ z))) e
    ∙ ap (λ (l : List ℕ). length m ∷ l) (sym (put_front z m (omega (arith, length-replicate {A = ℕ} mask_limit 0))) ∙ put-padded mask_limit m h)
    ∙ ap (λ (n : ℕ). n ∷ padded mask_limit 0 m) f

-- ---- its place
module _ (e : List ℕ) (l : List (List ℕ)) where
  -- those before i come before it
  abbrev pub Behind : ℕ → Type 0
  Behind i = put by_fold e l ≡ take i l ++ put by_fold e (drop i l)

  module _ (i : ℕ) (p : Behind i) where
    module _ (d : List ℕ) (r : List (List ℕ)) (at : drop i l ≡ d ∷ r) where
      here : put by_fold e l ≡ take i l ++ put by_fold e (d ∷ r)
      here = p ∙ ap (λ (x : List (List ℕ)). take i l ++ put by_fold e x) at

      -- it goes behind one that comes before it too
      pub passed-more : compare (by_fold.key e) (by_fold.key d) ≡ Greater → Behind (i + 1)
      passed-more o =
          here
          ∙ ap (◌++◌ (take i l)) (put-more by_fold e d r (more-below (by_fold.key e) (by_fold.key d) o))
          ∙ sym (append_snoc (take i l) d (put by_fold e r))
          ∙ ap (λ (x : List (List ℕ)). x ++ put by_fold e r) (sym (take_next l i d r at))
          ∙ ap (λ (x : List (List ℕ)). take (i + 1) l ++ put by_fold e x) (sym (drop-next l i d r at))

      -- its place is before one that it comes before
      pub placed_less : i ≤ length l → compare (by_fold.key e) (by_fold.key d) ≡ Less → PlacedIn e l (Err i)
      placed_less h o = record {
        inside = h;
        is = here ∙ ap (◌++◌ (take i l)) (put-less by_fold e d r o ∙ ap (◌∷◌ e) (sym at));
      }

      -- one with its fold is there
      pub placed_same : i ≤ length l → compare (by_fold.key e) (by_fold.key d) ≡ Equal → PlacedIn e l (Ok i)
      placed_same h o = record {
        inside = h;
        is = here ∙ ap (◌++◌ (take i l)) (put_same by_fold e d r (compare_same (by_fold.key e) (by_fold.key d) o) ∙ sym at) ∙ take-append-drop i l;
      }

    -- its place is behind them all
    pub placed-last : (n : ℕ) → length l ≤ i → n ≡ length l → PlacedIn e l (Err n)
    placed-last n h q = record {
      inside = omega arith;
      is =
          p
          ∙ ap₂ (λ (x y : List (List ℕ)). x ++ put by_fold e y) (take_all i l h ∙ sym (take_all n l (omega arith))) (drop_of_length-le l h)
          ∙ ap (◌++◌ (take n l)) (put_last by_fold e [] tt ∙ ap (◌∷◌ e) (sym (drop_of_length-le l {i = n} (omega arith))));
    }

-- ---- a list with a mask's room among the others
-- what is kept of a mask is no longer than the limit
pub cut_short : (m p : List ℕ) → p ≡ part m 0 mask_limit → length p ≤ mask_limit
cut_short m p e = omega (arith, ap (λ (l : List ℕ). length l) e, part-short m 0 mask_limit)

-- the rooms from i on moved up by one, and the mask's put in the place that is free
pub made-spliced : (s m r w : List ℕ) (i : ℕ) → length s ≡ list_size → i < ban_limit → r ≡ room_of m
    → w ≡ paste s (1 + room_size * i + room_size) (drop (1 + room_size * i) s) (list_size - room_size - (1 + room_size * i))
    → put_mid (1 + room_size * i) (1 + room_size * i + room_size - (1 + room_size * i)) w r ≡ spliced s i m
unfolding spliced part
made-spliced s m r w i size h er ew =
    let st : ℕ = 1 + room_size * i in
    let n : ℕ = list_size - room_size - (1 + room_size * i) in
    let moved : List ℕ = take (list_size - room_size - (1 + room_size * i)) (drop (1 + room_size * i) s) in
    let kept : List ℕ = take (1 + room_size * i + room_size) s in
    let len : length (take (1 + room_size * i + room_size) s) ≡ 1 + room_size * i + room_size = length-take-le (1 + room_size * i + room_size) s (omega arith) in
    let past : drop (1 + room_size * i + room_size + (list_size - room_size - (1 + room_size * i))) s ≡ [] = drop_of_length-le s (omega arith) in
    let is : w ≡ take (1 + room_size * i + room_size) s ++ take (list_size - room_size - (1 + room_size * i)) (drop (1 + room_size * i) s) =
    ew ∙ ap (λ (l : List ℕ). take (1 + room_size * i + room_size) s ++ take (list_size - room_size - (1 + room_size * i)) (drop (1 + room_size * i) s) ++ l) past ∙ append-nil _ in
    let front : take (1 + room_size * i) w ≡ take (1 + room_size * i) s =
    ap (take (1 + room_size * i)) is
    ∙ take-append-le (1 + room_size * i) (take (1 + room_size * i + room_size) s) (take (list_size - room_size - (1 + room_size * i)) (drop (1 + room_size * i) s)) (omega arith)
    ∙ take-take (1 + room_size * i) (1 + room_size * i + room_size) s (omega arith) in
    let e : 1 + room_size * i + (1 + room_size * i + room_size - (1 + room_size * i)) ≡ 1 + room_size * i + room_size = omega arith in
    let back : drop (1 + room_size * i + room_size - (1 + room_size * i)) (drop (1 + room_size * i) w) ≡ take (list_size - room_size - (1 + room_size * i)) (drop (1 + room_size * i) s) =
    drop-drop (1 + room_size * i + room_size - (1 + room_size * i)) (1 + room_size * i) w
    ∙ ap (λ (k : ℕ). drop k w) e
    ∙ ap (drop (1 + room_size * i + room_size)) is
    ∙ drop_at (take (1 + room_size * i + room_size) s) (take (list_size - room_size - (1 + room_size * i)) (drop (1 + room_size * i) s)) (1 + room_size * i + room_size) len in
    ap₂ (λ (a b : List ℕ). a ++ (r ++ b)) front back
    ∙ sym (append_assoc (take (1 + room_size * i) s) r (take (list_size - room_size - (1 + room_size * i)) (drop (1 + room_size * i) s)))
    ∙ ap (λ (b : List ℕ). take (1 + room_size * i) s ++ b ++ take (list_size - room_size - (1 + room_size * i)) (drop (1 + room_size * i) s)) er
    ∙ ap (λ (a : List ℕ). a ++ room_of m ++ take (list_size - room_size - (1 + room_size * i)) (drop (1 + room_size * i) s)) (sym (part-front s (1 + room_size * i)))
