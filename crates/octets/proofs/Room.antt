-- Laws of parts of lent bytes, and of bytes put into room: what is put keeps the length, and adds to what a line holds. Assumes nothing.
use mathlib.Core.Path.{◌≡◌, refl, sym, ap, ◌∙◌}
use mathlib.Core.Bool.{Bool, true, false}
use mathlib.Core.List.{List, [], ◌++◌, append-nil, append_assoc}
use Prim.Native.Nat.{ℕ, suc, ◌+◌, ◌-◌, ◌≤◌, ◌<◌, min}
use native.Mathlib.Nat.{zero-add}
use native.Mathlib.Omega.{arith}
use lib.ListN.{length, take, drop, get_or, replicate, length-append, length-take, length-drop, length-replicate, get_or-replicate, take-append-drop, drop_of_length-le}
use lib.Seq.{paste, take-append_seam, take-append-le, drop-append-le, take-add, drop-append-add, drop-drop, drop_at, take_at, take_all, length-take-le, get_or-append-add, get_or-drop}
use Rattle.std.proofs.lemmas.List.{take_min, drop-replicate}
use borrow.Author.Tests.{le-leb, leb-true, leb-false, lt-leb}
use Rattle.laws.specs.Lists.{padded}
use Rattle.octets.specs.Room.{part, fits, put_at, end_of, front}
use Rattle.octets.specs.Private.Additions.{Holds, Adds, AtFront}
use Rattle.laws.proofs.Lists.{front-part, padded-take, padded-behind, padded-cut}

-- ---- a part at either end
pub part-front : (s : List ℕ) (n : ℕ) → part s 0 n ≡ take n s
unfolding part
part-front s n = let e : n - 0 ≡ n = omega arith in rw e

-- the next n bytes from a place on
pub part-next : (s : List ℕ) (start n : ℕ) → part s start (start + n) ≡ take n (drop start s)
unfolding part
part-next s start n = let e : start + n - start ≡ n = omega arith in rw e

pub part-back : (s : List ℕ) (start end : ℕ) → length s ≤ end → part s start end ≡ drop start s
unfolding part
part-back s start end h = take_all (end - start) (drop start s) (omega (arith, length-drop start s))

-- as many bytes as lie between the two places
pub length_part : (s : List ℕ) (start end : ℕ) → end ≤ length s → length (part s start end) ≡ end - start
unfolding part
length_part s start end h = length-take-le (end - start) (drop start s) (omega (arith, length-drop start s))

-- and no more, wherever these are
pub part-short : (s : List ℕ) (start end : ℕ) → length (part s start end) ≤ end - start
unfolding part
part-short s start end = omega (arith, length-take (end - start) (drop start s))

-- ---- all of a list copied over another of its length
pub pasted-whole : (out p : List ℕ) → length out ≡ length p → paste out 0 p (length p) ≡ p
pasted-whole out p e = let past : length out ≤ 0 + length p = omega (arith, e) in rw (take_all (length p) p (omega arith), drop_of_length-le out past) (append-nil p)

-- ---- what is put
module _ (out : List ℕ) (at : ℕ) (p : List ℕ) where
  pub put-fits : at + length p ≤ length out → put_at out at p ≡ take at out ++ p ++ drop (at + length p) out
  unfolding put_at
  put-fits h = rw (le-leb (at + length p) (length out) h)

  pub put-over : length out < at + length p → put_at out at p ≡ out
  unfolding put_at
  put-over h = rw (lt-leb (at + length p) (length out) h)

  pub end_fits : at + length p ≤ length out → end_of out at p ≡ at + length p
  unfolding end_of
  end_fits h = rw (le-leb (at + length p) (length out) h)

  pub end-over : length out < at + length p → end_of out at p ≡ suc (length out)
  unfolding end_of
  end-over h = rw (lt-leb (at + length p) (length out) h)

-- what is put at the front
pub put_front : (out p : List ℕ) → length p ≤ length out → put_at out 0 p ≡ front p out
put_front out p h = put-fits out 0 p (omega arith) ∙ rw (zero-add (length p))

-- and right behind what stands there
pub put-behind : (out p q : List ℕ) → length p + length q ≤ length out → put_at (front p out) (length p) q ≡ front (p ++ q) out
put-behind out p q h =
    put-fits (front p out) (length p) q (omega (arith, length-append p (drop (length p) out), length-drop (length p) out))
    ∙ rw (take-append_seam p (drop (length p) out), drop-append-add p (drop (length p) out) (length q), drop-drop (length q) (length p) out, length-append p q)

pub length-put : (out : List ℕ) (at : ℕ) (p : List ℕ) → length (put_at out at p) ≡ length out
length-put out at p = go (fits out at p) refl
  where
    go : (t : Bool) → fits out at p ≡ t → length (put_at out at p) ≡ length out
    go true e =
        let h : at + length p ≤ length out = leb-true (at + length p) (length out) e in
        rw (put-fits out at p h) (simp length-append (omega (arith, length-take-le at out (omega arith), length-drop (at + length p) out)))
    go false e = ap (λ (l : List ℕ). length l) (put-over out at p (leb-false (at + length p) (length out) e))

-- a part put where it stands changes nothing
pub put_same : (out : List ℕ) (at n : ℕ) → at + n ≤ length out → put_at out at (part out at (at + n)) ≡ out
put_same out at n h =
    let e : length (part out at (at + n)) ≡ n = length_part out at (at + n) h ∙ omega arith in
    put-fits out at (part out at (at + n)) (omega arith)
    ∙ ap (λ (k : ℕ). (take at out ++ part out at (at + n)) ++ drop (at + k) out) e
    ∙ ap (λ (l : List ℕ). (take at out ++ l) ++ drop (at + n) out) (part-next out at n)
    ∙ ap (λ (l : List ℕ). l ++ drop (at + n) out) (sym (take-add at n out))
    ∙ take-append-drop (at + n) out

-- three parts, one behind the other, that fill the room
pub put_three : (z p q r x y w : List ℕ) (i j : ℕ) → i ≡ length p → j ≡ length p + length q → length p + length q + length r ≡ length z
    → x ≡ put_at z 0 p → y ≡ put_at x i q → w ≡ put_at y j r → w ≡ p ++ q ++ r
put_three z p q r x y w i j ei ej n ex ey ew =
    let a : x ≡ front p z = ex ∙ put_front z p (omega arith) in
    let b : y ≡ front (p ++ q) z = ey ∙ rw (a, ei) (put-behind z p q (omega arith)) in
    let c : w ≡ front ((p ++ q) ++ r) z = ew ∙ rw (b, ej, ← length-append p q) (put-behind z (p ++ q) r (omega (arith, length-append p q))) in
    c
    ∙ ap (λ (l : List ℕ). ((p ++ q) ++ r) ++ l) (drop_of_length-le z {i = length ((p ++ q) ++ r)} (omega (arith, length-append (p ++ q) r, length-append p q)))
    ∙ append-nil ((p ++ q) ++ r)

-- ---- a part of bytes into which others were put
module _ (out : List ℕ) (at : ℕ) (p : List ℕ) (h : at + length p ≤ length out) where
  -- those
  pub part-put : part (put_at out at p) at (at + length p) ≡ p
  part-put =
      part-next (put_at out at p) at (length p)
      ∙ ap (λ (l : List ℕ). take (length p) (drop at l)) (put-fits out at p h ∙ append_assoc (take at out) p (drop (at + length p) out))
      ∙ ap (take (length p)) (drop_at (take at out) (p ++ drop (at + length p) out) at (length-take-le at out (omega arith)))
      ∙ take-append_seam p (drop (at + length p) out)

  -- or what stood before them
  pub part-before : (start n : ℕ) → start + n ≤ at → part (put_at out at p) start (start + n) ≡ part out start (start + n)
  part-before start n k =
      let e : length (take at out) ≡ at = length-take-le at out (omega arith) in
      part-next (put_at out at p) start n
      ∙ ap (λ (l : List ℕ). take n (drop start l)) (put-fits out at p h)
      ∙ front-part (take at out ++ p) (drop (at + length p) out) start n (omega (arith, length-append (take at out) p))
      ∙ front-part (take at out) p start n (omega arith)
      ∙ sym (front-part (take at out) (drop at out) start n (omega arith))
      ∙ ap (λ (l : List ℕ). take n (drop start l)) (take-append-drop at out)
      ∙ sym (part-next out start n)

  -- or behind them
  pub part-behind : (start end : ℕ) → at + length p ≤ start → part (put_at out at p) start end ≡ part out start end
  unfolding part
  part-behind start end k =
      let e : length (take at out ++ p) + (start - (at + length p)) ≡ start = omega (arith, length-append (take at out) p, length-take-le at out (omega arith)) in
      let f : at + length p + (start - (at + length p)) ≡ start = omega arith in
      ap (take (end - start))
      (ap (drop start) (put-fits out at p h)
      ∙ ap (λ (n : ℕ). drop n ((take at out ++ p) ++ drop (at + length p) out)) (sym e)
      ∙ drop-append-add (take at out ++ p) (drop (at + length p) out) (start - (at + length p))
      ∙ drop-drop (start - (at + length p)) (at + length p) out
      ∙ ap (λ (n : ℕ). drop n out) f)

-- ---- what a line holds
pub holds-nothing : (line : List ℕ) → Holds line 0 []
holds-nothing line = record { counts = omega arith; begins = λ q. refl }

-- what is put is added
put-adds : (line : List ℕ) (at : ℕ) (p : List ℕ) → Adds line at (put_at line at p) (end_of line at p) p
put-adds line at p = record { keeps = length-put line at p; adds = λ w h. go w h (fits line at p) refl }
  where
    go : (w : List ℕ) → Holds line at w → (t : Bool) → fits line at p ≡ t → Holds (put_at line at p) (end_of line at p) (w ++ p)
    go w h true e =
        let room : at + length p ≤ length line = leb-true (at + length p) (length line) e in
        rw (put-fits line at p room, end_fits line at p room) (record {
          counts = omega (arith, h.counts, length-append w p, ap (λ (l : List ℕ). length l) (sym (put-fits line at p room)), length-put line at p);
          begins = λ q. take_at (take at line ++ p) (drop (at + length p) line) (at + length p) (omega (arith, length-append (take at line) p, length-take-le at line (omega arith))) ∙ rw (h.begins (omega arith));
        })
    go w h false e =
        let over : length line < at + length p = leb-false (at + length p) (length line) e in
        rw (put-over line at p over, end-over line at p over) (record {
          counts = omega (arith, h.counts, length-append w p);
          begins = λ q. absurd (omega arith);
        })

pub added : (line : List ℕ) (at : ℕ) (next : List ℕ) (r : ℕ) (p : List ℕ) → r ≡ end_of line at p → next ≡ put_at line at p → Adds line at next r p
added line at next r p e f = rw (e, f) (put-adds line at p)

-- nothing is added where nothing changes
pub adds-nothing : (line : List ℕ) (at : ℕ) → Adds line at line at []
adds-nothing line at = record { keeps = refl; adds = λ w h. rw (append-nil w) h }

-- a part that is longer than the line has no room, whatever is held
pub adds-over : (line : List ℕ) (at r : ℕ) (p : List ℕ) → length line < length p → r ≡ suc (length line) → Adds line at line r p
adds-over line at r p h e = record { keeps = refl; adds = λ w g. record { counts = omega (arith, length-append w p); begins = λ q. absurd (omega arith) } }

-- what is added first and then
pub adds_then : (line next last : List ℕ) (at r s : ℕ) (p q : List ℕ) → Adds line at next r p → Adds next r last s q → Adds line at last s (p ++ q)
adds_then line next last at r s p q f g = record {
  keeps = g.keeps ∙ f.keeps;
  adds = λ w h. rw (append_assoc w p q) at (g.adds (w ++ p) (f.adds w h));
}

-- ---- what was added to empty room stands at its front, where there is room for it
module _ (empty line : List ℕ) (r : ℕ) (w : List ℕ) (adds : Adds empty 0 line r w) (room : length w ≤ length empty) where
  held : Holds line r w
  held = adds.adds [] (holds-nothing empty)

  pub added-end : r ≡ length w
  added-end = omega (arith, held.counts, adds.keeps)

  pub added-front : take r line ≡ w
  added-front = held.begins (omega (arith, added-end, adds.keeps))

  pub added-at-front : AtFront line r w
  added-at-front = record { counts = added-end; begins = added-front }

-- what was put at the front stands there
pub at_front : (out next : List ℕ) (n : ℕ) (w : List ℕ) → n ≡ length w → next ≡ front w out → AtFront next n w
at_front out next n w e f = record { counts = e; begins = rw (e, f) (take-append_seam w (drop (length w) out)) }

-- the rest of it, from a place on
pub rest_of : (buffer s : List ℕ) (n k : ℕ) → AtFront buffer n s → k ≤ length s → part buffer k n ≡ drop k s
rest_of buffer s n k f h =
    let whole : buffer ≡ s ++ drop n buffer = sym (take-append-drop n buffer) ∙ ap (λ (l : List ℕ). l ++ drop n buffer) f.begins in
    let end : n ≡ k + (n - k) = omega (arith, f.counts) in
    ap (part buffer k) end
    ∙ part-next buffer k (n - k)
    ∙ ap (λ (l : List ℕ). take (n - k) (drop k l)) whole
    ∙ ap (take (n - k)) (drop-append-le k s (drop n buffer) h)
    ∙ take-append-le (n - k) (drop k s) (drop n buffer) (omega (arith, f.counts, length-drop k s))
    ∙ take_all (n - k) (drop k s) (omega (arith, f.counts, length-drop k s))

-- ---- a loop that puts part after part
-- What was added, with what is still to be put, comes to the goal.
pub record Begun (line : List ℕ) (at : ℕ) (next : List ℕ) (r : ℕ) (more goal : List ℕ) : Type 0 where
  pub text : List ℕ
  pub adding : Adds line at next r text
  pub comes : text ++ more ≡ goal

pub begun : (line : List ℕ) (at : ℕ) (goal : List ℕ) → Begun line at line at goal goal
begun line at goal = record { text = []; adding = adds-nothing line at; comes = refl }

pub begun-step : (line next last : List ℕ) (at r s : ℕ) (p more more' goal : List ℕ) → more ≡ p ++ more' → Adds next r last s p → Begun line at next r more goal → Begun line at last s more' goal
begun-step line next last at r s p more more' goal e g b = record {
  text = b.text ++ p;
  adding = adds_then line next last at r s b.text p b.adding g;
  comes = append_assoc b.text p more' ∙ ap (λ (l : List ℕ). b.text ++ l) (sym e) ∙ b.comes;
}

pub begun-end : (line next : List ℕ) (at r : ℕ) (more goal : List ℕ) → more ≡ [] → Begun line at next r more goal → Adds line at next r goal
begun-end line next at r more goal e b =
    let q : b.text ≡ goal = sym (append-nil b.text) ∙ ap (λ (l : List ℕ). b.text ++ l) (sym e) ∙ b.comes in
    rw q at b.adding

-- ---- bytes put into room that is zero stand there padded
module _ (n : ℕ) (p : List ℕ) (h : length p ≤ n) where
  abbrev room : List ℕ
  room = replicate n 0

  zero-behind : (k : ℕ) → length p ≤ k → k < n → get_or (front p room) k 0 ≡ 0
  zero-behind k f g =
      let e : k ≡ length p + (k - length p) = omega arith in
      ap (λ (j : ℕ). get_or (front p room) j 0) e
      ∙ get_or-append-add p (drop (length p) room) (k - length p) 0
      ∙ get_or-drop (length p) room (k - length p) 0
      ∙ get_or-replicate n (length p + (k - length p)) 0 0 (omega arith)

  front-padded : front p room ≡ padded n 0 p
  front-padded =
      sym (padded-take 0 (length p) n (front p room) (omega (arith, length-append p (drop (length p) room), length-drop (length p) room, length-replicate {A = ℕ} n 0)) zero-behind)
      ∙ ap (padded n 0) (take-append_seam p (drop (length p) room))

  pub put-padded : put_at room 0 p ≡ padded n 0 p
  put-padded = put_front room p (omega (arith, length-replicate {A = ℕ} n 0)) ∙ front-padded

-- bytes copied to the front of such room, as far as there is room for them
pub copied-padded : (n k : ℕ) (s : List ℕ) → k ≡ min (length s) n → take k s ++ drop k (replicate n 0) ≡ padded n 0 s
copied-padded n k s e =
    let f : k ≡ min n (length s) = omega arith in
    let m : length (take n s) ≡ k = omega (arith, length-take n s) in
    let front : take k s ≡ take n s = rw f (take_min n s) in
    let rest : drop {A = ℕ} k (replicate n 0) ≡ replicate (n - length (take n s)) 0 = rw m (drop-replicate k n 0) in
    rw (front, rest) (sym (padded-behind 0 n (take n s) (omega arith)) ∙ padded-cut 0 n s)

-- and more of them behind those
pub put-padded-behind : (n : ℕ) (p q : List ℕ) → length p + length q ≤ n → put_at (padded n 0 p) (length p) q ≡ padded n 0 (p ++ q)
put-padded-behind n p q h =
    ap (λ (l : List ℕ). put_at l (length p) q) (sym (front-padded n p (omega arith)))
    ∙ put-behind (replicate n 0) p q (omega (arith, length-replicate {A = ℕ} n 0))
    ∙ front-padded n (p ++ q) (omega (arith, length-append p q))
