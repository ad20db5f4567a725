-- Laws of a text that a pen puts together: pieces put one after the other are one piece, and at the end the text is what was put, where that has room. Assumes nothing.
use Rattle.std.proofs.Common.{◌≡◌, refl, sym, ap, ◌∙◌, ℕ, suc, ◌+◌, ◌-◌, ◌≤◌, ◌<◌, Bool, true, false, cond, ◌&&◌, List, [], ◌∷◌, ◌++◌, Some, None, map, length, get_or, take, drop, leb, append_assoc, length-append, arith}
use mathlib.Core.List.{append-nil, map-append}
use Rattle.std.proofs.lemmas.List.{take_more}
use lib.Seq.{take_at, length-take-le}
use borrow.Author.Tests.{le-leb, lt-leb, leb-true, leb-false}
use Rattle.std.specs.Option.{unwrap_or}
use Rattle.octets.specs.Room.{put_at, end_of, front}
use Rattle.octets.specs.Pages.{Page, Open, Full, fresh, added, text_of, text_for, page_of}
use Rattle.octets.proofs.Room.{put-fits, end_fits, end-over, put_front, length-put, part-front}

-- ---- a piece, by whether it has room
pub added-fits : (w : List ℕ) (n : ℕ) (p : List ℕ) → length p ≤ n → added (Open w n) p ≡ Open (w ++ p) (n - length p)
unfolding added
added-fits w n p h = rw (le-leb (length p) n h)

pub added-over : (w : List ℕ) (n : ℕ) (p : List ℕ) → n < length p → added (Open w n) p ≡ Full
unfolding added
added-over w n p h = rw (lt-leb (length p) n h)

pub added-full : (p : List ℕ) → added Full p ≡ Full
unfolding added
added-full p = refl

-- ---- pieces
-- nothing put changes nothing
pub added_nothing : (g : Page) → added g [] ≡ g
added_nothing (Open w n) = added-fits w n [] (omega arith) ∙ rw (append-nil w) (ap (Open w) (omega arith))
added_nothing Full = added-full []

-- two pieces are one
pub added_then : (g : Page) (p q : List ℕ) → added (added g p) q ≡ added g (p ++ q)
added_then Full p q = simp added-full
added_then (Open w n) p q = go (leb (length p) n) refl (leb (length (p ++ q)) n) refl
  where
    go : (t : Bool) → leb (length p) n ≡ t → (u : Bool) → leb (length (p ++ q)) n ≡ u → added (added (Open w n) p) q ≡ added (Open w n) (p ++ q)
    go true e true f =
        let h : length p ≤ n = leb-true (length p) n e in
        let k : length (p ++ q) ≤ n = leb-true (length (p ++ q)) n f in
        rw (added-fits w n p h, added-fits w n (p ++ q) k) (added-fits (w ++ p) (n - length p) q (omega (arith, length-append p q)) ∙ rw (append_assoc w p q) (ap (Open (w ++ (p ++ q))) (omega (arith, length-append p q))))
    go true e false f =
        let h : length p ≤ n = leb-true (length p) n e in
        let k : n < length (p ++ q) = leb-false (length (p ++ q)) n f in
        rw (added-fits w n p h, added-over w n (p ++ q) k) (added-over (w ++ p) (n - length p) q (omega (arith, length-append p q)))
    go false e u f =
        let h : n < length p = leb-false (length p) n e in
        rw (added-over w n p h, added-over w n (p ++ q) (omega (arith, length-append p q))) (added-full q)

-- what a chain of puts needs, of parts of lent bytes too
pub ruleset pieces = (added_then, added_nothing, part-front)

-- ---- a loop that puts pieces: what is put so far, with the rest behind it, is all of them
pub added_step : (first g next : Page) (all p rest more : List ℕ) → rest ≡ p ++ more → next ≡ added g p → added g rest ≡ added first all → added next more ≡ added first all
added_step first g next all p rest more e f h = rw f (added_then g p more) ∙ ap (added g) (sym e) ∙ h

pub added_end : (first g : Page) (all rest : List ℕ) → rest ≡ [] → added g rest ≡ added first all → g ≡ added first all
added_end first g all rest e h = sym (added_nothing g) ∙ ap (added g) (sym e) ∙ h

-- of each byte one, the next behind those of the bytes before
pub added_map_more : (g : Page) (f : ℕ → ℕ) (s : List ℕ) (i : ℕ) → i < length s → added g (map f (take (i + 1) s)) ≡ added (added g (map f (take i s))) (f (get_or s i 0) ∷ [])
added_map_more g f s i h = ap (λ (l : List ℕ). added g (map f l)) (take_more s i 0 h) ∙ ap (added g) (map-append f (take i s) (get_or s i 0 ∷ [])) ∙ sym (added_then g (map f (take i s)) (f (get_or s i 0) ∷ []))

-- ---- a page of some room
module _ (room : List ℕ) (at : ℕ) where
  page-open : at ≤ length room → page_of room at ≡ Open (take at room) (length room - at)
  unfolding page_of
  page-open h = rw (le-leb at (length room) h)

  page-full : length room < at → page_of room at ≡ Full
  unfolding page_of
  page-full h = rw (lt-leb at (length room) h)

pub page-begins : (room : List ℕ) → page_of room 0 ≡ fresh (length room)
page-begins room = page-open room 0 (omega arith) ∙ ap (Open []) (omega arith)

-- what is put into the room is a piece
pub page-put : (room : List ℕ) (at : ℕ) (p : List ℕ) → page_of (put_at room at p) (end_of room at p) ≡ added (page_of room at) p
page-put room at p = go (leb (at + length p) (length room)) refl (leb at (length room)) refl
  where
    next : List ℕ
    next = put_at room at p

    go : (t : Bool) → leb (at + length p) (length room) ≡ t → (u : Bool) → leb at (length room) ≡ u → page_of next (end_of room at p) ≡ added (page_of room at) p
    go true e u f =
        let h : at + length p ≤ length room = leb-true (at + length p) (length room) e in
        let text : take (at + length p) next ≡ take at room ++ p =
        ap (take (at + length p)) (put-fits room at p h) ∙ take_at (take at room ++ p) (drop (at + length p) room) (at + length p) (omega (arith, length-append (take at room) p, length-take-le at room (omega arith))) in
        ap (page_of next) (end_fits room at p h)
        ∙ page-open next (at + length p) (omega (arith, length-put room at p))
        ∙ rw text (ap (Open (take at room ++ p)) (omega (arith, length-put room at p)))
        ∙ sym (added-fits (take at room) (length room - at) p (omega arith))
        ∙ ap (λ (g : Page). added g p) (sym (page-open room at (omega arith)))
    go false e true f =
        let h : length room < at + length p = leb-false (at + length p) (length room) e in
        let k : at ≤ length room = leb-true at (length room) f in
        ap (page_of next) (end-over room at p h)
        ∙ page-full next (suc (length room)) (omega (arith, length-put room at p))
        ∙ sym (ap (λ (g : Page). added g p) (page-open room at k) ∙ added-over (take at room) (length room - at) p (omega arith))
    go false e false f =
        let h : length room < at + length p = leb-false (at + length p) (length room) e in
        ap (page_of next) (end-over room at p h)
        ∙ page-full next (suc (length room)) (omega (arith, length-put room at p))
        ∙ sym (ap (λ (g : Page). added g p) (page-full room at (leb-false at (length room) f)) ∙ added-full p)

pub page_puts : (room next : List ℕ) (at r : ℕ) (p : List ℕ) (g : Page) → next ≡ put_at room at p → r ≡ end_of room at p → page_of room at ≡ g → page_of next r ≡ added g p
page_puts room next at r p g e f h = rw (e, f) (page-put room at p ∙ ap (λ (k : Page). added k p) h)

-- its text, if there is one
pub page_text : (room : List ℕ) (at : ℕ) (g : Page) → page_of room at ≡ g → at ≤ length room → text_of g ≡ Some (take at room)
page_text room at g e h = ap text_of (sym e ∙ page-open room at h)

pub page_none : (room : List ℕ) (at : ℕ) (g : Page) → page_of room at ≡ g → length room < at → text_of g ≡ None
page_none room at g e h = ap text_of (sym e ∙ page-full room at h)

-- and that goes to the front of some output, where it has room
pub page_copied : (g : Page) (w out next : List ℕ) → text_of g ≡ Some w → length w ≤ length out → next ≡ put_at out 0 w → next ≡ front (unwrap_or (text_for out g) []) out
page_copied Full w out next e = λ h f. absurd (cc)
page_copied (Open v n) w out next e = λ h f.
    let v=w : v ≡ w = cc in
    rw (v=w, le-leb (length w) (length out) h) (f ∙ put_front out w h)

-- ---- the text of a whole page
module _ (g : Page) (n : ℕ) (w : List ℕ) (put : g ≡ added (fresh n) w) where
  -- if there is one, it is what was put
  pub text-fits : (t : List ℕ) → text_of g ≡ Some t → (t ≡ w) × (length w ≤ n)
  text-fits t e = go (leb (length w) n) refl
    where
      go : (u : Bool) → leb (length w) n ≡ u → (t ≡ w) × (length w ≤ n)
      go true f = let h : length w ≤ n = leb-true (length w) n f in let d = ap text_of (put ∙ added-fits [] n w h) in (cc, h)
      go false f = let d = ap text_of (put ∙ added-over [] n w (leb-false (length w) n f)) in absurd (cc)

  -- and else that was too long
  pub text-over : text_of g ≡ None → n < length w
  text-over e = go (leb (length w) n) refl
    where
      go : (u : Bool) → leb (length w) n ≡ u → n < length w
      go true f = let d = ap text_of (put ∙ added-fits [] n w (leb-true (length w) n f)) in absurd (cc)
      go false f = leb-false (length w) n f

-- and it goes out whole, where both have room for it
pub text_goes : (n : ℕ) (w out : List ℕ) → text_for out (added (fresh n) w) ≡ cond (leb (length w) n && leb (length w) (length out)) (Some w) None
text_goes n w out = go (leb (length w) n) refl
  where
    go : (u : Bool) → leb (length w) n ≡ u → text_for out (added (fresh n) w) ≡ cond (u && leb (length w) (length out)) (Some w) None
    go true f = ap (text_for out) (added-fits [] n w (leb-true (length w) n f))
    go false f = ap (text_for out) (added-over [] n w (leb-false (length w) n f))
