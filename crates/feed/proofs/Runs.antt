-- Laws of the plain run: it goes on from what is kept, a call's bytes behind some that yield nothing are counted from there, bytes other than LF are kept
-- while there is room and dropped where the line is too long. Assumes nothing.
use mathlib.Core.Path.{◌≡◌, refl, sym, ap, ◌∙◌}
use mathlib.Core.Bool.{true, false}
use mathlib.Core.List.{List, [], ◌∷◌, ◌++◌, append-nil, append_assoc, append-eq-nil_iff}
use Prim.Native.Nat.{ℕ, suc, ◌+◌, ◌≤◌, ◌<◌}
use native.Mathlib.Omega.{arith}
use lib.ListN.{length, length-append}
use lib.Seq.{append_snoc}
use lib.Dec.{eqb}
use borrow.Author.Tests.{le-leb, lt-leb, not-true}
use Rattle.octets.specs.Bytes.{lf, is_non_lf}
use Rattle.laws.specs.Lists.{all}
use Rattle.laws.proofs.Lists.{all_head, all_tail}
use Rattle.message.specs.Grammar.{line_limit}
use Rattle.feed.specs.Lines.{Whole, TooLong, Pending, Unfinished, Dropping, nothing, yielded, continued, after, events, after_all, used}

-- ---- some bytes behind others
pub after-append : (s t : List ℕ) (p : Pending) → after_all p (s ++ t) ≡ after_all (after_all p s) t
unfolding after_all
after-append [] t p = refl
after-append (b ∷ s) t p = after-append s t (after p b)

pub events-append : (s t : List ℕ) (p : Pending) → events p (s ++ t) ≡ events p s ++ events (after_all p s) t
unfolding events after_all
events-append [] t p = refl
events-append (b ∷ s) t p = rw (events-append s t (after p b)) (sym (append_assoc (yielded p b) (events (after p b) s) (events (after_all (after p b) s) t)))

pub used-append : (s t : List ℕ) (p : Pending) → events p s ≡ [] → used p (s ++ t) ≡ length s + used (after_all p s) t
unfolding events after_all used
used-append [] t p e = omega arith
used-append (b ∷ s) t p e =
    let parts = (append-eq-nil_iff {p = yielded p b} {q = events (after p b) s}).0 e in
    rw parts.0 (ap suc (used-append s t (after p b) parts.1) ∙ omega arith)

-- ---- bytes other than LF
not-lf : (b : ℕ) → is_non_lf b ≡ true → eqb b lf ≡ false
not-lf b e = not-true (eqb b lf) e

module _ (b : ℕ) (w : List ℕ) (room : length w < line_limit) (other : is_non_lf b ≡ true) where
  kept-silent : yielded (Unfinished w) b ≡ []
  unfolding yielded
  kept-silent = rw (lt-leb line_limit (length w) room, not-lf b other)

  kept_more : after (Unfinished w) b ≡ Unfinished (w ++ (b ∷ []))
  unfolding after continued
  kept_more = rw (not-lf b other, lt-leb line_limit (length w) room)

-- they are kept while the line has room
pub keeps-silent : (s w : List ℕ) → all is_non_lf s ≡ true → length w + length s ≤ line_limit → events (Unfinished w) s ≡ []
unfolding events
keeps-silent [] w e = λ h. refl
keeps-silent (b ∷ s) w e = λ h.
    let o = all_head is_non_lf b s e in
    let r : length w < line_limit = omega arith in
    rw (kept-silent b w r o, kept_more b w r o) (keeps-silent s (w ++ (b ∷ [])) (all_tail is_non_lf b s e) (omega (arith, length-append w (b ∷ []))))

pub keeps : (s w : List ℕ) → all is_non_lf s ≡ true → length w + length s ≤ line_limit → after_all (Unfinished w) s ≡ Unfinished (w ++ s)
unfolding after_all
keeps [] w e = λ h. ap Unfinished (sym (append-nil w))
keeps (b ∷ s) w e = λ h.
    let r : length w < line_limit = omega arith in
    rw (kept_more b w r (all_head is_non_lf b s e)) (keeps s (w ++ (b ∷ [])) (all_tail is_non_lf b s e) (omega (arith, length-append w (b ∷ []))) ∙ ap Unfinished (append_snoc w b s))

-- and dropped, where it is dropped
pub drops-silent : (s : List ℕ) → all is_non_lf s ≡ true → events Dropping s ≡ []
unfolding events yielded after continued
drops-silent [] e = refl
drops-silent (b ∷ s) e = rw (not-lf b (all_head is_non_lf b s e)) (drops-silent s (all_tail is_non_lf b s e))

pub drops : (s : List ℕ) → all is_non_lf s ≡ true → after_all Dropping s ≡ Dropping
unfolding after_all after continued
drops [] e = refl
drops (b ∷ s) e = rw (not-lf b (all_head is_non_lf b s e)) (drops s (all_tail is_non_lf b s e))

-- ---- a byte that yields something
-- the 513th
module _ (w : List ℕ) (full : length w ≡ line_limit) where
  pub full-yields : (b : ℕ) → yielded (Unfinished w) b ≡ TooLong ∷ []
  unfolding yielded
  full-yields b = rw (le-leb line_limit (length w) (omega arith))

  pub full-drops : (b : ℕ) → is_non_lf b ≡ true → after (Unfinished w) b ≡ Dropping
  unfolding after continued
  full-drops b other = rw (not-lf b other, le-leb line_limit (length w) (omega arith))

-- LF, after which nothing is kept
pub ends : (p : Pending) → after p lf ≡ nothing
unfolding after
ends p = refl

pub line-yields : (w : List ℕ) → length w < line_limit → yielded (Unfinished w) lf ≡ Whole (w ++ (lf ∷ [])) ∷ []
unfolding yielded
line-yields w room = rw (lt-leb line_limit (length w) room)
