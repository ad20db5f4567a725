-- The calls that a caller makes come to the plain run of the bytes joined: a call uses a byte at least, where there is one, yields what the bytes that it used yield,
-- and leaves the state that they leave; so however the bytes are cut, the calls with one piece after the other are one run. Assumes nothing.
use mathlib.Core.Path.{◌≡◌, refl, sym, ap, ◌∙◌}
use mathlib.Core.Bool.{Bool, true, false, cond}
use mathlib.Core.Logic.{◌⊎◌, inl, inr}
use mathlib.Core.List.{List, [], ◌∷◌, ◌++◌, append-nil}
use Prim.Native.Nat.{ℕ, zero, suc, ◌+◌, ◌≤◌, ◌<◌}
use native.Mathlib.Omega.{arith}
use lib.ListN.{length, take, drop, length-append, length-drop, take-append-drop, drop_of_length-le}
use lib.Seq.{take_all}
use lib.Dec.{eqb}
use borrow.Author.Tests.{ne_eqb, leb-false}
use Rattle.refusal.specs.Numbers.{accepted, line_too_long}
use Rattle.octets.specs.Bytes.{lf}
use Rattle.laws.specs.Lists.{is_nil}
use Rattle.laws.specs.Joins.{concatenated}
use Rattle.laws.proofs.Lists.{take-padded}
use Rattle.message.specs.Grammar.{line_limit}
use Rattle.feed.specs.declared.Feeder.{Feeder}
use Rattle.feed.specs.Lines.{Event, Whole, TooLong, Pending, Unfinished, Dropping, nothing, is_full, yielded, after, events, after_all, used}
use Rattle.feed.specs.Feeder.{state_of, state_after, is_reached, answer_of, answer_to, feed_answer}
use Rattle.feed.specs.Calls.{Feeding, yields, Run, then, calls, calls_over, Feeds}
use Rattle.feed.proofs.Runs.{after-append, events-append}
use Rattle.feed.proofs.States.{Sound, sound-all, sound-after, sound-start, sound-tested, pending-back, reaching, tested-reached}
use Rattle.feed.proofs.ByState.{answer-refused, answer-taken}

-- ---- one call
-- a byte is used, where there is one, and no more than there are
used-some : (p : Pending) (b : ℕ) (s : List ℕ) → 1 ≤ used p (b ∷ s)
unfolding used
used-some p b s = go (is_nil (yielded p b)) refl
  where
    go : (t : Bool) → is_nil (yielded p b) ≡ t → 1 ≤ used p (b ∷ s)
    go true e = rw e (omega arith)
    go false e = rw e (omega arith)

used-within : (s : List ℕ) (p : Pending) → used p s ≤ length s
unfolding used
used-within [] p = omega arith
used-within (b ∷ s) p = go (is_nil (yielded p b)) refl (used-within s (after p b))
  where
    go : (t : Bool) → is_nil (yielded p b) ≡ t → used (after p b) s ≤ length s → used p (b ∷ s) ≤ suc (length s)
    go true e ih = rw e (omega arith)
    go false e ih = rw e (omega arith)

-- the answer yields what a byte yields, or nothing
byte-yields : (p : Pending) (b : ℕ) → Sound p → (q : Pending) (n : ℕ) → yields (answer_of q n (yielded p b)) ≡ yielded p b
unfolding yielded answer_of yields
byte-yields (Unfinished w) b h q n = go (is_full w) (eqb b lf) refl refl
  where
    go : (t u : Bool) → is_full w ≡ t → eqb b lf ≡ u → yields (answer_of q n (yielded (Unfinished w) b)) ≡ yielded (Unfinished w) b
    go true u e f = rw e
    go false true e f =
        let line : List ℕ = w ++ (b ∷ []) in
        let size : length line ≡ length w + 1 = length-append w (b ∷ []) in
        rw (e, f, ne_eqb (length line) 0 (λ z. omega arith)) (ap (λ (l : List ℕ). Whole l ∷ []) (take-padded 0 line_limit line (omega (arith, leb-false line_limit (length w) e))))
    go false false e f = rw (e, f)
byte-yields Dropping b h q n = refl

none_yields : (q : Pending) (n : ℕ) → yields (answer_of q n []) ≡ []
unfolding answer_of yields
none_yields q n = refl

-- and so what the bytes that it used yield
used-yields : (s : List ℕ) (p : Pending) → Sound p → (q : Pending) (n : ℕ) → yields (answer_of q n (events p (take (used p s) s))) ≡ events p (take (used p s) s)
unfolding used events
used-yields [] p h q n = none_yields q n
used-yields (b ∷ s) p h q n = go (yielded p b) refl (used-yields s (after p b) (sound-after p b h) q n)
  where
    go : (es : List Event) → yielded p b ≡ es
        → yields (answer_of q n (events (after p b) (take (used (after p b) s) s))) ≡ events (after p b) (take (used (after p b) s) s)
        → yields (answer_of q n (events p (take (used p (b ∷ s)) (b ∷ s)))) ≡ events p (take (used p (b ∷ s)) (b ∷ s))
    go [] e ih = rw (e, e) ih
    go (x ∷ es) e ih = rw (e, append-nil (yielded p b)) (byte-yields p b h q n)

-- the rest of the answer
answer-state : (q : Pending) (n : ℕ) (es : List Event) → ((answer_of q n es).state ≡ state_of q) × ((answer_of q n es).used ≡ n)
unfolding answer_of
answer-state q n [] = (refl, refl)
answer-state q n (Whole l ∷ es) = (refl, refl)
answer-state q n (TooLong ∷ es) = (refl, refl)

pub answer-within : (p : Pending) (s : List ℕ) → (answer_to p s).used ≤ length s
unfolding answer_to
answer-within p s = rw (answer-state (after_all p (take (used p s) s)) (used p s) (events p (take (used p s) s))).1 (used-within s p)

answer-number : (q : Pending) (n : ℕ) (es : List Event) → ((answer_of q n es).number ≡ accepted) ⊎ ((answer_of q n es).number ≡ line_too_long)
unfolding answer_of
answer-number q n [] = inl refl
answer-number q n (Whole l ∷ es) = inl refl
answer-number q n (TooLong ∷ es) = inr refl

module _ (p : Pending) (s : List ℕ) (sound : Sound p) where
  abbrev front : List ℕ
  front = take (used p s) s

  call-is : feed_answer (state_of p) s ≡ answer_of (after_all p front) (used p s) (events p front)
  unfolding answer_to
  call-is = answer-taken (state_of p) s (sound-tested p sound) ∙ ap (λ (q : Pending). answer_to q s) (pending-back p sound)

  pub call-yields : yields (feed_answer (state_of p) s) ≡ events p front
  call-yields = rw call-is (used-yields s p sound (after_all p front) (used p s))

  call-state : (feed_answer (state_of p) s).state ≡ state_of (after_all p front)
  call-state = rw call-is (answer-state (after_all p front) (used p s) (events p front)).0

  call-used : (feed_answer (state_of p) s).used ≡ used p s
  call-used = rw call-is (answer-state (after_all p front) (used p s) (events p front)).1

-- a call that yields nothing used all bytes
silent-all : (s : List ℕ) (p : Pending) → events p (take (used p s) s) ≡ [] → used p s ≡ length s
unfolding used events
silent-all [] p e = refl
silent-all (b ∷ s) p e = go (yielded p b) refl (silent-all s (after p b))
  where
    go : (es : List Event) → yielded p b ≡ es → (events (after p b) (take (used (after p b) s) s) ≡ [] → used (after p b) s ≡ length s) → used p (b ∷ s) ≡ suc (length s)
    go [] f ih = rw f (ap suc (ih (rw (f, f) at e)))
    go (x ∷ es) f ih = let z : ◌≡◌ {A = ℕ} 0 1 = cc (rw (f, append-nil (yielded p b)) at e, f) in absurd (omega (arith, z))

-- ---- the calls with one piece
abbrev run : Pending → List ℕ → Run
run p s = record { yielded = events p s; state = state_of (after_all p s); unused = [] }

-- a run goes on from what is kept
run-then : (p : Pending) (s t : List ℕ) → then (events p s) [] (run (after_all p s) t) ≡ run p (s ++ t)
run-then p s t = rw (events-append s t p, after-append s t p)

-- a call that yields something used a byte
some-used : (s : List ℕ) (p : Pending) (e : Event) (es : List Event) → events p (take (used p s) s) ≡ e ∷ es → 1 ≤ used p s
unfolding events used
some-used [] p e es h = let z : ◌≡◌ {A = ℕ} 0 1 = cc in absurd (omega (arith, z))
some-used (b ∷ s) p e es h = used-some p b s

calls-run : (n : ℕ) (s : List ℕ) (p : Pending) → Sound p → length s < n → calls feed_answer n (state_of p) s ≡ run p s
unfolding calls
calls-run zero s p h = λ lt. absurd (omega arith)
calls-run (suc n) s p h = λ lt. rw (call-yields p s h, call-state p s h, call-used p s h) (go lt (events p (front p s h)) refl (calls-run n))
  where
    go : length s < suc n → (es : List Event) → events p (take (used p s) s) ≡ es
        → ((t : List ℕ) (q : Pending) → Sound q → length t < n → calls feed_answer n (state_of q) t ≡ run q t)
        → cond (is_nil (events p (take (used p s) s))) (record { yielded = []; state = state_of (after_all p (take (used p s) s)); unused = drop (used p s) s })
        (then (events p (take (used p s) s)) [] (calls feed_answer n (state_of (after_all p (take (used p s) s))) (drop (used p s) s)))
        ≡ run p s
    go lt [] e ih =
        let all : take (used p s) s ≡ s = take_all (used p s) s (omega (arith, silent-all s p e)) in
        let none : drop (used p s) s ≡ [] = drop_of_length-le s {i = used p s} (omega (arith, silent-all s p e)) in
        rw (e, all, none) (ap (λ (es : List Event). record { yielded = es; state = state_of (after_all p s); unused = [] }) (sym (rw all at e)))
    go lt (x ∷ es) e ih =
        let k : ℕ = used p s in
        let less : length (drop k s) < n = omega (arith, length-drop k s, some-used s p x es e, used-within s p) in
        rw (e, ih (drop k s) (after_all p (take k s)) (sound-all (take k s) p h) less)
        (ap (λ (l : List Event). then l [] (run (after_all p (take k s)) (drop k s))) (sym e) ∙ run-then p (take k s) (drop k s) ∙ ap (run p) (take-append-drop k s))

-- ---- one piece after the other
pieces-run : (pieces : List (List ℕ)) (p : Pending) → Sound p → calls_over feed_answer (state_of p) pieces ≡ run p (concatenated pieces)
unfolding calls_over events after_all
pieces-run [] p h = refl
pieces-run (s ∷ pieces) p h =
    rw (calls-run (suc (length s)) s p h (omega arith), pieces-run pieces (after_all p s) (sound-all s p h)) (run-then p s (concatenated pieces))

-- ---- the claims hold of ours
pub feeds : Feeds feed_answer
feeds = record {
  refuses = λ f s none. answer-refused f s (untested f none (is_reached f) refl);
  numbers = λ earlier s. rw (call-is (after_all nothing earlier) s (sound-start earlier)) (answer-number (after_all (after_all nothing earlier) _) (used (after_all nothing earlier) s) (events (after_all nothing earlier) _));
  within = λ earlier s. rw (call-used (after_all nothing earlier) s (sound-start earlier)) (used-within s (after_all nothing earlier));
  runs = λ earlier pieces.
      pieces-run pieces (after_all nothing earlier) (sound-start earlier)
      ∙ ap (λ (q : Pending). record { yielded = events (after_all nothing earlier) (concatenated pieces); state = state_of q; unused = [] }) (sym (after-append earlier (concatenated pieces) nothing));
}
  where
    untested : (f : Feeder) → ((earlier : List ℕ) → f ≡ state_after earlier → ⊥) → (t : Bool) → is_reached f ≡ t → is_reached f ≡ false
    untested f none true e = absurd (none (reaching f) (tested-reached f e))
    untested f none false e = e

-- "Never on the cuts": by the claims, pieces that are the same bytes, joined, come to the same.
pub cuts : (feed : Feeding) → Feeds feed → (earlier : List ℕ) (pieces others : List (List ℕ)) → concatenated pieces ≡ concatenated others
    → calls_over feed (state_after earlier) pieces ≡ calls_over feed (state_after earlier) others
cuts feed f earlier pieces others e = f.runs earlier pieces ∙ rw e (sym (f.runs earlier others))
