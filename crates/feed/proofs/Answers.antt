-- Laws of the answer to a call: behind bytes that yield nothing it is that of the rest, a byte that yields something ends the call, and so each way in which a
-- line goes on has its answer. Assumes nothing.
use mathlib.Core.Path.{◌≡◌, refl, sym, ap, ◌∙◌}
use mathlib.Core.Bool.{true}
use mathlib.Core.List.{List, [], ◌∷◌, ◌++◌, append-nil}
use Prim.Native.Nat.{ℕ, ◌+◌, ◌≤◌, ◌<◌}
use native.Mathlib.Omega.{arith}
use lib.ListN.{length, take, length-append}
use lib.Seq.{take-append-add}
use Rattle.refusal.specs.Numbers.{accepted, line_too_long}
use Rattle.octets.specs.Bytes.{lf, is_non_lf}
use Rattle.laws.specs.Lists.{all}
use Rattle.message.specs.Grammar.{line_limit}
use Rattle.feed.specs.Lines.{Event, Whole, TooLong, Pending, Unfinished, Dropping, nothing, yielded, after, events, after_all, used}
use Rattle.feed.specs.Feeder.{state_of, fed, answer_of, answer_to}
use Rattle.feed.specs.Private.Gathering.{past}
use Rattle.feed.proofs.Runs.{after-append, events-append, used-append, keeps-silent, keeps, drops-silent, drops, full-yields, full-drops, ends, line-yields}

-- ---- behind bytes that yield nothing
past-answer : (n : ℕ) (p : Pending) (m : ℕ) (es : List Event) → past n (answer_of p m es) ≡ answer_of p (n + m) es
unfolding answer_of
past-answer n p m [] = refl
past-answer n p m (Whole l ∷ es) = refl
past-answer n p m (TooLong ∷ es) = refl

module _ (p : Pending) (s t : List ℕ) (silent : events p s ≡ []) where
  abbrev more : ℕ
  more = used (after_all p s) t

  front : take (used p (s ++ t)) (s ++ t) ≡ s ++ take more t
  front = rw (used-append s t p silent) (take-append-add s t more)

  answer-behind : answer_to p (s ++ t) ≡ past (length s) (answer_to (after_all p s) t)
  unfolding answer_to
  answer-behind =
      rw (front, used-append s t p silent, after-append s (take more t) p, events-append s (take more t) p, silent)
      (sym (past-answer (length s) (after_all (after_all p s) (take more t)) more (events (after_all p s) (take more t))))

-- ---- no byte, and one that yields something
answer-none : (p : Pending) → answer_to p [] ≡ fed (state_of p) 0 [] accepted
unfolding answer_to answer_of used events after_all
answer-none p = refl

answer-now : (p : Pending) (b : ℕ) (t : List ℕ) (e : Event) → yielded p b ≡ e ∷ [] → answer_to p (b ∷ t) ≡ answer_of (after p b) 1 (e ∷ [])
unfolding answer_to used events after_all
answer-now p b t e h = rw (h, h)

-- ---- each way in which an unfinished line goes on
module _ (w u : List ℕ) (clean : all is_non_lf u ≡ true) where
  behind : (t : List ℕ) → length w + length u ≤ line_limit → answer_to (Unfinished w) (u ++ t) ≡ past (length u) (answer_to (Unfinished (w ++ u)) t)
  behind t h = rw (keeps u w clean h) at (answer-behind (Unfinished w) u t (keeps-silent u w clean h))

  -- no LF, and room for all
  pub answer-kept : length w + length u ≤ line_limit → answer_to (Unfinished w) u ≡ fed (state_of (Unfinished (w ++ u))) (length u) [] accepted
  answer-kept h =
      ap (answer_to (Unfinished w)) (sym (append-nil u))
      ∙ behind [] h
      ∙ ap (past (length u)) (answer-none (Unfinished (w ++ u)))
      ∙ ap (λ (n : ℕ). fed (state_of (Unfinished (w ++ u))) n [] accepted) (omega arith)

  -- a 513th byte that isn't LF
  pub answer-dropped : (b : ℕ) (t : List ℕ) → length w + length u ≡ line_limit → is_non_lf b ≡ true → answer_to (Unfinished w) (u ++ b ∷ t) ≡ fed (state_of Dropping) (length u + 1) [] line_too_long
  unfolding answer_of
  answer-dropped b t h e =
      let full : length (w ++ u) ≡ line_limit = length-append w u ∙ h in
      behind (b ∷ t) (omega arith) ∙ ap (past (length u)) (answer-now (Unfinished (w ++ u)) b t TooLong (full-yields (w ++ u) full b) ∙ rw (full-drops (w ++ u) full b e))

  -- a 513th byte that is LF
  pub answer-over : (t : List ℕ) → length w + length u ≡ line_limit → answer_to (Unfinished w) (u ++ lf ∷ t) ≡ fed (state_of nothing) (length u + 1) [] line_too_long
  unfolding answer_of
  answer-over t h =
      let full : length (w ++ u) ≡ line_limit = length-append w u ∙ h in
      behind (lf ∷ t) (omega arith) ∙ ap (past (length u)) (answer-now (Unfinished (w ++ u)) lf t TooLong (full-yields (w ++ u) full lf) ∙ rw (ends (Unfinished (w ++ u))))

  -- LF before that
  pub answer-line : (t : List ℕ) → length w + length u < line_limit → answer_to (Unfinished w) (u ++ lf ∷ t) ≡ fed (state_of nothing) (length u + 1) (w ++ u ++ (lf ∷ [])) accepted
  unfolding answer_of
  answer-line t h =
      let room : length (w ++ u) < line_limit = omega (arith, length-append w u) in
      behind (lf ∷ t) (omega arith) ∙ ap (past (length u)) (answer-now (Unfinished (w ++ u)) lf t (Whole (w ++ u ++ (lf ∷ []))) (line-yields (w ++ u) room) ∙ rw (ends (Unfinished (w ++ u))))

-- ---- and a line that is dropped
pub answer-dropping : (u : List ℕ) → all is_non_lf u ≡ true → answer_to Dropping u ≡ fed (state_of Dropping) (length u) [] accepted
answer-dropping u clean =
    ap (answer_to Dropping) (sym (append-nil u))
    ∙ answer-behind Dropping u [] (drops-silent u clean)
    ∙ rw (drops u clean) (ap (past (length u)) (answer-none Dropping) ∙ ap (λ (n : ℕ). fed (state_of Dropping) n [] accepted) (omega arith))

-- LF ends it, and nothing is yielded
dropping-ends : (t : List ℕ) → answer_to Dropping (lf ∷ t) ≡ past 1 (answer_to nothing t)
unfolding yielded events after_all
dropping-ends t = rw (ends Dropping) at (answer-behind Dropping (lf ∷ []) t refl)

pub answer-resumed : (u t : List ℕ) → all is_non_lf u ≡ true → answer_to Dropping (u ++ lf ∷ t) ≡ past (length u + 1) (answer_to nothing t)
answer-resumed u t clean =
    answer-behind Dropping u (lf ∷ t) (drops-silent u clean)
    ∙ rw (drops u clean, dropping-ends t)
    (ap (λ (n : ℕ). record { state = (answer_to nothing t).state; used = n; line = (answer_to nothing t).line; len = (answer_to nothing t).len; number = (answer_to nothing t).number }) (omega arith))
