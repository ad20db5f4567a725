-- The answer to a call, by what the state is: one that fails the test is refused, an unfinished line goes on with the bytes, and one that is dropped with what
-- stands behind its LF. Assumes nothing.
use mathlib.Core.Path.{◌≡◌, refl, sym, ap, ap₂, ◌∙◌}
use mathlib.Core.Bool.{true, false, not}
use mathlib.Core.List.{List, [], ◌∷◌, ◌++◌}
use Prim.Native.Nat.{ℕ, ◌+◌, ◌<◌}
use native.Mathlib.Numerals.{add-one}
use native.Mathlib.Omega.{arith}
use lib.ListN.{length, take, drop, take-append-drop}
use lib.Seq.{take-length}
use Rattle.refusal.specs.Numbers.{accepted, not_well_formed}
use Rattle.refusal.specs.Rules.{◌when◌, ascend, ascend_from, place_in}
use Rattle.refusal.proofs.Rules.{skip, stop, first-nil}
use Rattle.octets.specs.Bytes.{lf}
use Rattle.octets.specs.Search.{before}
use Rattle.octets.proofs.Search.{before-none, before-front, before-then}
use Rattle.laws.specs.Lists.{all}
use Rattle.feed.specs.declared.Feeder.{Feeder}
use Rattle.feed.specs.declared.Fed.{Fed}
use Rattle.feed.specs.Lines.{Pending, Unfinished, Dropping, nothing}
use Rattle.feed.specs.Feeder.{state_of, pending_in, is_reached, fed, answer_to, feed_rules, feed_answer}
use Rattle.feed.specs.Private.Gathering.{KeepsLine, held_bytes, past}
use Rattle.feed.proofs.States.{sound-tested, state-back, pending-kept, pending-dropping}
use Rattle.feed.proofs.Answers.{answer-dropping, answer-resumed}

-- ---- the refusal
-- The rules stand in the order of their numbers.
pub rules-ascend : (f : Feeder) → ascend (feed_rules f) ≡ true
unfolding ascend_from place_in
rules-ascend f = refl

module _ (f : Feeder) (s : List ℕ) where
  pub answer-refused : is_reached f ≡ false → feed_answer f s ≡ fed f 0 [] not_well_formed
  unfolding feed_answer
  answer-refused e = rw (stop (not_well_formed when not (is_reached f)) [] (rw e))

  pub answer-taken : is_reached f ≡ true → feed_answer f s ≡ answer_to (pending_in f) s
  unfolding feed_answer
  answer-taken e = rw (skip (not_well_formed when not (is_reached f)) [] (rw e) ∙ first-nil)

  pub feeds-refused : is_reached f ≡ false → (r : Fed) → r ≡ fed f 0 [] not_well_formed → r ≡ feed_answer f s
  feeds-refused e r is = is ∙ sym (answer-refused e)

  -- ---- an unfinished line
  pub feeds-kept : KeepsLine f → (r : Fed) → r ≡ answer_to (Unfinished (held_bytes f)) s → r ≡ feed_answer f s
  feeds-kept k r is =
      is ∙ sym (answer-taken k.reached ∙ ap (λ (p : Pending). answer_to p s) (pending-kept f k.undropped))

  -- ---- a line that is dropped
  module _ (reached : is_reached f ≡ true) (drops : f.dropping ≡ true) where
    dropped : feed_answer f s ≡ answer_to Dropping s
    dropped = answer-taken reached ∙ ap (λ (p : Pending). answer_to p s) (pending-dropping f drops)

    -- no LF comes
    pub feeds-dropped : length (before lf s) ≡ length s → (r : Fed) → r ≡ fed f (length s) [] accepted → r ≡ feed_answer f s
    feeds-dropped none r is =
        let clean : before lf s ≡ s = sym (before-front lf s) ∙ ap (λ (n : ℕ). take n s) none ∙ take-length s in
        let same : state_of Dropping ≡ f = ap state_of (sym (pending-dropping f drops)) ∙ state-back f reached in
        is ∙ ap (λ (g : Feeder). fed g (length s) [] accepted) (sym same) ∙ sym (dropped ∙ answer-dropping s (rw clean at (before-none lf s)))

    -- LF comes
    pub feeds-resumed : length (before lf s) < length s → (r : Fed) → r ≡ past (length (before lf s) + 1) (answer_to nothing (drop (length (before lf s) + 1) s)) → r ≡ feed_answer f s
    feeds-resumed some r is =
        let n : ℕ = length (before lf s) in
        let parts : s ≡ before lf s ++ lf ∷ drop (n + 1) s = sym (take-append-drop n s) ∙ ap₂ ◌++◌ (before-front lf s) (rw (add-one n) (before-then lf s some)) in
        is ∙ sym (dropped ∙ ap (answer_to Dropping) parts ∙ answer-resumed (before lf s) (drop (n + 1) s) (before-none lf s))

-- ---- the empty state
pub empty-keeps : (f : Feeder) → f ≡ state_of nothing → KeepsLine f × (held_bytes f ≡ [])
unfolding state_of all
empty-keeps f e = rw e (record { reached = sound-tested nothing (refl, omega arith); undropped = refl }, refl)
