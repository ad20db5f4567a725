-- Each useless feeder fails the claims: the bytes on which it does, and what is wrong there. Assumes nothing.
use mathlib.Core.Path.{◌≡◌, refl, sym, ap, ◌∙◌}
use mathlib.Core.Logic.{⊎_elim}
use mathlib.Core.List.{List, [], ◌∷◌}
use Prim.Native.Nat.{ℕ, ◌≤◌}
use native.Mathlib.Omega.{arith}
use lib.ListN.{length}
use Rattle.refusal.specs.Numbers.{accepted, not_well_formed, line_too_long}
use Rattle.refusal.specs.Rules.{first_of}
use Rattle.octets.specs.Bytes.{lf}
use Rattle.laws.specs.Lists.{all, padded}
use Rattle.laws.specs.Joins.{concatenated}
use Rattle.feed.specs.Lines.{Event, Whole, TooLong, nothing, yielded, continued, after, events, after_all, used}
use Rattle.feed.specs.Feeder.{state_of, state_after, pending_in, reached_tests, is_reached, answer_of, answer_to, feed_answer}
use Rattle.feed.specs.Calls.{Feeding, yields, Run, calls, calls_over, Feeds}
use Rattle.feed.specs.Useless.{silent, forgetful, wiping, repeating, blaming, overstating}
use Rattle.feed.proofs.States.{long_line, dropping-reached}

-- what a feeder yields, of pieces behind some bytes
abbrev yielded_by : Feeding → List ℕ → List (List ℕ) → List Event
yielded_by feed earlier pieces = (calls_over feed (state_after earlier) pieces).yielded

-- what the claims have it yield
claimed : (feed : Feeding) → Feeds feed → (earlier : List ℕ) (pieces : List (List ℕ)) → yielded_by feed earlier pieces ≡ events (after_all nothing earlier) (concatenated pieces)
claimed feed f earlier pieces = ap (λ (r : Run). r.yielded) (f.runs earlier pieces)

-- ---- one that yields nothing: LF alone is a line
abbrev alone : List (List ℕ)
alone = (lf ∷ []) ∷ []

alone-line : events (after_all nothing []) (concatenated alone) ≡ Whole (lf ∷ []) ∷ []
unfolding events after_all yielded
alone-line = refl

silent-alone : yielded_by silent [] alone ≡ []
unfolding calls_over calls yields is_reached reached_tests state_of pending_in after_all after padded all
silent-alone = refl

pub silent-fails : Feeds silent → ⊥
silent-fails f =
    let e : [] ≡ Whole (lf ∷ []) ∷ [] = sym silent-alone ∙ claimed silent f [] alone ∙ alone-line in
    let z : ◌≡◌ {A = ℕ} 0 1 = cc in
    absurd (omega (arith, z))

-- ---- one that drops what is kept: a line in two pieces
abbrev apart : List (List ℕ)
apart = (97 ∷ []) ∷ (lf ∷ []) ∷ []

apart-line : events (after_all nothing []) (concatenated apart) ≡ Whole (97 ∷ lf ∷ []) ∷ []
unfolding events after_all after continued yielded
apart-line = refl

forgetful-apart : yielded_by forgetful [] apart ≡ Whole (lf ∷ []) ∷ []
unfolding calls_over calls yields is_reached reached_tests state_of pending_in feed_answer first_of answer_to answer_of used events yielded after_all after continued padded all
forgetful-apart = refl

pub forgetful-fails : Feeds forgetful → ⊥
forgetful-fails f =
    let e : Whole (lf ∷ []) ∷ [] ≡ Whole (97 ∷ lf ∷ []) ∷ [] = sym forgetful-apart ∙ claimed forgetful f [] apart ∙ apart-line in
    let z : ◌≡◌ {A = List ℕ} [] (lf ∷ []) = cc in
    absurd (omega (arith, ap (λ (l : List ℕ). length l) z))

-- and one that drops it only where it is called without bytes, as behind each line that ends a piece: a byte, and no more
wiping-keeps : (calls_over wiping (state_after (97 ∷ [])) ([] ∷ [])).state.len ≡ 0
unfolding calls_over calls yields is_reached reached_tests state_of pending_in feed_answer first_of answer_to answer_of used events yielded after_all after continued padded all
wiping-keeps = refl

pub wiping-fails : Feeds wiping → ⊥
unfolding state_of after_all after continued
wiping-fails f =
    let e : ◌≡◌ {A = ℕ} 0 1 = sym wiping-keeps ∙ ap (λ (r : Run). r.state.len) (f.runs (97 ∷ []) ([] ∷ [])) in
    absurd (omega (arith, e))

-- ---- one that gives a second 4 for one long line: LF behind 513 other bytes
long-end : events (after_all nothing long_line) (concatenated alone) ≡ []
unfolding events yielded
long-end = rw dropping-reached

repeating-again : yielded_by repeating long_line alone ≡ TooLong ∷ []
unfolding calls_over calls yields is_reached reached_tests state_of pending_in feed_answer first_of answer_to answer_of used events yielded after_all after padded all
repeating-again = rw dropping-reached

pub repeating-fails : Feeds repeating → ⊥
repeating-fails f =
    let e : TooLong ∷ [] ≡ [] = sym repeating-again ∙ claimed repeating f long_line alone ∙ long-end in
    let z : ◌≡◌ {A = ℕ} 0 1 = cc in
    absurd (omega (arith, z))

-- ---- one that gives 1 to the empty state
pub blaming-fails : Feeds blaming → ⊥
blaming-fails f = ⊎_elim (λ (e : not_well_formed ≡ accepted). absurd (omega (arith, e))) (λ (e : not_well_formed ≡ line_too_long). absurd (omega (arith, e))) (f.numbers [] [])

-- ---- one that says that it used a byte of none
pub overstating-fails : Feeds overstating → ⊥
unfolding is_reached reached_tests state_of after_all padded all
overstating-fails f = let e : 1 ≤ 0 = f.within [] [] in absurd (omega (arith, e))
