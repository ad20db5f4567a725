-- What is yielded, read: every line has one LF, at its end, and 1 to 512 bytes; the reader gives it 5 exactly if no CR stands before the LF, and never 4.
-- Assumes nothing.
use mathlib.Core.Path.{◌≡◌, refl, sym, ap, ◌∙◌}
use mathlib.Core.Bool.{Bool, true, false, not, and-true}
use mathlib.Core.Logic.{◌⊎◌, inl, inr}
use mathlib.Core.List.Memᴰ
use mathlib.Core.List.{List, [], ◌∷◌, ◌++◌, Memᴰ}
use Prim.Native.Nat.{ℕ, suc, ◌+◌, ◌-◌, ◌<◌}
use native.Mathlib.Omega.{arith}
use lib.ListN.{length, take, get_or, length-append}
use lib.Seq.{get_or_at}
use lib.Dec.{eqb}
use borrow.Author.Tests.{eq-eqb, eqb-true, leb-false}
use Rattle.refusal.specs.Numbers.{line_too_long, no_line_end}
use Rattle.octets.specs.Bytes.{lf, is_non_lf}
use Rattle.laws.specs.Lists.{all}
use Rattle.message.specs.Grammar.{line_limit}
use Rattle.message.specs.Reading.{ends_line, number_for}
use Rattle.message.proofs.Readings.{ends-short, ends_by, number_small, number-ending}
use Rattle.feed.specs.Lines.{Whole, TooLong, Pending, Unfinished, Dropping, is_full, yielded, after, events, used}
use Rattle.feed.specs.declared.Feeder.{Feeder}
use Rattle.feed.specs.Feeder.{pending_in, is_reached, feed_answer}
use Rattle.feed.specs.Calls.{yields}
use Rattle.feed.specs.Division.{Ended, Fitting, has_cr}
use Rattle.feed.proofs.ByState.{answer-refused}
use Rattle.feed.proofs.Calls.{call-yields}
use Rattle.feed.proofs.States.{Sound, sound-after, state-back, sound_back}

-- ---- a line that is yielded
fitting : (w : List ℕ) → all is_non_lf w ≡ true → length w < line_limit → Fitting (w ++ (lf ∷ []))
fitting w clean room = record { ended = record { body = w; ends = refl; one = clean }; some = omega (arith, length-append w (lf ∷ [])); fits = omega (arith, length-append w (lf ∷ [])) }

byte-fitting : (p : Pending) (b : ℕ) → Sound p → (line : List ℕ) → Memᴰ (Whole line) (yielded p b) → Fitting line
unfolding yielded
byte-fitting (Unfinished w) b h line m = go (is_full w) refl (eqb b lf) refl
  where
    go : (t : Bool) → is_full w ≡ t → (u : Bool) → eqb b lf ≡ u → Fitting line
    go true e u f = let q : Whole line ≡ TooLong = Memᴰ.eq_of_singleton (rw e at m) in let z : ◌≡◌ {A = ℕ} 0 1 = cc in absurd (omega (arith, z))
    go false e true f =
        let q : Whole line ≡ Whole (w ++ (b ∷ [])) = Memᴰ.eq_of_singleton (rw (e, f) at m) in
        let s : line ≡ w ++ (b ∷ []) = cc in
        rw (s, eqb-true b lf f) (fitting w h.0 (leb-false line_limit (length w) e))
    go false e false f = absurd (Memᴰ.not-nil (rw (e, f) at m))
byte-fitting Dropping b h line m = absurd (Memᴰ.not-nil m)

run-fitting : (s : List ℕ) (p : Pending) → Sound p → (line : List ℕ) → Memᴰ (Whole line) (events p s) → Fitting line
unfolding events
run-fitting [] p h line m = absurd (Memᴰ.not-nil m)
run-fitting (b ∷ s) p h line m = go (Memᴰ.append_cases (yielded p b) m) (run-fitting s (after p b) (sound-after p b h) line)
  where
    go : Memᴰ (Whole line) (yielded p b) ⊎ Memᴰ (Whole line) (events (after p b) s) → (Memᴰ (Whole line) (events (after p b) s) → Fitting line) → Fitting line
    go (inl here) ih = byte-fitting p b h line here
    go (inr there) ih = ih there

pub yielded-fitting : (f : Feeder) (s line : List ℕ) → Memᴰ (Whole line) (yields (feed_answer f s)) → Fitting line
unfolding yields
yielded-fitting f s line m = go (is_reached f) refl
  where
    go : (t : Bool) → is_reached f ≡ t → Fitting line
    go true e =
        let p : Pending = pending_in f in
        let is : yields (feed_answer f s) ≡ events p (take (used p s) s) = ap (λ (g : Feeder). yields (feed_answer g s)) (sym (state-back f e)) ∙ call-yields p s (sound_back f e) in
        run-fitting (take (used p s) s) p (sound_back f e) line (rw is at m)
    go false e = absurd (Memᴰ.not-nil (rw (answer-refused f s e) at m))

-- ---- the reader
-- CR LF ends it exactly if CR stands before the LF
body-cr : (u : List ℕ) → ends_line (u ++ (lf ∷ [])) ≡ has_cr (u ++ (lf ∷ []))
body-cr [] = sym (ends-short (lf ∷ []) (omega arith))
body-cr (x ∷ v) =
    let line : List ℕ = x ∷ v ++ (lf ∷ []) in
    let size : length line ≡ suc (length v) + 1 = length-append (x ∷ v) (lf ∷ []) in
    let last : get_or line (length line - 1) 0 ≡ lf = get_or_at (x ∷ v) lf [] 0 (length line - 1) (omega arith) in
    sym (ends_by line (omega arith)) ∙ rw (eq-eqb (get_or line (length line - 1) 0) lf last) (and-true (has_cr line))

ends-cr : (line : List ℕ) → Ended line → ends_line line ≡ has_cr line
ends-cr line e = rw e.ends (body-cr e.body)

pub reads-5 : (line : List ℕ) → Fitting line → eqb (number_for line) no_line_end ≡ not (has_cr line)
reads-5 line p = number-ending line p.fits ∙ ap not (ends-cr line p.ended)

pub reads-not-4 : (line : List ℕ) → Fitting line → eqb (number_for line) line_too_long ≡ false
reads-not-4 line p = number_small line p.fits
