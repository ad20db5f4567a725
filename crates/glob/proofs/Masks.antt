-- Laws of what a mask matches: after a run, and by the next byte of mask and text. Assumes nothing.
use mathlib.Core.Path.{◌≡◌, refl, sym, ap, ◌∙◌}
use mathlib.Core.Bool.{Bool, true, false, true≢false, or-true, ◌||◌}
use mathlib.Core.List.{List, [], ◌∷◌}
use Prim.Native.Nat.{ℕ, ◌+◌, ◌≤◌, ◌<◌}
use native.Mathlib.Numerals.{add-one}
use lib.ListN.{length, drop, get_or, drop_of_length-le}
use lib.Seq.{drop-drop}
use lib.Dec.{ltb}
use borrow.Author.Tests.{eq-eqb, ne_eqb, le-ltb}
use Rattle.refusal.specs.Numbers.{accepted, text_too_long}
use Rattle.refusal.specs.Rules.{◌when◌, first_of, ascend, ascend_from, place_in}
use Rattle.refusal.proofs.Rules.{skip, stop, first-nil}
use Rattle.laws.proofs.Bools.{and_right}
use Rattle.laws.proofs.Lists.{drop-step}
use Rattle.glob.specs.declared.Match.{Match}
use Rattle.glob.specs.Mask.{text_limit, star, matches_byte, first_then, after_run, matches, match_rules, match_answer}

-- The rules stand in the order of their numbers: the first in it that applies is given.
pub rules-ascend : (mask text : List ℕ) → ascend (match_rules mask text) ≡ true
unfolding ascend_from match_rules place_in
rules-ascend mask text = refl

-- ---- a mask and a text within the limit get the match
module _ (mask text : List ℕ) where
  -- a mask or text over the limit is refused
  pub answers-long : (ltb text_limit (length mask) || ltb text_limit (length text)) ≡ true → record { number = text_too_long; yes = false } ≡ match_answer mask text
  unfolding match_answer match_rules
  answers-long e = rw (stop (text_too_long when (ltb text_limit (length mask) || ltb text_limit (length text))) [] e)

  pub answers-within : length mask ≤ text_limit → length text ≤ text_limit → (t : Bool) → t ≡ matches mask text → record { number = accepted; yes = t } ≡ match_answer mask text
  unfolding match_answer match_rules
  answers-within m s t e =
      let n : first_of (match_rules mask text) ≡ accepted = skip _ _ (simp (le-ltb text_limit (length mask) m, le-ltb text_limit (length text) s)) ∙ first-nil in
      rw (n, e)

  pub answer-yes : length mask ≤ text_limit → length text ≤ text_limit → (match_answer mask text).yes ≡ matches mask text
  answer-yes m s = ap (λ (a : Match). a.yes) (sym (answers-within m s (matches mask text) refl))

-- ---- after a run
module _ (f : List ℕ → Bool) where
  -- the run may be empty
  pub run-here : (s : List ℕ) → f s ≡ true → after_run f s ≡ true
  unfolding after_run
  run-here [] e = e
  run-here (b ∷ s) e = rw e

  -- or one byte longer
  run_more : (b : ℕ) (s : List ℕ) → after_run f s ≡ true → after_run f (b ∷ s) ≡ true
  unfolding after_run
  run_more b s e = rw e (or-true (f (b ∷ s)))

  -- or all there is
  pub run-all : f [] ≡ true → (s : List ℕ) → after_run f s ≡ true
  unfolding after_run
  run-all e [] = e
  run-all e (b ∷ s) = run_more b s (run-all e s)

  pub run-nil : after_run f [] ≡ f []
  unfolding after_run
  run-nil = refl

  pub run-next : (b : ℕ) (s : List ℕ) → f (b ∷ s) ≡ false → after_run f (b ∷ s) ≡ after_run f s
  unfolding after_run
  run-next b s e = rw e

  -- what is left after a longer run
  run-later : (s : List ℕ) → after_run f (drop 1 s) ≡ true → after_run f s ≡ true
  run-later [] e = e
  run-later (b ∷ s) e = run_more b s e

-- Where whatever passes f passes g after k bytes and a run, so does whatever passes f after a run: the first place is the best.
pub run-first : (f g : List ℕ → Bool) (k : ℕ) → ((t : List ℕ) → f t ≡ true → after_run g (drop k t) ≡ true) → (s : List ℕ) → after_run f s ≡ true → after_run g (drop k s) ≡ true
unfolding after_run
run-first f g k imp [] e = imp [] e
run-first f g k imp (b ∷ s) e = go (f (b ∷ s)) refl (run-first f g k imp s)
  where
    go : (t : Bool) → f (b ∷ s) ≡ t → (after_run f s ≡ true → after_run g (drop k s) ≡ true) → after_run g (drop k (b ∷ s)) ≡ true
    go true h ih = imp (b ∷ s) h
    go false h ih = run-later g (drop k (b ∷ s)) (rw (drop-drop 1 k (b ∷ s), add-one k) (ih (rw h at e)))

-- ---- by the next byte of the mask
module _ (mask : List ℕ) (i : ℕ) where
  pub matches-end : length mask ≤ i → matches (drop i mask) [] ≡ true
  unfolding matches
  matches-end h = rw (drop_of_length-le mask h)

  pub matches-over : length mask ≤ i → (b : ℕ) (t : List ℕ) → matches (drop i mask) (b ∷ t) ≡ false
  unfolding matches
  matches-over h b t = rw (drop_of_length-le mask h)

  module _ (h : i < length mask) where
    pub matches-star : get_or mask i 0 ≡ star → (t : List ℕ) → matches (drop i mask) t ≡ after_run (matches (drop (i + 1) mask)) t
    unfolding matches
    matches-star e t = rw (drop-step mask i 0 h, eq-eqb _ star e)

    module _ (ne : get_or mask i 0 ≡ star → ⊥) where
      matches-first : (t : List ℕ) → matches (drop i mask) t ≡ first_then (matches_byte (get_or mask i 0)) (matches (drop (i + 1) mask)) t
      unfolding matches
      matches-first t = rw (drop-step mask i 0 h, ne_eqb _ star ne)

      pub matches-none : matches (drop i mask) [] ≡ false
      unfolding first_then
      matches-none = matches-first []

      pub matches-agree : (b : ℕ) (t : List ℕ) → matches_byte (get_or mask i 0) b ≡ true → matches (drop i mask) (b ∷ t) ≡ matches (drop (i + 1) mask) t
      unfolding first_then
      matches-agree b t e = matches-first (b ∷ t) ∙ rw e

      pub matches-differ : (b : ℕ) (t : List ℕ) → matches_byte (get_or mask i 0) b ≡ false → matches (drop i mask) (b ∷ t) ≡ false
      unfolding first_then
      matches-differ b t e = matches-first (b ∷ t) ∙ rw e

      -- one byte is taken
      pub matches-one : (t : List ℕ) → matches (drop i mask) t ≡ true → matches (drop (i + 1) mask) (drop 1 t) ≡ true
      unfolding first_then
      matches-one [] e = absurd (true≢false (sym e ∙ matches-none))
      matches-one (b ∷ t) e = and_right (matches_byte (get_or mask i 0) b) (matches (drop (i + 1) mask) t) (sym (matches-first (b ∷ t)) ∙ e)
