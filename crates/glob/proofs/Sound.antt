-- Every step of a match keeps what its state means, and raises its rank; the step that ends it answers rightly. A star that is passed makes the one before
-- forgotten: the first place where the mask between the two matches leaves the most to match. Assumes nothing.
use mathlib.Core.Path.{◌≡◌, refl, sym, ap, ◌∙◌}
use mathlib.Core.Bool.{Bool, true, false, true≢false, cond}
use mathlib.Core.List.{List, [], ◌∷◌}
use Prim.Native.Nat.{ℕ, ◌+◌, ◌-◌, ◌*◌, ◌≤◌, ◌<◌}
use native.Mathlib.Nat.{mul-le-mul_right}
use native.Mathlib.Omega.{arith}
use lib.ListN.{length, drop, get_or, drop_of_length-le}
use lib.Seq.{drop-drop}
use lib.Dec.{eqb}
use borrow.Author.Tests.{eq-eqb, ne_eqb, eqb-true, eqb-false}
use Rattle.laws.proofs.Bools.{both_ways}
use Rattle.laws.proofs.Lists.{drop-step}
use Rattle.glob.specs.declared.State.{State}
use Rattle.std.specs.declared.ops.ControlFlow.TheVariants.{Continue, Break}
use Rattle.glob.specs.Mask.{star, matches_byte, after_run, matches}
use Rattle.glob.specs.Stepping.{Progress, look, start, passed, taken, longer, back, mask_ended, compared, step, step_in, budget}
use Rattle.glob.proofs.Looks.{look-byte, look-end}
use Rattle.glob.proofs.Masks.{run-here, run-all, run-nil, run-next, run-first, matches-end, matches-over, matches-star, matches-none, matches-agree, matches-differ, matches-one}

-- ---- what a state means
-- what follows the last star passed, the whole mask while there is none
abbrev since : List ℕ → State → List ℕ → Bool
since mask s = matches (drop s.after mask)

-- what is left of mask and text
abbrev rest : List ℕ → List ℕ → State → Bool
rest mask text s = matches (drop s.mask mask) (drop s.text text)

pub record Sound (mask text : List ℕ) (s : State) : Type 0 where
  -- the last star passed stands before the place in the mask
  pub star-before : s.after ≤ s.mask
  pub in-mask : s.mask ≤ length mask
  pub in-text : s.text ≤ length text
  -- since the star as many bytes of the text are taken as of the mask
  pub level : s.text + s.after ≡ s.run + s.mask
  -- and so in every text
  pub exact : (t : List ℕ) → since mask s t ≡ true → matches (drop s.mask mask) (drop (s.mask - s.after) t) ≡ true
  -- with the run as it is, what is left decides
  pub here : since mask s (drop s.run text) ≡ rest mask text s
  -- the run may grow, if there is a star
  pub whole : matches mask text ≡ cond (eqb s.after 0) (since mask s (drop s.run text)) (after_run (since mask s) (drop s.run text))

-- the run never falls, and while it stays, the place in the mask rises
abbrev pub rank : List ℕ → State → ℕ
rank mask s = s.run * (length mask + 1) + s.mask

-- what a step comes to
abbrev pub Leads : List ℕ → List ℕ → State → Progress → Type 0
Leads mask text s (Continue t) = Sound mask text t × (rank mask s < rank mask t)
Leads mask text s (Break answer) = answer ≡ matches mask text

pub start-sound : (mask text : List ℕ) → Sound mask text start
start-sound mask text = record {
  star-before = omega arith;
  in-mask = omega arith;
  in-text = omega arith;
  level = refl;
  exact = λ t h. h;
  here = refl;
  whole = refl;
}

module _ (mask text : List ℕ) (s : State) (ok : Sound mask text s) where
  pub run_in : s.run ≤ s.text
  run_in = omega (arith, ok.star-before, ok.level)

  no-star : s.after ≡ 0 → matches mask text ≡ rest mask text s
  no-star e = ok.whole ∙ rw (eq-eqb s.after 0 e) ok.here

  a-star : (s.after ≡ 0 → ⊥) → matches mask text ≡ after_run (since mask s) (drop s.run text)
  a-star ne = ok.whole ∙ rw (ne_eqb s.after 0 ne)

  mask-left : eqb s.mask (length mask) ≡ false → s.mask < length mask
  mask-left e = omega (arith, eqb-false s.mask (length mask) e, ok.in-mask)

  text-left : eqb s.text (length text) ≡ false → s.text < length text
  text-left e = omega (arith, eqb-false s.text (length text) e, ok.in-text)

  -- a text that is used up, and one that is not
  nil : s.text ≡ length text → drop s.text text ≡ []
  nil e = drop_of_length-le text {i = s.text} (omega arith)

  cons : s.text < length text → drop s.text text ≡ get_or text s.text 0 ∷ drop (s.text + 1) text
  cons h = drop-step text s.text 0 h

  -- what matches after a longer run takes as many bytes since the star, and so leaves a later part of the text
  later : (g : List ℕ → Bool) → ((t : List ℕ) → matches (drop s.mask mask) t ≡ true → after_run g t ≡ true)
      → after_run (since mask s) (drop s.run text) ≡ true → after_run g (drop s.text text) ≡ true
  later g imp e =
      let place : s.run + (s.mask - s.after) ≡ s.text = omega (arith, ok.star-before, ok.level) in
      rw (drop-drop (s.mask - s.after) s.run text, place) at (run-first (since mask s) g (s.mask - s.after)
      (λ t h. imp (drop (s.mask - s.after) t) (ok.exact t h)) (drop s.run text) e)

  -- ---- the end of both
  ends : s.mask ≡ length mask → s.text ≡ length text → matches mask text ≡ true
  ends m t = go (eqb s.after 0) refl
    where
      rest-ends : rest mask text s ≡ true
      rest-ends = rw (nil t) (matches-end mask s.mask (omega arith))

      go : (z : Bool) → eqb s.after 0 ≡ z → matches mask text ≡ true
      go true e = no-star (eqb-true s.after 0 e) ∙ rest-ends
      go false e = a-star (eqb-false s.after 0 e) ∙ run-here (since mask s) (drop s.run text) (ok.here ∙ rest-ends)

  -- ---- a star
  module _ (lt : s.mask < length mask) (is : get_or mask s.mask 0 ≡ star) where
    abbrev after : List ℕ → Bool
    after = matches (drop (s.mask + 1) mask)

    -- the star before is forgotten: between the two the mask takes one byte for each of its own
    forgotten : after_run (since mask s) (drop s.run text) ≡ after_run after (drop s.text text)
    forgotten =
        both_ways _ _ (later after (λ t h. sym (matches-star mask s.mask lt is t) ∙ h))
        (λ e. run-here (since mask s) (drop s.run text) (ok.here ∙ matches-star mask s.mask lt is (drop s.text text) ∙ e))

    star-whole : matches mask text ≡ after_run after (drop s.text text)
    star-whole = go (eqb s.after 0) refl
      where
        go : (z : Bool) → eqb s.after 0 ≡ z → matches mask text ≡ after_run after (drop s.text text)
        go true e = no-star (eqb-true s.after 0 e) ∙ matches-star mask s.mask lt is (drop s.text text)
        go false e = a-star (eqb-false s.after 0 e) ∙ forgotten

    star-leads : Leads mask text s (passed s)
    star-leads = (
      record {
        star-before = omega arith;
        in-mask = omega arith;
        in-text = ok.in-text;
        level = refl;
        exact = λ t h. let z : s.mask + 1 - (s.mask + 1) ≡ 0 = omega arith in rw z h;
        here = refl;
        whole = star-whole ∙ sym (rw (ne_eqb (s.mask + 1) 0 (λ e. omega arith)));
      },
      omega (arith, mul-le-mul_right (length mask + 1) run_in),
    )

  -- ---- the end of the text alone, with a byte to match: a longer run leaves no more
  used-up : s.mask < length mask → (get_or mask s.mask 0 ≡ star → ⊥) → s.text ≡ length text → matches mask text ≡ false
  used-up lt ne e = go (eqb s.after 0) refl
    where
      no_run : after_run (since mask s) (drop s.run text) ≡ true → false ≡ true
      no_run h =
          let f = matches (drop s.mask mask) in
          sym (run-nil f ∙ matches-none mask s.mask lt ne) ∙ rw (nil e) at (later f (run-here f) h)

      go : (z : Bool) → eqb s.after 0 ≡ z → matches mask text ≡ false
      go true z = no-star (eqb-true s.after 0 z) ∙ rw (nil e) (matches-none mask s.mask lt ne)
      go false z = a-star (eqb-false s.after 0 z) ∙ both_ways _ false no_run (λ h. absurd (true≢false (sym h)))

  -- ---- a byte that matches
  byte-leads : s.mask < length mask → (get_or mask s.mask 0 ≡ star → ⊥) → s.text < length text → matches_byte (get_or mask s.mask 0) (get_or text s.text 0) ≡ true
      → Leads mask text s (taken s)
  byte-leads lt ne h e = (
    record {
      star-before = omega (arith, ok.star-before);
      in-mask = omega arith;
      in-text = omega arith;
      level = omega (arith, ok.level);
      exact = λ t h.
          let n : s.mask - s.after + 1 ≡ s.mask + 1 - s.after = omega (arith, ok.star-before) in
          rw (drop-drop 1 (s.mask - s.after) t, n) at (matches-one mask s.mask lt ne (drop (s.mask - s.after) t) (ok.exact t h));
      here = ok.here ∙ ap (matches (drop s.mask mask)) (cons h) ∙ matches-agree mask s.mask lt ne (get_or text s.text 0) (drop (s.text + 1) text) e;
      whole = ok.whole;
    },
    omega arith,
  )

  -- ---- no match with the run as it is
  module _ (lt : s.text < length text) (no : rest mask text s ≡ false) where
    run-grows : (s.after ≡ 0 → ⊥) → matches mask text ≡ after_run (since mask s) (drop (s.run + 1) text)
    run-grows ne =
        let z = drop-step text s.run 0 (omega (arith, run_in)) in
        a-star ne ∙ rw z (run-next (since mask s) (get_or text s.run 0) (drop (s.run + 1) text) (rw z at (ok.here ∙ no)))

    longer-leads : eqb s.after 0 ≡ false → Leads mask text s (longer s)
    longer-leads e = (
      record {
        star-before = omega arith;
        in-mask = omega (arith, ok.star-before, ok.in-mask);
        in-text = omega (arith, run_in);
        level = refl;
        exact = λ t h. let z : s.after - s.after ≡ 0 = omega arith in rw z h;
        here = refl;
        whole = run-grows (eqb-false s.after 0 e) ∙ sym (rw e);
      },
      omega (arith, ok.in-mask),
    )

    no_way_back : eqb s.after 0 ≡ true → false ≡ matches mask text
    no_way_back e = sym (no-star (eqb-true s.after 0 e) ∙ no)

    back-leads : Leads mask text s (back s)
    unfolding back
    back-leads = go (eqb s.after 0) refl
      where
        go : (z : Bool) → eqb s.after 0 ≡ z → Leads mask text s (back s)
        go true e = rw e (no_way_back e)
        go false e = rw e (longer-leads e)

  -- ---- a mask that is used up
  module _ (m : s.mask ≡ length mask) where
    -- a star that is its last byte takes what is left
    last-star : eqb s.after 0 ≡ false → s.after ≡ s.mask → true ≡ matches mask text
    last-star h e = sym (a-star (eqb-false s.after 0 h) ∙ run-all (since mask s) (matches-end mask s.after (omega arith)) (drop s.run text))

    -- with the run as it is, something is left
    rest_over : s.text < length text → rest mask text s ≡ false
    rest_over lt = rw (cons lt) (matches-over mask s.mask (omega arith) (get_or text s.text 0) (drop (s.text + 1) text))

    ended-leads : Leads mask text s (mask_ended s (look text s.text))
    unfolding mask_ended
    ended-leads = go (eqb s.text (length text)) refl (eqb s.after 0) refl (eqb s.after s.mask) refl
      where
        go : (h : Bool) → eqb s.text (length text) ≡ h → (i : Bool) → eqb s.after 0 ≡ i → (j : Bool) → eqb s.after s.mask ≡ j
            → Leads mask text s (mask_ended s (look text s.text))
        go true t i z j e = let n = eqb-true s.text (length text) t in rw (look-end text s.text (omega arith)) (sym (ends m n))
        go false t true z j e = rw (look-byte text s.text (text-left t), z) (no_way_back (text-left t) (rest_over (text-left t)) z)
        go false t false z true e = rw (look-byte text s.text (text-left t), z, e) (last-star z (eqb-true s.after s.mask e))
        go false t false z false e = rw (look-byte text s.text (text-left t), z, e) (longer-leads (text-left t) (rest_over (text-left t)) z)

  -- ---- a byte of the mask that is no star
  compared-leads : (lt : s.mask < length mask) → (get_or mask s.mask 0 ≡ star → ⊥) → Leads mask text s (compared s (get_or mask s.mask 0) (look text s.text))
  unfolding compared
  compared-leads lt ne = go (eqb s.text (length text)) refl (matches_byte (get_or mask s.mask 0) (get_or text s.text 0)) refl
    where
      go : (h : Bool) → eqb s.text (length text) ≡ h → (k : Bool) → matches_byte (get_or mask s.mask 0) (get_or text s.text 0) ≡ k
          → Leads mask text s (compared s (get_or mask s.mask 0) (look text s.text))
      go true t k e = rw (look-end text s.text (omega (arith, eqb-true s.text (length text) t))) (sym (used-up lt ne (eqb-true s.text (length text) t)))
      go false t true e = rw (look-byte text s.text (text-left t), e) (byte-leads lt ne (text-left t) e)
      go false t false e = rw (look-byte text s.text (text-left t), e) (back-leads (text-left t) (rw (cons (text-left t)) (matches-differ mask s.mask lt ne (get_or text s.text 0) (drop (s.text + 1) text) e)))

  -- ---- any step
  pub step-leads : Leads mask text s (step_in mask text s)
  unfolding step
  step-leads = go (eqb s.mask (length mask)) refl (eqb (get_or mask s.mask 0) star) refl
    where
      go : (h : Bool) → eqb s.mask (length mask) ≡ h → (k : Bool) → eqb (get_or mask s.mask 0) star ≡ k → Leads mask text s (step_in mask text s)
      go true m k e = let n = eqb-true s.mask (length mask) m in rw (look-end mask s.mask (omega arith)) (ended-leads n)
      go false m true e = rw (look-byte mask s.mask (mask-left m), e) (star-leads (mask-left m) (eqb-true (get_or mask s.mask 0) star e))
      go false m false e = rw (look-byte mask s.mask (mask-left m), e) (compared-leads (mask-left m) (eqb-false (get_or mask s.mask 0) star e))

-- ---- how far it goes
pub rank_below : (mask text : List ℕ) (s : State) → Sound mask text s → rank mask s < budget mask text
rank_below mask text s ok = omega (arith, mul-le-mul_right (length mask + 1) (run_in mask text s ok), mul-le-mul_right (length mask + 1) ok.in-text, ok.in-mask)
