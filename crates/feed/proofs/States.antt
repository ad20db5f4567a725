-- The states that pass the test are exactly those that some bytes reach from the empty one. A pending line that bytes leave is sound: its bytes hold no LF and are no
-- more than a line's; the state of a sound one passes the test; and a state that passes it is that of its own pending line, which its bytes leave, or 513 zero
-- bytes where it is dropping. Assumes nothing.
use mathlib.Core.Path.{◌≡◌, refl, sym, ap, ◌∙◌}
use mathlib.Core.Bool.{Bool, true, false, not, cond, ◌&&◌}
use mathlib.Core.List.{List, [], ◌∷◌, ◌++◌}
use Prim.Native.Nat.{ℕ, ◌≤◌}
use native.Mathlib.Omega.{arith}
use lib.ListN.{length, take, get_or, replicate, length-append, length-replicate}
use lib.Seq.{length-take-le}
use lib.Dec.{eqb}
use borrow.Author.Tests.{eq-eqb, eqb-true, le-leb, leb-true, leb-false, not-true, not-false}
use Rattle.octets.specs.Bytes.{lf, is_zero, is_non_lf}
use Rattle.laws.specs.Lists.{all, padded}
use Rattle.laws.proofs.Lists.{Passed, all-passed, all_cons, all_append, all_from, all_replicate, all-padded, length-padded, take-padded, padded-take}
use Rattle.message.specs.Grammar.{line_limit}
use Rattle.feed.specs.declared.Feeder.{Feeder}
use Rattle.feed.specs.Lines.{Pending, Unfinished, Dropping, nothing, is_full, continued, after, after_all}
use Rattle.feed.specs.Feeder.{state_of, state_after, pending_in, reached_tests, is_reached}
use Rattle.feed.proofs.Runs.{after-append, keeps, full-drops}

-- ---- a sound pending line
abbrev pub Sound : Pending → Type 0
Sound (Unfinished w) = (all is_non_lf w ≡ true) × (length w ≤ line_limit)
Sound Dropping = Unit {0}

sound-continued : (p : Pending) (b : ℕ) → Sound p → is_non_lf b ≡ true → Sound (continued p b)
unfolding continued all
sound-continued (Unfinished w) b h e = go (is_full w) refl
  where
    go : (t : Bool) → is_full w ≡ t → Sound (continued (Unfinished w) b)
    go true f = rw f tt
    go false f = rw f (all_append is_non_lf w (b ∷ []) h.0 (all_cons is_non_lf b [] e refl), omega (arith, length-append w (b ∷ []), leb-false line_limit (length w) f))
sound-continued Dropping b h e = tt

pub sound-after : (p : Pending) (b : ℕ) → Sound p → Sound (after p b)
unfolding after all
sound-after p b h = go (eqb b lf) refl
  where
    go : (t : Bool) → eqb b lf ≡ t → Sound (after p b)
    go true e = rw e (refl, omega arith)
    go false e = rw e (sound-continued p b h (rw e))

pub sound-all : (s : List ℕ) (p : Pending) → Sound p → Sound (after_all p s)
unfolding after_all
sound-all [] p h = h
sound-all (b ∷ s) p h = sound-all s (after p b) (sound-after p b h)

pub sound-start : (s : List ℕ) → Sound (after_all nothing s)
unfolding all
sound-start s = sound-all s nothing (refl, omega arith)

-- ---- its state passes the test, and has it as its pending line
pub sound-tested : (p : Pending) → Sound p → is_reached (state_of p) ≡ true
unfolding is_reached reached_tests state_of all
sound-tested (Unfinished w) h =
    rw (eq-eqb (length (padded line_limit 0 w)) line_limit (length-padded 0 line_limit w), le-leb (length w) line_limit h.1, take-padded 0 line_limit w h.1, h.0, all-padded 0 is_zero refl line_limit w)
sound-tested Dropping h = rw (eq-eqb (length {A = ℕ} (padded line_limit 0 [])) line_limit (length-padded 0 line_limit []), all-padded 0 is_zero refl line_limit [])

pub pending-back : (p : Pending) → Sound p → pending_in (state_of p) ≡ p
unfolding pending_in state_of
pending-back (Unfinished w) h = ap Unfinished (take-padded 0 line_limit w h.1)
pending-back Dropping h = refl

-- ---- the pending line of a state
pub pending-kept : (f : Feeder) → f.dropping ≡ false → pending_in f ≡ Unfinished (take f.len f.bytes)
unfolding pending_in
pending-kept f e = rw e

pub pending-dropping : (f : Feeder) → f.dropping ≡ true → pending_in f ≡ Dropping
unfolding pending_in
pending-dropping f e = rw e

-- ---- a state that passes the test
module _ (f : Feeder) (reached : is_reached f ≡ true) where
  tests : Passed (reached_tests f)
  unfolding is_reached
  tests = all-passed (reached_tests f) reached

  pub room_whole : length f.bytes ≡ line_limit
  unfolding reached_tests
  room_whole = eqb-true (length f.bytes) line_limit tests.0

  pub kept_small : f.len ≤ line_limit
  unfolding reached_tests
  kept_small = leb-true f.len line_limit tests.1.0

  pub kept-length : length (take f.len f.bytes) ≡ f.len
  kept-length = length-take-le f.len f.bytes (omega (arith, room_whole, kept_small))

  kept-clean : all is_non_lf (take f.len f.bytes) ≡ true
  unfolding reached_tests
  kept-clean = tests.1.1.0

  pub kept-padded : padded line_limit 0 (take f.len f.bytes) ≡ f.bytes
  unfolding reached_tests
  kept-padded = padded-take 0 f.len line_limit f.bytes room_whole (λ k p q. eqb-true (get_or f.bytes k 0) 0 (all_from is_zero f.len f.bytes 0 tests.1.1.1.0 k p (omega (arith, room_whole))))

  dropping-empty : f.dropping ≡ true → f.len ≡ 0
  unfolding reached_tests
  dropping-empty d = eqb-true f.len 0 (not-false (is_zero f.len) (rw d at (not-true (f.dropping && not (is_zero f.len)) tests.1.1.1.1.0)))

  -- it is known by its fields
  alike : {b : List ℕ} {n : ℕ} {d : Bool} → b ≡ f.bytes → n ≡ f.len → d ≡ f.dropping → record { bytes = b; len = n; dropping = d } ≡ f
  alike p q r = rw (p, q, r)

  -- it is that of its own pending line
  pub state-back : state_of (pending_in f) ≡ f
  unfolding state_of
  state-back = go f.dropping refl
    where
      go : (t : Bool) → f.dropping ≡ t → state_of (pending_in f) ≡ f
      go true e = ap state_of (pending-dropping f e) ∙ alike (ap (λ (n : ℕ). padded line_limit 0 (take n f.bytes)) (sym (dropping-empty e)) ∙ kept-padded) (sym (dropping-empty e)) (sym e)
      go false e = ap state_of (pending-kept f e) ∙ alike kept-padded kept-length (sym e)

  -- which is sound
  pub sound_back : Sound (pending_in f)
  unfolding pending_in
  sound_back = go f.dropping refl
    where
      go : (t : Bool) → f.dropping ≡ t → Sound (pending_in f)
      go true e = rw e tt
      go false e = rw e (kept-clean, omega (arith, kept-length, kept_small))

-- ---- and some bytes reach it
-- 513 zeros
abbrev pub long_line : List ℕ
long_line = replicate line_limit 0 ++ (0 ∷ [])

pub dropping-reached : after_all nothing long_line ≡ Dropping
unfolding after_all
dropping-reached =
    let clean : all is_non_lf (replicate line_limit 0) ≡ true = all_replicate is_non_lf 0 line_limit refl in
    after-append (replicate line_limit 0) (0 ∷ []) nothing
    ∙ rw (keeps (replicate line_limit 0) [] clean (omega (arith, length-replicate {A = ℕ} line_limit 0))) (full-drops (replicate line_limit 0) (length-replicate {A = ℕ} line_limit 0) 0 refl)

-- the bytes that reach a state: its own, or zeros
unfoldable pub reaching : Feeder → List ℕ
reaching f = cond f.dropping long_line (take f.len f.bytes)

reaching-pending : (f : Feeder) → is_reached f ≡ true → after_all nothing (reaching f) ≡ pending_in f
unfolding reaching pending_in
reaching-pending f h = go f.dropping refl
  where
    go : (t : Bool) → f.dropping ≡ t → after_all nothing (cond f.dropping long_line (take f.len f.bytes)) ≡ cond f.dropping Dropping (Unfinished (take f.len f.bytes))
    go true e = rw e dropping-reached
    go false e = rw e (keeps (take f.len f.bytes) [] (kept-clean f h) (omega (arith, kept-length f h, kept_small f h)))

pub tested-reached : (f : Feeder) → is_reached f ≡ true → f ≡ state_after (reaching f)
tested-reached f h = sym (ap state_of (reaching-pending f h) ∙ state-back f h)

pub reached-tested : (s : List ℕ) → is_reached (state_after s) ≡ true
reached-tested s = sound-tested (after_all nothing s) (sound-start s)
