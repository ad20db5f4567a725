-- Laws of the scan: what stands at `drop i s` by the byte at i, where runs of bytes stop, and what the two rules make of it. Assumes nothing.
use mathlib.Core.Path.{◌≡◌, refl, sym, ap, ◌∙◌}
use mathlib.Core.Bool.{Bool, true, false, cond}
use mathlib.Core.List.{List, [], ◌∷◌, ◌++◌}
use Prim.Native.Nat.{ℕ, suc, ◌+◌, ◌≤◌, ◌<◌}
use native.Mathlib.Omega.{arith}
use lib.ListN.{length, take, drop, get_or, drop_of_length-le, length-drop, take-append-drop}
use lib.Seq.{drop-drop, get_or-drop}
use lib.Dec.{eqb}
use borrow.Author.Tests.{eq-eqb, ne_eqb, eqb-true, eqb-false}
use Rattle.octets.specs.Bytes.{space, colon}
use Rattle.octets.specs.Search.{before}
use Rattle.octets.proofs.Search.{before-front, before-within}
use Rattle.laws.proofs.Lists.{drop-step}
use Rattle.message.specs.declared.Message.{Message}
use Rattle.message.specs.Grammar.{middle_limit, part_at, word, spaces, rest, after_middle}
use Rattle.message.specs.Parts.{span}
use Rattle.message.specs.Private.Scan.{with_param, with_params}

-- ---- a word is what stands before the first SPACE
-- the two are the same function
pub word-before : (s : List ℕ) → word s ≡ before space s
unfolding word before
word-before [] = refl
word-before (b ∷ s) = ap (λ (l : List ℕ). cond (eqb b space) [] (b ∷ l)) (word-before s)

-- at the end there is no word
pub word-past : (s : List ℕ) (i : ℕ) → length s ≤ i → length (word (drop i s)) ≡ 0
unfolding word
word-past s i h = rw (drop_of_length-le s h)

-- ---- a word is the front of what it stands in
-- it stands first
pub word-front : (s : List ℕ) → take (length (word s)) s ≡ word s
word-front s = rw (word-before s) (before-front space s)

-- and the others follow
pub word_split : (s : List ℕ) → s ≡ word s ++ drop (length (word s)) s
word_split s = sym (take-append-drop (length (word s)) s) ∙ ap (λ (l : List ℕ). l ++ drop (length (word s)) s) (word-front s)

-- it is no longer
pub word_in : (s : List ℕ) → length (word s) ≤ length s
word_in s = rw (word-before s) (before-within space s)

-- ---- spaces
pub spaces-past : (s : List ℕ) (i : ℕ) → length s ≤ i → spaces (drop i s) ≡ 0
unfolding spaces
spaces-past s i h = rw (drop_of_length-le s h)

pub spaces-stop : (s : List ℕ) (i : ℕ) → i < length s → (get_or s i 0 ≡ space → ⊥) → spaces (drop i s) ≡ 0
unfolding spaces
spaces-stop s i h e = rw (drop-step s i 0 h, ne_eqb _ space e)

pub spaces-go : (s : List ℕ) (i : ℕ) → i < length s → get_or s i 0 ≡ space → spaces (drop i s) ≡ suc (spaces (drop (i + 1) s))
unfolding spaces
spaces-go s i h e = rw (drop-step s i 0 h, eq-eqb _ space e)

-- ---- where a run stops
pub spaces_in : (s : List ℕ) → spaces s ≤ length s
unfolding spaces
spaces_in [] = omega arith
spaces_in (b ∷ s) = go (eqb b space) refl (spaces_in s)
  where
    go : (t : Bool) → eqb b space ≡ t → spaces s ≤ length s → spaces (b ∷ s) ≤ suc (length s)
    go true e ih = rw e (omega arith)
    go false e ih = rw e (omega arith)

spaces-stops : (s : List ℕ) → spaces s < length s → get_or s (spaces s) 0 ≡ space → ⊥
unfolding spaces
spaces-stops [] = λ h e. omega arith
spaces-stops (b ∷ s) = go (eqb b space) refl (spaces-stops s)
  where
    go : (t : Bool) → eqb b space ≡ t → (spaces s < length s → get_or s (spaces s) 0 ≡ space → ⊥) → spaces (b ∷ s) < suc (length s) → get_or (b ∷ s) (spaces (b ∷ s)) 0 ≡ space → ⊥
    go true e ih = rw e (λ h. ih (omega arith))
    go false e ih = rw e (λ h. eqb-false b space e)

word-stops : (s : List ℕ) → length (word s) < length s → get_or s (length (word s)) 0 ≡ space
unfolding word
word-stops [] = λ h. absurd (omega arith)
word-stops (b ∷ s) = go (eqb b space) refl (word-stops s)
  where
    go : (t : Bool) → eqb b space ≡ t → (length (word s) < length s → get_or s (length (word s)) 0 ≡ space) → length (word (b ∷ s)) < suc (length s) → get_or (b ∷ s) (length (word (b ∷ s))) 0 ≡ space
    go true e ih = rw e (λ h. eqb-true b space e)
    go false e ih = rw e (λ h. ih (omega arith))

-- ---- rest and middle after a run
rest-skip : (s : List ℕ) (k at : ℕ) → rest k at s ≡ rest k (at + spaces s) (drop (spaces s) s)
unfolding rest spaces
rest-skip [] k at = refl
rest-skip (b ∷ s) k at = go (eqb b space) refl (rest-skip s k (at + 1))
  where
    go : (t : Bool) → eqb b space ≡ t → rest k (at + 1) s ≡ rest k (at + 1 + spaces s) (drop (spaces s) s) → rest k at (b ∷ s) ≡ rest k (at + spaces (b ∷ s)) (drop (spaces (b ∷ s)) (b ∷ s))
    go true e ih = rw e (ih ∙ ap (λ (n : ℕ). rest k n (drop (spaces s) s)) (omega arith))
    go false e ih =
        let z : spaces (b ∷ s) ≡ 0 = rw e in
        sym (ap (λ (n : ℕ). rest k (at + n) (drop n (b ∷ s))) z ∙ ap (λ (n : ℕ). rest k n (b ∷ s)) (omega arith))

pub middle-skip : (s : List ℕ) (k at : ℕ) → after_middle k at s ≡ after_middle k (at + length (word s)) (drop (length (word s)) s)
unfolding rest word
middle-skip [] k at = refl
middle-skip (b ∷ s) k at = go (eqb b space) refl (middle-skip s k (at + 1))
  where
    go : (t : Bool) → eqb b space ≡ t → after_middle k (at + 1) s ≡ after_middle k (at + 1 + length (word s)) (drop (length (word s)) s) → after_middle k at (b ∷ s) ≡ after_middle k (at + length (word (b ∷ s))) (drop (length (word (b ∷ s))) (b ∷ s))
    go true e ih =
        let z : length (word (b ∷ s)) ≡ 0 = rw e in
        sym (ap (λ (n : ℕ). after_middle k (at + n) (drop n (b ∷ s))) z ∙ ap (λ (n : ℕ). after_middle k n (b ∷ s)) (omega arith))
    go false e ih = rw e (ih ∙ ap (λ (n : ℕ). after_middle k n (drop (length (word s)) s)) (omega arith))

-- ---- the same at a place of the body
module _ (b : List ℕ) (at start : ℕ) (within : at ≤ length b) (is : start ≡ at + spaces (drop at b)) where
  pub start-in : start ≤ length b
  start-in = omega (arith, spaces_in (drop at b), length-drop at b)

  pub rest_from : (k : ℕ) → rest k at (drop at b) ≡ rest k start (drop start b)
  rest_from k = rest-skip (drop at b) k at ∙ rw (is, drop-drop (spaces (drop at b)) at b)

  pub start-stops : start < length b → get_or b start 0 ≡ space → ⊥
  start-stops h e = spaces-stops (drop at b) (omega (arith, length-drop at b)) (get_or-drop at b (spaces (drop at b)) 0 ∙ rw (← is) e)

module _ (b : List ℕ) (at stop : ℕ) (within : at ≤ length b) (is : stop ≡ at + length (word (drop at b))) where
  pub stop-in : stop ≤ length b
  stop-in = omega (arith, word_in (drop at b), length-drop at b)

  middle-from : (k : ℕ) → after_middle k at (drop at b) ≡ after_middle k stop (drop stop b)
  middle-from k = middle-skip (drop at b) k at ∙ rw (is, drop-drop (length (word (drop at b))) at b)

  stop-stops : stop < length b → get_or b stop 0 ≡ space
  stop-stops h = rw is (sym (get_or-drop at b (length (word (drop at b))) 0) ∙ word-stops (drop at b) (omega (arith, length-drop at b)))

  pub middle-end : (k : ℕ) → stop ≡ length b → after_middle k at (drop at b) ≡ []
  unfolding after_middle
  middle-end k e = middle-from k ∙ rw (drop_of_length-le b {i = stop} (omega arith))

  pub middle_rest : (k : ℕ) → stop < length b → after_middle k at (drop at b) ≡ rest k (stop + 1) (drop (stop + 1) b)
  unfolding after_middle
  middle_rest k h = middle-from k ∙ rw (drop-step b stop 0 h, stop-stops h)

module _ (b : List ℕ) (k start : ℕ) where
  pub rest_end : start ≡ length b → rest k start (drop start b) ≡ []
  unfolding rest
  rest_end e = rw (drop_of_length-le b {i = start} (omega arith))

  pub rest-colon : start < length b → get_or b start 0 ≡ colon → rest k start (drop start b) ≡ part_at (start + 1) (drop (start + 1) b) ∷ []
  unfolding rest
  rest-colon h e = rw (drop-step b start 0 h, e)

  module _ (h : start < length b) (e : get_or b start 0 ≡ space → ⊥) (f : get_or b start 0 ≡ colon → ⊥) where
    rest-remains : k ≡ middle_limit → rest k start (drop start b) ≡ part_at start (drop start b) ∷ []
    unfolding rest
    rest-remains g = rw (drop-step b start 0 h, ne_eqb _ space e, ne_eqb _ colon f, g)

    pub rest-middle : (k ≡ middle_limit → ⊥)
        → rest k start (drop start b) ≡ part_at start (get_or b start 0 ∷ word (drop (start + 1) b)) ∷ after_middle (k + 1) (start + 1) (drop (start + 1) b)
    unfolding rest
    rest-middle g = rw (drop-step b start 0 h, ne_eqb _ space e, ne_eqb _ colon f, ne_eqb k middle_limit g)

-- ---- what `middle` returns: a message m with the middle from `start`, of which the bytes before `at` are read, to `stop`, and what follows it
module _ (b : List ℕ) (m : Message) (start at stop : ℕ) (within : at ≤ length b) (is : stop ≡ at + length (word (drop at b))) where
  pub middle-stops : (r : Message) → r ≡ with_param m (span start stop) → stop ≡ length b
      → r ≡ with_params (with_param m (span start (at + length (word (drop at b))))) (after_middle (m.count + 1) at (drop at b))
  unfolding with_params
  middle-stops r e h = rw (middle-end b at stop within is (m.count + 1) h, ← is) e

  pub middle-goes : (next r : Message) → next ≡ with_param m (span start stop) → r ≡ with_params next (rest next.count (stop + 1) (drop (stop + 1) b)) → (stop ≡ length b → ⊥)
      → r ≡ with_params (with_param m (span start (at + length (word (drop at b))))) (after_middle (m.count + 1) at (drop at b))
  unfolding with_param
  middle-goes next r e f h =
      let lt : stop < length b = omega (arith, stop-in b at stop within is) in
      rw (middle_rest b at stop within is (m.count + 1) lt, ← is) (f ∙ ap (λ (x : Message). with_params x (rest x.count (stop + 1) (drop (stop + 1) b))) e)

-- ---- what `rest` returns, with `start` past the SPACEs
module _ (b : List ℕ) (m : Message) (at start : ℕ) (within : at ≤ length b) (is : start ≡ at + spaces (drop at b)) where
  pub rest-nothing : start ≡ length b → m ≡ with_params m (rest m.count at (drop at b))
  unfolding with_params
  rest-nothing h = rw (rest_from b at start within is m.count, rest_end b m.count start h)

  pub rest-trailing : (r : Message) → r ≡ with_param m (span (start + 1) (length b)) → (start ≡ length b → ⊥) → get_or b start 0 ≡ colon → r ≡ with_params m (rest m.count at (drop at b))
  unfolding with_params
  rest-trailing r e h f =
      let lt : start < length b = omega (arith, start-in b at start within is) in
      let n : start + 1 + length (drop (start + 1) b) ≡ length b = omega (arith, length-drop (start + 1) b) in
      rw (rest_from b at start within is m.count, rest-colon b m.count start lt f, n) e

  pub rest-last : (r : Message) → r ≡ with_param m (span start (length b)) → (start ≡ length b → ⊥) → (get_or b start 0 ≡ colon → ⊥) → m.count ≡ middle_limit
      → r ≡ with_params m (rest m.count at (drop at b))
  unfolding with_params
  rest-last r e h f g =
      let lt : start < length b = omega (arith, start-in b at start within is) in
      let n : start + length (drop start b) ≡ length b = omega (arith, length-drop start b) in
      rw (rest_from b at start within is m.count, rest-remains b m.count start lt (start-stops b at start within is lt) f g, n) e

  pub rest_goes : (r : Message) → r ≡ with_params (with_param m (span start (start + 1 + length (word (drop (start + 1) b))))) (after_middle (m.count + 1) (start + 1) (drop (start + 1) b))
      → (start ≡ length b → ⊥) → (get_or b start 0 ≡ colon → ⊥) → (m.count ≡ middle_limit → ⊥) → r ≡ with_params m (rest m.count at (drop at b))
  unfolding with_params
  rest_goes r e h f g =
      let lt : start < length b = omega (arith, start-in b at start within is) in
      rw (rest_from b at start within is m.count, rest-middle b m.count start lt (start-stops b at start within is lt) f g)
      (e ∙ ap (λ (n : ℕ). with_params (with_param m (span start n)) (after_middle (m.count + 1) (start + 1) (drop (start + 1) b))) (omega arith))
