-- Laws of the first place of a list that passes a test: it passes, and none before it does. Assumes nothing.
use mathlib.Core.Path.{◌≡◌, refl, sym, ap, ◌∙◌}
use mathlib.Core.Bool.{Bool, true, false, not, cond}
use mathlib.Core.List.{List, [], ◌∷◌}
use Prim.Native.Nat.{ℕ, zero, suc, ◌+◌, ◌≤◌, ◌<◌}
use native.Mathlib.Omega.{arith}
use lib.ListN.{length, drop, get_or}
use lib.Dec.{ltb}
use borrow.Author.Tests.{lt-ltb, le-ltb, ltb-true, ltb-false}
use Rattle.std.specs.List.{position_or_len}
use Rattle.laws.specs.Lists.{all}
use Rattle.laws.proofs.Lists.{drop-step}
use Rattle.table.specs.Slots.{first_at}

ltb-suc : (a b : ℕ) → ltb (suc a) (suc b) ≡ ltb a b
ltb-suc a b = go (ltb a b) refl
  where
    go : (t : Bool) → ltb a b ≡ t → ltb (suc a) (suc b) ≡ ltb a b
    go true e = rw e (lt-ltb (suc a) (suc b) (omega (arith, ltb-true a b e)))
    go false e = rw e (le-ltb (suc a) (suc b) (omega (arith, ltb-false a b e)))

module _ {A : Type 0} (p : A → Bool) where
  -- ---- at a place
  module _ (l : List A) (i : ℕ) (d : A) (h : i < length l) where
    first-stop : p (get_or l i d) ≡ true → first_at p (drop i l) ≡ 0
    unfolding first_at
    first-stop e = rw (drop-step l i d h, e)

    first-go : p (get_or l i d) ≡ false → first_at p (drop i l) ≡ suc (first_at p (drop (i + 1) l))
    unfolding first_at
    first-go e = rw (drop-step l i d h, e)

    -- ---- the same for a search that has passed over those before
    module _ (e : first_at p l ≡ i + first_at p (drop i l)) where
      -- a place that passes is the first
      pub first-here : p (get_or l i d) ≡ true → first_at p l ≡ i
      first-here y = omega (arith, first-stop y)

      -- a place that doesn't is passed over too
      pub first_next : p (get_or l i d) ≡ false → first_at p l ≡ i + 1 + first_at p (drop (i + 1) l)
      first_next n = omega (arith, first-go n)

  -- a search that has passed over all places has found none
  pub first-end : (l : List A) (i : ℕ) → length l ≤ i → first_at p l ≡ i + first_at p (drop i l) → length l ≤ first_at p l
  first-end l i h e = omega arith

  -- ---- of the whole list
  first_passes : (l : List A) (d : A) → first_at p l < length l → p (get_or l (first_at p l) d) ≡ true
  unfolding first_at
  first_passes [] d = λ h. absurd (omega arith)
  first_passes (x ∷ l) d = go (p x) refl (first_passes l d)
    where
      go : (t : Bool) → p x ≡ t → (first_at p l < length l → p (get_or l (first_at p l) d) ≡ true) → first_at p (x ∷ l) < length (x ∷ l) → p (get_or (x ∷ l) (first_at p (x ∷ l)) d) ≡ true
      go true e ih = λ h. rw e e
      go false e ih = λ h. rw e (ih (let k : suc (first_at p l) < suc (length l) = rw e at h in omega arith))

  first-before : (l : List A) (d : A) (j : ℕ) → j < first_at p l → p (get_or l j d) ≡ false
  unfolding first_at
  first-before [] d j = λ h. absurd (omega arith)
  first-before (x ∷ l) d j = go (p x) refl j (first-before l d)
    where
      go : (t : Bool) → p x ≡ t → (i : ℕ) → ((i : ℕ) → i < first_at p l → p (get_or l i d) ≡ false) → i < first_at p (x ∷ l) → p (get_or (x ∷ l) i d) ≡ false
      go true e i ih = λ h. absurd (let k : i < 0 = rw e at h in omega arith)
      go false e zero ih = λ h. e
      go false e (suc i) ih = λ h. ih i (let k : suc i < suc (first_at p l) = rw e at h in omega arith)

  -- no element passes exactly if there is no first
  pub first-all : (l : List A) → all (λ x. not (p x)) l ≡ not (ltb (first_at p l) (length l))
  unfolding first_at all
  first-all [] = refl
  first-all (x ∷ l) = go (p x) refl (first-all l)
    where
      go : (t : Bool) → p x ≡ t → all (λ y. not (p y)) l ≡ not (ltb (first_at p l) (length l)) → all (λ y. not (p y)) (x ∷ l) ≡ not (ltb (first_at p (x ∷ l)) (suc (length l)))
      go true e ih = rw (e, lt-ltb 0 (suc (length l)) (omega arith))
      go false e ih = rw e (ih ∙ ap not (sym (ltb-suc (first_at p l) (length l))))

-- the library's search for it
pub first-listed : {A : Type 0} (p : A → Bool) (l : List A) → position_or_len p l ≡ first_at p l
unfolding first_at
first-listed p [] = refl
first-listed p (x ∷ l) = go (p x) (first-listed p l)
  where
    go : (t : Bool) → position_or_len p l ≡ first_at p l → cond (not t) (1 + position_or_len p l) 0 ≡ cond t 0 (suc (first_at p l))
    go true ih = refl
    go false ih = omega (arith, ih)

-- ---- what is first
-- The place k is the first of a list that passes the test; d stands for what lies past the end.
pub record IsFirst {A : Type 0} (p : A → Bool) (l : List A) (d : A) (k : ℕ) : Type 0 where
  pub inside : k < length l
  pub passes : p (get_or l k d) ≡ true
  pub before : (j : ℕ) → j < k → p (get_or l j d) ≡ false

-- No place of a list passes the test.
abbrev pub IsNone : {A : Type 0} → (A → Bool) → List A → A → Type 0
IsNone p l d = (j : ℕ) → j < length l → p (get_or l j d) ≡ false

module _ {A : Type 0} (p : A → Bool) (l : List A) (d : A) where
  -- the first place, where it is inside the list, passes, and none before it does
  pub first-is : (k : ℕ) → first_at p l ≡ k → k < length l → IsFirst p l d k
  first-is k e h = record {
    inside = h;
    passes = rw e at (first_passes p l d (omega arith));
    before = λ j b. first-before p l d j (omega arith);
  }

  -- where it isn't inside, no place passes
  pub first-none : length l ≤ first_at p l → IsNone p l d
  first-none h j b = first-before p l d j (omega arith)
