-- `compare` orders byte lists of any length: it is reflexive, antisymmetric, total and transitive, and goes by the first bytes before the rest.
-- Assumes nothing.
use mathlib.Core.Path.{◌≡◌, refl, sym, ap, ◌∙◌}
use mathlib.Core.Bool.{Bool, true, false, true≢false}
use mathlib.Core.Logic.{◌⊎◌, inl, inr}
use mathlib.Core.List.{List, [], ◌∷◌}
use Prim.Native.Nat.{ℕ, zero, suc, ◌+◌, ◌<◌, min}
use native.Mathlib.Omega.{arith}
use lib.ListN.{length, take, drop, get_or, length-drop}
use lib.Dec.{eqb, ltb, leb}
use borrow.Author.Tests.{eq-eqb, ne_eqb, lt-ltb, le-ltb, eqb-true, eqb-false, ltb-true, ltb-false, leb-true, leb-false}
use Rattle.std.specs.declared.cmp.Ordering.{Ordering}
use Rattle.std.specs.declared.cmp.Ordering.TheVariants.{Less, Equal, Greater}
use Rattle.std.specs.Ordering.{nat_cmp, is_ne}
use Rattle.std.specs.Cmp.{nat_cmp_is}
use Rattle.std.specs.Cmp.Lexicographic.{slice_cmp}
use Rattle.octets.specs.Order.{compare, opposite}
use Rattle.laws.specs.Lists.{same}
use Rattle.laws.proofs.Lists.{drop-step}
use Rattle.octets.proofs.Bytes.{same_true}

-- ---- the first byte of each
module _ (x y : ℕ) (s t : List ℕ) where
  pub heads-same : x ≡ y → compare (x ∷ s) (y ∷ t) ≡ compare s t
  unfolding compare
  heads-same e = rw (eq-eqb x y e)

  pub heads-less : x < y → compare (x ∷ s) (y ∷ t) ≡ Less
  unfolding compare
  heads-less h = simp (ne_eqb x y (λ e. omega arith), lt-ltb x y h)

  pub heads-more : y < x → compare (x ∷ s) (y ∷ t) ≡ Greater
  unfolding compare
  heads-more h = simp (ne_eqb x y (λ e. omega arith), le-ltb x y (omega arith))

-- one of the three holds of any two bytes
pub trichotomy : (x y : ℕ) → (x < y) ⊎ ((x ≡ y) ⊎ (y < x))
trichotomy x y = go (eqb x y) refl (ltb x y) refl
  where
    go : (t : Bool) → eqb x y ≡ t → (u : Bool) → ltb x y ≡ u → (x < y) ⊎ ((x ≡ y) ⊎ (y < x))
    go true e u f = inr (inl (eqb-true x y e))
    go false e true f = inl (ltb-true x y f)
    go false e false f = inr (inr (omega (arith, eqb-false x y e, ltb-false x y f)))

-- ---- the laws of an order
pub compare_refl : (a : List ℕ) → compare a a ≡ Equal
unfolding compare
compare_refl [] = refl
compare_refl (x ∷ s) = heads-same x x s s refl ∙ compare_refl s

-- the empty list comes before any other
pub compare-nil : (x : ℕ) (s : List ℕ) → compare [] (x ∷ s) ≡ Less
unfolding compare
compare-nil x s = refl

-- antisymmetric: lists of which neither is smaller are equal
pub compare_same : (a b : List ℕ) → compare a b ≡ Equal → a ≡ b
unfolding compare
compare_same [] [] e = refl
compare_same [] (y ∷ t) e = let z : ◌≡◌ {A = ℕ} 0 1 = cc in absurd (omega arith)
compare_same (x ∷ s) [] e = let z : ◌≡◌ {A = ℕ} 0 1 = cc in absurd (omega arith)
compare_same (x ∷ s) (y ∷ t) e = go (trichotomy x y) (compare_same s t)
  where
    go : (x < y) ⊎ ((x ≡ y) ⊎ (y < x)) → (compare s t ≡ Equal → s ≡ t) → x ∷ s ≡ y ∷ t
    go (inl h) ih = let l = heads-less x y s t h in let z : ◌≡◌ {A = ℕ} 0 1 = cc in absurd (omega arith)
    go (inr (inl h)) ih = rw (h, ih (sym (heads-same x y s t h) ∙ e))
    go (inr (inr h)) ih = let l = heads-more x y s t h in let z : ◌≡◌ {A = ℕ} 0 1 = cc in absurd (omega arith)

-- total: of two lists one is smaller, or they are equal
pub compare-swap : (a b : List ℕ) → compare b a ≡ opposite (compare a b)
unfolding compare opposite
compare-swap [] [] = refl
compare-swap [] (y ∷ t) = refl
compare-swap (x ∷ s) [] = refl
compare-swap (x ∷ s) (y ∷ t) = go (trichotomy x y) (compare-swap s t)
  where
    go : (x < y) ⊎ ((x ≡ y) ⊎ (y < x)) → compare t s ≡ opposite (compare s t) → compare (y ∷ t) (x ∷ s) ≡ opposite (compare (x ∷ s) (y ∷ t))
    go (inl h) ih = heads-more y x t s h ∙ sym (ap opposite (heads-less x y s t h))
    go (inr (inl h)) ih = heads-same y x t s (sym h) ∙ ih ∙ sym (ap opposite (heads-same x y s t h))
    go (inr (inr h)) ih = heads-less y x t s h ∙ sym (ap opposite (heads-more x y s t h))

-- ---- transitive
-- a smaller list's first byte is smaller, or the same one, and then what follows is smaller
less-heads : (x y : ℕ) (s t : List ℕ) → compare (x ∷ s) (y ∷ t) ≡ Less → (x < y) ⊎ ((x ≡ y) × (compare s t ≡ Less))
less-heads x y s t e = go (trichotomy x y)
  where
    go : (x < y) ⊎ ((x ≡ y) ⊎ (y < x)) → (x < y) ⊎ ((x ≡ y) × (compare s t ≡ Less))
    go (inl h) = inl h
    go (inr (inl h)) = inr (h, sym (heads-same x y s t h) ∙ e)
    go (inr (inr h)) = let l = heads-more x y s t h in let z : ◌≡◌ {A = ℕ} 0 1 = cc in absurd (omega arith)

pub compare-trans : (a b c : List ℕ) → compare a b ≡ Less → compare b c ≡ Less → compare a c ≡ Less
unfolding compare
compare-trans [] b [] e f = ends b e f
  where
    -- nothing is smaller than the empty list
    ends : (b : List ℕ) → compare [] b ≡ Less → compare b [] ≡ Less → compare [] [] ≡ Less
    ends [] e f = e
    ends (y ∷ t) e f = let z : ◌≡◌ {A = ℕ} 0 1 = cc in absurd (omega arith)
compare-trans [] b (z ∷ u) e f = refl
compare-trans (x ∷ s) [] c e f = let q : ◌≡◌ {A = ℕ} 0 1 = cc in absurd (omega arith)
compare-trans (x ∷ s) (y ∷ t) [] e f = let q : ◌≡◌ {A = ℕ} 0 1 = cc in absurd (omega arith)
compare-trans (x ∷ s) (y ∷ t) (z ∷ u) e f = go (less-heads x y s t e) (less-heads y z t u f) (compare-trans s t u)
  where
    go : (x < y) ⊎ ((x ≡ y) × (compare s t ≡ Less)) → (y < z) ⊎ ((y ≡ z) × (compare t u ≡ Less)) → (compare s t ≡ Less → compare t u ≡ Less → compare s u ≡ Less) → compare (x ∷ s) (z ∷ u) ≡ Less
    go (inl h) (inl k) ih = heads-less x z s u (omega arith)
    go (inl h) (inr k) ih = heads-less x z s u (omega arith)
    go (inr h) (inl k) ih = heads-less x z s u (omega arith)
    go (inr h) (inr k) ih = heads-same x z s u (h.0 ∙ k.0) ∙ ih h.1 k.1

-- ---- by the first bytes, and where these are the same, by the rest
abbrev pub then_by : Ordering → Ordering → Ordering
then_by Less o = Less
then_by Equal o = o
then_by Greater o = Greater

pub compare-parts : (n : ℕ) (a b : List ℕ) → compare a b ≡ then_by (compare (take n a) (take n b)) (compare (drop n a) (drop n b))
unfolding compare
compare-parts zero a b = refl
compare-parts (suc n) [] [] = refl
compare-parts (suc n) [] (y ∷ t) = refl
compare-parts (suc n) (x ∷ s) [] = refl
compare-parts (suc n) (x ∷ s) (y ∷ t) = go (eqb x y) refl (ltb x y) refl (compare-parts n s t)
  where
    go : (u : Bool) → eqb x y ≡ u → (v : Bool) → ltb x y ≡ v → compare s t ≡ then_by (compare (take n s) (take n t)) (compare (drop n s) (drop n t))
        → compare (x ∷ s) (y ∷ t) ≡ then_by (compare (x ∷ take n s) (y ∷ take n t)) (compare (drop n s) (drop n t))
    go true e v f ih = rw e ih
    go false e true f ih = rw (e, f)
    go false e false f ih = rw (e, f)

-- ---- byte by byte
-- an order of two bytes that isn't that of one and the same
pub ordered-apart : (o rest : Ordering) → true ≡ is_ne o → then_by o rest ≡ o
ordered-apart Less rest e = refl
ordered-apart Equal rest e = absurd (true≢false e)
ordered-apart Greater rest e = refl

-- and one that is
pub ordered-same : (o rest : Ordering) → false ≡ is_ne o → then_by o rest ≡ rest
ordered-same Less rest e = absurd (true≢false (sym e))
ordered-same Equal rest e = refl
ordered-same Greater rest e = absurd (true≢false (sym e))

-- the first bytes decide, or else those behind them
by_first : (x y : ℕ) (s t : List ℕ) → compare (x ∷ s) (y ∷ t) ≡ then_by (nat_cmp x y) (compare s t)
by_first x y s t = go (trichotomy x y)
  where
    go : (x < y) ⊎ ((x ≡ y) ⊎ (y < x)) → compare (x ∷ s) (y ∷ t) ≡ then_by (nat_cmp x y) (compare s t)
    go (inl l) = heads-less x y s t l ∙ ap (λ (o : Ordering). then_by o (compare s t)) (nat_cmp_is x y Less l)
    go (inr (inl e)) = heads-same x y s t e ∙ ap (λ (o : Ordering). then_by o (compare s t)) (nat_cmp_is x y Equal e)
    go (inr (inr l)) = heads-more x y s t l ∙ ap (λ (o : Ordering). then_by o (compare s t)) (nat_cmp_is x y Greater l)

-- so do those at a place
pub compare-at : (a b : List ℕ) (i : ℕ) → i < length a → i < length b
    → compare (drop i a) (drop i b) ≡ then_by (nat_cmp (get_or a i 0) (get_or b i 0)) (compare (drop (i + 1) a) (drop (i + 1) b))
compare-at a b i h k = rw (drop-step a i 0 h, drop-step b i 0 k) (by_first (get_or a i 0) (get_or b i 0) (drop (i + 1) a) (drop (i + 1) b))

-- where one has ended the lengths decide
ended : (s t : List ℕ) (m n : ℕ) → length s + n ≡ length t + m → (length s ≡ 0) ⊎ (length t ≡ 0) → nat_cmp m n ≡ compare s t
unfolding compare
ended [] [] m n e h = let q : m ≡ n = omega arith in sym (nat_cmp_is m n Equal q)
ended [] (y ∷ t) m n e h = let q : m < n = omega arith in sym (nat_cmp_is m n Less q)
ended (x ∷ s) [] m n e h = let q : n < m = omega arith in sym (nat_cmp_is m n Greater q)
ended (x ∷ s) (y ∷ t) m n e (inl h) = absurd (omega arith)
ended (x ∷ s) (y ∷ t) m n e (inr h) = absurd (omega arith)

pub compare-ends : (a b : List ℕ) (i : ℕ) → i ≡ min (length a) (length b) → nat_cmp (length a) (length b) ≡ compare (drop i a) (drop i b)
compare-ends a b i e = ended (drop i a) (drop i b) (length a) (length b) (omega (arith, length-drop i a, length-drop i b)) (go (leb (length a) (length b)) refl)
  where
    go : (t : Bool) → leb (length a) (length b) ≡ t → (length (drop i a) ≡ 0) ⊎ (length (drop i b) ≡ 0)
    go true q = inl (omega (arith, length-drop i a, leb-true (length a) (length b) q))
    go false q = inr (omega (arith, length-drop i b, leb-false (length a) (length b) q))

-- ---- the library's order of lists of numbers is the same
pub compare_library : (a b : List ℕ) → slice_cmp nat_cmp a b ≡ compare a b
unfolding compare
compare_library [] [] = refl
compare_library [] (y ∷ t) = refl
compare_library (x ∷ s) [] = refl
compare_library (x ∷ s) (y ∷ t) = go (eqb x y) refl (ltb x y) refl (compare_library s t)
  where
    go : (u : Bool) → eqb x y ≡ u → (v : Bool) → ltb x y ≡ v → slice_cmp nat_cmp s t ≡ compare s t → slice_cmp nat_cmp (x ∷ s) (y ∷ t) ≡ compare (x ∷ s) (y ∷ t)
    go true e true f ih = absurd (omega (arith, eqb-true x y e, ltb-true x y f))
    go true e false f ih = rw (f, e) ih
    go false e true f ih = rw (f, e)
    go false e false f ih = rw (f, e)

-- ---- the smaller of two
abbrev pub Below : List ℕ → List ℕ → Type 0
Below a b = compare a b ≡ Less

pub below_more : (a b : List ℕ) → Below a b → compare b a ≡ Greater
unfolding opposite
below_more a b h = compare-swap a b ∙ ap opposite h

pub more-below : (a b : List ℕ) → compare a b ≡ Greater → Below b a
unfolding opposite
more-below a b h = compare-swap a b ∙ ap opposite h

-- a smaller list is another one
pub below-same : (a b : List ℕ) → Below a b → same a b ≡ false
below-same a b h = go (same a b) refl
  where
    go : (t : Bool) → same a b ≡ t → t ≡ false
    go true e = let q : compare b b ≡ Less = rw (same_true a b e) at h in let r = compare_refl b in let z : ◌≡◌ {A = ℕ} 0 1 = cc in absurd (omega arith)
    go false e = refl
