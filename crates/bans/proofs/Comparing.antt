-- How the folds of two lists stand to each other: by their first bytes, or, where these have one fold, as those of what follows. Assumes nothing.
use mathlib.Core.Path.{◌≡◌, refl, sym, ap, ap₂, ◌∙◌}
use mathlib.Core.Bool.{Bool, true, false, cond, ◌&&◌}
use mathlib.Core.Logic.{◌⊎◌, inl, inr}
use mathlib.Core.List.{List, [], ◌∷◌, ◌++◌, map, map-append}
use Prim.Native.Nat.{ℕ, ◌+◌, ◌<◌}
use native.Mathlib.Numerals.{add-one}
use native.Mathlib.Omega.{arith}
use lib.Bits.{bit_or}
use lib.Dec.{eqb}
use lib.ListN.{length, take, drop, get_or}
use lib.Seq.{take-suc}
use borrow.Author.Tests.{eq-eqb, eqb-true}
use Rattle.std.specs.declared.cmp.Ordering.{Ordering}
use Rattle.std.specs.declared.cmp.Ordering.TheVariants.{Less, Equal, Greater}
use Rattle.std.specs.Ordering.{nat_cmp, is_ne}
use Rattle.std.specs.Cmp.{nat_cmp_is}
use Rattle.laws.proofs.Bools.{and_left, and_right}
use Rattle.laws.proofs.Bitwise.{or-zero}
use Rattle.laws.proofs.Lists.{take-map, drop-map}
use Rattle.octets.specs.Order.{compare}
use Rattle.octets.proofs.Ordered.{then_by, heads-same, heads-less, heads-more, trichotomy, compare_refl, compare-nil, below_more, compare-parts}
use Rattle.names.specs.Fold.{fold}

-- ---- two blocks
same_fold : (x y u : ℕ) → u ≡ cond (eqb (fold x) (fold y)) 0 1 → u ≡ 0 → fold x ≡ fold y
same_fold x y u e z = go (eqb (fold x) (fold y)) refl
  where
    go : (t : Bool) → eqb (fold x) (fold y) ≡ t → fold x ≡ fold y
    go true f = eqb-true (fold x) (fold y) f
    go false f = let q : u ≡ 1 = e ∙ rw f in absurd (omega arith)

-- one byte more
fold_next : (l : List ℕ) (j : ℕ) → j < length l → map fold (take (j + 1) l) ≡ map fold (take j l) ++ (fold (get_or l j 0) ∷ [])
fold_next l j h = ap (λ (n : ℕ). map fold (take n l)) (add-one j) ∙ ap (map fold) (take-suc l j 0 h) ∙ map-append fold (take j l) (get_or l j 0 ∷ [])

pub folds-next : (a b : List ℕ) (j bits u : ℕ) → j < length a → j < length b → (bits ≡ 0 → map fold (take j a) ≡ map fold (take j b))
    → u ≡ cond (eqb (fold (get_or a j 0)) (fold (get_or b j 0))) 0 1 → bit_or bits u ≡ 0 → map fold (take (j + 1) a) ≡ map fold (take (j + 1) b)
folds-next a b j bits u h k so e z =
    let both : eqb bits 0 && eqb u 0 ≡ true = sym (or-zero bits u) ∙ eq-eqb (bit_or bits u) 0 z in
    fold_next a j h
    ∙ ap₂ (λ (l : List ℕ) (x : ℕ). l ++ (x ∷ [])) (so (eqb-true bits 0 (and_left (eqb bits 0) (eqb u 0) both)))
    (same_fold (get_or a j 0) (get_or b j 0) u e (eqb-true u 0 (and_right (eqb bits 0) (eqb u 0) both)))
    ∙ sym (fold_next b j k)

-- what follows two blocks with one fold
pub behind-block : (n : ℕ) (a b x y s t : List ℕ) → x ≡ take n a → s ≡ drop n a → y ≡ take n b → t ≡ drop n b → map fold x ≡ map fold y
    → compare (map fold s) (map fold t) ≡ compare (map fold a) (map fold b)
behind-block n a b x y s t ex es ey et e =
    let front : compare (take n (map fold a)) (take n (map fold b)) ≡ Equal =
    ap₂ compare (take-map fold n a ∙ ap (map fold) (sym ex) ∙ e ∙ ap (map fold) ey) (take-map fold n b) ∙ compare_refl (map fold (take n b)) in
    ap₂ (λ (k l : List ℕ). compare (map fold k) (map fold l)) es et
    ∙ ap₂ compare (sym (drop-map fold n a)) (sym (drop-map fold n b))
    ∙ ap (λ (o : Ordering). then_by o (compare (drop n (map fold a)) (drop n (map fold b)))) (sym front)
    ∙ sym (compare-parts n (map fold a) (map fold b))

-- ---- byte by byte
-- what a test of an order tells
pub ordered-apart : (o : Ordering) → true ≡ is_ne o → o ≡ Equal → ⊥
ordered-apart o e z = cc (e, ap is_ne z)

pub ordered-same : (o : Ordering) (x y : ℕ) → o ≡ nat_cmp x y → false ≡ is_ne o → x ≡ y
ordered-same o x y e z = go (trichotomy x y)
  where
    go : (x < y) ⊎ ((x ≡ y) ⊎ (y < x)) → x ≡ y
    go (inl h) = cc (z, ap is_ne (e ∙ sym (nat_cmp_is x y Less h)))
    go (inr (inl h)) = h
    go (inr (inr h)) = cc (z, ap is_ne (e ∙ sym (nat_cmp_is x y Greater h)))

module _ (a b s t : List ℕ) (x y : ℕ) (ea : a ≡ x ∷ s) (eb : b ≡ y ∷ t) where
  heads : compare (map fold a) (map fold b) ≡ compare (fold x ∷ map fold s) (fold y ∷ map fold t)
  heads = rw (ea, eb)

  pub at_same : fold x ≡ fold y → compare (map fold a) (map fold b) ≡ compare (map fold s) (map fold t)
  at_same e = heads ∙ heads-same (fold x) (fold y) (map fold s) (map fold t) e

  -- the order of two folds that aren't one
  pub at_other : (o : Ordering) → o ≡ nat_cmp (fold x) (fold y) → (o ≡ Equal → ⊥) → compare (map fold a) (map fold b) ≡ o
  at_other o e ne = go (trichotomy (fold x) (fold y))
    where
      go : (fold x < fold y) ⊎ ((fold x ≡ fold y) ⊎ (fold y < fold x)) → compare (map fold a) (map fold b) ≡ o
      go (inl h) = heads ∙ heads-less (fold x) (fold y) (map fold s) (map fold t) h ∙ nat_cmp_is (fold x) (fold y) Less h ∙ sym e
      go (inr (inl h)) = absurd (ne (e ∙ sym (nat_cmp_is (fold x) (fold y) Equal h)))
      go (inr (inr h)) = heads ∙ heads-more (fold x) (fold y) (map fold s) (map fold t) h ∙ nat_cmp_is (fold x) (fold y) Greater h ∙ sym e

first-ends : (b : List ℕ) (m n : ℕ) → n ≡ length b + m → nat_cmp m n ≡ compare [] (map fold b)
first-ends [] m n e = let h : m ≡ n = omega arith in sym (nat_cmp_is m n Equal h) ∙ sym (compare_refl [])
first-ends (y ∷ b) m n e = let h : m < n = omega arith in sym (nat_cmp_is m n Less h) ∙ sym (compare-nil (fold y) (map fold b))

second-ends : (a : List ℕ) (m n : ℕ) → length a + n ≡ m → nat_cmp m n ≡ compare (map fold a) []
second-ends [] m n e = let h : m ≡ n = omega arith in sym (nat_cmp_is m n Equal h) ∙ sym (compare_refl [])
second-ends (x ∷ a) m n e = let h : n < m = omega arith in sym (nat_cmp_is m n Greater h) ∙ sym (below_more [] (fold x ∷ map fold a) (compare-nil (fold x) (map fold a)))

-- one of them has ended
pub at_end : (a b : List ℕ) (m n : ℕ) → (a ≡ []) ⊎ (b ≡ []) → length a + n ≡ length b + m → nat_cmp m n ≡ compare (map fold a) (map fold b)
at_end a b m n (inl h) e = let k : n ≡ length b + m = omega (arith, ap (λ (l : List ℕ). length l) h) in first-ends b m n k ∙ ap (λ (l : List ℕ). compare (map fold l) (map fold b)) (sym h)
at_end a b m n (inr h) e = let k : length a + n ≡ m = omega (arith, ap (λ (l : List ℕ). length l) h) in second-ends a m n k ∙ ap (λ (l : List ℕ). compare (map fold a) (map fold l)) (sym h)
