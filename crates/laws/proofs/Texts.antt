-- Laws of texts one behind the other, a mark before each or between each two: what all their bytes pass, how many bytes they are, and how they are put one by
-- one. Assumes nothing.
use Prim.Native.Nat.{ℕ, suc, ◌+◌}
use mathlib.Core.Path.{◌≡◌, refl}
use mathlib.Core.Bool.{Bool, true, false, cond}
use mathlib.Core.List.{List, [], ◌∷◌, ◌++◌, append-nil}
use native.Mathlib.Omega.{arith}
use lib.ListN.{length, length-append}
use lib.Dec.{ltb}
use borrow.Author.Tests.{lt-ltb}
use Rattle.laws.specs.Lists.{all, prefixed, separated}
use Rattle.laws.specs.Joins.{total}
use Rattle.laws.proofs.Lists.{all_head, all_tail, all_cons, all_append}

module _ (mark : ℕ) where
  -- One text alone has no mark.
  pub separated-one : (s : List ℕ) → separated mark (s ∷ []) ≡ s
  unfolding separated prefixed
  separated-one s = append-nil s

  -- ---- a test of bytes that the mark passes
  module _ (p : ℕ → Bool) (m : p mark ≡ true) where
    all-prefixed : (l : List (List ℕ)) → all (all p) l ≡ true → all p (prefixed mark l) ≡ true
    unfolding all prefixed
    all-prefixed [] h = refl
    all-prefixed (s ∷ l) h = all_cons p mark (s ++ prefixed mark l) m (all_append p s (prefixed mark l) (all_head (all p) s l h) (all-prefixed l (all_tail (all p) s l h)))

    -- If each text passes, all do with the marks between them.
    pub all-separated : (l : List (List ℕ)) → all (all p) l ≡ true → all p (separated mark l) ≡ true
    unfolding all separated
    all-separated [] h = refl
    all-separated (s ∷ l) h = all_append p s (prefixed mark l) (all_head (all p) s l h) (all-prefixed l (all_tail (all p) s l h))

  -- ---- how many bytes they are
  length-prefixed : (l : List (List ℕ)) → length (prefixed mark l) ≡ total ◌+◌ 0 (λ s. suc (length s)) l
  unfolding prefixed
  length-prefixed [] = refl
  length-prefixed (s ∷ l) = omega (arith, length-append s (prefixed mark l), length-prefixed l)

  -- Every text has its mark but the first.
  pub length-separated : (s : List ℕ) (l : List (List ℕ)) → suc (length (separated mark (s ∷ l))) ≡ total ◌+◌ 0 (λ t. suc (length t)) (s ∷ l)
  unfolding separated
  length-separated s l = omega (arith, length-append s (prefixed mark l), length-prefixed l)

  -- ---- one by one: the texts from a place on, and the mark before each but the very first
  abbrev pub separated_from : ℕ → List (List ℕ) → List ℕ
  separated_from k l = cond (ltb 0 k) (prefixed mark l) (separated mark l)

  -- The text at a place is put, with its mark, and those behind it are left.
  pub separated-step : (k : ℕ) (s : List ℕ) (l : List (List ℕ)) → separated_from k (s ∷ l) ≡ cond (ltb 0 k) (mark ∷ []) [] ++ s ++ separated_from (k + 1) l
  unfolding prefixed separated
  separated-step k s l = rw (lt-ltb 0 (k + 1) (omega arith)) (go (ltb 0 k))
    where
      go : (t : Bool) → cond t (prefixed mark (s ∷ l)) (separated mark (s ∷ l)) ≡ cond t (mark ∷ []) [] ++ s ++ prefixed mark l
      go true = refl
      go false = refl

  -- Behind the last text nothing is left.
  pub separated-end : (k : ℕ) → separated_from k [] ≡ []
  unfolding prefixed separated
  separated-end k = go (ltb 0 k)
    where
      go : (t : Bool) → cond t (prefixed mark []) (separated mark []) ≡ []
      go true = refl
      go false = refl
