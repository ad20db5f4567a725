-- What holds of the parameters of any bytes is shown clause by clause: of a rest, P, and of what follows a middle, Q, each at the number k of middles before, at a place, of the bytes
-- from there on and the parameters that they have. By recursion on the bytes, since each clause leaves fewer. Assumes nothing.
use mathlib.Core.Path.{◌≡◌, refl}
use mathlib.Core.Bool.{Bool, true, false}
use mathlib.Core.List.{List, [], ◌∷◌}
use Prim.Native.Nat.{ℕ, ◌+◌}
use lib.Dec.{eqb}
use borrow.Author.Tests.{eqb-true, eqb-false}
use Rattle.octets.specs.Bytes.{space, colon}
use Rattle.message.specs.Grammar.{Part, middle_limit, part_at, word, rest, after_middle}

-- What is to be shown.
abbrev pub Claim : Type 1
Claim = ℕ → ℕ → List ℕ → List Part → Type 0

pub record Clauses (P Q : Claim) : Type 0 where
  -- of a rest: nothing is left; a SPACE is passed; ':' and a trailing part; all that remains after the fourteenth middle; a middle, and what follows it
  pub nothing : (k at : ℕ) → P k at [] []
  pub spaced : (k at : ℕ) (s : List ℕ) (ps : List Part) → P k (at + 1) s ps → P k at (space ∷ s) ps
  pub trailing : (k at : ℕ) (s : List ℕ) → P k at (colon ∷ s) (part_at (at + 1) s ∷ [])
  pub remains : (k at x : ℕ) (s : List ℕ) → eqb x space ≡ false → eqb x colon ≡ false → k ≡ middle_limit → P k at (x ∷ s) (part_at at (x ∷ s) ∷ [])
  pub middle : (k at x : ℕ) (s : List ℕ) (ps : List Part) → eqb x space ≡ false → eqb x colon ≡ false → (k ≡ middle_limit → ⊥) → Q (k + 1) (at + 1) s ps
      → P k at (x ∷ s) (part_at at (x ∷ word s) ∷ ps)
  -- of what follows a middle: it ends the body; a SPACE ends it; a byte of it is passed
  pub ends : (k at : ℕ) → Q k at [] []
  pub stops : (k at : ℕ) (s : List ℕ) (ps : List Part) → P k (at + 1) s ps → Q k at (space ∷ s) ps
  pub goes : (k at x : ℕ) (s : List ℕ) (ps : List Part) → eqb x space ≡ false → Q k (at + 1) s ps → Q k at (x ∷ s) ps

module _ (P Q : Claim) (c : Clauses P Q) where
  rest-step : (k at x : ℕ) (s : List ℕ) → P k (at + 1) s (rest k (at + 1) s) → Q (k + 1) (at + 1) s (after_middle (k + 1) (at + 1) s) → P k at (x ∷ s) (rest k at (x ∷ s))
  unfolding rest
  rest-step k at x s r m = go (eqb x space) refl (eqb x colon) refl (eqb k middle_limit) refl
    where
      go : (t : Bool) → eqb x space ≡ t → (u : Bool) → eqb x colon ≡ u → (v : Bool) → eqb k middle_limit ≡ v → P k at (x ∷ s) (rest k at (x ∷ s))
      go true p u q v l = rw (p, eqb-true x space p) (c.spaced k at s (rest k (at + 1) s) r)
      go false p true q v l = rw (p, q, eqb-true x colon q) (c.trailing k at s)
      go false p false q true l = rw (p, q, l) (c.remains k at x s p q (eqb-true k middle_limit l))
      go false p false q false l = rw (p, q, l) (c.middle k at x s (after_middle (k + 1) (at + 1) s) p q (eqb-false k middle_limit l) m)

  middle-step : (k at x : ℕ) (s : List ℕ) → P k (at + 1) s (rest k (at + 1) s) → Q k (at + 1) s (after_middle k (at + 1) s) → Q k at (x ∷ s) (after_middle k at (x ∷ s))
  unfolding rest
  middle-step k at x s r m = go (eqb x space) refl
    where
      go : (t : Bool) → eqb x space ≡ t → Q k at (x ∷ s) (after_middle k at (x ∷ s))
      go true p = rw (p, eqb-true x space p) (c.stops k at s (rest k (at + 1) s) r)
      go false p = rw p (c.goes k at x s (after_middle k (at + 1) s) p m)

  mutual
    unfolding rest

    pub of-rest : (s : List ℕ) (k at : ℕ) → P k at s (rest k at s)
    of-rest [] k at = c.nothing k at
    of-rest (x ∷ s) k at = rest-step k at x s (of-rest s k (at + 1)) (of-middle s (k + 1) (at + 1))

    pub of-middle : (s : List ℕ) (k at : ℕ) → Q k at s (after_middle k at s)
    of-middle [] k at = c.ends k at
    of-middle (x ∷ s) k at = middle-step k at x s (of-rest s k (at + 1)) (of-middle s k (at + 1))
