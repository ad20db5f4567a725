-- Laws of the first place of a byte: the bytes before it, that byte, and those behind it are all of them, and it isn't among those before it; so bytes without it
-- may be passed over, block by block. Assumes nothing.
use mathlib.Core.Path.{◌≡◌, refl, sym, ap, ◌∙◌}
use mathlib.Core.Bool.{Bool, true, false, not, cond}
use mathlib.Core.List.{List, [], ◌∷◌, ◌++◌}
use Prim.Native.Nat.{ℕ, suc, ◌+◌, ◌≤◌, ◌<◌}
use native.Mathlib.Omega.{arith}
use lib.ListN.{length, take, drop, take-append-drop}
use lib.Seq.{length-take-le}
use lib.Dec.{eqb, ltb}
use borrow.Author.Tests.{ltb-false, eqb-true, not-true}
use Rattle.std.specs.Option.{unwrap_or}
use Rattle.std.specs.List.{position, position_or_len}
use Rattle.std.proofs.lemmas.List.Recursion.{is_position_or_len}
use Rattle.std.proofs.lemmas.List.Sums.{prefix_len-le-length}
use Rattle.laws.specs.Lists.{all}
use Rattle.laws.proofs.Lists.{all_head, all_tail}
use Rattle.octets.specs.Search.{differs, before}

-- ---- the bytes divided
-- b isn't among those before it
pub before-none : (b : ℕ) (s : List ℕ) → all (differs b) (before b s) ≡ true
unfolding before all
before-none b [] = refl
before-none b (x ∷ s) = go (eqb x b) refl (before-none b s)
  where
    go : (t : Bool) → eqb x b ≡ t → all (differs b) (before b s) ≡ true → all (differs b) (before b (x ∷ s)) ≡ true
    go true e ih = rw e
    go false e ih = rw (e, e) ih

-- they stand in front
pub before-front : (b : ℕ) (s : List ℕ) → take (length (before b s)) s ≡ before b s
unfolding before
before-front b [] = refl
before-front b (x ∷ s) = go (eqb x b) refl (before-front b s)
  where
    go : (t : Bool) → eqb x b ≡ t → take (length (before b s)) s ≡ before b s → take (length (before b (x ∷ s))) (x ∷ s) ≡ before b (x ∷ s)
    go true e ih = rw e
    go false e ih = rw e (ap (λ (l : List ℕ). x ∷ l) ih)

pub before-within : (b : ℕ) (s : List ℕ) → length (before b s) ≤ length s
unfolding before
before-within b [] = omega arith
before-within b (x ∷ s) = go (eqb x b) refl (before-within b s)
  where
    go : (t : Bool) → eqb x b ≡ t → length (before b s) ≤ length s → length (before b (x ∷ s)) ≤ suc (length s)
    go true e ih = rw e (omega arith)
    go false e ih = rw e (omega arith)

-- and behind them comes b, if there is one
pub before-then : (b : ℕ) (s : List ℕ) → length (before b s) < length s → drop (length (before b s)) s ≡ b ∷ drop (suc (length (before b s))) s
unfolding before
before-then b [] = λ h. absurd (omega arith)
before-then b (x ∷ s) = λ h. go (eqb x b) refl (before-then b s) h
  where
    go : (t : Bool) → eqb x b ≡ t → (length (before b s) < length s → drop (length (before b s)) s ≡ b ∷ drop (suc (length (before b s))) s)
        → length (before b (x ∷ s)) < suc (length s) → drop (length (before b (x ∷ s))) (x ∷ s) ≡ b ∷ drop (suc (length (before b (x ∷ s)))) (x ∷ s)
    go true e ih = rw e (λ h. ap (λ (y : ℕ). y ∷ s) (eqb-true x b e))
    go false e ih = rw e (λ h. ih (omega arith))

-- behind bytes that are all others it is looked for in the rest
before-behind : (b : ℕ) (u t : List ℕ) → all (differs b) u ≡ true → length (before b (u ++ t)) ≡ length u + length (before b t)
unfolding before
before-behind b [] t e = omega arith
before-behind b (x ∷ u) t e = rw (not-true (eqb x b) (all_head (differs b) x u e)) (ap suc (before-behind b u t (all_tail (differs b) x u e)) ∙ omega arith)

-- a block of others is passed over
pub before-passed : (b n : ℕ) (s block rest : List ℕ) → block ≡ take n s → rest ≡ drop n s → length rest + n ≡ length s → all (differs b) block ≡ true
    → length (before b s) ≡ n + length (before b rest)
before-passed b n s block rest e f h k =
    let front : length (take n s) ≡ n = length-take-le n s (omega arith) in
    rw (take-append-drop n s, front, ← f) at (before-behind b (take n s) (drop n s) (rw e at k))

-- ---- as a search along the bytes finds it
-- the place of the first that passes a test, or the end
pub first_place : (p : ℕ → Bool) (s : List ℕ) → unwrap_or (position p s) (length s) ≡ position_or_len p s
first_place p s = go (ltb (position_or_len p s) (length s)) refl
  where
    go : (t : Bool) → ltb (position_or_len p s) (length s) ≡ t → unwrap_or (position p s) (length s) ≡ position_or_len p s
    go true e = rw e
    go false e = rw e (omega (arith, ltb-false _ _ e, prefix_len-le-length (λ x. not (p x)) s))

pub before-place : (b : ℕ) (s : List ℕ) → unwrap_or (position (λ x. eqb x b) s) (length s) ≡ length (before b s)
unfolding before
before-place b s = first_place (λ x. eqb x b) s ∙ sym (is_position_or_len (λ s. length (before b s)) (λ x. eqb x b) refl step s)
  where
    step : (x : ℕ) (xs : List ℕ) → length (before b (x ∷ xs)) ≡ cond (eqb x b) 0 (1 + length (before b xs))
    step x xs = go (eqb x b) refl
      where
        go : (t : Bool) → eqb x b ≡ t → length (before b (x ∷ xs)) ≡ cond (eqb x b) 0 (1 + length (before b xs))
        go true e = rw e
        go false e = rw e (omega arith)
