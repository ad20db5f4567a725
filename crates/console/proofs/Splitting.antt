-- Laws of the input split into lines: what is cut off first, the lines of a piece, and the line under way with more of its bytes. Assumes nothing.
use Prim.Native.Nat.{ℕ, zero, suc, ◌+◌, ◌-◌, ◌≤◌, ◌<◌, min}
use mathlib.Core.Path.{◌≡◌, refl, sym, ap, ◌∙◌}
use mathlib.Core.Bool.{Bool, true, false, cond, true≢false}
use mathlib.Core.List.{List, [], ◌∷◌, ◌++◌}
use native.Mathlib.Omega.{arith}
use lib.ListN.{length, take, drop, length-take, length-drop}
use lib.Seq.{take_all, take-append-add, take-append_seam, take-nil}
use lib.Dec.{eqb}
use Rattle.std.specs.List.{IsFirstMatchOrLen}
use Rattle.laws.specs.Joins.{concatenated}
use Rattle.laws.proofs.Lists.{take_within}
use Rattle.octets.specs.Bytes.{lf}
use Rattle.octets.specs.Search.{before}
use Rattle.console.specs.Lines.{input_limit, kept, first_line, begun, lines_of, ends_in_lf}

-- ---- the first line
-- up to and with the first LF, or else to the end
first-is : (s : List ℕ) (i : ℕ) → IsFirstMatchOrLen (λ b. eqb b lf) s i → take (i + 1) s ≡ first_line s
unfolding first_line
first-is [] i h = take-nil (i + 1)
first-is (b ∷ s) i h = go (eqb b lf) refl i h (first-is s)
  where
    go : (t : Bool) → eqb b lf ≡ t → (i : ℕ) → IsFirstMatchOrLen (λ b. eqb b lf) (b ∷ s) i
        → ((j : ℕ) → IsFirstMatchOrLen (λ b. eqb b lf) s j → take (j + 1) s ≡ first_line s)
        → take (i + 1) (b ∷ s) ≡ cond t (b ∷ []) (b ∷ first_line s)
    go true e zero h ih = refl
    go true e (suc j) h ih = absurd (true≢false (sym e ∙ h.0 0 0 (omega arith) (omega arith)))
    go false e zero h ih = absurd (true≢false (sym (h.1 (omega arith) 0) ∙ e))
    go false e (suc j) h ih =
        let one : suc j + 1 ≡ suc (j + 1) = omega arith in
        rw one (ap (λ (l : List ℕ). b ∷ l) (ih j (λ k d l m. h.0 (suc k) d (omega arith) (omega arith), λ m d. h.1 (omega arith) d)))

-- So it is what the library's `split_inclusive` cuts off first: the front of what is left, as long as the clause of its `next` says.
pub split-first : (s x rest : List ℕ) (i : ℕ) → s ≡ x ++ rest → length x ≡ min (i + 1) (length s) → IsFirstMatchOrLen (λ b. eqb b lf) s i → x ≡ first_line s
split-first s x rest i cut counts h = sym (ap (take (length x)) cut ∙ take-append_seam x rest) ∙ take_within s (i + 1) (length x) counts ∙ first-is s i h

-- the bytes before the first LF, and that one, if there is one
first-before : (s : List ℕ) → take (suc (length (before lf s))) s ≡ first_line s
unfolding first_line before
first-before [] = refl
first-before (b ∷ s) = go (eqb b lf) (first-before s)
  where
    go : (t : Bool) → take (suc (length (before lf s))) s ≡ first_line s → take (suc (length (cond t [] (b ∷ before lf s)))) (b ∷ s) ≡ cond t (b ∷ []) (b ∷ first_line s)
    go true ih = refl
    go false ih = ap (λ (l : List ℕ). b ∷ l) ih

-- as many bytes as there are of these are it
pub first-cut : (s : List ℕ) (n : ℕ) → n ≡ min (length s) (length (before lf s) + 1) → take n s ≡ first_line s
first-cut s n counts = take_within s (suc (length (before lf s))) n (omega arith) ∙ first-before s

-- the bytes before the first LF, and that one, if there is one
pub length-first : (s : List ℕ) → length (first_line s) ≡ min (suc (length (before lf s))) (length s)
unfolding first_line before
length-first [] = refl
length-first (b ∷ s) = go (eqb b lf) (length-first s)
  where
    go : (t : Bool) → length (first_line s) ≡ min (suc (length (before lf s))) (length s) → length (cond t (b ∷ []) (b ∷ first_line s)) ≡ min (suc (length (cond t [] (b ∷ before lf s)))) (suc (length s))
    go true ih = omega arith
    go false ih = omega arith

-- at a place
module _ (s : List ℕ) (i : ℕ) where
  -- it has a byte, where there is one
  pub first_some : i < length s → 0 < length (first_line (drop i s))
  first_some h = omega (arith, length-first (drop i s), length-drop i s)

  -- and none past the end
  pub first-in : i ≤ length s → i + length (first_line (drop i s)) ≤ length s
  first-in h = omega (arith, length-first (drop i s), length-drop i s)

-- nothing ends no line
pub ends-nothing : (s : List ℕ) → length s ≡ 0 → false ≡ ends_in_lf s
ends-nothing [] h = refl
ends-nothing (b ∷ s) h = absurd (omega arith)

-- ---- the lines of a piece
-- the first, and the lines of what stands behind it
pub lines-step : (s : List ℕ) → 0 < length s → lines_of s ≡ first_line s ∷ lines_of (drop (length (first_line s)) s)
unfolding first_line begun lines_of
lines-step [] h = absurd (omega arith)
lines-step (b ∷ []) h = go (eqb b lf)
  where
    go : (t : Bool) → cond t ((b ∷ []) ∷ []) ((b ∷ []) ∷ []) ≡ cond t (b ∷ []) (b ∷ []) ∷ lines_of (drop (length (cond t (b ∷ []) (b ∷ []))) (b ∷ []))
    go true = refl
    go false = refl
lines-step (b ∷ c ∷ s) h = go (eqb b lf) (c ∷ s) (lines-step (c ∷ s) (omega arith))
  where
    go : (t : Bool) (s : List ℕ) → lines_of s ≡ first_line s ∷ lines_of (drop (length (first_line s)) s)
        → cond t ((b ∷ []) ∷ lines_of s) (begun b (lines_of s)) ≡ cond t (b ∷ []) (b ∷ first_line s) ∷ lines_of (drop (length (cond t (b ∷ []) (b ∷ first_line s))) (b ∷ s))
    go true s ih = refl
    go false s ih = ap (begun b) ih

-- So they are cut off one by one, as long as there is a byte: the front, and the lines of the slice behind it. Of nothing there is none.
pub lines-cut : (s : List ℕ) (n : ℕ) → 0 < length s → n ≡ min (length s) (length (before lf s) + 1) → lines_of s ≡ take n s ∷ lines_of (take (length s - n) (drop n s))
lines-cut s n some counts =
    let first = first-cut s n counts in
    let size : length (first_line s) ≡ n = omega (arith, length-take n s, ap (λ (l : List ℕ). length l) first) in
    let rest : take (length s - n) (drop n s) ≡ drop n s = take_all (length s - n) (drop n s) (omega (arith, length-drop n s)) in
    rw (first, rest, ← size) (lines-step s some)

pub lines-none : (s : List ℕ) → length s ≡ 0 → lines_of s ≡ []
unfolding lines_of
lines-none [] h = refl
lines-none (b ∷ s) h = absurd (omega arith)

-- joined they are the piece: no byte is lost
begun-joined : (b : ℕ) (lines : List (List ℕ)) → concatenated (begun b lines) ≡ b ∷ concatenated lines
unfolding begun
begun-joined b [] = refl
begun-joined b (line ∷ lines) = refl

pub lines-joined : (s : List ℕ) → concatenated (lines_of s) ≡ s
unfolding lines_of
lines-joined [] = refl
lines-joined (b ∷ s) = go (eqb b lf) (lines-joined s)
  where
    go : (t : Bool) → concatenated (lines_of s) ≡ s → concatenated (cond t ((b ∷ []) ∷ lines_of s) (begun b (lines_of s))) ≡ b ∷ s
    go true ih = ap (λ (l : List ℕ). b ∷ l) ih
    go false ih = begun-joined b (lines_of s) ∙ ap (λ (l : List ℕ). b ∷ l) ih

-- ---- the line under way
take_past : (l more : List ℕ) (n : ℕ) → length l ≤ n → take n (l ++ more) ≡ l ++ take (n - length l) more
take_past l more n h = let e : n ≡ length l + (n - length l) = omega arith in ap (λ (j : ℕ). take j (l ++ more)) e ∙ take-append-add l more (n - length l)

-- what is kept of it, with as many bytes behind as have room
pub extended-holds : (held more : List ℕ) → length held ≤ input_limit → (n : ℕ) → n ≡ min (input_limit - length held) (length more) → held ++ take n more ≡ kept (held ++ more)
extended-holds held more few n counts =
    ap (◌++◌ held) (take_within more (input_limit - length held) n counts) ∙ sym (take_past held more input_limit few)
