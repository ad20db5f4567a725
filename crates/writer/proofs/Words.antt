-- Laws of words: what a word of the grammar passes; that a command is a middle of plain bytes, since every letter and digit stands above
-- SPACE and is not ':'; and that capitals leave it a command. Assumes nothing.
use mathlib.Core.Path.{◌≡◌, refl}
use mathlib.Core.Bool.{Bool, true, false, not, ◌&&◌, ◌||◌, or-true}
use mathlib.Core.List.{List, [], ◌∷◌, map}
use Prim.Native.Nat.{ℕ, ◌≤◌, ◌<◌}
use native.Mathlib.Omega.{arith}
use lib.ListN.{length, length-map}
use lib.Dec.{eqb, leb, ltb}
use borrow.Author.Tests.{ne_eqb, eqb-true, lt-ltb, ltb-true, leb-true}
use Rattle.octets.specs.Bytes.{space, colon, within, is_plain, is_non_space, is_letter, is_digit, capital}
use Rattle.laws.specs.Lists.{all}
use Rattle.laws.proofs.Bools.{and_left, and_right, and_intro}
use Rattle.laws.proofs.Lists.{all_head, all_tail, all_cons, all-imp, all_map}
use Rattle.octets.proofs.Bytes.{within-bounds, small-bounds, capital-letter, capital-digit}
use Rattle.octets.proofs.Clean.{above-space}
use Rattle.octets.proofs.Search.{before-none}
use Rattle.message.specs.Grammar.{word, is_command, is_middle, is_bare}
use Rattle.message.proofs.Runs.{word-before}

-- ---- a word
pub all-word : (p : ℕ → Bool) (s : List ℕ) → all p s ≡ true → all p (word s) ≡ true
unfolding all word
all-word p [] h = h
all-word p (b ∷ s) h = go (eqb b space) refl (all-word p s (all_tail p b s h))
  where
    go : (t : Bool) → eqb b space ≡ t → all p (word s) ≡ true → all p (word (b ∷ s)) ≡ true
    go true e ih = rw e
    go false e ih = rw e (all_cons p b (word s) (all_head p b s h) ih)

-- it has no SPACE
pub word-clear : (s : List ℕ) → all is_non_space (word s) ≡ true
word-clear s = rw (word-before s) (before-none space s)

-- ---- a middle
pub word-middle : (b : ℕ) (s : List ℕ) → eqb b space ≡ false → eqb b colon ≡ false → is_middle (b ∷ word s) ≡ true
unfolding is_middle all
word-middle b s e f = simp (e, f, word-clear s)

-- what begins so can stand bare
pub bare-cons : (b : ℕ) (s : List ℕ) → eqb b space ≡ false → eqb b colon ≡ false → is_bare (b ∷ s) ≡ true
unfolding is_bare
bare-cons b s e f = simp (e, f)

pub middle-clear : (w : List ℕ) → is_middle w ≡ true → all is_non_space w ≡ true
unfolding is_middle all
middle-clear [] h = refl
middle-clear (b ∷ w) h = and_right (not (eqb b colon)) (all is_non_space (b ∷ w)) h

-- ---- the bytes of a command: above SPACE, and not ':'
apart : ℕ → Bool
apart b = ltb space b && not (eqb b colon)

apart-is : (b : ℕ) → space < b → (b ≡ colon → ⊥) → apart b ≡ true
unfolding apart
apart-is b h k = simp (lt-ltb space b h, ne_eqb b colon k)

letter-apart : (b : ℕ) → is_letter b ≡ true → apart b ≡ true
letter-apart b e = go (within 65 b 90) refl
  where
    go : (t : Bool) → within 65 b 90 ≡ t → apart b ≡ true
    go true h = let k = within-bounds 65 b 90 h in apart-is b (omega arith) (λ q. omega arith)
    go false h = let k = small-bounds b e h in apart-is b (omega arith) (λ q. omega arith)

digit-apart : (b : ℕ) → is_digit b ≡ true → apart b ≡ true
unfolding is_digit
digit-apart b e = let k = within-bounds 48 b 57 e in apart-is b (omega arith) (λ q. omega arith)

module _ (b : ℕ) (e : apart b ≡ true) where
  apart_above : space < b
  unfolding apart
  apart_above = ltb-true space b (and_left (ltb space b) (not (eqb b colon)) e)

  apart-clean : (is_plain b ≡ true) × (is_non_space b ≡ true)
  apart-clean = above-space b apart_above

  apart-colon : not (eqb b colon) ≡ true
  unfolding apart
  apart-colon = and_right (ltb space b) (not (eqb b colon)) e

-- ---- a command
module _ (w : List ℕ) (is : is_command w ≡ true) where
  pub command-long : 1 ≤ length w
  unfolding is_command
  command-long = go (leb 1 (length w)) refl
    where
      go : (t : Bool) → leb 1 (length w) ≡ t → 1 ≤ length w
      go true h = leb-true 1 (length w) h
      go false h = omega (arith, eqb-true (length w) 3 (and_left (eqb (length w) 3) (all is_digit w) (rw h at is)))

  command-apart : all apart w ≡ true
  unfolding is_command
  command-apart = go (leb 1 (length w) && all is_letter w) refl
    where
      go : (t : Bool) → leb 1 (length w) && all is_letter w ≡ t → all apart w ≡ true
      go true h = all-imp is_letter apart letter-apart w (and_right (leb 1 (length w)) (all is_letter w) h)
      go false h = all-imp is_digit apart digit-apart w (and_right (eqb (length w) 3) (all is_digit w) (rw h at is))

  pub command-plain : all is_plain w ≡ true
  command-plain = all-imp apart is_plain (λ b k. (apart-clean b k).0) w command-apart

  pub command-middle : is_middle w ≡ true
  unfolding is_middle
  command-middle = go w command-long command-apart (all-imp apart is_non_space (λ b k. (apart-clean b k).1) w command-apart)
    where
      go : (l : List ℕ) → 1 ≤ length l → all apart l ≡ true → all is_non_space l ≡ true → is_middle l ≡ true
      go [] = λ h a n. absurd (omega arith)
      go (b ∷ l) = λ h a n. and_intro (not (eqb b colon)) (all is_non_space (b ∷ l)) (apart-colon b (all_head apart b l a)) n

-- in capitals it is still one
pub command-capital : (w : List ℕ) → is_command w ≡ true → is_command (map capital w) ≡ true
unfolding is_command
command-capital w is = rw (length-map w capital) (go (leb 1 (length w) && all is_letter w) refl)
  where
    go : (t : Bool) → leb 1 (length w) && all is_letter w ≡ t
        → (leb 1 (length w) && all is_letter (map capital w)) || (eqb (length w) 3 && all is_digit (map capital w)) ≡ true
    go true h = rw (and_left (leb 1 (length w)) (all is_letter w) h, all_map is_letter capital capital-letter w (and_right (leb 1 (length w)) (all is_letter w) h))
    go false h =
        let k : eqb (length w) 3 && all is_digit w ≡ true = rw h at is in
        rw (and_left (eqb (length w) 3) (all is_digit w) k, all_map is_digit capital capital-digit w (and_right (eqb (length w) 3) (all is_digit w) k))
        (or-true (leb 1 (length w) && all is_letter (map capital w)))
