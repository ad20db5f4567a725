-- Bytes without SPACE are one word, the first of those that follow. So the words of a text whose parts have one SPACE between them are its parts, if each is
-- there and holds none. Assumes nothing.
use Prim.Native.Nat.{ℕ, ◌+◌}
use mathlib.Core.Path.{◌≡◌, refl, ap, ap₂, ◌∙◌}
use mathlib.Core.Bool.{Bool, true, false, true≢false, not, ◌&&◌}
use mathlib.Core.List.{List, [], ◌∷◌, ◌++◌}
use native.Mathlib.Omega.{arith}
use lib.ListN.{length}
use lib.Dec.{eqb}
use borrow.Author.Tests.{not-true}
use Rattle.octets.specs.Bytes.{space, is_non_space}
use Rattle.laws.specs.Lists.{all, is_nil, prefixed, separated}
use Rattle.laws.proofs.Bools.{and_left, and_right}
use Rattle.laws.proofs.Lists.{all_head, all_tail}
use Rattle.message.specs.Grammar.{Part, word}
use Rattle.message.specs.Content.{bytes_of}
use Rattle.message.specs.Words.{words_at, after_word, words_of}

-- ---- bytes without SPACE
-- they are the word, where none begins behind them
pub word-append : (w t : List ℕ) → all is_non_space w ≡ true → word t ≡ [] → word (w ++ t) ≡ w
unfolding word
word-append [] t h e = e
word-append (b ∷ w) t h e = rw (not-true (eqb b space) (all_head is_non_space b w h)) (ap (λ (l : List ℕ). b ∷ l) (word-append w t (all_tail is_non_space b w h) e))

after-solid : (w t : List ℕ) (at : ℕ) → all is_non_space w ≡ true → after_word at (w ++ t) ≡ after_word (at + length w) t
unfolding words_at
after-solid [] t at h = ap (λ (n : ℕ). after_word n t) (omega arith)
after-solid (b ∷ w) t at h =
    rw (not-true (eqb b space) (all_head is_non_space b w h)) (after-solid w t (at + 1) (all_tail is_non_space b w h) ∙ ap (λ (n : ℕ). after_word n t) (omega arith))

-- a word, and those behind it
first_word : (w t : List ℕ) (at : ℕ) → is_nil w ≡ false → all is_non_space w ≡ true → word t ≡ [] → bytes_of (words_at at (w ++ t)) ≡ w ∷ bytes_of (after_word (at + length w) t)
unfolding words_at
first_word [] t at n h e = absurd (true≢false n)
first_word (b ∷ w) t at n h e =
    rw (not-true (eqb b space) (all_head is_non_space b w h))
    (ap₂ (λ (x : List ℕ) (y : List Part). (b ∷ x) ∷ bytes_of y) (word-append w t (all_tail is_non_space b w h) e) (after-solid w t (at + 1) (all_tail is_non_space b w h) ∙ ap (λ (n : ℕ). after_word n t) (omega arith)))

-- ---- words with one SPACE between them
-- it is there and holds no SPACE
abbrev pub solid : List ℕ → Bool
solid w = not (is_nil w) && all is_non_space w

word-prefixed : (l : List (List ℕ)) → word (prefixed space l) ≡ []
unfolding word prefixed
word-prefixed [] = refl
word-prefixed (w ∷ l) = refl

solid-first : (w : List ℕ) (l : List (List ℕ)) (at : ℕ) → solid w ≡ true → bytes_of (words_at at (w ++ prefixed space l)) ≡ w ∷ bytes_of (after_word (at + length w) (prefixed space l))
solid-first w l at h =
    first_word w (prefixed space l) at (not-true _ (and_left (not (is_nil w)) (all is_non_space w) h)) (and_right (not (is_nil w)) (all is_non_space w) h) (word-prefixed l)

words-prefixed : (l : List (List ℕ)) (at : ℕ) → all solid l ≡ true → bytes_of (after_word at (prefixed space l)) ≡ l
unfolding words_at prefixed
words-prefixed [] at h = refl
words-prefixed (w ∷ l) at h = solid-first w l (at + 1) (all_head solid w l h) ∙ ap (λ (x : List (List ℕ)). w ∷ x) (words-prefixed l (at + 1 + length w) (all_tail solid w l h))

-- The words of a text are those that it was made of.
pub words-separated : (l : List (List ℕ)) → all solid l ≡ true → words_of (separated space l) ≡ l
unfolding words_at separated
words-separated [] h = refl
words-separated (w ∷ l) h = solid-first w l 0 (all_head solid w l h) ∙ ap (λ (x : List (List ℕ)). w ∷ x) (words-prefixed l (0 + length w) (all_tail solid w l h))
