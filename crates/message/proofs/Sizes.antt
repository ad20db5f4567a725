-- The words of a text, each with a SPACE before it, take up no more than the text and one more, since a SPACE at least stands between two; and a text
-- without SPACE is at most one word. So there can't be many long words. Assumes nothing.
use mathlib.Core.Path.{◌≡◌, refl}
use mathlib.Core.Bool.{Bool, true, false}
use mathlib.Core.List.{List, [], ◌∷◌}
use Prim.Native.Nat.{ℕ, suc, ◌+◌, ◌*◌, ◌≤◌}
use native.Mathlib.Nat.{mul-suc}
use native.Mathlib.Omega.{arith}
use lib.ListN.{length}
use lib.Dec.{eqb, leb}
use borrow.Author.Tests.{leb-true, not-true}
use Rattle.octets.specs.Bytes.{space, is_non_space}
use Rattle.laws.specs.Lists.{all}
use Rattle.laws.specs.Joins.{total}
use Rattle.laws.proofs.Lists.{all_head, all_tail}
use Rattle.message.specs.Grammar.{word}
use Rattle.message.specs.Content.{bytes_of}
use Rattle.message.specs.Words.{words_at, after_word, words_of}

-- how many bytes some texts take up, each with a SPACE before it
abbrev pub room : List (List ℕ) → ℕ
room ps = total ◌+◌ 0 (λ p. suc (length p)) ps

-- ---- the words of a text
module _ (b : ℕ) (s : List ℕ) (at : ℕ) (after : length (word s) + room (bytes_of (after_word (at + 1) s)) ≤ length s) where
  words_step : room (bytes_of (words_at (at + 1) s)) ≤ suc (length s) → room (bytes_of (words_at at (b ∷ s))) ≤ suc (suc (length s))
  unfolding words_at
  words_step h = go (eqb b space) refl
    where
      go : (t : Bool) → eqb b space ≡ t → room (bytes_of (words_at at (b ∷ s))) ≤ suc (suc (length s))
      go true e = rw e (omega arith)
      go false e = rw e (omega arith)

  after-step : room (bytes_of (words_at (at + 1) s)) ≤ suc (length s) → length (word (b ∷ s)) + room (bytes_of (after_word at (b ∷ s))) ≤ suc (length s)
  unfolding words_at word
  after-step h = go (eqb b space) refl
    where
      go : (t : Bool) → eqb b space ≡ t → length (word (b ∷ s)) + room (bytes_of (after_word at (b ∷ s))) ≤ suc (length s)
      go true e = rw e (omega arith)
      go false e = rw e (omega arith)

mutual
  unfolding words_at word

  words-room-at : (s : List ℕ) (at : ℕ) → room (bytes_of (words_at at s)) ≤ suc (length s)
  words-room-at [] at = omega arith
  words-room-at (b ∷ s) at = words_step b s at (after-room s (at + 1)) (words-room-at s (at + 1))

  after-room : (s : List ℕ) (at : ℕ) → length (word s) + room (bytes_of (after_word at s)) ≤ length s
  after-room [] at = omega arith
  after-room (b ∷ s) at = after-step b s at (after-room s (at + 1)) (words-room-at s (at + 1))

pub words-room : (s : List ℕ) → room (words_of s) ≤ suc (length s)
words-room s = words-room-at s 0

-- ---- words of n bytes or more take n + 1 each, but for the last one's SPACE
module _ (n : ℕ) where
  abbrev pub long : List ℕ → Bool
  long w = leb n (length w)

  room-long : (ws : List (List ℕ)) → all long ws ≡ true → suc n * length ws ≤ room ws
  room-long [] h = omega arith
  room-long (w ∷ ws) h =
      omega (arith, leb-true n (length w) (all_head long w ws h), room-long ws (all_tail long w ws h), mul-suc (suc n) (length ws))

  pub words-few : (s : List ℕ) → all long (words_of s) ≡ true → suc n * length (words_of s) ≤ suc (length s)
  words-few s h = omega (arith, room-long (words_of s) h, words-room s)

-- ---- a text without SPACE
after_none : (s : List ℕ) (at : ℕ) → all is_non_space s ≡ true → after_word at s ≡ []
unfolding words_at
after_none [] at h = refl
after_none (b ∷ s) at h = rw (not-true (eqb b space) (all_head is_non_space b s h)) (after_none s (at + 1) (all_tail is_non_space b s h))

pub words-unparted : (s : List ℕ) → all is_non_space s ≡ true → length (words_of s) ≤ 1
unfolding words_at
words-unparted [] h = omega arith
words-unparted (b ∷ s) h = rw (not-true (eqb b space) (all_head is_non_space b s h), after_none s (0 + 1) (all_tail is_non_space b s h)) (omega arith)
