-- Laws of words parted by SPACEs: the first word at a place, and what follows it. Assumes nothing.
use mathlib.Core.Path.{◌≡◌, refl, sym, ap, ◌∙◌}
use mathlib.Core.Bool.{Bool, true, false}
use mathlib.Core.List.{List, [], ◌∷◌, map}
use Prim.Native.Nat.{ℕ, ◌+◌, ◌-◌, ◌≤◌, ◌<◌}
use native.Mathlib.Omega.{arith}
use lib.ListN.{length, take, drop, get_or, drop_of_length-le, length-drop}
use lib.Seq.{drop-drop, take_all}
use lib.Dec.{eqb}
use borrow.Author.Tests.{ne_eqb, eqb-true, eqb-false}
use Rattle.octets.specs.Bytes.{space}
use Rattle.octets.specs.Room.{part}
use Rattle.laws.proofs.Lists.{drop-step}
use Rattle.message.specs.declared.Span.{Span}
use Rattle.message.specs.Grammar.{Part, part_at, word, spaces}
use Rattle.message.specs.Content.{bytes_of}
use Rattle.message.specs.Parts.{span, empty_at, span_of}
use Rattle.message.specs.Words.{words_at, after_word, words_of, next_word}
use Rattle.message.proofs.Runs.{word-past, word-front, word_in, start-in, start-stops}

-- ---- SPACEs before a word, and the rest of one, are passed over
words-skip : (s : List ℕ) (at : ℕ) → words_at at s ≡ words_at (at + spaces s) (drop (spaces s) s)
unfolding words_at spaces
words-skip [] at = refl
words-skip (b ∷ s) at = go (eqb b space) refl (words-skip s (at + 1))
  where
    go : (t : Bool) → eqb b space ≡ t → words_at (at + 1) s ≡ words_at (at + 1 + spaces s) (drop (spaces s) s) → words_at at (b ∷ s) ≡ words_at (at + spaces (b ∷ s)) (drop (spaces (b ∷ s)) (b ∷ s))
    go true e ih = rw e (ih ∙ ap (λ (n : ℕ). words_at n (drop (spaces s) s)) (omega arith))
    go false e ih =
        let z : spaces (b ∷ s) ≡ 0 = rw e in
        sym (ap (λ (n : ℕ). words_at (at + n) (drop n (b ∷ s))) z ∙ ap (λ (n : ℕ). words_at n (b ∷ s)) (omega arith))

after-skip : (s : List ℕ) (at : ℕ) → after_word at s ≡ words_at (at + length (word s)) (drop (length (word s)) s)
unfolding words_at word
after-skip [] at = refl
after-skip (b ∷ s) at = go (eqb b space) refl (after-skip s (at + 1))
  where
    go : (t : Bool) → eqb b space ≡ t → after_word (at + 1) s ≡ words_at (at + 1 + length (word s)) (drop (length (word s)) s) → after_word at (b ∷ s) ≡ words_at (at + length (word (b ∷ s))) (drop (length (word (b ∷ s))) (b ∷ s))
    go true e ih = let n : at + 1 ≡ at + 0 + 1 = omega arith in rw (e, e) (ap (λ (i : ℕ). words_at i s) n)
    go false e ih = rw e (ih ∙ ap (λ (n : ℕ). words_at n (drop (length (word s)) s)) (omega arith))

-- ---- at a place, where `start` is past the SPACEs and `end` past the word
module _ (s : List ℕ) (at start end : ℕ) (within : at ≤ length s) (starts : start ≡ at + spaces (drop at s)) (ends : end ≡ start + length (word (drop start s))) where
  words-from : words_at at (drop at s) ≡ words_at start (drop start s)
  words-from = words-skip (drop at s) at ∙ rw (starts, drop-drop (spaces (drop at s)) at s)

  -- there is no word
  words-none : start ≡ length s → words_at at (drop at s) ≡ []
  unfolding words_at
  words-none e = words-from ∙ rw (drop_of_length-le s {i = start} (omega arith))

  -- there is one, and the others follow it
  module _ (h : start < length s) where
    abbrev first : ℕ
    first = get_or s start 0

    abbrev others : List ℕ
    others = drop (start + 1) s

    solid : eqb first space ≡ false
    solid = ne_eqb first space (start-stops s at start within starts h)

    word-is : word (drop start s) ≡ first ∷ word others
    unfolding word
    word-is = rw (drop-step s start 0 h, solid)

    end_is : end ≡ start + 1 + length (word others)
    end_is = omega (arith, ends, ap (λ (l : List ℕ). length l) word-is)

    words-one : words_at at (drop at s) ≡ part_at start (word (drop start s)) ∷ words_at end (drop end s)
    unfolding words_at
    words-one =
        words-from
        ∙ rw (word-is, drop-step s start 0 h, solid)
        (ap (λ (l : List Part). part_at start (first ∷ word others) ∷ l) (after-skip others (start + 1) ∙ rw (end_is, drop-drop (length (word others)) (start + 1) s)))

  -- either way the code finds it
  pub next-found : span start end ≡ next_word s at
  unfolding next_word
  next-found = go (eqb start (length s)) refl
    where
      go : (t : Bool) → eqb start (length s) ≡ t → span start end ≡ get_or (map span_of (words_at at (drop at s))) 0 (empty_at (length s))
      go true e =
          let n : start ≡ length s = eqb-true start (length s) e in
          let m : end ≡ length s = omega (arith, ends, word-past s start (omega arith)) in
          rw (words-none n, n, m)
      go false e = rw (words-one (omega (arith, start-in s at start within starts, eqb-false start (length s) e)), ← ends)

-- past the end there is no word
pub next_past : (s : List ℕ) (at : ℕ) → length s ≤ at → empty_at (length s) ≡ next_word s at
unfolding next_word words_at
next_past s at h = rw (drop_of_length-le s {i = at} h)

-- ---- the words from a place on, by the span that is found there
abbrev pub words_from : List ℕ → ℕ → List (List ℕ)
words_from s at = bytes_of (words_at at (drop at s))

module _ (s : List ℕ) (at : ℕ) (w : Span) (within : at ≤ length s) (is : w ≡ next_word s at) where
  abbrev start : ℕ
  start = at + spaces (drop at s)

  abbrev end : ℕ
  end = start + length (word (drop start s))

  found : w ≡ span start end
  found = is ∙ sym (next-found s at start end within refl refl)

  starts-at : w.start ≡ start
  starts-at = ap (λ (x : Span). x.start) found

  ends_at : w.end ≡ end
  ends_at = ap (λ (x : Span). x.end) found

  pub next-none : w.start ≡ length s → words_from s at ≡ []
  next-none e = ap bytes_of (words-none s at start end within refl refl (sym starts-at ∙ e))

  -- there is a word, and the others follow it
  module _ (some : w.start ≡ length s → ⊥) where
    before-end : start < length s
    before-end = omega (arith, start-in s at start within refl, starts-at, some)

    pub next_one : words_from s at ≡ part s w.start w.end ∷ words_from s w.end
    unfolding part
    next_one =
        let n : end - start ≡ length (word (drop start s)) = omega arith in
        ap bytes_of (words-one s at start end within refl refl before-end) ∙ rw (starts-at, ends_at, n, word-front (drop start s))

    pub next-in : w.end ≤ length s
    next-in = omega (arith, ends_at, before-end, word_in (drop start s), length-drop start s)

-- ---- the words of a text, taken one after the other from its front: their places don't matter
mutual
  unfolding words_at

  words-shift : (s : List ℕ) (i j : ℕ) → bytes_of (words_at i s) ≡ bytes_of (words_at j s)
  words-shift [] i j = refl
  words-shift (b ∷ s) i j = go (eqb b space) refl (words-shift s (i + 1) (j + 1)) (after-shift s (i + 1) (j + 1))
    where
      go : (t : Bool) → eqb b space ≡ t → bytes_of (words_at (i + 1) s) ≡ bytes_of (words_at (j + 1) s) → bytes_of (after_word (i + 1) s) ≡ bytes_of (after_word (j + 1) s)
          → bytes_of (words_at i (b ∷ s)) ≡ bytes_of (words_at j (b ∷ s))
      go true e w a = rw e w
      go false e w a = rw e (ap (λ (l : List (List ℕ)). (b ∷ word s) ∷ l) a)

  after-shift : (s : List ℕ) (i j : ℕ) → bytes_of (after_word i s) ≡ bytes_of (after_word j s)
  after-shift [] i j = refl
  after-shift (b ∷ s) i j = go (eqb b space) refl (words-shift s (i + 1) (j + 1)) (after-shift s (i + 1) (j + 1))
    where
      go : (t : Bool) → eqb b space ≡ t → bytes_of (words_at (i + 1) s) ≡ bytes_of (words_at (j + 1) s) → bytes_of (after_word (i + 1) s) ≡ bytes_of (after_word (j + 1) s)
          → bytes_of (after_word i (b ∷ s)) ≡ bytes_of (after_word j (b ∷ s))
      go true e w a = rw e w
      go false e w a = rw e a

-- the first word, by its span, and those behind it
module _ (s : List ℕ) (w : Span) (is : w ≡ next_word s 0) where
  pub taken-none : w.start ≡ length s → words_of s ≡ []
  taken-none e = next-none s 0 w (omega arith) is e

  module _ (some : w.start ≡ length s → ⊥) where
    taken-in : (w.start ≤ w.end) × (w.end ≤ length s)
    taken-in = (omega (arith, starts-at s 0 w (omega arith) is, ends_at s 0 w (omega arith) is), next-in s 0 w (omega arith) is some)

    pub taken-one : words_of s ≡ take (w.end - w.start) (drop w.start s) ∷ words_of (take (length s - w.end) (drop w.end s))
    unfolding part
    taken-one =
        let rest : take (length s - w.end) (drop w.end s) ≡ drop w.end s = take_all (length s - w.end) (drop w.end s) (omega (arith, length-drop w.end s)) in
        next_one s 0 w (omega arith) is some
        ∙ ap (λ (l : List (List ℕ)). part s w.start w.end ∷ l) (words-shift (drop w.end s) w.end 0 ∙ ap (λ (l : List ℕ). words_of l) (sym rest))

pub word_within : (s : List ℕ) (w : Span) → w ≡ next_word s 0 → (w.start ≡ length s → ⊥) → (w.start ≤ w.end) × (w.end ≤ length s)
word_within s w is some = taken-in s w is some
