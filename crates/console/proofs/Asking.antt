-- Laws of requests: what each test of an input line says of what it asks for. Assumes nothing.
use Prim.Native.Nat.{ℕ, ◌+◌, ◌-◌, ◌≤◌, ◌<◌}
use mathlib.Core.Path.{◌≡◌, refl, sym, ap, ◌∙◌}
use mathlib.Core.Bool.{Bool, true, false, cond, true≢false}
use mathlib.Core.Logic.{◌⊎◌, inl, inr}
use mathlib.Core.List.{List, [], ◌∷◌}
use native.Mathlib.Omega.{arith}
use lib.ListN.{length, take, drop, get_or, length-drop}
use lib.Seq.{take_all}
use lib.Dec.{eqb, ltb}
use borrow.Author.Tests.{eq-eqb, ne_eqb, lt-ltb, le-ltb, le-leb, lt-leb}
use Rattle.octets.specs.Bytes.{lf, cr, space}
use Rattle.laws.specs.Lists.{is_nil}
use Rattle.octets.specs.Room.{part}
use Rattle.octets.specs.Order.{compare}
use Rattle.octets.specs.Search.{before}
use Rattle.std.specs.declared.cmp.Ordering.{Ordering}
use Rattle.std.specs.declared.cmp.Ordering.TheVariants.{Less, Equal, Greater}
use Rattle.std.specs.Bool.{Decides}
use Rattle.std.specs.Cmp.Lexicographic.{pointwise}
use Rattle.std.proofs.lemmas.Bool.Decides.{Decides-eqb}
use Rattle.std.proofs.lemmas.Slice.Eq.{slice_eq-Decides}
use Rattle.octets.proofs.Ordered.{compare_refl, compare_same}
use Rattle.laws.proofs.Lists.{nil-length}
use Rattle.octets.proofs.Room.{part-front, part-back}
use Rattle.octets.proofs.Search.{before-within, before-front}
use Rattle.message.specs.Grammar.{word}
use Rattle.console.specs.declared.requests.Request.TheVariants.{Register, Unregister, Take, Banned, Channels, Unknown}
use Rattle.console.specs.Requests.{plus, minus, question, ended, link_in, numbered, taking_in, banned_word, banned_length, name_room, question_in, questioned, worded_in, request_in}

-- ---- the end of a line passed over
module _ (s : List ℕ) where
  pub ended-nothing : length s ≡ 0 → s ≡ ended s
  unfolding ended
  ended-nothing h = go s h
    where
      go : (s : List ℕ) → length s ≡ 0 → s ≡ ended s
      go [] h = refl
      go (b ∷ s) h = absurd (omega arith)

  pub ended-open : (get_or s (length s - 1) 0 ≡ lf → ⊥) → s ≡ ended s
  unfolding ended
  ended-open ne = rw (ne_eqb (get_or s (length s - 1) 0) lf ne)

  module _ (ends : get_or s (length s - 1) 0 ≡ lf) where
    pub ended-cr : get_or s (length s - 2) 0 ≡ cr → part s 0 (length s - 2) ≡ ended s
    unfolding ended
    ended-cr e = part-front s (length s - 2) ∙ rw (eq-eqb (get_or s (length s - 1) 0) lf ends, eq-eqb (get_or s (length s - 2) 0) cr e)

    pub ended-lf : (get_or s (length s - 2) 0 ≡ cr → ⊥) → part s 0 (length s - 1) ≡ ended s
    unfolding ended
    ended-lf ne = part-front s (length s - 1) ∙ rw (eq-eqb (get_or s (length s - 1) 0) lf ends, ne_eqb (get_or s (length s - 2) 0) cr ne)

    -- LF alone
    pub ended-alone : length s ≡ 1 → part s 0 0 ≡ ended s
    ended-alone h =
        let last : length s - 2 ≡ length s - 1 = omega arith in
        let none : length s - 1 ≡ 0 = omega arith in
        let ne : get_or s (length s - 2) 0 ≡ cr → ⊥ = λ e. omega (arith, sym e ∙ ap (λ (k : ℕ). get_or s k 0) last ∙ ends) in
        ap (part s 0) (sym none) ∙ ended-lf ne

-- ---- the table
-- nothing behind '?' asks for it
pub asks-table : (s : List ℕ) → length s ≡ 0 → Channels ≡ cond (is_nil s) Channels Unknown
asks-table s h = rw (nil-length s, eq-eqb (length s) 0 h)

-- anything else is no request
pub asks-more : (s : List ℕ) → (length s ≡ 0 → ⊥) → Unknown ≡ cond (is_nil s) Channels Unknown
asks-more s h = rw (nil-length s, ne_eqb (length s) 0 h)

-- ---- a line from a link
-- its number is what stands before the first SPACE
word-before : (s : List ℕ) → word s ≡ before space s
unfolding word before
word-before [] = refl
word-before (b ∷ s) = ap (λ (l : List ℕ). cond (eqb b space) [] (b ∷ l)) (word-before s)

module _ (s : List ℕ) (n : ℕ) (counts : n ≡ length (before space s)) where
  -- no SPACE follows
  pub asks-end : n ≡ length s → Unknown ≡ taking_in s
  unfolding taking_in
  asks-end e = rw (word-before s, ← counts, le-ltb n (length s) (omega arith))

  -- one does
  pub asks-take : (n ≡ length s → ⊥) → (text : List ℕ) → text ≡ take n s → numbered (λ link. Take link (n + 1)) (link_in text) ≡ taking_in s
  unfolding taking_in
  asks-take more text is =
      let inside : n < length s = omega (arith, before-within space s, counts, more) in
      let number : text ≡ before space s = is ∙ ap (λ (k : ℕ). take k s) counts ∙ before-front space s in
      rw (word-before s, ← counts, lt-ltb n (length s) inside, number)

-- ---- a question
-- all that stands behind its first word
pub behind-whole : (s : List ℕ) → take (length s - banned_length) (drop banned_length s) ≡ drop banned_length s
behind-whole s = take_all (length s - banned_length) (drop banned_length s) (omega (arith, length-drop banned_length s))

module _ (s behind : List ℕ) (n : ℕ) (is : behind ≡ drop banned_length s) (counts : n ≡ length (before space behind)) where
  -- no SPACE follows the name, or it is too long
  pub question-none : (n ≡ length behind) ⊎ ((n ≡ length behind → ⊥) × (name_room < n)) → Unknown ≡ question_in s
  unfolding question_in
  question-none (inl e) = rw (← is, ← counts, le-ltb n (length behind) (omega arith))
  question-none (inr (more, h)) = rw (← is, ← counts, lt-leb n name_room h) (go (ltb n (length behind)))
    where
      go : (t : Bool) → Unknown ≡ cond t Unknown Unknown
      go true = refl
      go false = refl

  -- or a SPACE follows, and it isn't
  pub question-asks : (n ≡ length behind → ⊥) → n ≤ name_room → Banned (banned_length + n) (banned_length + n + 1) ≡ question_in s
  unfolding question_in
  question-asks more h =
      let inside : n < length behind = omega (arith, before-within space behind, counts, more) in
      rw (← is, ← counts, lt-ltb n (length behind) inside, le-leb n name_room h)

-- the bytes that the line begins with decide whether it is one
module _ (s : List ℕ) (t : Bool) (is : t ≡ pointwise eqb banned_word (take banned_length s)) where
  begins : Decides t (banned_word ≡ take banned_length s)
  begins = slice_eq-Decides Decides-eqb banned_word (take banned_length s) t is

  pub question-asked : t ≡ true → question_in s ≡ worded_in s
  unfolding worded_in
  question-asked e = rw (← begins.0 e, compare_refl banned_word)

  pub line-asked : t ≡ false → taking_in s ≡ worded_in s
  unfolding worded_in
  line-asked e = go (compare (take banned_length s) banned_word) refl
    where
      go : (o : Ordering) → compare (take banned_length s) banned_word ≡ o → taking_in s ≡ questioned o (question_in s) (taking_in s)
      go Less f = refl
      go Equal f = absurd (true≢false (sym (begins.1 (sym (compare_same (take banned_length s) banned_word f))) ∙ e))
      go Greater f = refl

-- ---- by the first byte
rest-is : (b : ℕ) (s : List ℕ) → part (b ∷ s) 1 (length (b ∷ s)) ≡ s
rest-is b s = part-back (b ∷ s) 1 (length (b ∷ s)) (omega arith)

pub asks_nothing : (s : List ℕ) → length s ≡ 0 → Unknown ≡ request_in s
unfolding request_in
asks_nothing [] h = refl
asks_nothing (b ∷ s) h = absurd (omega arith)

abbrev rest : List ℕ → List ℕ
rest s = ended (part s 1 (length s))

request-is : (s : List ℕ) → (length s ≡ 0 → ⊥)
    → request_in s
    ≡ cond (eqb (get_or s 0 0) plus) (numbered Register (link_in (rest s)))
    (cond (eqb (get_or s 0 0) minus) (numbered Unregister (link_in (rest s)))
    (cond (eqb (get_or s 0 0) question) (cond (is_nil (rest s)) Channels Unknown) (worded_in s)))
unfolding request_in
request-is [] some = absurd (some refl)
request-is (b ∷ s) some = rw (rest-is b s)

module _ (s : List ℕ) (some : length s ≡ 0 → ⊥) where
  pub asks-register : get_or s 0 0 ≡ plus → numbered Register (link_in (rest s)) ≡ request_in s
  asks-register e = rw (request-is s some, e)

  module _ (not-plus : get_or s 0 0 ≡ plus → ⊥) where
    pub asks-unregister : get_or s 0 0 ≡ minus → numbered Unregister (link_in (rest s)) ≡ request_in s
    asks-unregister e = rw (request-is s some, e)

    module _ (not-minus : get_or s 0 0 ≡ minus → ⊥) where
      -- '?' asks for the channels
      pub asks-channels : get_or s 0 0 ≡ question → cond (is_nil (rest s)) Channels Unknown ≡ request_in s
      asks-channels e = rw (request-is s some, e)

      pub asks-worded : (get_or s 0 0 ≡ question → ⊥) → worded_in s ≡ request_in s
      asks-worded not-asking = rw (request-is s some, ne_eqb (get_or s 0 0) plus not-plus, ne_eqb (get_or s 0 0) minus not-minus, ne_eqb (get_or s 0 0) question not-asking)
