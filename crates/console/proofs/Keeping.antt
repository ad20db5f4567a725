-- However a line comes in pieces, what is kept of it is its first bytes, and these ask for what the whole line asks for: a number has nine digits at most, so
-- what is left off belongs to no request, or to a link's line behind what is taken of it. Assumes nothing.
use Prim.Native.Nat.{ℕ, zero, suc, ◌+◌, ◌-◌, ◌≤◌, ◌<◌, min}
use mathlib.Core.Path.{◌≡◌, refl, sym, ap, ◌∙◌}
use mathlib.Core.Bool.{Bool, true, false, true≢false, cond, ◌||◌}
use mathlib.Core.List.{List, [], ◌∷◌, ◌++◌, append-nil, append_assoc}
use native.Mathlib.Omega.{arith}
use lib.ListN.{length, take, drop, get_or, length-drop, length-take}
use lib.Seq.{take_all, take-append-le, take-take, take-nil}
use lib.Dec.{eqb, leb, ltb}
use borrow.Author.Tests.{ne_eqb, lt-ltb, le-ltb, le-leb, lt-leb, ltb-true, ltb-false, leb-true, leb-false}
use Rattle.std.specs.Prelude.{Option, Some, None}
use Rattle.std.specs.declared.cmp.Ordering.{Ordering}
use Rattle.std.specs.declared.cmp.Ordering.TheVariants.{Less, Equal, Greater}
use Rattle.octets.specs.Bytes.{cr, space}
use Rattle.octets.specs.Order.{compare}
use Rattle.octets.specs.Search.{before}
use Rattle.laws.specs.Joins.{concatenated}
use Rattle.laws.specs.Lists.{is_nil}
use Rattle.octets.proofs.Digits.{digits-within, decimal-read}
use Rattle.laws.proofs.Lists.{nil-length}
use Rattle.message.specs.Grammar.{word}
use Rattle.console.specs.declared.requests.Request.{Request}
use Rattle.console.specs.declared.requests.Request.TheVariants.{Register, Unregister, Take, Banned, Channels, Unknown, Help, Nothing}
use Rattle.console.specs.Lines.{input_limit, kept, kept_after, ends_in_lf}
use Rattle.console.specs.Requests.{plus, minus, question, ended, link_in, numbered, taking_in, banned_word, banned_length, name_room, question_in, worded_in, request_in, line_from}

-- ---- pieces
kept-behind : (a b : List ℕ) → kept (kept a ++ b) ≡ kept (a ++ b)
kept-behind a b = go (leb (length a) input_limit) refl
  where
    go : (t : Bool) → leb (length a) input_limit ≡ t → kept (kept a ++ b) ≡ kept (a ++ b)
    go true e = ap (λ (l : List ℕ). kept (l ++ b)) (take_all input_limit a (leb-true (length a) input_limit e))
    go false e =
        let h = leb-false (length a) input_limit e in
        take-append-le input_limit (kept a) b (omega (arith, length-take input_limit a)) ∙ take-take input_limit input_limit a (omega arith) ∙ sym (take-append-le input_limit a b (omega (arith, h)))

pieces-behind : (a : List ℕ) (pieces : List (List ℕ)) → kept_after (kept a) pieces ≡ kept (a ++ concatenated pieces)
unfolding kept_after
pieces-behind a [] = ap kept (sym (append-nil a))
pieces-behind a (piece ∷ pieces) = ap (λ (l : List ℕ). kept_after l pieces) (kept-behind a piece) ∙ pieces-behind (a ++ piece) pieces ∙ ap kept (append_assoc a piece (concatenated pieces))

pub pieces_kept : (pieces : List (List ℕ)) → kept_after [] pieces ≡ kept (concatenated pieces)
pieces_kept pieces = pieces-behind [] pieces

-- ---- what is longer than a number
long-none : (s : List ℕ) → 9 < length s → link_in s ≡ None
long-none s h = go (link_in s) refl
  where
    go : (d : Option ℕ) → link_in s ≡ d → link_in s ≡ None
    go (Some n) e =
        let r = decimal-read 999999999 n s e in
        absurd (omega (arith, h, ap (λ (l : List ℕ). length l) r.1, digits-within n 8 (omega (arith, r.0))))
    go None e = e

pub ended-long : (s : List ℕ) → length s ≤ 2 + length (ended s)
unfolding ended
ended-long s = go (ends_in_lf s) (eqb (get_or s (length s - 2) 0) cr)
  where
    go : (t u : Bool) → length s ≤ 2 + length (cond t (cond u (take (length s - 2) s) (take (length s - 1) s)) s)
    go true true = omega (arith, length-take (length s - 2) s)
    go true false = omega (arith, length-take (length s - 1) s)
    go false u = omega arith

take-before : (x n : ℕ) (s : List ℕ) → before x (take n s) ≡ take n (before x s)
unfolding before
take-before x zero s = refl
take-before x (suc n) [] = refl
take-before x (suc n) (b ∷ s) = go (eqb b x) (take-before x n s)
  where
    go : (t : Bool) → before x (take n s) ≡ take n (before x s) → cond t [] (b ∷ before x (take n s)) ≡ take (suc n) (cond t [] (b ∷ before x s))
    go true e = refl
    go false e = ap (◌∷◌ b) e

take-word : (n : ℕ) (s : List ℕ) → word (take n s) ≡ take n (word s)
unfolding word
take-word zero s = refl
take-word (suc n) [] = refl
take-word (suc n) (b ∷ s) = go (eqb b space) (take-word n s)
  where
    go : (t : Bool) → word (take n s) ≡ take n (word s) → cond t [] (b ∷ word (take n s)) ≡ take (suc n) (cond t [] (b ∷ word s))
    go true e = refl
    go false e = ap (◌∷◌ b) e

pub drop-take : (k n : ℕ) (s : List ℕ) → drop k (take n s) ≡ take (n - k) (drop k s)
drop-take zero n s = let e : n - 0 ≡ n = omega arith in rw e
drop-take (suc k) zero s = let e : 0 - suc k ≡ 0 = omega arith in rw e
drop-take (suc k) (suc n) [] = sym (take-nil (suc n - suc k))
drop-take (suc k) (suc n) (b ∷ s) = let e : suc n - suc k ≡ n - k = omega arith in rw e (drop-take k n s)

-- ---- a longer line than is kept
either : (t : Bool) → Unknown ≡ cond t Unknown Unknown
either true = refl
either false = refl

module _ (s : List ℕ) (long : input_limit < length s) where
  kept-length : length (kept s) ≡ input_limit
  kept-length = omega (arith, length-take input_limit s)

  kept-taking : taking_in (kept s) ≡ taking_in s
  unfolding taking_in
  kept-taking = go (ltb (length (word s)) input_limit) refl
    where
      go : (t : Bool) → ltb (length (word s)) input_limit ≡ t → taking_in (kept s) ≡ taking_in s
      go true e =
          let h = ltb-true (length (word s)) input_limit e in
          let w : word (kept s) ≡ word s = take-word input_limit s ∙ take_all input_limit (word s) (omega (arith, h)) in
          rw (w, lt-ltb (length (word s)) (length (kept s)) (omega (arith, h, kept-length)), lt-ltb (length (word s)) (length s) (omega (arith, h)))
      go false e =
          let h = ltb-false (length (word s)) input_limit e in
          let w = ap (λ (l : List ℕ). length l) (take-word input_limit s) in
          rw (le-ltb (length (word (kept s))) (length (kept s)) (omega (arith, h, w, length-take input_limit (word s), kept-length)), long-none (word s) (omega (arith, h))) (either (ltb (length (word s)) (length s)))

-- the bytes of the name, with a SPACE or without
abbrev pub name_length : List ℕ → ℕ
name_length s = length (before space (drop banned_length s))

-- too long a name asks for nothing
name-none : (s : List ℕ) → name_room < name_length s → question_in s ≡ Unknown
unfolding question_in
name-none s h = rw (lt-leb (name_length s) name_room h) (sym (either (ltb (name_length s) (length (drop banned_length s)))))

-- any other asks where a SPACE follows
name-some : (s : List ℕ) → name_length s ≤ name_room → name_length s < length (drop banned_length s) → question_in s ≡ Banned (banned_length + name_length s) (banned_length + name_length s + 1)
unfolding question_in
name-some s h k = rw (lt-ltb (name_length s) (length (drop banned_length s)) k, le-leb (name_length s) name_room h)

module _ (s : List ℕ) (long : input_limit < length s) where
  abbrev behind : List ℕ
  behind = drop banned_length s

  kept-behind-word : drop banned_length (kept s) ≡ take (input_limit - banned_length) behind
  kept-behind-word = drop-take banned_length input_limit s

  kept-name : name_length (kept s) ≡ min (input_limit - banned_length) (name_length s)
  kept-name =
      ap (λ (l : List ℕ). length (before space l)) kept-behind-word
      ∙ ap (λ (l : List ℕ). length l) (take-before space (input_limit - banned_length) behind)
      ∙ length-take (input_limit - banned_length) (before space behind)

  kept-question-asks : question_in (kept s) ≡ question_in s
  kept-question-asks = go (leb (name_length s) name_room) refl
    where
      go : (t : Bool) → leb (name_length s) name_room ≡ t → question_in (kept s) ≡ question_in s
      go true e =
          let h = leb-true (name_length s) name_room e in
          let same : name_length (kept s) ≡ name_length s = omega (arith, h, kept-name) in
          let few = ap (λ (l : List ℕ). length l) kept-behind-word in
          name-some (kept s) (omega (arith, h, same)) (omega (arith, h, same, few, length-take (input_limit - banned_length) behind, length-drop banned_length s))
          ∙ ap (λ (n : ℕ). Banned (banned_length + n) (banned_length + n + 1)) same
          ∙ sym (name-some s h (omega (arith, h, length-drop banned_length s)))
      go false e =
          let h = leb-false (name_length s) name_room e in
          name-none (kept s) (omega (arith, h, kept-name)) ∙ sym (name-none s (omega (arith, h)))

  kept-worded : worded_in (kept s) ≡ worded_in s
  unfolding worded_in
  kept-worded = rw (take-take banned_length input_limit s (omega arith), kept-question-asks, kept-taking s long)

long-asks : (s : List ℕ) → input_limit < length s → request_in (kept s) ≡ request_in s
unfolding request_in
long-asks [] = λ long. absurd (omega arith)
long-asks (b ∷ s) = λ long.
    let k : List ℕ = take 572 s in
    let few : length k ≡ 572 = omega (arith, length-take 572 s) in
    let kl : link_in (ended k) ≡ None = long-none (ended k) (omega (arith, ended-long k)) in
    let sl : link_in (ended s) ≡ None = long-none (ended s) (omega (arith, ended-long s)) in
    let kn : is_nil (ended k) ≡ false = nil-length (ended k) ∙ ne_eqb (length (ended k)) 0 (λ e. omega (arith, ended-long k)) in
    let sn : is_nil (ended s) ≡ false = nil-length (ended s) ∙ ne_eqb (length (ended s)) 0 (λ e. omega (arith, ended-long s)) in
    rw (kl, sl, kn, sn) (ap (λ (r : Request). cond (eqb b plus) Unknown (cond (eqb b minus) Unknown (cond (eqb b question) Unknown r))) (kept-worded (b ∷ s) long))

pub kept-asks : (s : List ℕ) → request_in (kept s) ≡ request_in s
kept-asks s = go (leb (length s) input_limit) refl
  where
    go : (t : Bool) → leb (length s) input_limit ≡ t → request_in (kept s) ≡ request_in s
    go true e = ap request_in (take_all input_limit s (leb-true (length s) input_limit e))
    go false e = long-asks s (leb-false (length s) input_limit e)

-- ---- where a link's line begins
take-start : (s : List ℕ) (link start : ℕ) → taking_in s ≡ Take link start → start ≤ 10
unfolding taking_in
take-start s link start e = go (ltb (length (word s)) (length s)) refl (link_in (word s)) refl
  where
    go : (t : Bool) → ltb (length (word s)) (length s) ≡ t → (d : Option ℕ) → link_in (word s) ≡ d → start ≤ 10
    go true f (Some n) g =
        let q : taking_in s ≡ Take n (length (word s) + 1) = rw (f, g) in
        let z : length (word s) + 1 ≡ start = cc in
        let r = decimal-read 999999999 n (word s) g in
        omega (arith, ap (λ (l : List ℕ). length l) r.1, digits-within n 8 (omega (arith, r.0)))
    go true f None g = let q : taking_in s ≡ Unknown = rw (f, g) in let z : ◌≡◌ {A = ℕ} 0 1 = cc in absurd (omega arith)
    go false f d g = let q : taking_in s ≡ Unknown = rw f in let z : ◌≡◌ {A = ℕ} 0 1 = cc in absurd (omega arith)

-- ---- what the first byte leaves to the words
-- a link's line, or a question
abbrev is_line : Request → Bool
is_line (Register link) = false
is_line (Unregister link) = false
is_line (Take link start) = true
is_line (Banned end start) = false
is_line Channels = false
is_line Unknown = false
is_line Help = false
is_line Nothing = false

abbrev pub is_question : Request → Bool
is_question (Register link) = false
is_question (Unregister link) = false
is_question (Take link start) = false
is_question (Banned end start) = true
is_question Channels = false
is_question Unknown = false
is_question Help = false
is_question Nothing = false

-- no other request is one
clash : {A : Type 0} {q r : Request} (p : Request → Bool) → q ≡ r → p r ≡ true → p q ≡ false → A
clash p e w z = absurd (true≢false (sym w ∙ ap p (sym e) ∙ z))

registers : (d : Option ℕ) → is_line (numbered Register d) || is_question (numbered Register d) ≡ false
registers (Some n) = refl
registers None = refl

drops : (d : Option ℕ) → is_line (numbered Unregister d) || is_question (numbered Unregister d) ≡ false
drops (Some n) = refl
drops None = refl

lists : (t : Bool) → is_line (cond t Channels Unknown) || is_question (cond t Channels Unknown) ≡ false
lists true = refl
lists false = refl

pub request-worded : (s : List ℕ) (r : Request) → request_in s ≡ r → is_line r || is_question r ≡ true → worded_in s ≡ r
unfolding request_in
request-worded [] r e w = clash (λ q. is_line q || is_question q) e w refl
request-worded (b ∷ s) r e w = go (eqb b plus) refl (eqb b minus) refl (eqb b question) refl
  where
    go : (t : Bool) → eqb b plus ≡ t → (u : Bool) → eqb b minus ≡ u → (v : Bool) → eqb b question ≡ v → worded_in (b ∷ s) ≡ r
    go true f u g v h = let q : numbered Register (link_in (ended s)) ≡ request_in (b ∷ s) = rw f in clash (λ x. is_line x || is_question x) (q ∙ e) w (registers (link_in (ended s)))
    go false f true g v h = let q : numbered Unregister (link_in (ended s)) ≡ request_in (b ∷ s) = rw (f, g) in clash (λ x. is_line x || is_question x) (q ∙ e) w (drops (link_in (ended s)))
    go false f false g true h = let q : cond (is_nil (ended s)) Channels Unknown ≡ request_in (b ∷ s) = rw (f, g, h) in clash (λ x. is_line x || is_question x) (q ∙ e) w (lists (is_nil (ended s)))
    go false f false g false h = let q : worded_in (b ∷ s) ≡ request_in (b ∷ s) = rw (f, g, h) in q ∙ e

-- a question is no link's line, and the other way round
question-asks : (s : List ℕ) → is_line (question_in s) ≡ false
unfolding question_in
question-asks s = go (ltb (name_length s) (length (drop banned_length s))) (leb (name_length s) name_room)
  where
    go : (t u : Bool) → is_line (cond t (cond u (Banned (banned_length + name_length s) (banned_length + name_length s + 1)) Unknown) Unknown) ≡ false
    go true true = refl
    go true false = refl
    go false u = refl

taking-takes : (s : List ℕ) → is_question (taking_in s) ≡ false
unfolding taking_in
taking-takes s = go (ltb (length (word s)) (length s)) (link_in (word s))
  where
    go : (t : Bool) (d : Option ℕ) → is_question (cond t (numbered (λ link. Take link (length (word s) + 1)) d) Unknown) ≡ false
    go true (Some n) = refl
    go true None = refl
    go false d = refl

worded-line : (s : List ℕ) (r : Request) → worded_in s ≡ r → is_line r ≡ true → taking_in s ≡ r
unfolding worded_in
worded-line s r e w = go (compare (take banned_length s) banned_word) refl
  where
    go : (o : Ordering) → compare (take banned_length s) banned_word ≡ o → taking_in s ≡ r
    go Equal f = let q : question_in s ≡ worded_in s = rw f in clash is_line (q ∙ e) w (question-asks s)
    go Less f = let q : taking_in s ≡ worded_in s = rw f in q ∙ e
    go Greater f = let q : taking_in s ≡ worded_in s = rw f in q ∙ e

pub worded-question : (s : List ℕ) (r : Request) → worded_in s ≡ r → is_question r ≡ true → question_in s ≡ r
unfolding worded_in
worded-question s r e w = go (compare (take banned_length s) banned_word) refl
  where
    go : (o : Ordering) → compare (take banned_length s) banned_word ≡ o → question_in s ≡ r
    go Equal f = let q : question_in s ≡ worded_in s = rw f in q ∙ e
    go Less f = let q : taking_in s ≡ worded_in s = rw f in clash is_question (q ∙ e) w (taking-takes s)
    go Greater f = let q : taking_in s ≡ worded_in s = rw f in clash is_question (q ∙ e) w (taking-takes s)

request-start : (s : List ℕ) (link start : ℕ) → request_in s ≡ Take link start → start ≤ 10
request-start s link start e = take-start s link start (worded-line s (Take link start) (request-worded s (Take link start) e refl) refl)

-- what is taken of it is kept
pub kept_line : (s : List ℕ) (link start : ℕ) → request_in s ≡ Take link start → line_from start (kept s) ≡ line_from start s
unfolding line_from
kept_line s link start e = ap (take 513) (drop-take start input_limit s) ∙ take-take 513 (input_limit - start) (drop start s) (omega (arith, request-start s link start e))
