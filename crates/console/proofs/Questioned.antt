-- What is left off of a question changes no answer: the name is kept whole, and where some of the text is gone, the name is none, or the text too long.
-- Assumes nothing.
use Prim.Native.Nat.{ℕ, ◌+◌, ◌-◌, ◌≤◌, ◌<◌}
use mathlib.Core.Path.{◌≡◌, refl, sym, ap, ◌∙◌}
use mathlib.Core.Bool.{Bool, true, false}
use mathlib.Core.List.{List}
use native.Mathlib.Omega.{arith}
use lib.ListN.{length, take, drop, length-drop, length-take}
use lib.Seq.{take_all, take-take}
use lib.Dec.{leb, ltb}
use borrow.Author.Tests.{leb-true, leb-false}
use Rattle.octets.specs.Bytes.{space}
use Rattle.octets.proofs.Room.{part-next}
use Rattle.octets.proofs.Search.{before-within}
use Rattle.names.specs.Names.{name_limit, is_channel}
use Rattle.names.proofs.Channels.{channel-length}
use Rattle.table.specs.Network.{Table}
use Rattle.table.specs.Banned.{banned_answer}
use Rattle.table.proofs.Questions.{unnamed-any, long-any}
use Rattle.console.specs.declared.requests.Request.TheVariants.{Banned, Unknown}
use Rattle.console.specs.Lines.{input_limit, kept}
use Rattle.console.specs.Requests.{banned_length, name_room, question_in, request_in, name_in, text_in}
use Rattle.console.proofs.Keeping.{name_length, ended-long, drop-take, request-worded, worded-question}

-- where its name ends, and where its text begins
question-places : (s : List ℕ) (end start : ℕ) → question_in s ≡ Banned end start → (end ≡ banned_length + name_length s) × (start ≡ end + 1) × (name_length s ≤ name_room)
unfolding question_in
question-places s end start e = go (ltb (name_length s) (length (drop banned_length s))) refl (leb (name_length s) name_room) refl
  where
    go : (t : Bool) → ltb (name_length s) (length (drop banned_length s)) ≡ t → (u : Bool) → leb (name_length s) name_room ≡ u → (end ≡ banned_length + name_length s) × (start ≡ end + 1) × (name_length s ≤ name_room)
    go true f true g =
        let q : question_in s ≡ Banned (banned_length + name_length s) (banned_length + name_length s + 1) = rw (f, g) in
        let y : banned_length + name_length s ≡ end = cc in
        let z : banned_length + name_length s + 1 ≡ start = cc in
        (sym y, omega (arith, y, z), leb-true (name_length s) name_room g)
    go true f false g = let q : question_in s ≡ Unknown = rw (f, g) in let z : ◌≡◌ {A = ℕ} 0 1 = cc in absurd (omega arith)
    go false f u g = let q : question_in s ≡ Unknown = rw f in let z : ◌≡◌ {A = ℕ} 0 1 = cc in absurd (omega arith)

-- ---- the name
module _ (s : List ℕ) where
  name-is : name_in (banned_length + name_length s) s ≡ take (name_length s) (drop banned_length s)
  unfolding name_in
  name-is = part-next s banned_length (name_length s)

  -- it has as many bytes
  name-length : length (name_in (banned_length + name_length s) s) ≡ name_length s
  name-length = omega (arith, ap (λ (l : List ℕ). length l) name-is, length-take (name_length s) (drop banned_length s), before-within space (drop banned_length s))

  -- and is kept
  name-kept : name_length s ≤ name_room → name_in (banned_length + name_length s) (kept s) ≡ name_in (banned_length + name_length s) s
  unfolding name_in
  name-kept h =
      part-next (kept s) banned_length (name_length s)
      ∙ ap (take (name_length s)) (drop-take banned_length input_limit s)
      ∙ take-take (name_length s) (input_limit - banned_length) (drop banned_length s) (omega arith)
      ∙ sym (part-next s banned_length (name_length s))

-- too long a name is none
long-name : (name : List ℕ) → name_limit < length name → is_channel name ≡ false
long-name name h = go (is_channel name) refl
  where
    go : (t : Bool) → is_channel name ≡ t → is_channel name ≡ false
    go true e = absurd (omega (arith, h, channel-length name e))
    go false e = e

-- ---- the text
-- what is left of it is too long where the place is within the first bytes
text-long : (s : List ℕ) (start : ℕ) → start ≤ 58 → input_limit ≤ length s → 512 < length (text_in start s)
unfolding text_in
text-long s start h k = omega (arith, ended-long (drop start s), length-drop start s)

module _ (t : Table) (s : List ℕ) (long : input_limit < length s) (few : name_length s ≤ name_room) where
  abbrev end : ℕ
  end = banned_length + name_length s

  texts-alike : banned_answer t (name_in end s) (text_in (end + 1) (kept s)) ≡ banned_answer t (name_in end s) (text_in (end + 1) s)
  texts-alike = go (leb (name_length s) name_limit) refl
    where
      go : (b : Bool) → leb (name_length s) name_limit ≡ b → banned_answer t (name_in end s) (text_in (end + 1) (kept s)) ≡ banned_answer t (name_in end s) (text_in (end + 1) s)
      go true e =
          let h = leb-true (name_length s) name_limit e in
          long-any t (name_in end s) _ _ (text-long (kept s) (end + 1) (omega (arith, h)) (omega (arith, length-take input_limit s))) (text-long s (end + 1) (omega (arith, h)) (omega arith))
      go false e = let h = leb-false (name_length s) name_limit e in unnamed-any t (name_in end s) _ _ (long-name (name_in end s) (omega (arith, h, name-length s)))

  long-question : banned_answer t (name_in end (kept s)) (text_in (end + 1) (kept s)) ≡ banned_answer t (name_in end s) (text_in (end + 1) s)
  long-question = ap (λ (name : List ℕ). banned_answer t name (text_in (end + 1) (kept s))) (name-kept s few) ∙ texts-alike

-- ---- the answer
pub kept-question : (t : Table) (s : List ℕ) (end start : ℕ) → request_in s ≡ Banned end start
    → banned_answer t (name_in end (kept s)) (text_in start (kept s)) ≡ banned_answer t (name_in end s) (text_in start s)
kept-question t s end start e =
    let places = question-places s end start (worded-question s (Banned end start) (request-worded s (Banned end start) e refl) refl) in
    go places (leb (length s) input_limit) refl
  where
    go : (end ≡ banned_length + name_length s) × (start ≡ end + 1) × (name_length s ≤ name_room) → (b : Bool) → leb (length s) input_limit ≡ b
        → banned_answer t (name_in end (kept s)) (text_in start (kept s)) ≡ banned_answer t (name_in end s) (text_in start s)
    go p true f = ap (λ (l : List ℕ). banned_answer t (name_in end l) (text_in start l)) (take_all input_limit s (leb-true (length s) input_limit f))
    go p false f = rw (p.1, p.0) (long-question t s (leb-false (length s) input_limit f) p.2)
