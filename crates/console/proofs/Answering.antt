-- Laws of answers and of records: every one has room. Assumes nothing.
use Prim.Native.Nat.{ℕ, zero, suc, ◌+◌, ◌-◌, ◌*◌, ◌^◌, ◌≤◌, ◌<◌}
use mathlib.Core.Path.{◌≡◌, refl, sym, ap, ◌∙◌}
use mathlib.Core.Bool.{Bool, true, false, cond}
use mathlib.Core.List.{List, [], ◌∷◌, ◌++◌, map, append-nil}
use native.Mathlib.Numerals.{add-one}
use native.Mathlib.Omega.{arith}
use lib.ListN.{length, take, length-append, length-take}
use lib.Dec.{eqb}
use borrow.Author.Tests.{eq-eqb, ne_eqb, eqb-true, eqb-false, ltb-true}
use Rattle.refusal.specs.Rules.{emitted}
use Rattle.refusal.proofs.Rules.{emitted-all}
use Rattle.octets.specs.Bytes.{lf, space, comma}
use Rattle.laws.specs.Bits.{has_bit}
use Rattle.laws.specs.Lists.{is_nil, prefixed, separated}
use Rattle.octets.specs.Decimals.{digits_of}
use Rattle.octets.specs.Room.{part, front}
use Rattle.octets.specs.Private.Additions.{AtFront}
use Rattle.octets.proofs.Digits.{digits-ten, digits-within}
use Rattle.laws.proofs.Lists.{nil-length}
use Rattle.octets.proofs.Room.{part-front, at_front, rest_of}
use Rattle.links.specs.Links.{link_count, is_link, links_from, links_in}
use Rattle.message.specs.Grammar.{line_limit}
use Rattle.journal.specs.declared.Logged.{Logged}
use Rattle.journal.specs.Journal.{record_of, log_rules, logged_answer}
use Rattle.journal.specs.Reading.{record_limit}
use Rattle.journal.proofs.Records.{accepts}
use Rattle.wording.specs.declared.Text.{Text}
use Rattle.wording.specs.Wording.{words_of, text_limit, text_of}
use Rattle.wording.proofs.Fitting.{words-few, words_back}
use Rattle.console.specs.Showing.{pointed_line}
use Rattle.console.specs.Answers.{exclamation, spaced, place_text, numbered_text, refused_text, IsPlaceIn, no_link, links_text, relayed_text, accepted_text}
use Rattle.console.specs.Buffers.{answer_room}
use Rattle.console.proofs.Pointing.{length-pointed}

-- the front of some room is no longer than the room
pub front-few : {m : ℕ} (s p : List ℕ) (n : ℕ) → p ≡ part s 0 n → length s ≤ m → length p ≤ m
front-few s p n e h = omega (arith, ap (λ (l : List ℕ). length l) (e ∙ part-front s n), length-take n s)

-- ---- a number, its words and a place
module _ (n : ℕ) (t : Text) (is : t ≡ text_of n) where
  size : t.len ≡ length (words_of n)
  size = ap (λ (x : Text). x.len) is

  pub spaced-none : t.len ≡ 0 → spaced (words_of n) ≡ []
  unfolding spaced
  spaced-none e = let none : length (words_of n) ≡ 0 = sym size ∙ e in rw (nil-length (words_of n), none)

  pub spaced-some : (t.len ≡ 0 → ⊥) → (p : List ℕ) → p ≡ part t.bytes 0 t.len → spaced (words_of n) ≡ (space ∷ []) ++ p
  unfolding spaced
  spaced-some ne p e =
      let words : p ≡ words_of n = e ∙ part-front t.bytes t.len ∙ ap (λ (x : Text). take x.len x.bytes) is ∙ words_back n in
      rw (nil-length (words_of n), ne_eqb (length (words_of n)) 0 (λ z. ne (size ∙ z)), words)

worded-few : (n : ℕ) (worded : Bool) → length (cond worded (spaced (words_of n)) []) ≤ suc text_limit
unfolding spaced
worded-few n false = omega arith
worded-few n true = go (is_nil (words_of n))
  where
    go : (t : Bool) → length (cond t [] (space ∷ words_of n)) ≤ suc text_limit
    go true = omega arith
    go false = omega (arith, words-few n)

place-few : (place : ℕ) → place < 10 ^ 3 → length (place_text place) ≤ 4
unfolding place_text
place-few place h = go (eqb place 0)
  where
    go : (t : Bool) → length (cond t [] (space ∷ digits_of place)) ≤ 4
    go true = omega arith
    go false = omega (arith, digits-within place 2 h)

numbered-few : (mark n place : ℕ) (worded : Bool) → n < 2 ^ 32 → place < 10 ^ 3 → length (numbered_text mark n place worded) ≤ 17 + suc text_limit
unfolding numbered_text
numbered-few mark n place worded h k =
    let words = cond worded (spaced (words_of n)) [] in
    let opening = (mark ∷ space ∷ []) ++ digits_of n in
    omega (
      arith,
      length-append (opening ++ place_text place ++ words) (lf ∷ []),
      length-append (opening ++ place_text place) words,
      length-append opening (place_text place),
      length-append (mark ∷ space ∷ []) (digits_of n),
      digits-ten n h,
      place-few place k,
      worded-few n worded,
    )

-- the line of a terminal is shown, and no other
pointed-few : (place : ℕ) (line : List ℕ) (worded : Bool) → length line ≤ line_limit → place + 2 ≤ length line → length (cond worded (pointed_line place line) []) ≤ 2 * line_limit
pointed-few place line false h k = omega arith
pointed-few place line true h k = omega (arith, length-pointed place line (omega arith))

-- ---- the answer to a refused line
module _ (n place : ℕ) (line : List ℕ) (worded : Bool) where
  pub refused-plain : place ≡ 0 → refused_text n place line worded ≡ numbered_text exclamation n place worded
  unfolding refused_text
  refused-plain e = rw (eq-eqb place 0 e) (append-nil (numbered_text exclamation n place worded))

  -- where a place is at fault
  module _ (ne : place ≡ 0 → ⊥) where
    pub refused-wordless : worded ≡ false → refused_text n place line worded ≡ numbered_text exclamation n place worded
    unfolding refused_text
    refused-wordless e = rw (ne_eqb place 0 ne, e) (append-nil (numbered_text exclamation n place false))

    pub refused-pointed : worded ≡ true → refused_text n place line worded ≡ numbered_text exclamation n place worded ++ pointed_line place line
    unfolding refused_text
    refused-pointed e = rw (ne_eqb place 0 ne, e)

  pub refused-few : n < 2 ^ 32 → IsPlaceIn line place → length (refused_text n place line worded) ≤ answer_room
  unfolding refused_text
  refused-few h inside = go (eqb place 0) refl
    where
      numbered : List ℕ
      numbered = numbered_text exclamation n place worded

      below : List ℕ
      below = cond worded (pointed_line place line) []

      go : (t : Bool) → eqb place 0 ≡ t → length (numbered ++ cond t [] below) ≤ answer_room
      go true e =
          let none : place ≡ 0 = eqb-true place 0 e in
          omega (arith, length-append numbered [], numbered-few exclamation n place worded h (omega arith))
      go false e =
          let there = inside (eqb-false place 0 e) in
          omega (
            arith,
            length-append numbered below,
            numbered-few exclamation n place worded h (omega arith),
            pointed-few place line worded there.0 there.1,
          )

-- ---- links, one by one
-- those from a place on, a comma before each
abbrev pub prefixed_links : ℕ → ℕ → List ℕ
prefixed_links set k = prefixed comma (map digits_of (links_from k (link_count - k) set))

-- the link at a place comes first, if it is in the set
pub prefixed-links-step : (set k : ℕ) → k < link_count → prefixed_links set k ≡ cond (has_bit set k) (comma ∷ digits_of k) [] ++ prefixed_links set (k + 1)
unfolding links_from prefixed
prefixed-links-step set k h =
    let n : link_count - k ≡ suc (link_count - (k + 1)) = omega arith in
    rw n (go (has_bit set k))
  where
    behind : List ℕ
    behind = links_from (suc k) (link_count - (k + 1)) set

    go : (t : Bool) → prefixed comma (map digits_of (cond t (k ∷ behind) behind)) ≡ cond t (comma ∷ digits_of k) [] ++ prefixed_links set (k + 1)
    go true = rw add-one
    go false = rw add-one

-- past the last link there is none
pub prefixed-links-past : (set k : ℕ) → link_count ≤ k → prefixed_links set k ≡ []
unfolding links_from prefixed
prefixed-links-past set k h = let n : link_count - k ≡ 0 = omega arith in rw n

-- ---- the links of a set
pub set-none : (set : ℕ) → length (links_in set) ≡ 0 → comma ∷ links_text set ≡ comma ∷ no_link
unfolding links_text
set-none set h = rw (nil-length (links_in set), h)

pub set-some : (set : ℕ) → (length (links_in set) ≡ 0 → ⊥) → prefixed comma (map digits_of (links_in set)) ≡ comma ∷ links_text set
unfolding links_text prefixed separated
set-some set h = go (links_in set) h
  where
    go : (l : List ℕ) → (length l ≡ 0 → ⊥) → prefixed comma (map digits_of l) ≡ comma ∷ cond (is_nil l) no_link (separated comma (map digits_of l))
    go [] h = absurd (h refl)
    go (x ∷ l) h = refl

-- ---- every answer has room
prefixed-links-few : (set i n : ℕ) → i + n ≤ link_count → length (prefixed comma (map digits_of (links_from i n set))) ≤ 3 * n
unfolding links_from prefixed
prefixed-links-few set i zero = λ h. omega arith
prefixed-links-few set i (suc n) = λ h. go h (has_bit set i) (prefixed-links-few set (suc i) n (omega arith))
  where
    behind : List ℕ
    behind = links_from (suc i) n set

    go : i + suc n ≤ link_count → (t : Bool) → length (prefixed comma (map digits_of behind)) ≤ 3 * n → length (prefixed comma (map digits_of (cond t (i ∷ behind) behind))) ≤ 3 * suc n
    go h true few = omega (arith, length-append (digits_of i) (prefixed comma (map digits_of behind)), digits-within i 1 (omega arith))
    go h false few = omega arith

set-few : (set : ℕ) → length (links_text set) ≤ 3 * link_count
unfolding links_text
set-few set = go (is_nil (links_in set)) refl
  where
    go : (t : Bool) → is_nil (links_in set) ≡ t → length (cond t no_link (separated comma (map digits_of (links_in set)))) ≤ 3 * link_count
    go true e = omega arith
    go false e =
        let some : length (links_in set) ≡ 0 → ⊥ = eqb-false (length (links_in set)) 0 (sym (nil-length (links_in set)) ∙ e) in
        let text : links_text set ≡ separated comma (map digits_of (links_in set)) = rw e in
        omega (arith, prefixed-links-few set 0 link_count (omega arith), ap (λ (l : List ℕ). length l) (set-some set some), ap (λ (l : List ℕ). length l) text)

pub relayed-few : (set : ℕ) (line : List ℕ) → length line ≤ line_limit → length (comma ∷ relayed_text set line) ≤ answer_room
unfolding relayed_text
relayed-few set line h = omega (arith, set-few set, length-append (links_text set ++ (space ∷ [])) line, length-append (links_text set) (space ∷ []))

-- ---- the answer to an accepted line
pub accepted-none : (set : ℕ) (line : List ℕ) → length line ≡ 0 → accepted_text set line ≡ no_link ++ (lf ∷ [])
unfolding accepted_text
accepted-none set line h = rw (nil-length line, h)

-- it is what was put together, without the comma
pub accepted-some : (set : ℕ) (line text p : List ℕ) (n : ℕ) → (length line ≡ 0 → ⊥) → AtFront text n (comma ∷ relayed_text set line) → p ≡ part text 1 n → accepted_text set line ≡ p
unfolding accepted_text
accepted-some set line text p n ne f e =
    let it : accepted_text set line ≡ relayed_text set line = rw (nil-length line, ne_eqb (length line) 0 ne) in
    it ∙ sym (e ∙ rest_of text (comma ∷ relayed_text set line) n 1 f (omega arith))

pub accepted-few : (set : ℕ) (line : List ℕ) → length line ≤ line_limit → length (accepted_text set line) ≤ answer_room
unfolding accepted_text
accepted-few set line h = go (is_nil line)
  where
    go : (t : Bool) → length (cond t (no_link ++ (lf ∷ [])) (relayed_text set line)) ≤ answer_room
    go true = omega arith
    go false = omega (arith, relayed-few set line h)

-- ---- the record of an accepted line
module _ (link : ℕ) (line log : List ℕ) (known : is_link link ≡ true) (small : length line ≤ line_limit) (room : length log ≡ record_limit) where
  -- it is written whole
  pub record-at-front : (next : List ℕ) (r : Logged) → r ≡ logged_answer link line log → next ≡ front (emitted (log_rules link line log) (record_of link line)) log → AtFront next r.size (record_of link line)
  unfolding logged_answer
  record-at-front next r e f =
      let all : emitted (log_rules link line log) (record_of link line) ≡ record_of link line = emitted-all (log_rules link line log) (record_of link line) (accepts link line log (ltb-true link link_count known) small (omega arith)) in
      at_front log next r.size (record_of link line) (ap (λ (x : Logged). x.size) e ∙ rw all) (f ∙ rw all)
