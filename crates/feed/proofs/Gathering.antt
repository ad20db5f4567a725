-- What the search for LF tells of the answer to a call. Of the bytes s that follow an unfinished line w, the first k are looked at: as many as the line has room
-- for, and one, or all where they are fewer. The first LF among them ends the line, or is its 513th byte; without one the line goes on, or has a 513th byte. Assumes nothing.
use mathlib.Core.Path.{◌≡◌, sym, ap, ap₂, ◌∙◌}
use mathlib.Core.Bool.{true}
use mathlib.Core.List.{List, [], ◌∷◌, ◌++◌, append_assoc}
use Prim.Native.Nat.{ℕ, suc, ◌+◌, ◌-◌, ◌≤◌, ◌<◌, min}
use native.Mathlib.Omega.{arith}
use lib.ListN.{length, take, drop, get_or, length-append, take-append-drop}
use lib.Seq.{take_all, take-length, length-take-le, take-take, take_at, get_or-take, append_snoc, split_at}
use Rattle.refusal.specs.Numbers.{accepted, line_too_long}
use Rattle.octets.specs.Bytes.{lf, is_non_lf}
use Rattle.octets.specs.Search.{before}
use Rattle.octets.proofs.Search.{before-none, before-front, before-then, before-within}
use Rattle.laws.specs.Lists.{all}
use Rattle.laws.proofs.Lists.{all-at, all_take}
use Rattle.message.specs.Grammar.{line_limit}
use Rattle.feed.specs.Lines.{Unfinished, Dropping, nothing}
use Rattle.feed.specs.Feeder.{state_of, fed, answer_to}
use Rattle.feed.proofs.Answers.{answer-kept, answer-dropped, answer-over, answer-line}

-- What is known where LF is looked for among the first k bytes behind an unfinished line, whose length is `len`: it stands in the place `found`, or there is none, and
-- that is k.
pub record Looked (w s : List ℕ) (len k found : ℕ) : Type 0 where
  pub held : length w ≡ len
  pub small : len ≤ line_limit
  pub reach : k ≡ min (length s) (line_limit - len + 1)
  pub is : found ≡ length (before lf (take k s))

module _ (w s : List ℕ) (len k found : ℕ) (l : Looked w s len k found) where
  abbrev ahead : List ℕ
  ahead = take k s

  abbrev clear : List ℕ
  clear = before lf ahead

  pub reach-in : k ≤ length s
  reach-in = omega (arith, l.reach)

  ahead-length : length ahead ≡ k
  ahead-length = length-take-le k s reach-in

  pub found_in : found ≤ k
  found_in = omega (arith, l.is, before-within lf ahead, ahead-length)

  -- ---- no LF
  module _ (none : found ≡ k) where
    all-clear : all is_non_lf ahead ≡ true
    all-clear =
        let e : clear ≡ ahead = sym (before-front lf ahead) ∙ ap (λ (n : ℕ). take n ahead) (sym l.is ∙ none ∙ sym ahead-length) ∙ take-length ahead in
        rw e at (before-none lf ahead)

    -- the line goes on
    pub goes_on : len + k ≤ line_limit → (ahead ≡ s) × (k ≡ length s) × (answer_to (Unfinished w) s ≡ fed (state_of (Unfinished (w ++ s))) k [] accepted)
    goes_on h =
        let whole : ahead ≡ s = take_all k s (omega (arith, l.reach, l.small)) in
        let n : k ≡ length s = omega (arith, l.reach, l.small) in
        (whole, n, answer-kept w s (rw whole at all-clear) (omega (arith, l.held)) ∙ ap (λ (m : ℕ). fed (state_of (Unfinished (w ++ s))) m [] accepted) (sym n))

    -- the last of them is the 513th byte
    pub too_long : line_limit < len + k → answer_to (Unfinished w) s ≡ fed (state_of Dropping) k [] line_too_long
    too_long h =
        let room : ℕ = line_limit - len in
        let inside : room < length s = omega (arith, l.reach, l.small) in
        let parts : s ≡ take room s ++ get_or s room 0 ∷ drop (suc room) s = split_at s room 0 inside in
        let clean : all is_non_lf (take room s) ≡ true = rw (take-take room k s (omega (arith, l.small))) at (all_take is_non_lf room ahead all-clear) in
        let other : is_non_lf (get_or s room 0) ≡ true = rw (get_or-take k s room 0 (omega (arith, l.small))) at (all-at is_non_lf ahead room 0 all-clear (omega (arith, ahead-length, l.small))) in
        let n : length (take room s) ≡ room = length-take-le room s (omega arith) in
        ap (answer_to (Unfinished w)) parts
        ∙ answer-dropped w (take room s) clean (get_or s room 0) (drop (suc room) s) (omega (arith, l.held, l.small)) other
        ∙ ap (λ (m : ℕ). fed (state_of Dropping) m [] line_too_long) (omega (arith, l.reach, l.small))

  -- ---- LF among them
  module _ (some : found ≡ k → ⊥) where
    some-found : found < k
    some-found = omega (arith, found_in, some)

    front : take found ahead ≡ clear
    front = ap (λ (n : ℕ). take n ahead) l.is ∙ before-front lf ahead

    lf-next : drop found ahead ≡ lf ∷ drop (suc found) ahead
    lf-next = rw l.is (before-then lf ahead (omega (arith, ahead-length, some-found, l.is)))

    rest : List ℕ
    rest = drop (suc found) ahead ++ drop k s

    split : s ≡ clear ++ lf ∷ rest
    unfolding rest
    split =
        sym (take-append-drop k s)
        ∙ ap (λ (m : List ℕ). m ++ drop k s) (sym (take-append-drop found ahead) ∙ ap₂ ◌++◌ front lf-next)
        ∙ append_assoc clear (lf ∷ drop (suc found) ahead) (drop k s)

    taken : take (found + 1) s ≡ clear ++ (lf ∷ [])
    taken =
        ap (take (found + 1)) (split ∙ sym (append_snoc clear lf rest))
        ∙ take_at (clear ++ (lf ∷ [])) rest (found + 1) (omega (arith, length-append clear (lf ∷ []), l.is))

    -- the line with LF is among the bytes that are looked at
    pub line-bytes : take (found + 1) ahead ≡ take (found + 1) s
    line-bytes = take-take (found + 1) k s (omega (arith, some-found))

    pub line-size : length (w ++ take (found + 1) s) ≡ len + (found + 1)
    line-size = omega (arith, length-append w (take (found + 1) s), l.held, length-take-le (found + 1) s (omega (arith, some-found, reach-in)))

    -- LF is the 513th byte
    pub line-over : line_limit < len + (found + 1) → answer_to (Unfinished w) s ≡ fed (state_of nothing) (found + 1) [] line_too_long
    line-over h =
        ap (answer_to (Unfinished w)) split
        ∙ answer-over w clear (before-none lf ahead) rest (omega (arith, l.held, l.is, l.reach, l.small, some-found))
        ∙ ap (λ (n : ℕ). fed (state_of nothing) (n + 1) [] line_too_long) (sym l.is)

    -- LF before the 513th byte
    pub line-whole : len + (found + 1) ≤ line_limit → answer_to (Unfinished w) s ≡ fed (state_of nothing) (found + 1) (w ++ take (found + 1) s) accepted
    line-whole h =
        ap (answer_to (Unfinished w)) split
        ∙ answer-line w clear (before-none lf ahead) rest (omega (arith, l.held, l.is))
        ∙ ap (λ (n : ℕ). fed (state_of nothing) (n + 1) (w ++ clear ++ (lf ∷ [])) accepted) (sym l.is)
        ∙ ap (λ (m : List ℕ). fed (state_of nothing) (found + 1) m accepted) (append_assoc w clear (lf ∷ []) ∙ ap (λ (m : List ℕ). w ++ m) (sym taken))
