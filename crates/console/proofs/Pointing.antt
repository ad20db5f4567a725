-- Laws of a line that is shown with a caret under a place: byte by byte, SPACE by SPACE, and how much room it takes. Assumes nothing.
use Prim.Native.Nat.{ℕ, suc, ◌+◌, ◌-◌, ◌≤◌, ◌<◌}
use mathlib.Core.Path.{◌≡◌, sym, ap, ◌∙◌}
use mathlib.Core.List.{List, [], ◌∷◌, ◌++◌, map, append_assoc}
use native.Mathlib.Omega.{arith}
use lib.ListN.{length, take, drop, get_or, replicate, length-append, length-take, length-map, length-replicate, drop_of_length-le}
use Rattle.octets.specs.Bytes.{lf, space}
use Rattle.octets.specs.Room.{part}
use Rattle.octets.proofs.Room.{part-front}
use Rattle.laws.proofs.Lists.{drop-step}
use Rattle.console.specs.Showing.{caret, shown_byte, shown, pointer, pointed_line}

-- ---- bytes shown, from a place on
pub shown-step : (s : List ℕ) (i x : ℕ) → i < length s → x ≡ shown_byte (get_or s i 0) → map shown_byte (drop i s) ≡ (x ∷ []) ++ map shown_byte (drop (i + 1) s)
shown-step s i x h e = rw (drop-step s i 0 h, e)

pub shown-past : (s : List ℕ) (i : ℕ) → length s ≤ i → map shown_byte (drop i s) ≡ []
shown-past s i h = rw (drop_of_length-le s h)

-- ---- SPACEs, one by one
pub spaces-step : (n : ℕ) → 0 < n → replicate n space ≡ (space ∷ []) ++ replicate (n - 1) space
spaces-step n h = let e : n ≡ suc (n - 1) = omega arith in ap (λ (k : ℕ). replicate k space) e

pub spaces-past : (n : ℕ) → n ≤ 0 → replicate n space ≡ []
spaces-past n h = let e : n ≡ 0 = omega arith in rw e

-- ---- the line and the caret
-- as they are put: the caret with its LF
pub pointed-parts : (place : ℕ) (line body : List ℕ) → body ≡ part line 0 (length line - 2) → map shown_byte body ++ (lf ∷ []) ++ replicate place space ++ (caret ∷ lf ∷ []) ≡ pointed_line place line
unfolding shown pointer pointed_line
pointed-parts place line body e =
    let opening = map shown_byte (take (length line - 2) line) ++ (lf ∷ []) in
    rw (e ∙ part-front line (length line - 2))
    (append_assoc opening (replicate place space) (caret ∷ lf ∷ [])
    ∙ sym (append_assoc opening (replicate place space ++ (caret ∷ [])) (lf ∷ []) ∙ rw (append_assoc (replicate place space) (caret ∷ []) (lf ∷ []))))

-- as many bytes as the line, the place, and one more
pub length-pointed : (place : ℕ) (line : List ℕ) → 2 ≤ length line → length (pointed_line place line) ≡ length line + place + 1
unfolding shown pointer pointed_line
length-pointed place line h =
    let body = take (length line - 2) line in
    omega (
      arith,
      length-append (map shown_byte body ++ (lf ∷ []) ++ (replicate place space ++ (caret ∷ []))) (lf ∷ []),
      length-append (map shown_byte body ++ (lf ∷ [])) (replicate place space ++ (caret ∷ [])),
      length-append (map shown_byte body) (lf ∷ []),
      length-append (replicate place space) (caret ∷ []),
      length-replicate {A = ℕ} place space,
      length-map body shown_byte,
      length-take (length line - 2) line,
    )
