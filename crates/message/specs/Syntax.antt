-- The two rules of the parameters, which name each other, as document 01 words them, with 02's fifteenth (§7): a relation between bytes and the parameters that
-- they hold. `Relation` of proofs/ shows that `params` of `Grammar` gives exactly what the relation has.
use Rattle.std.specs.Prelude.{ℕ, ◌+◌, ◌<◌, ◌≡◌, true, List, [], ◌∷◌, ◌++◌}
use Rattle.octets.specs.Bytes.{space, colon}
use Rattle.message.specs.Grammar.{middle_limit, is_middle, is_bare}

-- a run of SPACEs: one or more
pub data Spaces : List ℕ → Type 0 where
  one : Spaces (space ∷ [])
  more : {s : List ℕ} → Spaces s → Spaces (space ∷ s)

mutual
  -- After k middles, *rest* is a run of SPACEs, then nothing, or ':' and a trailing part, or a *middle*. After the fourteenth there is no further middle: all that remains is
  -- the fifteenth parameter, "less one leading ':' if there is one", which `trailing` takes off.
  pub data Rest : ℕ → List ℕ → List (List ℕ) → Type 0 where
    nothing : {k : ℕ} {s : List ℕ} → Spaces s → Rest k s []
    trailing : {k : ℕ} {s : List ℕ} (r t : List ℕ) → Spaces r → s ≡ r ++ (colon ∷ t) → Rest k s (t ∷ [])
    middle : {k : ℕ} {s : List ℕ} {ps : List (List ℕ)} (r m : List ℕ) → Spaces r → s ≡ r ++ m → k < middle_limit → Middle k m ps → Rest k s ps
    remains : {k : ℕ} {s : List ℕ} (r t : List ℕ) → Spaces r → s ≡ r ++ t → k ≡ middle_limit → is_bare t ≡ true → Rest k s (t ∷ [])

  -- after k others, a *middle* is a non-empty run of bytes without SPACE, not starting with ':', followed by a *rest* or the end
  pub data Middle : ℕ → List ℕ → List (List ℕ) → Type 0 where
    ends : {k : ℕ} {w : List ℕ} → is_middle w ≡ true → Middle k w (w ∷ [])
    followed : {k : ℕ} {s : List ℕ} {ps : List (List ℕ)} (w t : List ℕ) → is_middle w ≡ true → s ≡ w ++ t → Rest (k + 1) t ps → Middle k s (w ∷ ps)

-- after the command: a *rest*, before which there is no middle, or the line ends there
pub data Parameters : List ℕ → List (List ℕ) → Type 0 where
  absent : Parameters [] []
  follow : {s : List ℕ} {ps : List (List ℕ)} → Rest 0 s ps → Parameters s ps
