-- Where a byte stands first.
use Rattle.std.specs.Prelude.{ℕ, Bool, not, cond, List, [], ◌∷◌, eqb}

-- a byte is another than b
abbrev pub differs : ℕ → ℕ → Bool
differs b x = not (eqb x b)

-- the bytes before the first b; all of them where there is none
unfoldable pub before : ℕ → List ℕ → List ℕ
before b [] = []
before b (x ∷ s) = cond (eqb x b) [] (x ∷ before b s)
