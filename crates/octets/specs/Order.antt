-- Byte lists in order: by the first byte that differs, as unsigned numbers, a proper beginning being smaller.
use Rattle.std.specs.Prelude.{ℕ, Bool, true, false, cond, List, [], ◌∷◌, eqb, ltb}
use Rattle.std.specs.declared.cmp.Ordering.{Ordering}
use Rattle.std.specs.declared.cmp.Ordering.TheVariants.{Less, Equal, Greater}

unfoldable pub compare : List ℕ → List ℕ → Ordering
compare [] [] = Equal
compare [] (y ∷ t) = Less
compare (x ∷ s) [] = Greater
compare (x ∷ s) (y ∷ t) = cond (eqb x y) (compare s t) (cond (ltb x y) Less Greater)

-- how the second stands to the first
unfoldable pub opposite : Ordering → Ordering
opposite Less = Greater
opposite Equal = Equal
opposite Greater = Less

-- the first is smaller
abbrev pub is_less : Ordering → Bool
is_less Less = true
is_less Equal = false
is_less Greater = false
