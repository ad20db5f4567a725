-- What the elements of a list come to, by joining what each gives.
use Rattle.std.specs.Prelude.{List, [], ◌∷◌, ◌++◌}

abbrev pub total : {A X : Type 0} → (A → A → A) → A → (X → A) → List X → A
total join none f [] = none
total join none f (x ∷ s) = join (f x) (total join none f s)

-- lists one behind the other
abbrev pub concatenated : {A : Type 0} → List (List A) → List A
concatenated l = total ◌++◌ [] (λ s. s) l
