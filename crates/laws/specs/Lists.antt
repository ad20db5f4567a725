-- Tests of lists that several crates' definitions cite, padding, and texts with a mark between them.
use Rattle.std.specs.Prelude.{ℕ, Bool, true, false, ◌&&◌, List, [], ◌∷◌, ◌++◌, take, replicate, eqb}

module _ {A : Type 0} where
  -- every element passes the test
  unfoldable pub all : (A → Bool) → List A → Bool
  all p [] = true
  all p (x ∷ l) = p x && all p l

  abbrev pub is_nil : List A → Bool
  is_nil [] = true
  is_nil (x ∷ l) = false

  -- the same elements in the same order, by a test of two elements
  unfoldable pub same_by : (A → A → Bool) → List A → List A → Bool
  same_by t [] [] = true
  same_by t [] (y ∷ m) = false
  same_by t (x ∷ l) [] = false
  same_by t (x ∷ l) (y ∷ m) = t x y && same_by t l m

  -- the first n elements of l, with x in the places that it leaves open
  unfoldable pub padded : ℕ → A → List A → List A
  padded n x l = take n (l ++ replicate n x)

-- equal, byte for byte
abbrev pub same : List ℕ → List ℕ → Bool
same = same_by eqb

-- the first byte is b
unfoldable pub starts_with : ℕ → List ℕ → Bool
starts_with b [] = false
starts_with b (x ∷ s) = eqb x b

-- ---- texts one behind the other
-- a mark before each
unfoldable pub prefixed : ℕ → List (List ℕ) → List ℕ
prefixed mark [] = []
prefixed mark (s ∷ l) = mark ∷ (s ++ prefixed mark l)

-- a mark between each two
unfoldable pub separated : ℕ → List (List ℕ) → List ℕ
separated mark [] = []
separated mark (s ∷ l) = s ++ prefixed mark l
