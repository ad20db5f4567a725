-- A line put together part by part: what it holds so far, and what is added to that.
use Rattle.std.specs.Prelude.{ℕ, suc, ◌≤◌, min, ◌≡◌, List, ◌++◌, length, take}

-- The line begins with w, and `at` is where w ends; or w is longer than the line, and `at` is one past it.
pub record Holds (line : List ℕ) (at : ℕ) (w : List ℕ) : Type 0 where
  pub counts : at ≡ min (suc (length line)) (length w)
  pub begins : at ≤ length line → take at line ≡ w

-- From one line to the next p is added to whatever is held.
pub record Adds (line : List ℕ) (at : ℕ) (next : List ℕ) (r : ℕ) (p : List ℕ) : Type 0 where
  pub keeps : length next ≡ length line
  pub adds : (w : List ℕ) → Holds line at w → Holds next r (w ++ p)

-- The line begins with w, and n is where w ends.
pub record AtFront (line : List ℕ) (n : ℕ) (w : List ℕ) : Type 0 where
  pub counts : n ≡ length w
  pub begins : take n line ≡ w
