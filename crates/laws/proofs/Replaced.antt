-- A list with another element in one place: a test that every element passes, and the new one too, is passed by all. Assumes nothing.
use mathlib.Core.Path.{◌≡◌}
use mathlib.Core.Bool.{Bool, true}
use mathlib.Core.List.{List, [], ◌∷◌}
use Prim.Native.Nat.{ℕ, zero, suc}
use lib.ListN.{set}
use Rattle.laws.specs.Lists.{all}
use Rattle.laws.proofs.Lists.{all_head, all_tail, all_cons}

pub all_set : {A : Type 0} (p : A → Bool) (l : List A) (k : ℕ) (x : A) → all p l ≡ true → p x ≡ true → all p (set l k x) ≡ true
all_set p [] k x h e = h
all_set p (y ∷ l) zero x h e = all_cons p x l e (all_tail p y l h)
all_set p (y ∷ l) (suc k) x h e = all_cons p y (set l k x) (all_head p y l h) (all_set p l k x (all_tail p y l h) e)
