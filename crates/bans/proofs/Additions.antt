-- Masks put one after the other, as the code puts them: each goes into the list so far, and the first that there is no room for ends it. Assumes nothing.
use mathlib.Core.Path.{◌≡◌, sym, ap}
use mathlib.Core.Bool.{true, cond}
use mathlib.Core.List.{List, [], ◌∷◌}
use Prim.Native.Nat.{ℕ}
use Rattle.std.specs.Prelude.{Some, None}
use Rattle.bans.specs.declared.BanList.{BanList}
use Rattle.bans.specs.Putting.{Added, added, addition, put_answer, put_all, add_answer}

module _ (m : List ℕ) (l : List (List ℕ)) (b : BanList) where
  step : (r : Added) → r ≡ put_answer m b → put_all (m ∷ l) b ≡ cond r.full (addition true b.room) (put_all l r.list)
  unfolding put_all
  step r e = ap (λ (a : Added). cond a.full (addition true b.room) (put_all l a.list)) (sym e)

  -- the others go into the list with the first
  pub put-next : (x : BanList) → added b (Some x) ≡ put_answer m b → put_all (m ∷ l) b ≡ put_all l x
  put-next x e = step (added b (Some x)) e

  -- there is no room for the first
  pub put-full : added b None ≡ put_answer m b → put_all (m ∷ l) b ≡ addition true b.room
  put-full e = step (added b None) e

module _ (l : List (List ℕ)) (a b : BanList) where
  -- so there isn't for all
  pub add-none : put_all l a ≡ addition true b.room → added a None ≡ add_answer l a
  unfolding add_answer
  add-none e = rw e

  -- none is left to put
  pub add-some : put_all l a ≡ put_all [] b → added a (Some b) ≡ add_answer l a
  unfolding add_answer put_all
  add-some e = rw e
