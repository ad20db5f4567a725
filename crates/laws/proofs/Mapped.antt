-- A list of which the first i elements are mapped, the rest as they were: one more is mapped by setting it, and in the end all are. Assumes nothing.
use mathlib.Core.Path.{◌≡◌, refl, sym, ap, ◌∙◌}
use mathlib.Core.List.{List, [], ◌∷◌, ◌++◌, map, map-append, append-nil}
use Prim.Native.Nat.{ℕ, ◌+◌, ◌≤◌, ◌<◌}
use native.Mathlib.Numerals.{add-one}
use native.Mathlib.Omega.{arith}
use lib.ListN.{length, take, drop, get_or, set, length-map, drop_of_length-le}
use lib.Seq.{set_at, take-suc, take_all, append_snoc, length-take-le}
use Rattle.laws.proofs.Lists.{drop-step}

module _ {A : Type 0} (f : A → A) where
  unfoldable pub mapped : List A → ℕ → List A
  mapped l i = map f (take i l) ++ drop i l

  pub mapped-none : (l : List A) → mapped l 0 ≡ l
  unfolding mapped
  mapped-none l = refl

  pub mapped-all : (l : List A) (i : ℕ) → length l ≤ i → mapped l i ≡ map f l
  unfolding mapped
  mapped-all l i h = rw (take_all i l h, drop_of_length-le l {i = i} h) (append-nil (map f l))

  module _ (l : List A) (i : ℕ) (d : A) (h : i < length l) where
    front_length : length (map f (take i l)) ≡ i
    front_length = length-map (take i l) f ∙ length-take-le i l (omega arith)

    front-next : map f (take (i + 1) l) ≡ map f (take i l) ++ (f (get_or l i d) ∷ [])
    front-next = rw (add-one i, take-suc l i d h) (map-append f (take i l) (get_or l i d ∷ []))

    pub mapped-step : set (mapped l i) i (f (get_or l i d)) ≡ mapped l (i + 1)
    unfolding mapped
    mapped-step =
        ap (λ (m : List A). set (map f (take i l) ++ m) i (f (get_or l i d))) (drop-step l i d h)
        ∙ set_at (map f (take i l)) (get_or l i d) (drop (i + 1) l) (f (get_or l i d)) i front_length
        ∙ sym (append_snoc (map f (take i l)) (f (get_or l i d)) (drop (i + 1) l))
        ∙ ap (λ (m : List A). m ++ drop (i + 1) l) (sym front-next)
