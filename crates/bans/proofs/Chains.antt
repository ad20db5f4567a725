-- What chains over rooms come to: `all`, `any` and `is_sorted_by` against the definitions of this crate. Assumes nothing.
use mathlib.Core.Path.{◌≡◌, refl, sym, ap, ap₂, subst, ◌∙◌}
use mathlib.Core.Bool.{Bool, true, false, ◌&&◌, ◌||◌}
use mathlib.Core.List.{List, [], ◌∷◌, ◌++◌, map, append-nil}
use mathlib.Core.Logic.{inl, inr}
use Prim.Native.Nat.{ℕ, suc, ◌+◌}
use native.Mathlib.Omega.{arith}
use lib.ListN.{length, drop, take-append-drop}
use denote.Param.Members.{Mut}
use denote.Ref.{Bor}
use Rattle.std.specs.Prelude.{Option, Some, None}
use Rattle.std.specs.List.{list_all, list_any, FoldsTo}
use Rattle.std.specs.Option.{MatchOption}
use Rattle.std.specs.Fn.{CalledAtTwo}
use Rattle.std.specs.Iterator.{Yields, YieldsThen}
use Rattle.std.specs.Iterator.Order.{OrderTurn, ChecksNeighbours}
use Rattle.std.proofs.lemmas.Iterator.{YieldsList}
use Rattle.std.proofs.lemmas.Iterator.Consumers.{YieldsList-so_far, YieldsList-turn, YieldsList-end}
use Rattle.laws.specs.Lists.{all}
use Rattle.laws.proofs.Lists.{drop-step}
use Rattle.ascending.specs.Ascending.{Kind, precedes, ascends}
use Rattle.ascending.proofs.Ascends.{ascends-short, ascends-step}
use Rattle.glob.specs.Mask.{match_answer}
use Rattle.bans.specs.Masks.{mask_in}
use Rattle.bans.specs.Matching.{some_matches}

-- the library's test of each
pub all-list : {A : Type 0} (p : A → Bool) (l : List A) → list_all p l ≡ all p l
unfolding all
all-list p [] = refl
all-list p (x ∷ l) = ap (λ (t : Bool). p x && t) (all-list p l)

-- some room's mask matches
pub any-matches : (t : List ℕ) (l : List (List ℕ)) → list_any (λ r. (match_answer (mask_in r) t).yes) l ≡ some_matches t (map mask_in l)
unfolding some_matches
any-matches t [] = refl
any-matches t (r ∷ l) = ap (λ (b : Bool). (match_answer (mask_in r) t).yes || b) (any-matches t l)

-- ---- `is_sorted_by`
module _ {A E P F : Type 0} (K : Kind E P) (v : A → E) (g : Mut F (Bor A × (Bor A × Unit {0})) Bool) (f : F)
    (acts : (x y : A) (b : Bool) (q : F) → CalledAtTwo g f x y b q → (q ≡ f) × (b ≡ precedes K (v x) (v y ∷ []))) where
  -- as long as each came before the next, the last one and what follows it decide
  so_far : (xs : List A) (x : A) (q : F × A) (rest : List E) → FoldsTo {P = F × A} (OrderTurn g) (f, x) xs q
      → (q.0 ≡ f) × (ascends K (v x ∷ map v xs ++ rest) ≡ ascends K (v q.1 ∷ rest))
  so_far [] x q rest c = (sym (ap (λ (w : F × A). w.0) c), ap (λ (w : F × A). ascends K (v w.1 ∷ rest)) c)
  so_far (y ∷ xs) x q rest c =
      let m = acts x y true c.0.0 c.1.0 in
      let r = so_far xs y q rest (subst (λ (w : F × A). FoldsTo {P = F × A} (OrderTurn g) w xs q) {x = c.0} {y = (f, y)} (λ i. (m.0 i, c.1.1 i)) c.2) in
      (r.0, ascends-step K (v x) (v y) (map v xs ++ rest) ∙ ap (λ (t : Bool). t && ascends K (v y ∷ map v xs ++ rest)) (sym m.1) ∙ r.1)

  module _ {S : Type 0} {steps : S → Option A → S → Type 0} {s : S} {all : List E} (road : YieldsList steps v s all) where
    ended : (x : A) (xs : List A) (q : F × A) → map v (x ∷ xs) ≡ all → FoldsTo {P = F × A} (OrderTurn g) (f, x) xs q → true ≡ ascends K all
    ended x xs q e c =
        sym (ascends-short K (v q.1 ∷ []) (omega arith)) ∙ sym (so_far xs x q [] c).1 ∙ ap (ascends K) (append-nil (v x ∷ map v xs) ∙ e)

    -- the first that doesn't come after the one before it
    broken : (x : A) (xs : List A) (y : A) (t u : S) (q : F × A) (h : F) → Yields steps s (x ∷ xs) t → steps t (Some y) u → FoldsTo {P = F × A} (OrderTurn g) (f, x) xs q
        → CalledAtTwo g q.0 q.1 y false h → false ≡ ascends K all
    broken x xs y t u q h came next c called =
        let n : ℕ = suc (length xs) in
        let turn = YieldsList-turn road (x ∷ xs) t came (Some y) u y refl next in
        let rest : List E = drop (suc (length xs) + 1) all in
        let split : all ≡ v x ∷ map v xs ++ (v y ∷ drop (suc (length xs) + 1) all) =
        sym (take-append-drop (suc (length xs)) all)
        ∙ ap₂ (λ (a b : List E). a ++ b) (sym (YieldsList-so_far road (x ∷ xs) t came)) (drop-step all (suc (length xs)) (v y) turn.0 ∙ ap (λ (d : E). d ∷ drop (suc (length xs) + 1) all) (sym turn.1)) in
        let r = so_far xs x q (v y ∷ drop (suc (length xs) + 1) all) c in
        let last = acts q.1 y false h (subst (λ (w : F). CalledAtTwo g w q.1 y false h) r.0 called) in
        sym (ap (ascends K) split ∙ r.1 ∙ ascends-step K (v q.1) (v y) (drop (suc (length xs) + 1) all) ∙ ap (λ (b : Bool). b && ascends K (v y ∷ drop (suc (length xs) + 1) all)) (sym last.1))

    told_at : (r : Bool) (x : A) (xs : List A) (o : Option A) (u : S) (q : F × A) → YieldsThen steps s (x ∷ xs) o u → FoldsTo {P = F × A} (OrderTurn g) (f, x) xs q
        → MatchOption o (r ≡ true) (λ y. (r ≡ false) × ((h : F) × CalledAtTwo g q.0 q.1 y false h)) → r ≡ ascends K all
    told_at r x xs None u q d c e = e ∙ ended x xs q (YieldsList-end road (x ∷ xs) d.0 d.1 None u refl d.2).0 c
    told_at r x xs (Some y) u q d c e = e.0 ∙ broken x xs y d.0 u q e.1.0 d.1 d.2 c e.1.1

    pub ascends-sorted : (r : Bool) → ChecksNeighbours g steps s f r → r ≡ ascends K all
    ascends-sorted r (inl d) =
        d.1 ∙ sym (ap (ascends K) (sym (YieldsList-end road [] d.0.1.0 d.0.1.1 None d.0.0 refl d.0.1.2).0) ∙ ascends-short K [] (omega arith))
    ascends-sorted r (inr d) = told_at r d.0 d.1 d.2 d.3 d.4 d.5 d.6 d.7
