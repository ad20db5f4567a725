-- How the parameters of a line that no rule refuses stand, and what they take up: time, name and modes, then those of k and l, then the list; key and limit stand
-- in different places, so they take up no more than all of them. Assumes nothing.
use Prim.Native.Nat.{ℕ, suc, ◌+◌, ◌-◌, ◌≤◌}
use mathlib.Core.Path.{◌≡◌, refl, sym, ◌∙◌}
use mathlib.Core.Bool.{Bool, true, false, cond, true≢false}
use mathlib.Core.List.{List, [], ◌∷◌, ◌++◌}
use native.Mathlib.Omega.{arith}
use lib.ListN.{length, take, drop, get_or}
use lib.Dec.{eqb}
use borrow.Author.Tests.{eqb-true, eqb-false}
use Rattle.laws.specs.Lists.{is_nil}
use Rattle.laws.proofs.Bools.{and_right}
use Rattle.channel.specs.Modes.{place_among}
use Rattle.message.proofs.Sizes.{room}
use Rattle.sjoin.specs.Modes.{good_argument, good_arguments}

-- ---- the parameters of k and l
-- what a parameter takes up with a SPACE, none nothing
abbrev pub taken : List ℕ → ℕ
taken a = cond (is_nil a) 0 (suc (length a))

taken-most : (a : List ℕ) → taken a ≤ suc (length a)
taken-most [] = omega arith
taken-most (b ∷ a) = omega arith

module _ (k l : ℕ) (apart : eqb k l ≡ false) where
  abbrev at_place : ℕ → List ℕ → List (List ℕ) → ℕ
  at_place letter s args = taken (get_or args (place_among s letter) [])

  -- Two different letters' parameters take up no more than all.
  pub arguments-room : (s : List ℕ) (args : List (List ℕ)) → good_arguments s args ≡ true → at_place k s args + at_place l s args ≤ room args
  unfolding good_arguments place_among
  arguments-room [] [] h = omega arith
  arguments-room [] (a ∷ args) h = absurd (true≢false (sym h))
  arguments-room (x ∷ s) [] h = absurd (true≢false (sym h))
  arguments-room (x ∷ s) (a ∷ args) h = go (eqb x k) refl (eqb x l) refl (arguments-room s args (and_right (good_argument x a) (good_arguments s args) h))
    where
      go : (t : Bool) → eqb x k ≡ t → (u : Bool) → eqb x l ≡ u → at_place k s args + at_place l s args ≤ room args → at_place k (x ∷ s) (a ∷ args) + at_place l (x ∷ s) (a ∷ args) ≤ room (a ∷ args)
      go true e true f i = absurd (eqb-false k l apart (sym (eqb-true x k e) ∙ eqb-true x l f))
      go true e false f i = rw (e, f) (omega (arith, taken-most a))
      go false e true f i = rw (e, f) (omega (arith, taken-most a))
      go false e false f i = rw (e, f) (omega arith)

-- ---- the parameters of a line that no rule refuses: those before the list, and the list
-- They are time, name and modes, the parameters of k and l, and the list.
pub parts : (ps : List (List ℕ)) → 4 ≤ length ps → length ps ≤ 6 → ps ≡ (get_or ps 0 [] ∷ get_or ps 1 [] ∷ get_or ps 2 [] ∷ take (length ps - 4) (drop 3 ps)) ++ (get_or ps (length ps - 1) [] ∷ [])
parts [] = λ h k. absurd (omega arith)
parts (a ∷ []) = λ h k. absurd (omega arith)
parts (a ∷ b ∷ []) = λ h k. absurd (omega arith)
parts (a ∷ b ∷ c ∷ []) = λ h k. absurd (omega arith)
parts (a ∷ b ∷ c ∷ d ∷ []) = λ h k. refl
parts (a ∷ b ∷ c ∷ d ∷ e ∷ []) = λ h k. refl
parts (a ∷ b ∷ c ∷ d ∷ e ∷ f ∷ []) = λ h k. refl
parts (a ∷ b ∷ c ∷ d ∷ e ∷ f ∷ g ∷ ps) = λ h k. absurd (omega arith)
