-- The claim about masks with many stars (document 02, §3): as many steps as the product of the two lengths, each plus 1, always reach the answer.
-- Every step raises the rank of its state, and the rank of no state that steps lead to is as high as that product. Assumes nothing.
use Prim.Native.Nat.{ℕ, zero, suc, ◌+◌, ◌≤◌, ◌<◌}
use mathlib.Core.Path.{◌≡◌, sym, ap, ◌∙◌}
use mathlib.Core.Bool.{Bool}
use mathlib.Core.List.{List, []}
use native.Mathlib.Omega.{arith}
use lib.ListN.{length}
use Rattle.glob.specs.declared.State.{State}
use Rattle.std.specs.declared.ops.ControlFlow.TheVariants.{Continue, Break}
use Rattle.glob.specs.Mask.{text_limit, matches, match_answer}
use Rattle.glob.specs.Stepping.{Progress, start, step_in, onward, steps, budget}
use Rattle.glob.proofs.Masks.{answer-yes}
use Rattle.glob.proofs.Sound.{Sound, rank, Leads, start-sound, step-leads, rank_below}

module _ (mask text : List ℕ) where
  -- as many as raise the rank to the budget reach the answer
  reached : (k : ℕ) (s : State) → Sound mask text s → budget mask text ≤ rank mask s + k → steps mask text k s ≡ Break (matches mask text)
  unfolding steps onward
  reached zero s ok h = absurd (omega (arith, rank_below mask text s ok))
  reached (suc k) s ok h = go (step_in mask text s) (step-leads mask text s ok) (reached k)
    where
      go : (p : Progress) → Leads mask text s p → ((t : State) → Sound mask text t → budget mask text ≤ rank mask t + k → steps mask text k t ≡ Break (matches mask text))
          → onward (steps mask text k) p ≡ Break (matches mask text)
      go (Continue t) l ih = ih t l.0 (omega (arith, l.1))
      go (Break answer) l ih = ap Break l

  -- and an answer that is reached is right
  right : (k : ℕ) (s : State) → Sound mask text s → (answer : Bool) → steps mask text k s ≡ Break answer → answer ≡ matches mask text
  unfolding steps onward
  right zero s ok answer e = let z : ◌≡◌ {A = ℕ} 0 1 = cc in absurd (omega arith)
  right (suc k) s ok answer e = go (step_in mask text s) (step-leads mask text s ok) (right k) e
    where
      go : (p : Progress) → Leads mask text s p → ((t : State) → Sound mask text t → (answer : Bool) → steps mask text k t ≡ Break answer → answer ≡ matches mask text)
          → onward (steps mask text k) p ≡ Break answer → answer ≡ matches mask text
      go (Continue t) l ih e = ih t l.0 answer e
      go (Break other) l ih e = let q : other ≡ answer = cc in sym q ∙ l

  -- So many steps, or more, reach the answer.
  pub steps-enough : (k : ℕ) → budget mask text ≤ k → steps mask text k start ≡ Break (matches mask text)
  steps-enough k h = reached k start (start-sound mask text) (omega arith)

  -- The claim: so many steps reach the answer, whatever the mask and the text, and however long. It is that of the plain meaning.
  pub steps-suffice : steps mask text (budget mask text) start ≡ Break (matches mask text)
  steps-suffice = steps-enough (budget mask text) (omega arith)

  -- An answer that any number of steps reach is the same.
  pub steps-right : (k : ℕ) (answer : Bool) → steps mask text k start ≡ Break answer → answer ≡ matches mask text
  steps-right k = right k start (start-sound mask text)

  -- Every answer stays what it was: the steps reach what `matches` has promised since the base.
  pub steps-answer : length mask ≤ text_limit → length text ≤ text_limit → steps mask text (budget mask text) start ≡ Break (match_answer mask text).yes
  steps-answer m t = steps-suffice ∙ ap Break (sym (answer-yes mask text m t))

-- One step fewer would not do for all: the empty mask on the empty text takes as many as the product says.
pub none-spare : (k : ℕ) → k < budget [] [] → steps [] [] k start ≡ Break (matches [] []) → ⊥
unfolding steps
none-spare zero h e = let z : ◌≡◌ {A = ℕ} 0 1 = cc in omega arith
none-spare (suc k) h e = omega arith
