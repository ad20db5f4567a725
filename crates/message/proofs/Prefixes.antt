-- Laws of a prefix that passes a test. A missing prefix is the empty one, of which the test says no. Assumes nothing.
use Prim.Native.Nat.{ℕ}
use mathlib.Core.Path.{◌≡◌, refl, sym, ap, ◌∙◌}
use mathlib.Core.Bool.{Bool, true, false, true≢false}
use mathlib.Core.List.{List, []}
use mathlib.Core.Option.{Option, some, none, get_or}
use Rattle.message.specs.Content.{prefix_is}

module _ (test : List ℕ → Bool) where
  -- A prefix that passes is there, and its bytes pass.
  pub prefix-there : (p : Option (List ℕ)) → prefix_is test p ≡ true → (p ≡ some (get_or p [])) × (test (get_or p []) ≡ true)
  unfolding prefix_is
  prefix-there none h = absurd (true≢false (sym h))
  prefix-there (some p) h = (refl, h)

  module _ (no : test [] ≡ false) where
    prefix-is : (p : Option (List ℕ)) → test (get_or p []) ≡ prefix_is test p
    unfolding prefix_is
    prefix-is none = no
    prefix-is (some p) = refl

    -- What a test of the bytes said is what it says of the prefix.
    pub prefix-told : (p : Option (List ℕ)) (bytes : List ℕ) (r t : Bool) → bytes ≡ get_or p [] → r ≡ test bytes → r ≡ t → prefix_is test p ≡ t
    prefix-told p bytes r t e f g = sym (prefix-is p) ∙ ap test (sym e) ∙ sym f ∙ g
