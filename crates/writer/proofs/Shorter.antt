-- When one message is written no longer than another, of fewer than fifteen parameters: part for part it takes up no more room, and its last parameter takes a ':' only where
-- the other's does. Assumes nothing.
use mathlib.Core.Path.{◌≡◌, refl, ◌∙◌}
use mathlib.Core.Bool.{Bool, true, false}
use mathlib.Core.List.{List, [], ◌∷◌, ◌++◌}
use Prim.Native.Nat.{ℕ, suc, ◌+◌, ◌≤◌, ◌<◌}
use native.Mathlib.Omega.{arith}
use lib.ListN.{length, length-append}
use Rattle.laws.specs.Lists.{is_nil}
use Rattle.message.specs.Grammar.{middle_limit, is_middle}
use Rattle.message.specs.Content.{Content}
use Rattle.message.proofs.Sizes.{room}
use Rattle.writer.specs.Form.{takes_colon, written_param, written_params, written_prefix, written_body, written}
use Rattle.writer.proofs.Parts.{stands, stands_other}
use Rattle.writer.proofs.Trips.{bare-written, middle-written, trailing-written}

-- ---- the parameters: a SPACE before each, and what the last one is written as
abbrev last : ℕ → List ℕ → ℕ
last k p = length (written_param k true p)

nil-snoc : {A : Type 0} (l : List A) (x : A) → is_nil (l ++ (x ∷ [])) ≡ false
nil-snoc [] x = refl
nil-snoc (y ∷ l) x = refl

params-length : (k i : ℕ) (ps : List (List ℕ)) (p : List ℕ) → i ≡ k + length ps → length (written_params k (ps ++ (p ∷ []))) ≡ room ps + suc (last i p)
unfolding written_params written_param takes_colon
params-length k i [] p is = let e : i ≡ k = omega arith in rw e (omega (arith, length-append (written_param k true p) []))
params-length k i (q ∷ ps) p is = rw (nil-snoc ps p) (omega (arith, length-append q (written_params (k + 1) (ps ++ (p ∷ []))), params-length (k + 1) i ps p (omega arith)))

-- ---- the last one
last-shorter : (i j : ℕ) (p q : List ℕ) → j < middle_limit → length p ≤ length q → (is_middle q ≡ true → is_middle p ≡ true) → last i p ≤ last j q
last-shorter i j p q few h f = go (stands i p) refl (is_middle q) refl
  where
    go : (t : Bool) → stands i p ≡ t → (u : Bool) → is_middle q ≡ u → last i p ≤ last j q
    go t e true g = rw (middle-written i true p (f g), middle-written j true q g) h
    go true e false g = rw (bare-written i true p e, trailing-written j q (stands_other j q (λ z. omega arith) ∙ g)) (omega arith)
    go false e false g = rw (trailing-written i p e, trailing-written j q (stands_other j q (λ z. omega arith) ∙ g)) (omega arith)

-- ---- the whole
written-length : (d : Content) → length (written d) ≡ length (written_prefix d.prefix) + length d.command + length (written_params 0 d.params) + 2
unfolding written written_body
written-length d = simp length-append

pub written-shorter : (d e : Content) (ps qs : List (List ℕ)) (p q : List ℕ) → d.params ≡ ps ++ (p ∷ []) → e.params ≡ qs ++ (q ∷ []) → d.prefix ≡ e.prefix
    → length d.command ≤ length e.command → length qs < middle_limit → room ps ≤ room qs → length p ≤ length q → (is_middle q ≡ true → is_middle p ≡ true)
    → length (written d) ≤ length (written e)
written-shorter d e ps qs p q f g same c few r h m =
    rw (written-length d, written-length e, f, g, same)
    (omega (arith, params-length 0 (length ps) ps p (omega arith), params-length 0 (length qs) qs q (omega arith), last-shorter (length ps) (length qs) p q few h m))
