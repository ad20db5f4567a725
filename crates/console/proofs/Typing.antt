-- Laws of lines that are typed: how one is taken, and what the tests of one say of what it asks for. Assumes nothing.
use Prim.Native.Nat.{ℕ, ◌-◌, ◌≤◌}
use mathlib.Core.Path.{◌≡◌, refl, sym, ap, ◌∙◌}
use mathlib.Core.Bool.{Bool, true, false, cond, true≢false}
use mathlib.Core.List.{List}
use native.Mathlib.Omega.{arith}
use lib.ListN.{length, take, get_or, length-take}
use lib.Dec.{eqb}
use borrow.Author.Tests.{ne_eqb}
use Rattle.std.specs.declared.cmp.Ordering.{Ordering}
use Rattle.std.specs.declared.cmp.Ordering.TheVariants.{Less, Equal, Greater}
use Rattle.std.specs.Bool.{Decides}
use Rattle.std.specs.Cmp.Lexicographic.{pointwise}
use Rattle.std.proofs.lemmas.Bool.Decides.{Decides-eqb}
use Rattle.std.proofs.lemmas.Slice.Eq.{slice_eq-Decides}
use Rattle.octets.proofs.Ordered.{compare_refl, compare_same}
use Rattle.octets.specs.Bytes.{cr}
use Rattle.octets.specs.Order.{compare}
use Rattle.laws.specs.Lists.{is_nil}
use Rattle.laws.proofs.Lists.{nil-length}
use Rattle.console.specs.declared.requests.Request.TheVariants.{Help, Nothing}
use Rattle.console.specs.Lines.{ends_in_lf}
use Rattle.console.specs.Requests.{ended, request_in}
use Rattle.console.specs.Typing.{help_word, helped, typed_in}

-- ---- the end of a line
pub ended_in : (s : List ℕ) → length (ended s) ≤ length s
unfolding ended
ended_in s = go (ends_in_lf s) (eqb (get_or s (length s - 2) 0) cr)
  where
    go : (t u : Bool) → length (cond t (cond u (take (length s - 2) s) (take (length s - 1) s)) s) ≤ length s
    go true true = omega (arith, length-take (length s - 2) s)
    go true false = omega (arith, length-take (length s - 1) s)
    go false u = omega arith

-- ---- what is asked for
module _ (s t : List ℕ) (is : t ≡ ended s) where
  pub typed_nothing : length t ≡ 0 → Nothing ≡ typed_in s
  unfolding typed_in
  typed_nothing h = let none : is_nil (ended s) ≡ true = ap is_nil (sym is) ∙ nil-length t ∙ rw h in rw none

  typed-asks : (length t ≡ 0 → ⊥) → (o : Ordering) → compare t help_word ≡ o → helped o (request_in s) ≡ typed_in s
  unfolding typed_in
  typed-asks ne o e =
      let some : is_nil (ended s) ≡ false = ap is_nil (sym is) ∙ nil-length t ∙ ne_eqb (length t) 0 ne in
      let order : compare (ended s) help_word ≡ o = sym (ap (λ (l : List ℕ). compare l help_word) is) ∙ e in
      rw (some, order)

  module _ (ne : length t ≡ 0 → ⊥) (u : Bool) (test : u ≡ pointwise eqb t help_word) where
    helps : Decides u (t ≡ help_word)
    helps = slice_eq-Decides Decides-eqb t help_word u test

    pub typed-help : u ≡ true → Help ≡ typed_in s
    typed-help e = typed-asks ne Equal (rw (helps.0 e) (compare_refl help_word))

    pub typed-other : u ≡ false → request_in s ≡ typed_in s
    typed-other e = go (compare t help_word) refl
      where
        go : (o : Ordering) → compare t help_word ≡ o → request_in s ≡ typed_in s
        go Less f = typed-asks ne Less f
        go Equal f = absurd (true≢false (sym (helps.1 (compare_same t help_word f)) ∙ e))
        go Greater f = typed-asks ne Greater f
