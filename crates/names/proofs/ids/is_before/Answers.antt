-- `is_before` meets its contract. The invariant: what stands from i on is smaller exactly if `less` says so. Assumes nothing.
use mathlib.Core.Path.{◌≡◌, sym, ap, ◌∙◌}
use mathlib.Core.Bool.{Bool, cond}
use Prim.Native.Nat.{ℕ, ◌+◌, ◌-◌}
use native.Mathlib.Omega.{arith}
use lib.ListN.{drop, get_or}
use lib.Dec.{eqb, ltb}
use borrow.Author.Rules.{rules}
use Rattle.octets.specs.Order.{compare, is_less}
use Rattle.names.specs.Names.{user_id_length}
use Rattle.names.proofs.Places.{less-at, less-past}
use Rattle.names.proofs.ids.is_before.Goals as goal

pub loop-i-init : goal.loop-i-init
loop-i-init c =
    sym (less-past c.args.a c.args.b user_id_length (search rules) (search rules))

pub loop-i-preserved : goal.loop-i-preserved
loop-i-preserved c =
    let l = c.loop-i in
    let a = c.args in
    let j : ℕ = l.i - 1 in
    let e : j + 1 ≡ l.i = omega arith in
    c.under-less.ensures
    ∙ ap (λ (t : Bool). cond (eqb (get_or a.a j 0) (get_or a.b j 0)) t (ltb (get_or a.a j 0) (get_or a.b j 0))) (l.invariant ∙ ap (λ (n : ℕ). is_less (compare (drop n a.a) (drop n a.b))) (sym e))
    ∙ sym (less-at a.a a.b j (search rules) (search rules))
