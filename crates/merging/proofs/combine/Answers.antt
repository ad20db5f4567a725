-- `combine` meets its contract: the members united tell whether there is room, and then the record is what the two sides give. Assumes nothing.
use mathlib.Core.Path.{◌≡◌, refl, ap, ap₂, subst, ◌∙◌}
use mathlib.Core.Bool.{Bool, true, false, cond}
use mathlib.Core.List.{List}
use Prim.Native.Nat.{ℕ}
use native.Mathlib.Omega.{arith}
use denote.Ref.{Bor}
use Rattle.std.specs.Prelude.{Option, Some, None}
use Rattle.std.proofs.lemmas.Result.{err_from_is_err_and}
use Rattle.refusal.specs.declared.Refusal.TheVariants.{TooManyMembers}
use Rattle.octets.specs.Order.{compare, is_less}
use Rattle.ascending.specs.Ascending.{one_pass}
use Rattle.channel.specs.declared.Member.{Member}
use Rattle.channel.specs.declared.Roster.{Roster}
use Rattle.channel.specs.Channel.{by_id}
use Rattle.merging.specs.Settings.{greater}
use Rattle.merging.specs.Private.Uniting.{Fills}
use Rattle.merging.proofs.Answers.{combined-over, combined-fits}
use Rattle.merging.proofs.combine.Goals as goal

-- the bytes of whichever of two keys it is
bytes_of : (t : Bool) (x y : Bor (List ℕ)) → (cond t x y).now ≡ cond t x.now y.now
bytes_of true x y = refl
bytes_of false x y = refl

chosen : (r x y : Bor (List ℕ)) → r ≡ cond (is_less (compare x.now y.now)) y x → r.now ≡ greater x.now y.now
unfolding greater
chosen r x y e = ap (λ x. x.now) e ∙ bytes_of (is_less (compare x.now y.now)) y x

moved : (r q : Option Roster) (l m : List Member) → r ≡ q → l ≡ m → Fills r l → Fills q m
moved r q l m e f h = subst (λ (x : Option Roster). Fills x m) e (subst (λ (k : List Member). Fills r k) f h)

pub returns-in_err-all : goal.returns-in_err-all
returns-in_err-all c =
    let p = err_from_is_err_and c.from_residual.result c.from_residual.ensures.1 in
    let none : c.united.result ≡ None = grind arith in
    let full : c.in_err-all.field-0.0 ≡ TooManyMembers = grind arith in
    let over = moved _ None _ _ none (ap₂ (one_pass by_id) c.at.ensures c.at-2.ensures) c.united.ensures in
    rw (p.1, p.2, full) (combined-over c.args.a c.args.b c.min-time.result c.min-time.ensures over)

pub returns : goal.returns
returns c =
    let some : c.united.result ≡ Some c.in_ok-all.all = grind arith in
    let fits = moved _ (Some c.in_ok-all.all) _ _ some (ap₂ (one_pass by_id) c.at.ensures c.at-2.ensures) c.united.ensures in
    rw (c.padded.ensures, c.padded-2.ensures)
    (combined-fits c.args.a c.args.b c.min-time.result c.min-time.ensures c.name-name.result.now c.at-x.result c.at-y.result c.greater_key-key.result.now c.max.result c.in_ok-all.all
    c.name-name.ensures c.at-x.ensures c.at-y.ensures (chosen _ _ _ c.greater_key-key.ensures) c.max.ensures fits.1 fits.0)
