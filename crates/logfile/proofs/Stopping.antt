-- What the number of an answer tells, which is that of a fault or none. Assumes nothing.
use mathlib.Core.Path.{◌≡◌, refl, sym, ◌∙◌}
use mathlib.Core.Bool.{Bool, true, false, false≢true}
use Rattle.std.specs.Prelude.{Result, Ok, Err}
use Rattle.std.specs.Result.{is_err}
use Rattle.refusal.specs.Numbers.{accepted}
use Rattle.refusal.specs.Refusals.{fault_number}
use Rattle.refusal.specs.declared.Fault.{Fault}
use Rattle.refusal.proofs.Refusals.{not-accepted, number-given}

pub ruleset stopped = (not-accepted, number-given)

module _ {A : Type 0} (r : Result A Fault) (b : Bool) (told : b ≡ is_err r) where
  pub some-number : b ≡ true → fault_number r ≡ accepted → ⊥
  some-number e = go r (sym told ∙ e)
    where
      go : (r : Result A Fault) → is_err r ≡ true → fault_number r ≡ accepted → ⊥
      go (Ok x) f = absurd (false≢true f)
      go (Err f) g = number-given f.refusal

  pub no-number : b ≡ false → fault_number r ≡ accepted
  no-number e = go r (sym told ∙ e)
    where
      go : (r : Result A Fault) → is_err r ≡ false → fault_number r ≡ accepted
      go (Ok x) f = refl
      go (Err f) g = absurd (false≢true (sym g))
