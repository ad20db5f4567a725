-- The line of a refusal, `29 57`, and none where nothing is refused, by computation. Assumes nothing.
use mathlib.Core.Path.{◌≡◌, refl}
use mathlib.Core.List.{[], ◌∷◌}
use Rattle.octets.specs.Decimals.{digits_up_to, digits_of}
use Rattle.day.specs.Printing.{refusal_line}

lines : (refusal_line 29 57 ≡ 50 ∷ 57 ∷ 32 ∷ 53 ∷ 55 ∷ 10 ∷ []) × (refusal_line 0 0 ≡ [])
unfolding refusal_line digits_of digits_up_to
lines = (refl, refl)
