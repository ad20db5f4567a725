-- The table has words for each number that a caller may get, once, and for no other: so a number that is added there must get its own. Assumes nothing.
use mathlib.Core.Path.{◌≡◌, refl}
use mathlib.Core.List.{[], map}
use Rattle.refusal.specs.Numbers.{accepted, all_numbers}
use Rattle.wording.specs.Wording.{Entry, table, words_in, words_of}

whole : map (λ (e : Entry). e.number) table ≡ all_numbers
unfolding table
whole = refl

-- nothing refused, nothing said
none : words_of accepted ≡ []
unfolding table words_in
none = refl
