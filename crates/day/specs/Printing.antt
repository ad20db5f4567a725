-- What is printed (document 02, §5): each used slot, in order, and "a refusal adds a line of number and place".
use Rattle.std.specs.Prelude.{ℕ, cond, List, [], ◌∷◌, ◌++◌, eqb}
use Rattle.refusal.specs.Numbers.{accepted}
use Rattle.octets.specs.Bytes.{space}
use Rattle.octets.specs.Decimals.{digits_of}
use Rattle.table.specs.Network.{Network}
use Rattle.listing.specs.Listing.{line_of, listing}

-- the number, one SPACE, and the place, in decimal; nothing where there is no number
unfoldable pub refusal_line : ℕ → ℕ → List ℕ
refusal_line number place = cond (eqb number accepted) [] (line_of (digits_of number ++ (space ∷ digits_of place)))

unfoldable pub day_text : Network → ℕ → ℕ → List ℕ
day_text n number place = listing n ++ refusal_line number place

-- the room for it
abbrev pub day_room : ℕ
day_room = 65674
