-- A part of lent bytes, and bytes put into lent room.
use Rattle.std.specs.Prelude.{ℕ, suc, ◌+◌, ◌-◌, Bool, cond, List, ◌++◌, length, take, drop, leb}
use Rattle.std.specs.Borrow.{Bor}

-- the bytes from a place up to, not including, another; what lies past the end is left off
unfoldable pub part : List ℕ → ℕ → ℕ → List ℕ
part s start end = take (end - start) (drop start s)

-- where a part of a lent slice points that starts at k: k bytes past the slice's own start, in its memory block
abbrev pub place_in : Bor (List ℕ) → ℕ → ℕ × ℕ
place_in s k = (s.ref_ptr.0, k + s.ref_ptr.1)

-- there is room for p at a place
abbrev pub fits : List ℕ → ℕ → List ℕ → Bool
fits out at p = leb (at + length p) (length out)

-- p at its place and the rest unchanged; where there is no room, nothing is put
unfoldable pub put_at : List ℕ → ℕ → List ℕ → List ℕ
put_at out at p = cond (fits out at p) (take at out ++ p ++ drop (at + length p) out) out

-- where p ends; one past the room where there is none
unfoldable pub end_of : List ℕ → ℕ → List ℕ → ℕ
end_of out at p = cond (fits out at p) (at + length p) (suc (length out))

-- w at the front of the lent bytes, the rest unchanged
abbrev pub front : List ℕ → List ℕ → List ℕ
front w out = w ++ drop (length w) out
