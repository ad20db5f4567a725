-- Slots that are left to look at, the first one with those behind it. Assumes nothing.
use mathlib.Core.Path.{◌≡◌, refl, ap, ◌∙◌}
use mathlib.Core.Bool.{true, false, not, ◌&&◌}
use mathlib.Core.List.{List, [], ◌∷◌}
use Prim.Native.Nat.{◌-◌, ◌≤◌}
use native.Mathlib.Omega.{arith}
use lib.ListN.{length, take, drop, get_or}
use lib.Seq.{take_all}
use Rattle.std.specs.List.{list_any}
use Rattle.laws.specs.Lists.{all}
use Rattle.laws.proofs.Chains.{none_listed}
use Rattle.channel.specs.declared.Record.{Record}
use Rattle.table.specs.Table.{alike, distinct}
use Rattle.table.proofs.WellFormed.{free-alike, unlike}

-- no slot is like a free one
free-row : (r : Record) → r.count ≡ 0 → (l : List Record) → all (unlike r) l ≡ true
unfolding all
free-row r e [] = refl
free-row r e (s ∷ l) = rw (free-alike r s e) (free-row r e l)

-- those behind the first
abbrev pub others : List Record → List Record
others l = take (length l - 1) (drop 1 l)

-- no two are alike exactly if the first is like none behind it, and no two of those are
row : (l : List Record) (d : Record) → 1 ≤ length l → distinct l ≡ all (unlike (get_or l 0 d)) (others l) && distinct (others l)
unfolding distinct
row [] d h = absurd (omega arith)
row (r ∷ l) d h = rw (take_all (length (r ∷ l) - 1) l (omega arith))

module _ (l : List Record) (d : Record) (h : 1 ≤ length l) where
  -- one behind the first is like it
  pub row-alike : list_any (alike (get_or l 0 d)) (others l) ≡ true → distinct l ≡ false
  row-alike e = row l d h ∙ rw (none_listed (alike (get_or l 0 d)) (others l) ∙ ap not e)

  -- none is
  pub row-unlike : list_any (alike (get_or l 0 d)) (others l) ≡ false → distinct l ≡ distinct (others l)
  row-unlike e = row l d h ∙ rw (none_listed (alike (get_or l 0 d)) (others l) ∙ ap not e)

  -- a free one is like none
  pub row-free : (get_or l 0 d).count ≡ 0 → distinct l ≡ distinct (others l)
  row-free e = row l d h ∙ rw (free-row (get_or l 0 d) e (others l))

-- where none is left, no two are alike
pub row-none : (l : List Record) → length l ≤ 0 → distinct l ≡ true
unfolding distinct
row-none [] h = refl
row-none (r ∷ l) h = absurd (omega arith)
