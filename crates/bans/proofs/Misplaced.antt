-- A list in which a mask stands before one that has to come first, or before one with the same fold, isn't well formed. True since of a list that ascends
-- any two places do. Assumes nothing.
use Prim.Native.Nat.{ℕ, ◌<◌}
use mathlib.Core.Path.{◌≡◌, ap, ◌∙◌}
use mathlib.Core.Bool.{true, false}
use mathlib.Core.List.{List, [], map}
use lib.ListN.{length, get_or}
use Rattle.laws.proofs.Bools.{refuted-by}
use Rattle.octets.specs.Order.{compare, is_less}
use Rattle.octets.proofs.Ordered.{compare_refl}
use Rattle.ascending.proofs.Ascends.{ascending-at}
use Rattle.names.specs.Fold.{fold}
use Rattle.bans.specs.declared.WholeRecord.{WholeRecord}
use Rattle.bans.specs.Masks.{by_spelling, comes_before, masks}
use Rattle.bans.specs.WellFormed.{well_formed_list}
use Rattle.bans.specs.Records.{well_formed_whole}
use Rattle.bans.proofs.Records.{whole_says}
use Rattle.bans.proofs.Uniting.{well-ascending}

-- of two masks with one fold neither comes before the other
pub one-fold : (m d : List ℕ) → map fold m ≡ map fold d → comes_before m d ≡ false
one-fold m d e = ap is_less (ap (λ (x : List ℕ). compare x (map fold d)) e ∙ compare_refl (map fold d))

-- the masks at places i and j of a list, the first of them at the lower place
module _ (s : List ℕ) (i j : ℕ) (h : i < j) (k : j < length (masks s)) where
  -- where the list is well formed, the first comes before the second
  places-ascend : well_formed_list s ≡ true → comes_before (get_or (masks s) i []) (get_or (masks s) j []) ≡ true
  places-ascend w = ap is_less (ascending-at by_spelling (masks s) i j [] (well-ascending s w) h k)

  -- so where it doesn't, the list isn't
  pub misplaced : comes_before (get_or (masks s) i []) (get_or (masks s) j []) ≡ false → well_formed_list s ≡ false
  misplaced = refuted-by (well_formed_list s) _ places-ascend

-- and neither is a record with such a list
pub list-decides : (w : WholeRecord) → well_formed_list w.bans.room ≡ false → well_formed_whole w ≡ false
list-decides w = refuted-by (well_formed_whole w) _ (λ h. (whole_says w h).1)
