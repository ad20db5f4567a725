-- The ban lists of two well-formed records, as the code merges them, are the list of the merged masks, and there is no room exactly where these are over 32:
-- at equal times by the laws of uniting, else since a list that stands is that of its own masks and has no more than 32. Assumes nothing.
use mathlib.Core.Path.{◌≡◌, refl, sym, ap, ◌∙◌}
use mathlib.Core.Bool.{Bool, true, false, cond}
use mathlib.Core.List.{List, []}
use Prim.Native.Nat.{ℕ}
use lib.ListN.{length}
use lib.Dec.{eqb, ltb}
use Rattle.ascending.specs.Ascending.{unite}
use Rattle.ascending.proofs.Ascends.{unite-nil-right}
use Rattle.ascending.proofs.Firsts.{unite-own}
use Rattle.channel.specs.Limits.{ban_limit}
use Rattle.bans.specs.declared.BanList.{BanList}
use Rattle.bans.specs.declared.WholeRecord.{WholeRecord}
use Rattle.bans.specs.Putting.{Added}
use Rattle.bans.specs.Masks.{by_spelling, masks}
use Rattle.bans.specs.WellFormed.{well_formed_list}
use Rattle.bans.specs.Slots.{list_with, empty_list}
use Rattle.bans.proofs.Slots.{empty-masks, empty-well}
use Rattle.bans.proofs.Uniting.{well-ascending, own-list, unite-full, unite-list, unite-idem}
use Rattle.merging.specs.Merging.{merged_masks}
use Rattle.merging.specs.Private.Answers.{merged_lists}

-- a list has no more masks than there is room for: united with itself it is accepted
few-masks : (b : BanList) → well_formed_list b.room ≡ true → ltb ban_limit (length (masks b.room)) ≡ false
few-masks b w =
    ap (λ (l : List (List ℕ)). ltb ban_limit (length l)) (sym (unite-own by_spelling (λ e d. refl) (masks b.room) (well-ascending b.room w)))
    ∙ sym (unite-full b b w w)
    ∙ (unite-idem b w).0

-- There is no room exactly if these masks are over 32; else the list is theirs.
pub record Lists (r : Added) (l : List (List ℕ)) : Type 0 where
  pub full : r.full ≡ ltb ban_limit (length l)
  pub list : r.full ≡ false → r.list ≡ list_with l

module _ (a b : WholeRecord) (w : well_formed_list a.bans.room ≡ true) (v : well_formed_list b.bans.room ≡ true) where
  -- their times
  abbrev x : ℕ
  x = a.«record».time

  abbrev y : ℕ
  y = b.«record».time

  -- the lists of two records are merged to that of the merged masks
  pub lists-merged : Lists (merged_lists x a.bans y b.bans) (merged_masks a b)
  unfolding merged_lists merged_masks
  lists-merged = go (eqb x y) refl (ltb x y) refl
    where
      go : (t : Bool) → eqb x y ≡ t → (u : Bool) → ltb x y ≡ u → Lists (merged_lists x a.bans y b.bans) (merged_masks a b)
      go true e u f = rw e (record { full = unite-full a.bans b.bans w v; list = unite-list a.bans b.bans w v })
      go false e true f = rw (e, f) (record { full = sym (few-masks a.bans w); list = λ q. sym (own-list a.bans w) })
      go false e false f = rw (e, f) (record { full = sym (few-masks b.bans v); list = λ q. sym (own-list b.bans v) })

-- ---- records without masks
-- merged they have none
pub masks-none : (a b : WholeRecord) → masks a.bans.room ≡ [] → masks b.bans.room ≡ [] → merged_masks a b ≡ []
unfolding merged_masks
masks-none a b h k = go (eqb a.«record».time b.«record».time) (ltb a.«record».time b.«record».time)
  where
    go : (t u : Bool) → cond t (unite by_spelling (masks a.bans.room) (masks b.bans.room)) (masks (cond u a b).bans.room) ≡ []
    go true u = rw (h, k) (unite-nil-right by_spelling [])
    go false true = h
    go false false = k

-- the list of no masks
pub list-none : list_with [] ≡ empty_list
list-none = ap list_with (sym empty-masks) ∙ own-list empty_list empty-well
