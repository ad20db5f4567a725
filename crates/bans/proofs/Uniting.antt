-- Well-formed lists united: refused exactly if more masks than there is room for would result, in either order alike; else well formed, with the masks of
-- both, the first one's spelling kept, and the same folds in either order. Assumes nothing.
use mathlib.Core.Path.{◌≡◌, refl, sym, ap, ◌∙◌}
use mathlib.Core.Bool.{Bool, true, false, true≢false}
use mathlib.Core.List.{List, [], ◌∷◌, map}
use Prim.Native.Nat.{ℕ, ◌<◌}
use native.Mathlib.Omega.{arith}
use lib.ListN.{length}
use lib.Dec.{ltb}
use borrow.Author.Tests.{lt-ltb, le-ltb, ltb-true}
use Rattle.laws.specs.Lists.{all}
use Rattle.laws.proofs.Lists.{all_head, all_tail, all-imp-map}
use Rattle.ascending.specs.Ascending.{put, unite}
use Rattle.ascending.proofs.Ascends.{Stays, Ascending, ascends-says, ascending-made, length-unite-left, unite-nil-right, unite-next}
use Rattle.ascending.proofs.Contents.{unite-keys, unite-length}
use Rattle.ascending.proofs.Firsts.{unite-own, unite-assoc}
use Rattle.channel.specs.Limits.{ban_limit}
use Rattle.bans.specs.declared.BanList.{BanList}
use Rattle.bans.specs.Masks.{is_mask, mask_in, by_fold, by_spelling, used_rooms, masks, encode_list}
use Rattle.bans.specs.WellFormed.{good_room, well_formed_list}
use Rattle.bans.specs.Putting.{put_answer, put_all, add_answer, unite_answer}
use Rattle.bans.specs.Slots.{list_with}
use Rattle.bans.proofs.Places.{count_room, length-masks}
use Rattle.bans.proofs.Encoding.{encode-masks}
use Rattle.bans.proofs.Keeping.{good-mask, well-good, well-order, put_full, put_keeps}

-- ---- the masks of a well-formed list
-- of two with one fold the one that was there is kept, and with it the fold
stays-masks : Stays by_spelling
stays-masks = record { stays = λ e d h. refl }

module _ (s : List ℕ) (w : well_formed_list s ≡ true) where
  -- each is a mask
  pub well-masks : all is_mask (masks s) ≡ true
  unfolding masks
  well-masks = all-imp-map good_room is_mask mask_in good-mask (used_rooms s) (well-good s w)

  -- and their folds ascend
  pub well-ascending : Ascending by_spelling (masks s)
  unfolding masks
  well-ascending = ascending-made by_fold by_spelling mask_in (λ e. refl) (used_rooms s) (ascends-says by_fold (used_rooms s) (well-order s w))

-- a list is that of its masks
pub own-list : (b : BanList) → well_formed_list b.room ≡ true → list_with (masks b.room) ≡ b
own-list b w = ap (λ (s : List ℕ). record { room = s }) (encode-masks b.room w)

-- ---- masks put one after the other
-- the list is well formed, and these are its masks
abbrev pub Made : BanList → List (List ℕ) → Type 0
Made b l = (well_formed_list b.room ≡ true) × (masks b.room ≡ l)

-- they are refused exactly if over 32 would result
pub all-full : (l : List (List ℕ)) (b : BanList) → well_formed_list b.room ≡ true → all is_mask l ≡ true
    → (put_all l b).full ≡ ltb ban_limit (length (unite by_spelling (masks b.room) l))
unfolding put_all
all-full [] b w h =
    sym (ap (λ (x : List (List ℕ)). ltb ban_limit (length x)) (unite-nil-right by_spelling (masks b.room))
    ∙ le-ltb ban_limit (length (masks b.room)) (omega (arith, length-masks b.room, count_room b.room)))
all-full (m ∷ l) b w h =
    go (put_answer m b).full refl (all-full l (put_answer m b).list) ∙ ap (λ (x : List (List ℕ)). ltb ban_limit (length x)) (sym (unite-next by_spelling m (masks b.room) l))
  where
    go : (f : Bool) → (put_answer m b).full ≡ f
        → (well_formed_list (put_answer m b).list.room ≡ true → all is_mask l ≡ true → (put_all l (put_answer m b).list).full ≡ ltb ban_limit (length (unite by_spelling (masks (put_answer m b).list.room) l)))
        → (put_all (m ∷ l) b).full ≡ ltb ban_limit (length (unite by_spelling (put by_spelling m (masks b.room)) l))
    go true e ih =
        let over : ban_limit < length (put by_spelling m (masks b.room)) = ltb-true ban_limit _ (sym (put_full m b w (all_head is_mask m l h)) ∙ e) in
        rw e (sym (lt-ltb ban_limit (length (unite by_spelling (put by_spelling m (masks b.room)) l)) (omega (arith, over, length-unite-left by_spelling (put by_spelling m (masks b.room)) l))))
    go false e ih =
        let k = put_keeps m b w (all_head is_mask m l h) e in
        rw e (ih k.0 (all_tail is_mask m l h) ∙ ap (λ (x : List (List ℕ)). ltb ban_limit (length (unite by_spelling x l))) k.1)

-- else the list is well formed, and has them in their places
pub all-keeps : (l : List (List ℕ)) (b : BanList) → well_formed_list b.room ≡ true → all is_mask l ≡ true → (put_all l b).full ≡ false
    → Made (put_all l b).list (unite by_spelling (masks b.room) l)
unfolding put_all
all-keeps [] b w h f = (w, sym (unite-nil-right by_spelling (masks b.room)))
all-keeps (m ∷ l) b w h f =
    let k = go (put_answer m b).full refl f (all-keeps l (put_answer m b).list) in
    (k.0, k.1 ∙ sym (unite-next by_spelling m (masks b.room) l))
  where
    go : (t : Bool) → (put_answer m b).full ≡ t → (put_all (m ∷ l) b).full ≡ false
        → (well_formed_list (put_answer m b).list.room ≡ true → all is_mask l ≡ true → (put_all l (put_answer m b).list).full ≡ false → Made (put_all l (put_answer m b).list).list (unite by_spelling (masks (put_answer m b).list.room) l))
        → Made (put_all (m ∷ l) b).list (unite by_spelling (put by_spelling m (masks b.room)) l)
    go true e f ih = absurd (true≢false (rw e at f))
    go false e f ih =
        let k = put_keeps m b w (all_head is_mask m l h) e in
        let r = ih k.0 (all_tail is_mask m l h) (rw e at f) in
        rw e (r.0, r.1 ∙ ap (λ (x : List (List ℕ)). unite by_spelling x l) k.1)

-- ---- all of some masks added
module _ (l : List (List ℕ)) (b : BanList) (w : well_formed_list b.room ≡ true) (h : all is_mask l ≡ true) where
  same_full : (add_answer l b).full ≡ (put_all l b).full
  unfolding add_answer
  same_full = go (put_all l b).full refl
    where
      go : (t : Bool) → (put_all l b).full ≡ t → (add_answer l b).full ≡ (put_all l b).full
      go true e = rw e
      go false e = rw e

  -- they are refused exactly if over 32 would result
  pub add-full : (add_answer l b).full ≡ ltb ban_limit (length (unite by_spelling (masks b.room) l))
  add-full = same_full ∙ all-full l b w h

  -- else the list is well formed, and has them in their places
  pub add-keeps : (add_answer l b).full ≡ false → Made (add_answer l b).list (unite by_spelling (masks b.room) l)
  unfolding add_answer
  add-keeps f =
      let e : (put_all l b).full ≡ false = sym same_full ∙ f in
      rw e (all-keeps l b w h e)

  -- so it is the list of them all
  pub add-list : (add_answer l b).full ≡ false → (add_answer l b).list ≡ list_with (unite by_spelling (masks b.room) l)
  add-list f = let k = add-keeps f in sym (own-list (add_answer l b).list k.0) ∙ ap list_with k.1

-- ---- two lists united
module _ (a b : BanList) (w : well_formed_list a.room ≡ true) (v : well_formed_list b.room ≡ true) where
  -- a union is refused exactly if over 32 would result
  pub unite-full : (unite_answer a b).full ≡ ltb ban_limit (length (unite by_spelling (masks a.room) (masks b.room)))
  unite-full = add-full (masks b.room) a w (well-masks b.room v)

  -- else the list is well formed, and has the masks of both, the first one's spelling kept
  pub unite-keeps : (unite_answer a b).full ≡ false → Made (unite_answer a b).list (unite by_spelling (masks a.room) (masks b.room))
  unite-keeps = add-keeps (masks b.room) a w (well-masks b.room v)

  -- so it is the list of the masks of both
  pub unite-list : (unite_answer a b).full ≡ false → (unite_answer a b).list ≡ list_with (unite by_spelling (masks a.room) (masks b.room))
  unite-list = add-list (masks b.room) a w (well-masks b.room v)

-- ---- in either order
module _ (a b : BanList) (w : well_formed_list a.room ≡ true) (v : well_formed_list b.room ≡ true) where
  -- it is refused in the one order exactly if it is in the other
  pub unite-number : (unite_answer a b).full ≡ (unite_answer b a).full
  unite-number =
      unite-full a b w v
      ∙ ap (ltb ban_limit) (unite-length by_spelling stays-masks (masks a.room) (masks b.room) (well-ascending a.room w) (well-ascending b.room v))
      ∙ sym (unite-full b a v w)

  -- and has the same folds in either
  pub unite-folds : (unite_answer a b).full ≡ false → map by_spelling.key (masks (unite_answer a b).list.room) ≡ map by_spelling.key (masks (unite_answer b a).list.room)
  unite-folds f =
      ap (map by_spelling.key) (unite-keeps a b w v f).1
      ∙ unite-keys by_spelling stays-masks (masks a.room) (masks b.room) (well-ascending a.room w) (well-ascending b.room v)
      ∙ ap (map by_spelling.key) (sym (unite-keeps b a v w (sym unite-number ∙ f)).1)

-- ---- with itself, and three of them: where all is accepted, it doesn't matter which two are united first
same-list : (a b : BanList) → well_formed_list a.room ≡ true → well_formed_list b.room ≡ true → masks a.room ≡ masks b.room → a.room ≡ b.room
same-list a b w v e = sym (encode-masks a.room w) ∙ ap encode_list e ∙ encode-masks b.room v

module _ (a : BanList) (w : well_formed_list a.room ≡ true) where
  own : unite by_spelling (masks a.room) (masks a.room) ≡ masks a.room
  own = unite-own by_spelling (λ e d. refl) (masks a.room) (well-ascending a.room w)

  -- a list united with itself is accepted, and stays as it is
  pub unite-idem : ((unite_answer a a).full ≡ false) × ((unite_answer a a).list.room ≡ a.room)
  unite-idem =
      let f : (unite_answer a a).full ≡ false =
      unite-full a a w w ∙ ap (λ (l : List (List ℕ)). ltb ban_limit (length l)) own ∙ le-ltb ban_limit (length (masks a.room)) (omega (arith, length-masks a.room, count_room a.room)) in
      let k = unite-keeps a a w w f in
      (f, same-list (unite_answer a a).list a k.0 w (k.1 ∙ own))

module _ (a b c : BanList) (w : well_formed_list a.room ≡ true) (v : well_formed_list b.room ≡ true) (u : well_formed_list c.room ≡ true)
    (ab : (unite_answer a b).full ≡ false) (bc : (unite_answer b c).full ≡ false) where
  first_two : Made (unite_answer a b).list (unite by_spelling (masks a.room) (masks b.room))
  first_two = unite-keeps a b w v ab

  last-two : Made (unite_answer b c).list (unite by_spelling (masks b.room) (masks c.room))
  last-two = unite-keeps b c v u bc

  -- where all is accepted, to the byte the same
  pub unite-three : (unite_answer (unite_answer a b).list c).full ≡ false → (unite_answer a (unite_answer b c).list).full ≡ false
      → (unite_answer (unite_answer a b).list c).list.room ≡ (unite_answer a (unite_answer b c).list).list.room
  unite-three f g =
      let l = unite-keeps (unite_answer a b).list c first_two.0 u f in
      let r = unite-keeps a (unite_answer b c).list w last-two.0 g in
      same-list (unite_answer (unite_answer a b).list c).list (unite_answer a (unite_answer b c).list).list l.0 r.0
      (l.1
      ∙ ap (λ (x : List (List ℕ)). unite by_spelling x (masks c.room)) first_two.1
      ∙ unite-assoc by_spelling (λ e d. refl) (masks c.room) (masks a.room) (masks b.room) (well-ascending a.room w) (well-ascending b.room v)
      ∙ ap (unite by_spelling (masks a.room)) (sym last-two.1)
      ∙ sym r.1)
