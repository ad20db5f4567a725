-- What goes with the last member of a channel: a list that is left is good for the record that is left, and of all lists those go that are left empty. Assumes
-- nothing.
use Prim.Native.Nat.{ℕ, zero, suc, ◌+◌, ◌≤◌, ◌<◌}
use mathlib.Core.Path.{◌≡◌, refl, ap, ◌∙◌}
use mathlib.Core.Bool.{Bool, true, false, not, cond}
use mathlib.Core.List.{List, [], ◌∷◌, ◌++◌, map}
use native.Mathlib.Omega.{arith}
use native.Mathlib.Numerals.{add-one}
use lib.ListN.{length, take, get_or, length-map, length-take, get_or-map}
use lib.Seq.{take-suc, take_all}
use lib.Dec.{eqb}
use borrow.Author.Tests.{eq-eqb, ne_eqb, eqb-true, eqb-false}
use Rattle.channel.specs.declared.Record.{Record}
use Rattle.channel.specs.Limits.{slot_count}
use Rattle.channel.specs.Members.{without}
use Rattle.channel.specs.Record.{empty_record}
use Rattle.channel.proofs.Blank.{empty-free}
use Rattle.channel.proofs.Removals.{without-free}
use Rattle.bans.specs.Limits.{list_size}
use Rattle.bans.specs.WellFormed.{good_list}
use Rattle.bans.specs.Slots.{list_at, empty_list}
use Rattle.bans.proofs.Slots.{empty-whole, list-stored, list-other}
use Rattle.table.specs.Network.{Network, emptied_if}
use Rattle.table.specs.Table.{is_free, good_network}
use Rattle.table.specs.Private.Parts.{good_lists}
use Rattle.table.proofs.WellFormed.{slots-few, list-good, list-whole, at-lists, empty-either}
use Rattle.relay.specs.Leaving.{is_last, left_lists}

module _ (id : List ℕ) where
  -- a list that isn't emptied is good for the record that is left
  pub left-list : (r : Record) (s : List ℕ) → good_list (not (is_free r)) s ≡ true → is_last id r ≡ false → good_list (not (is_free (without id r))) s ≡ true
  unfolding is_last
  left-list r s g e = go (is_free r) refl
    where
      go : (t : Bool) → is_free r ≡ t → good_list (not (is_free (without id r))) s ≡ true
      go true f =
          let gone : is_free (without id r) ≡ true = ap is_free (without-free id r (eqb-true r.count 0 f)) ∙ eq-eqb empty_record.count 0 empty-free in
          rw gone (rw f at g)
      go false f = let stays : is_free (without id r) ≡ false = rw f at e in rw stays (rw f at g)

  -- ---- slot after slot
  left-snoc : (slots : List Record) (r : Record) (k : ℕ) (bans : List ℕ) → left_lists id k (slots ++ r ∷ []) bans ≡ emptied_if (is_last id r) (k + length slots) (left_lists id k slots bans)
  unfolding left_lists
  left-snoc [] r k bans = let e : k + 0 ≡ k = omega arith in rw e
  left-snoc (x ∷ xs) r k bans = let e : k + suc (length xs) ≡ suc k + length xs = omega arith in rw e (left-snoc xs r (suc k) (emptied_if (is_last id x) k bans))

  module _ (slots : List Record) (bans : List ℕ) where
    -- before the first slot nothing is emptied
    pub left-none : left_lists id 0 (take 0 slots) bans ≡ bans
    unfolding left_lists
    left-none = refl

    -- then the list of slot k is, if its last member goes
    pub left_step : (k : ℕ) (d : Record) → k < length slots → left_lists id 0 (take (k + 1) slots) bans ≡ emptied_if (is_last id (get_or slots k d)) k (left_lists id 0 (take k slots) bans)
    left_step k d h =
        let e : 0 + length (take k slots) ≡ k = omega (arith, length-take k slots) in
        rw (add-one k, take-suc slots k d h, left-snoc (take k slots) (get_or slots k d) 0 bans, e)

    -- and past the last slot that is all
    pub left-all : (k : ℕ) → length slots ≤ k → left_lists id 0 (take k slots) bans ≡ left_lists id 0 slots bans
    left-all k h = rw (take_all k slots h)

  -- a free slot has no last member
  pub free-last : (r : Record) → r.count ≡ 0 → is_last id r ≡ false
  unfolding is_last
  free-last r e = rw (eq-eqb r.count 0 e)

  -- a used one is left by it where it is then free
  pub used-last : (r : Record) → (r.count ≡ 0 → ⊥) → is_last id r ≡ is_free (without id r)
  unfolding is_last
  used-last r ne = rw (ne_eqb r.count 0 ne)

  -- ---- one list emptied or not, where the first m are there
  abbrev There : ℕ → List ℕ → Type 0
  There m bans = (i : ℕ) → i < m → length (list_at bans i) ≡ list_size

  module _ (bans : List ℕ) (m k : ℕ) (few : m ≤ slot_count) (there : There m bans) (h : k < m) where
    emptied-here : (b : Bool) → list_at (emptied_if b k bans) k ≡ cond b empty_list.room (list_at bans k)
    emptied-here true = list-stored bans k empty_list (there k h) empty-whole
    emptied-here false = refl

    emptied-other : (b : Bool) (i : ℕ) → i < m → (i ≡ k → ⊥) → list_at (emptied_if b k bans) i ≡ list_at bans i
    emptied-other true i g ne = list-other bans k empty_list (there k h) empty-whole i (omega arith) (omega arith) ne
    emptied-other false i g ne = refl

    emptied-there : (b : Bool) → There m (emptied_if b k bans)
    emptied-there b i g = go (eqb i k) refl b
      where
        go : (t : Bool) → eqb i k ≡ t → (b : Bool) → length (list_at (emptied_if b k bans) i) ≡ list_size
        go false e b = rw (emptied-other b i g (eqb-false i k e)) (there i g)
        go true e true = rw (eqb-true i k e, emptied-here true) empty-whole
        go true e false = there i g

  -- ---- all lists, from slot k on
  -- those before stay
  before : (slots : List Record) (k : ℕ) (bans : List ℕ) → k + length slots ≤ slot_count → There (k + length slots) bans → (i : ℕ) → i < k → list_at (left_lists id k slots bans) i ≡ list_at bans i
  unfolding left_lists
  before [] k bans few there i h = refl
  before (r ∷ rs) k bans few there i h =
      let n : suc k + length rs ≡ k + suc (length rs) = omega arith in
      let next : There (suc k + length rs) (emptied_if (is_last id r) k bans) = rw n (emptied-there bans (k + suc (length rs)) k few there (omega arith) (is_last id r)) in
      before rs (suc k) (emptied_if (is_last id r) k bans) (omega arith) next i (omega arith) ∙ emptied-other bans (k + suc (length rs)) k few there (omega arith) (is_last id r) i (omega arith) (λ e. omega arith)

  -- each goes with its last member
  left_at : (slots : List Record) (k : ℕ) (bans : List ℕ) → k + length slots ≤ slot_count → There (k + length slots) bans → (j : ℕ) → j < length slots
      → list_at (left_lists id k slots bans) (k + j) ≡ cond (is_last id (get_or slots j empty_record)) empty_list.room (list_at bans (k + j))
  unfolding left_lists
  left_at [] k bans few there j h = absurd (omega arith)
  left_at (r ∷ rs) k bans few there zero h =
      let n : suc k + length rs ≡ k + suc (length rs) = omega arith in
      let next : There (suc k + length rs) (emptied_if (is_last id r) k bans) = rw n (emptied-there bans (k + suc (length rs)) k few there (omega arith) (is_last id r)) in
      let e : k + 0 ≡ k = omega arith in
      rw e (before rs (suc k) (emptied_if (is_last id r) k bans) (omega arith) next k (omega arith) ∙ emptied-here bans (k + suc (length rs)) k few there (omega arith) (is_last id r))
  left_at (r ∷ rs) k bans few there (suc j) h =
      let n : suc k + length rs ≡ k + suc (length rs) = omega arith in
      let next : There (suc k + length rs) (emptied_if (is_last id r) k bans) = rw n (emptied-there bans (k + suc (length rs)) k few there (omega arith) (is_last id r)) in
      let e : k + suc j ≡ suc k + j = omega arith in
      rw e
      (left_at rs (suc k) (emptied_if (is_last id r) k bans) (omega arith) next j (omega arith)
      ∙ ap (cond (is_last id (get_or rs j empty_record)) empty_list.room) (emptied-other bans (k + suc (length rs)) k few there (omega arith) (is_last id r) (suc k + j) (omega arith) (λ f. omega arith)))

  -- Of a well-formed network the list of each slot is emptied where the user was its last member, and stays as it was where it wasn't.
  pub left-each : (n : Network) → good_network n ≡ true → (k : ℕ) → k < length n.slots
      → list_at (left_lists id 0 n.slots n.bans) k ≡ cond (is_last id (get_or n.slots k empty_record)) empty_list.room (list_at n.bans k)
  left-each n g k h =
      let e : 0 + k ≡ k = omega arith in
      rw e at (left_at n.slots 0 n.bans (omega (arith, slots-few n g)) (λ i q. list-whole n g i (omega arith)) k h)

  -- So the lists are good for the slots that the user leaves.
  pub left-lists : (n : Network) → good_network n ≡ true → good_lists 0 (map (without id) n.slots) (left_lists id 0 n.slots n.bans) ≡ true
  left-lists n g = at-lists (left_lists id 0 n.slots n.bans) (map (without id) n.slots) 0 (without id empty_record) (λ j h. each j (omega (arith, length-map n.slots (without id))))
    where
      each : (j : ℕ) → j < length n.slots → good_list (not (is_free (get_or (map (without id) n.slots) j (without id empty_record)))) (list_at (left_lists id 0 n.slots n.bans) (0 + j)) ≡ true
      each j h =
          let r = get_or n.slots j empty_record in
          let e : 0 + j ≡ j = omega arith in
          rw (get_or-map (without id) n.slots j empty_record, e, left-each n g j h) (go r (list-good n g j empty_record h) (is_last id r) refl)
        where
          go : (r : Record) → good_list (not (is_free r)) (list_at n.bans j) ≡ true → (t : Bool) → is_last id r ≡ t → good_list (not (is_free (without id r))) (cond t empty_list.room (list_at n.bans j)) ≡ true
          go r f true q = empty-either _
          go r f false q = left-list r (list_at n.bans j) f q
