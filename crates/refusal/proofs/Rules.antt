-- Laws of ordered rules: one passed over, one that decides, two lists one after the other, what is written, and that rules in the order of their numbers
-- give the first that applies. Most ask only that no number is `accepted`. Assumes nothing.
use Prim.Native.Nat.{ℕ, suc, ◌≤◌, ◌<◌}
use mathlib.Core.Path.{◌≡◌, refl, sym, ap, ◌∙◌}
use mathlib.Core.Bool.{Bool, true, false, true≢false, not, cond, ◌&&◌}
use mathlib.Core.Logic.{◌⊎◌, inl, inr}
use mathlib.Core.List.Memᴰ
use mathlib.Core.List.{List, [], ◌∷◌, ◌++◌, Memᴰ}
use native.Mathlib.Omega.{arith}
use lib.ListN.{length}
use lib.Dec.{eqb, leb, ltb}
use borrow.Author.Tests.{ne_eqb, eqb-true, eqb-false, leb-true, ltb-true}
use Rattle.refusal.specs.Numbers.{accepted, bad_command, too_many_params, unknown_command, bad_name, bad_modes, unknown_mode, bad_limit, bad_members, too_many_members, no_room, bad_masks, too_many_masks, mode_numbers, is_mode_number, order}
use Rattle.refusal.specs.Rules.{Rule, first_of, emitted, place_in, rank, ascend_from, ascend}

-- ---- one rule
-- one that doesn't apply is passed over
pub skip : (r : Rule) (rs : List Rule) → r.applies ≡ false → first_of (r ∷ rs) ≡ first_of rs
unfolding first_of
skip r rs e = rw e

-- one that applies decides
pub stop : (r : Rule) (rs : List Rule) → r.applies ≡ true → first_of (r ∷ rs) ≡ r.number
unfolding first_of
stop r rs e = rw e

-- ---- where none applies
-- no rules refuse nothing
pub first-nil : first_of [] ≡ accepted
unfolding first_of
first-nil = refl

pub first-none : (r : Rule) (rs : List Rule) → (r.number ≡ accepted → ⊥) → first_of (r ∷ rs) ≡ accepted → (r.applies ≡ false) × (first_of rs ≡ accepted)
first-none r rs ne e = go r.applies refl
  where
    go : (t : Bool) → r.applies ≡ t → (r.applies ≡ false) × (first_of rs ≡ accepted)
    go true h = absurd (ne (sym (stop r rs h) ∙ e))
    go false h = (h, sym (skip r rs h) ∙ e)

-- ---- a number that no rule has
abbrev pub lacks_number : ℕ → List Rule → Bool
lacks_number n [] = true
lacks_number n (r ∷ rs) = not (eqb r.number n) && lacks_number n rs

-- isn't given
pub first-lacks : (n : ℕ) (rs : List Rule) → (n ≡ accepted → ⊥) → lacks_number n rs ≡ true → eqb (first_of rs) n ≡ false
unfolding first_of
first-lacks n [] ne e = ne_eqb accepted n (λ h. ne (sym h))
first-lacks n (r ∷ rs) ne e = go r.applies refl (eqb r.number n) refl (first-lacks n rs ne)
  where
    go : (t : Bool) → r.applies ≡ t → (u : Bool) → eqb r.number n ≡ u → (lacks_number n rs ≡ true → eqb (first_of rs) n ≡ false) → eqb (first_of (r ∷ rs)) n ≡ false
    go t h true f ih = absurd (true≢false (sym e ∙ rw f))
    go true h false f ih = rw h f
    go false h false f ih = rw h (ih (rw f at e))

-- ---- rules that have no number of modes, and so no place
-- none of some rules does
abbrev pub plain_rules : List Rule → Bool
plain_rules [] = true
plain_rules (r ∷ rs) = not (is_mode_number r.number) && plain_rules rs

-- and so none is given
pub first_plain : (rs : List Rule) → plain_rules rs ≡ true → is_mode_number (first_of rs) ≡ false
unfolding first_of
first_plain [] e = refl
first_plain (r ∷ rs) e = go (is_mode_number r.number) refl r.applies refl (first_plain rs)
  where
    go : (t : Bool) → is_mode_number r.number ≡ t → (u : Bool) → r.applies ≡ u → (plain_rules rs ≡ true → is_mode_number (first_of rs) ≡ false) → is_mode_number (first_of (r ∷ rs)) ≡ false
    go true f u g ih = absurd (true≢false (sym e ∙ rw f))
    go false f true g ih = rw g f
    go false f false g ih = rw g (ih (rw f at e))

-- ---- two lists of rules, one after the other
-- no rule's number is `accepted`
abbrev pub numbered : List Rule → Bool
numbered rs = lacks_number accepted rs

-- the first rule's number, and those of the others
numbers : (r : Rule) (rs : List Rule) → numbered (r ∷ rs) ≡ true → (r.number ≡ accepted → ⊥) × (numbered rs ≡ true)
numbers r rs e = go (eqb r.number accepted) refl
  where
    go : (t : Bool) → eqb r.number accepted ≡ t → (r.number ≡ accepted → ⊥) × (numbered rs ≡ true)
    go true h = absurd (true≢false (sym e ∙ rw h))
    go false h = (eqb-false r.number accepted h, rw h at e)

module _ (ys : List Rule) where
  -- a number of the first list decides
  pub append-some : (xs : List Rule) → (first_of xs ≡ accepted → ⊥) → first_of (xs ++ ys) ≡ first_of xs
  unfolding first_of
  append-some [] ne = absurd (ne refl)
  append-some (x ∷ xs) ne = go x.applies refl (append-some xs)
    where
      go : (t : Bool) → x.applies ≡ t → ((first_of xs ≡ accepted → ⊥) → first_of (xs ++ ys) ≡ first_of xs) → first_of (x ∷ xs ++ ys) ≡ first_of (x ∷ xs)
      go true e ih = rw e
      go false e ih = rw e (ih (λ f. ne (rw e f)))

  -- where none of the first list applies, the second decides
  pub append-none : (xs : List Rule) → numbered xs ≡ true → first_of xs ≡ accepted → first_of (xs ++ ys) ≡ first_of ys
  append-none [] a e = refl
  append-none (x ∷ xs) a e =
      let n = numbers x xs a in
      let q = first-none x xs n.0 e in
      skip x (xs ++ ys) q.0 ∙ append-none xs n.1 q.1

  -- where none of both applies, none of either does
  pub both-none : (xs : List Rule) → numbered xs ≡ true → first_of (xs ++ ys) ≡ accepted → (first_of xs ≡ accepted) × (first_of ys ≡ accepted)
  unfolding first_of
  both-none [] a e = (refl, e)
  both-none (x ∷ xs) a e =
      let n = numbers x xs a in
      let q = first-none x (xs ++ ys) n.0 e in
      let r = both-none xs n.1 q.1 in
      (skip x xs q.0 ∙ r.0, r.1)

-- where neither gives a number of modes, both together don't
pub append-plain : (xs ys : List Rule) → numbered xs ≡ true → is_mode_number (first_of xs) ≡ false → is_mode_number (first_of ys) ≡ false → is_mode_number (first_of (xs ++ ys)) ≡ false
append-plain xs ys a p q = go (eqb (first_of xs) accepted) refl
  where
    go : (t : Bool) → eqb (first_of xs) accepted ≡ t → is_mode_number (first_of (xs ++ ys)) ≡ false
    go true e = ap is_mode_number (append-none ys xs a (eqb-true (first_of xs) accepted e)) ∙ q
    go false e = ap is_mode_number (append-some ys xs (eqb-false (first_of xs) accepted e)) ∙ p

-- ---- what is written
pub emitted-none : (rules : List Rule) (w : List ℕ) (k : ℕ) → first_of rules ≡ k → (k ≡ accepted → ⊥) → emitted rules w ≡ []
unfolding emitted
emitted-none rules w k e ne = rw (e, ne_eqb k accepted ne)

pub emitted-all : (rules : List Rule) (w : List ℕ) → first_of rules ≡ accepted → emitted rules w ≡ w
unfolding emitted
emitted-all rules w e = rw e

-- ---- the order
-- each number is above the one before it, and all are above n
abbrev increasing : ℕ → List ℕ → Bool
increasing n [] = true
increasing n (m ∷ l) = ltb n m && increasing m l

-- the numbers of a list that document 01 has
abbrev first_paper : List ℕ → List ℕ
first_paper [] = []
first_paper (m ∷ l) = cond (leb m no_room) (m ∷ first_paper l) (first_paper l)

-- Of document 01's numbers the order is that of the numbers themselves: the first that applies is "the lowest".
order-increases : increasing accepted (first_paper order) ≡ true
order-increases = refl

-- 26 comes after 18, and 27 after 22 (document 02, §2).
order-bans : (rank bad_masks ≡ suc (rank bad_members)) × (rank too_many_masks ≡ suc (rank too_many_members))
unfolding place_in
order-bans = (refl, refl)

-- 32 to 36 stand in the place of 17, between 16 and 18, and 17 has none (document 02, §6).
order-modes : (rank unknown_mode ≡ suc (rank bad_name)) × (rank bad_members ≡ suc (rank bad_limit)) × (rank bad_modes ≡ length order)
unfolding place_in
order-modes = (refl, refl, refl)

-- 10 has no place either: 11 follows 9 (document 02, §7).
order-params : (rank unknown_command ≡ suc (rank bad_command)) × (rank too_many_params ≡ length order)
unfolding place_in
order-params = (refl, refl)

-- those of a list that are numbers of modes
abbrev of_modes : List ℕ → List ℕ
of_modes [] = []
of_modes (m ∷ l) = cond (is_mode_number m) (m ∷ of_modes l) (of_modes l)

-- and they are the numbers of modes
order-of-modes : of_modes order ≡ mode_numbers
order-of-modes = refl

-- ---- rules in the order of their numbers
-- what the check says of the first rule, and of the others
pub record Leads (k : ℕ) (r : Rule) (rs : List Rule) : Type 0 where
  pub behind : k ≤ rank r.number
  pub listed : rank r.number < length order
  pub others : ascend_from (suc (rank r.number)) rs ≡ true

leads : (k : ℕ) (r : Rule) (rs : List Rule) → ascend_from k (r ∷ rs) ≡ true → Leads k r rs
unfolding ascend_from
leads k r rs e = go (leb k (rank r.number)) refl (ltb (rank r.number) (length order)) refl
  where
    go : (t : Bool) → leb k (rank r.number) ≡ t → (u : Bool) → ltb (rank r.number) (length order) ≡ u → Leads k r rs
    go true h true l = record { behind = leb-true k (rank r.number) h; listed = ltb-true (rank r.number) (length order) l; others = rw (h, l) at e }
    go true h false l = absurd (true≢false (sym e ∙ rw (h, l)))
    go false h u l = absurd (true≢false (sym e ∙ rw h))

-- a number whose place is among them is one of them
placed : (l : List ℕ) (n : ℕ) → place_in l n < length l → Memᴰ n l
unfolding place_in
placed [] n h = absurd (omega arith)
placed (m ∷ l) n h = go (eqb m n) refl (placed l n)
  where
    go : (t : Bool) → eqb m n ≡ t → (place_in l n < length l → Memᴰ n l) → Memᴰ n (m ∷ l)
    go true e ih = Memᴰ.head (sym (eqb-true m n e))
    go false e ih = Memᴰ.tail (ih (let f : suc (place_in l n) < suc (length l) = rw e at h in omega arith))

-- every rule behind a place has a number behind it
rank-behind : (k : ℕ) (rs : List Rule) → ascend_from k rs ≡ true → (r : Rule) → Memᴰ r rs → k ≤ rank r.number
rank-behind k [] a r m = absurd (Memᴰ.not-nil m)
rank-behind k (x ∷ rs) a r m =
    let l = leads k x rs a in
    go l (Memᴰ.cases_cons m) (λ h. rank-behind (suc (rank x.number)) rs l.others r h)
  where
    go : Leads k x rs → (r ≡ x) ⊎ Memᴰ r rs → (Memᴰ r rs → suc (rank x.number) ≤ rank r.number) → k ≤ rank r.number
    go l (inl e) f = rw e l.behind
    go l (inr h) f = omega (arith, f h, l.behind)

-- The number n is that of a rule of the list that applies, and no rule that applies has one that comes before it in the order.
pub record Given (rs : List Rule) (n : ℕ) : Type 0 where
  pub rule : Rule
  pub among : Memᴰ rule rs
  pub applies : rule.applies ≡ true
  pub number : n ≡ rule.number
  pub first : (r : Rule) → Memᴰ r rs → r.applies ≡ true → rank n ≤ rank r.number

lowest-from : (k : ℕ) (rs : List Rule) → ascend_from k rs ≡ true → (r : Rule) → Memᴰ r rs → r.applies ≡ true → Given rs (first_of rs)
lowest-from k [] a r m t = absurd (Memᴰ.not-nil m)
lowest-from k (x ∷ rs) a r m t =
    let l = leads k x rs a in
    go l x.applies refl (Memᴰ.cases_cons m) (λ h. lowest-from (suc (rank x.number)) rs l.others r h t)
  where
    own : Leads k x rs → (s : Rule) → (s ≡ x) ⊎ Memᴰ s rs → rank x.number ≤ rank s.number
    own l s (inl e) = rw e (omega arith)
    own l s (inr h) = omega (arith, rank-behind (suc (rank x.number)) rs l.others s h)

    behind : x.applies ≡ false → (n : ℕ) → Given rs n → (s : Rule) → s.applies ≡ true → (s ≡ x) ⊎ Memᴰ s rs → rank n ≤ rank s.number
    behind f n g s u (inl e) = absurd (true≢false (sym u ∙ ap (λ (z : Rule). z.applies) e ∙ f))
    behind f n g s u (inr h) = g.first s h u

    go : Leads k x rs → (b : Bool) → x.applies ≡ b → (r ≡ x) ⊎ Memᴰ r rs → (Memᴰ r rs → Given rs (first_of rs)) → Given (x ∷ rs) (first_of (x ∷ rs))
    go l true e c f = rw (stop x rs e) (record { rule = x; among = Memᴰ.head refl; applies = e; number = refl; first = λ s h u. own l s (Memᴰ.cases_cons h) })
    go l false e (inl q) f = absurd (true≢false (sym t ∙ ap (λ (z : Rule). z.applies) q ∙ e))
    go l false e (inr h) f =
        let g = f h in
        rw (skip x rs e) (record { rule = g.rule; among = Memᴰ.tail g.among; applies = g.applies; number = g.number; first = λ s h u. behind e (first_of rs) g s u (Memᴰ.cases_cons h) })

-- Where the rules stand in the order of their numbers and one applies, the number given is the first in that order that applies.
pub lowest : (rs : List Rule) → ascend rs ≡ true → (r : Rule) → Memᴰ r rs → r.applies ≡ true → Given rs (first_of rs)
lowest rs = lowest-from 0 rs

-- Where none is given, none applies.
pub none-applies : (rs : List Rule) → numbered rs ≡ true → first_of rs ≡ accepted → (r : Rule) → Memᴰ r rs → r.applies ≡ false
none-applies [] a e r m = absurd (Memᴰ.not-nil m)
none-applies (x ∷ rs) a e r m =
    let n = numbers x rs a in
    let q = first-none x rs n.0 e in
    go q.0 (Memᴰ.cases_cons m) (λ h. none-applies rs n.1 q.1 r h)
  where
    go : x.applies ≡ false → (r ≡ x) ⊎ Memᴰ r rs → (Memᴰ r rs → r.applies ≡ false) → r.applies ≡ false
    go f (inl h) g = rw h f
    go f (inr h) g = g h

listed-from : (k : ℕ) (rs : List Rule) → ascend_from k rs ≡ true → (first_of rs ≡ accepted → ⊥) → Memᴰ (first_of rs) order
unfolding first_of
listed-from k [] a ne = absurd (ne refl)
listed-from k (x ∷ rs) a ne =
    let l = leads k x rs a in
    go l x.applies refl (listed-from (suc (rank x.number)) rs l.others)
  where
    go : Leads k x rs → (t : Bool) → x.applies ≡ t → ((first_of rs ≡ accepted → ⊥) → Memᴰ (first_of rs) order) → Memᴰ (first_of (x ∷ rs)) order
    go l true e ih = rw e (placed order x.number l.listed)
    go l false e ih = rw e (ih (λ f. ne (rw e f)))

-- A number that is given is from the fixed list.
pub first-listed : (rs : List Rule) → ascend rs ≡ true → (first_of rs ≡ accepted → ⊥) → Memᴰ (first_of rs) order
first-listed rs = listed-from 0 rs
