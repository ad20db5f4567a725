-- Our taking and our merging meet demand 3: good lines merged in their order come to their plain record, which doesn't depend on their order or on repeats, and
-- merging two plain records gives that of all the lines. Assumes nothing.
use Prim.Native.Nat.{ℕ, ◌≤◌}
use mathlib.Core.Path.{◌≡◌, refl, sym, ap, ap₂, ◌∙◌}
use mathlib.Core.Bool.{Bool, true, false, cond}
use mathlib.Core.Logic.{◌⊎◌, inl, inr}
use mathlib.Core.List.Memᴰ
use mathlib.Core.List.{List, [], ◌∷◌, ◌++◌, map, map-append, Memᴰ}
use native.Mathlib.Omega.{arith}
use lib.ListN.{length, get_or, set}
use borrow.Author.Tests.{eqb-true}
use Rattle.refusal.specs.Numbers.{accepted}
use Rattle.laws.specs.Lists.{padded}
use Rattle.laws.proofs.Lists.{map-padded}
use Rattle.laws.proofs.Joins.{within-map}
use Rattle.names.specs.Fold.{fold, same_name}
use Rattle.names.specs.Names.{name_limit}
use Rattle.names.proofs.Folds.{folds-name, length-folds}
use Rattle.channel.specs.Limits.{member_limit}
use Rattle.channel.specs.Channel.{Channel}
use Rattle.channel.specs.Record.{encode, empty_record}
use Rattle.channel.proofs.Proper.{Proper}
use Rattle.bans.specs.declared.WholeRecord.{WholeRecord}
use Rattle.bans.specs.Slots.{empty_list}
use Rattle.bans.specs.Records.{whole}
use Rattle.bans.proofs.Slots.{lists-empty}
use Rattle.merging.specs.declared.Merged.{Merged}
use Rattle.merging.specs.Merging.{merge, merge_answer}
use Rattle.merging.specs.Plain.{everyone, plain}
use Rattle.merging.proofs.Plains.{length-everyone, everyone-same, plain-name, length-plain, merge-plain, spelled, plain-same}
use Rattle.merging.proofs.Merges.{folded, folded-plain}
use Rattle.merging.proofs.Answers.{answer-encoded}
use Rattle.table.specs.Network.{Table, Network, network_of, list_in}
use Rattle.convergence.specs.Demands.{Join, Empty, number_at, is_good, good_lines, table_after, channel_of, Kept, plain_record, plain_whole, holding, first_slot, Among, Alike, Demand3}
use Rattle.convergence.specs.Ours.{ours, our_merging}
use Rattle.convergence.proofs.Folding.{good, after, Sound, line-is, walked}

-- every channel of some lines is proper
abbrev Proper-all : List (List ℕ) → Type 0
Proper-all lines = (c : Channel) → Memᴰ c (map channel_of lines) → Proper c

good-proper : (start : Table) → Empty start → (js : List Join) → Proper-all (good_lines start js)
unfolding good_lines
good-proper start empty [] c i = absurd (Memᴰ.not-nil i)
good-proper start empty (j ∷ js) c i = go (is_good start j) refl (good-proper start empty js c) i
  where
    go : (b : Bool) → is_good start j ≡ b → (Memᴰ c (good start js) → Proper c) → Memᴰ c (map channel_of (cond b (j.arrival.line ∷ good_lines start js) (good_lines start js))) → Proper c
    go true e ih (Memᴰ.head p) = rw p (line-is start empty j (eqb-true (number_at start j) accepted e)).1
    go true e ih (Memᴰ.tail m) = ih m
    go false e ih m = ih m

-- ---- the plain record of proper lines
module _ (l : List ℕ) (s : List (List ℕ)) (p : Proper-all (l ∷ s)) where
  folds-plain : folded (channel_of l) (map channel_of s) ≡ plain (channel_of l) (map channel_of s)
  folds-plain = folded-plain (channel_of l) (map channel_of s) (λ c i. (p c i).ascending)

  plain-proper : (name : List ℕ) → Sound name (map channel_of (l ∷ s)) → Proper (plain (channel_of l) (map channel_of s))
  plain-proper name h = rw folds-plain at h.0

holds_plain : (start : Table) (lines : List (List ℕ)) → Proper-all lines → after start (map channel_of lines) ≡ holding start lines
unfolding holding plain_record
holds_plain start [] p = refl
holds_plain start (l ∷ s) p = rw (folds-plain l s p)

-- ---- the first slot
first-empty : (start : Table) → Empty start → list_in (network_of start) 0 ≡ empty_list
first-empty start empty = ap (λ (n : Network). list_in n 0) empty ∙ ap (λ (s : List ℕ). record { room = s }) (lists-empty 0 (omega arith))

-- where the plain record is held, the first slot has it
pub first_plain : (start : Table) (lines : List (List ℕ)) → Empty start → first_slot (holding start lines) ≡ plain_whole lines
unfolding holding plain_record
first_plain start [] empty = ap₂ whole (ap (λ (n : Network). get_or n.slots 0 empty_record) empty) (first-empty start empty)
first_plain start (l ∷ s) empty = ap₂ whole (ap (λ (n : Network). get_or (set n.slots 0 (encode (plain (channel_of l) (map channel_of s)))) 0 empty_record) empty) (first-empty start empty)

module _ (start : Table) (empty : Empty start) (js : List Join) (kept : Kept (good_lines start js)) where
  leaves : table_after ours start js ≡ holding start (good_lines start js)
  leaves = (walked start empty js kept).1 ∙ holds_plain start (good_lines start js) (good-proper start empty js)

  first-after : first_slot (table_after ours start js) ≡ plain_whole (good_lines start js)
  first-after = ap first_slot leaves ∙ first_plain start (good_lines start js) empty

-- ---- the same good lines
alike_refl : (w : WholeRecord) → Alike w w
alike_refl w = record { name = refl; name_len = refl; time = refl; modes = refl; key = refl; key_len = refl; limit = refl; members = refl; count = refl; bans = refl }

-- a channel under another spelling of its name
respelled : (name : List ℕ) (c : Channel) → map fold name ≡ map fold c.name → Alike (whole (encode (spelled name c)) empty_list) (whole (encode c) empty_list)
unfolding encode spelled
respelled name c e = record {
  name = map-padded fold 0 name_limit name ∙ ap (padded name_limit (fold 0)) e ∙ sym (map-padded fold 0 name_limit c.name);
  name_len = sym (length-folds name) ∙ ap (λ (n : List ℕ). length n) e ∙ length-folds c.name;
  time = refl;
  modes = refl;
  key = refl;
  key_len = refl;
  limit = refl;
  members = refl;
  count = refl;
  bans = refl;
}

same_alike : (s t : List (List ℕ)) → Kept s → Among s t → Among t s → Alike (plain_whole s) (plain_whole t)
unfolding plain_record
same_alike [] [] k h i = alike_refl (whole empty_record empty_list)
same_alike [] (l ∷ t) k h i = absurd (Memᴰ.not-nil (i l (Memᴰ.head refl)))
same_alike (l ∷ s) [] k h i = absurd (Memᴰ.not-nil (h l (Memᴰ.head refl)))
same_alike (l ∷ s) (j ∷ t) k h i =
    rw (plain-same (channel_of l) (channel_of j) (map channel_of s) (map channel_of t) (within-map channel_of (l ∷ s) (j ∷ t) h) (within-map channel_of (j ∷ t) (l ∷ s) i))
    (respelled (channel_of l).name (plain (channel_of j) (map channel_of t))
    (k.one l j (Memᴰ.head refl) (i j (Memᴰ.head refl)) ∙ ap (map fold) (sym (plain-name (channel_of j) (map channel_of t)))))

kept_same : (s t : List (List ℕ)) → Among s t → Among t s → Kept s → Kept t
kept_same s t h i k = record {
  one = λ a b x y. k.one a b (i a x) (i b y);
  few = omega (arith, everyone-same (map channel_of s) (map channel_of t) (within-map channel_of s t h) (within-map channel_of t s i), k.few);
}

-- ---- two lists merged
swapped : (s t : List (List ℕ)) → Among (s ++ t) (t ++ s)
swapped s t x m = go (Memᴰ.append_cases s m)
  where
    go : Memᴰ x s ⊎ Memᴰ x t → Memᴰ x (t ++ s)
    go (inl i) = Memᴰ.append_right t i
    go (inr i) = Memᴰ.append_left s i

kept-left : (s t : List (List ℕ)) → Kept (s ++ t) → Kept s
kept-left s t k = record {
  one = λ a b x y. k.one a b (Memᴰ.append_left t x) (Memᴰ.append_left t y);
  few = omega (arith, length-everyone (map channel_of s) (map channel_of t), ap (λ (l : List Channel). length (everyone l)) (map-append channel_of s t), k.few);
}

-- what merging the records of two lists of lines answers
merged : (m n : List ℕ) (s t : List (List ℕ)) → Proper-all s → Proper-all t → Sound m (map channel_of s) → Sound n (map channel_of t) → Kept (s ++ t) → (s ≡ [] → ⊥) → (t ≡ [] → ⊥)
    → merge_answer (plain_whole s) (plain_whole t) ≡ record { number = accepted; result = plain_whole (s ++ t) }
unfolding plain_record
merged m n [] t p q h i k e f = absurd (e refl)
merged m n (l ∷ s) [] p q h i k e f = absurd (f refl)
merged m n (l ∷ s) (j ∷ t) p q h i k e f =
    answer-encoded a b a-proper b-proper named few ∙ ap answered is
  where
    answered : Channel → Merged
    answered c = record { number = accepted; result = whole (encode c) empty_list }

    a : Channel
    a = plain (channel_of l) (map channel_of s)

    b : Channel
    b = plain (channel_of j) (map channel_of t)

    a-proper : Proper a
    a-proper = plain-proper l s p m h

    b-proper : Proper b
    b-proper = plain-proper j t q n i

    is : merge a b ≡ plain (channel_of l) (map channel_of (s ++ j ∷ t))
    is =
        merge-plain (channel_of l) (channel_of j) (map channel_of s) (map channel_of t)
        ∙ ap (plain (channel_of l)) (sym (map-append channel_of s (j ∷ t)))

    named : same_name a.name b.name ≡ true
    named =
        folds-name a.name b.name
        (rw (plain-name (channel_of l) (map channel_of s), plain-name (channel_of j) (map channel_of t))
        (k.one l j (Memᴰ.head refl) (Memᴰ.append_right (l ∷ s) (Memᴰ.head refl))))

    few : length (merge a b).members ≤ member_limit
    few = rw (is, length-plain (channel_of l) (map channel_of (s ++ j ∷ t))) k.few

-- Our taking and our merging meet demand 3.
pub demand3 : Demand3 ours our_merging
demand3 = record {
  verdicts = λ start js empty kept. (walked start empty js kept).0;
  leaves = λ start js empty kept. leaves start empty js kept;
  alike = λ start other js ks empty void kept h i.
      rw (first-after start empty js kept, first-after other void ks (kept_same (good_lines start js) (good_lines other ks) h i kept))
      (same_alike (good_lines start js) (good_lines other ks) kept h i);
  merges = λ start other js ks empty void some any kept.
      let s = good_lines start js in
      let t = good_lines other ks in
      let first : Kept s = kept-left s t kept in
      let second : Kept t = kept-left t s (kept_same (s ++ t) (t ++ s) (swapped s t) (swapped t s) kept) in
      rw (first-after start empty js first, first-after other void ks second)
      (merged _ _ s t (good-proper start empty js) (good-proper other void ks) (walked start empty js first).2 (walked other void ks second).2 kept some any);
}
