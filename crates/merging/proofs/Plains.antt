-- Laws of the plain record of lines. At a time no later than its own it gives what its lines give, since at an earlier time none of them counts;
-- so merging plain records gives the plain record of all the lines, and order and repeats don't matter. Assumes nothing.
use Prim.Native.Nat.{ℕ, ◌≤◌, ◌<◌, min}
use mathlib.Core.Path.{◌≡◌, refl, sym, ap, ap₂, subst, ◌∙◌}
use mathlib.Core.Bool.{Bool, true, false, ◌||◌, cond, or-false}
use mathlib.Core.List.Memᴰ
use mathlib.Core.List.{List, [], ◌∷◌, ◌++◌, append_assoc, Memᴰ}
use native.Mathlib.Omega.{arith}
use lib.Bits.{bit_or}
use lib.ListN.{length, length-map}
use lib.Dec.{eqb}
use borrow.Author.Tests.{eqb-true, eqb-false}
use Rattle.laws.specs.Lists.{same}
use Rattle.laws.specs.Joins.{total}
use Rattle.laws.proofs.Joins.{Joining, Within, join-none, total-append, total-none, total-mem, total-same, joining-or, joining-bits}
use Rattle.ascending.proofs.Ascends.{Ascending, ascending-unite, unite-append, length-unite-left}
use Rattle.ascending.proofs.Contents.{has, has-unite, same_length, ascending-restated, has-restated, content-restated}
use Rattle.channel.specs.Settings.{no_settings}
use Rattle.channel.specs.Channel.{Channel, by_id}
use Rattle.channel.specs.Members.{status_in}
use Rattle.channel.specs.Standing.{settings_at, standing}
use Rattle.channel.proofs.Fields.{channel-path}
use Rattle.channel.proofs.Statuses.{keyed-by_id, stays-by_id, lawful-by_id, named, status-absent, status-unite, same-members}
use Rattle.channel.proofs.Standing.{settings-own, standing-own, settings-late, standing-late, status-bare, has-standing}
use Rattle.merging.specs.Settings.{join_settings}
use Rattle.merging.specs.Merging.{merge}
use Rattle.merging.specs.Plain.{earliest, entries, everyone, status_at, plain}
use Rattle.merging.proofs.Settings.{joining-settings}
use Rattle.merging.proofs.Proper.{ascending-merge}

-- ---- time
earliest-le : (l : Channel) (s : List Channel) (k : Channel) → Memᴰ k (l ∷ s) → earliest l s ≤ k.time
unfolding earliest
earliest-le l [] k (Memᴰ.head e) = omega (arith, ap (λ (c : Channel). c.time) e)
earliest-le l [] k (Memᴰ.tail m) = absurd (Memᴰ.not-nil m)
earliest-le l (j ∷ s) k (Memᴰ.head e) = omega (arith, ap (λ (c : Channel). c.time) e)
earliest-le l (j ∷ s) k (Memᴰ.tail m) = omega (arith, earliest-le j s k m)

earliest-greatest : (l : Channel) (s : List Channel) (time : ℕ) → ((k : Channel) → Memᴰ k (l ∷ s) → time ≤ k.time) → time ≤ earliest l s
unfolding earliest
earliest-greatest l [] time h = h l (Memᴰ.head refl)
earliest-greatest l (j ∷ s) time h = omega (arith, h l (Memᴰ.head refl), earliest-greatest j s time (λ k i. h k (Memᴰ.tail i)))

earliest-same : (l k : Channel) (s t : List Channel) → Within (l ∷ s) (k ∷ t) → Within (k ∷ t) (l ∷ s) → earliest l s ≡ earliest k t
earliest-same l k s t h i =
    omega (arith, earliest-greatest l s (earliest k t) (λ c m. earliest-le k t c (h c m)), earliest-greatest k t (earliest l s) (λ c m. earliest-le l s c (i c m)))

-- of two lists of lines, the smaller of their times
earliest-append : (l k : Channel) (s t : List Channel) → min (earliest l s) (earliest k t) ≡ earliest l (s ++ k ∷ t)
unfolding earliest
earliest-append l k [] t = refl
earliest-append l k (j ∷ s) t = omega (arith, earliest-append j k s t)

-- ---- everyone
has-entries : (x : List ℕ) (s : List Channel) → has by_id x (entries s) ≡ total ◌||◌ false (named x) s
unfolding entries
has-entries x [] = refl
has-entries x (c ∷ s) = total-append ◌||◌ false joining-or (λ m. same x m.id) c.members (entries s) ∙ ap (◌||◌ (named x c)) (has-entries x s)

-- every id that any line names, and no other
pub has-everyone : (x : List ℕ) (s : List Channel) → has by_id x (everyone s) ≡ total ◌||◌ false (named x) s
unfolding everyone
has-everyone x s = has-unite by_id stays-by_id x [] (entries s) ∙ has-entries x s

-- ascending, and so each once
pub ascending-everyone : (s : List Channel) → Ascending by_id (everyone s)
unfolding everyone
ascending-everyone s = ascending-unite by_id stays-by_id [] (entries s) tt

entries-append : (s t : List Channel) → entries (s ++ t) ≡ entries s ++ entries t
unfolding entries
entries-append [] t = refl
entries-append (c ∷ s) t = ap (◌++◌ c.members) (entries-append s t) ∙ sym (append_assoc c.members (entries s) (entries t))

-- more lines name no fewer
pub length-everyone : (s t : List Channel) → length (everyone s) ≤ length (everyone (s ++ t))
unfolding everyone
length-everyone s t = rw (entries-append s t, unite-append by_id [] (entries s) (entries t)) (length-unite-left by_id _ (entries t))

-- the same lines name as many
pub everyone-same : (s t : List Channel) → Within s t → Within t s → length (everyone s) ≡ length (everyone t)
everyone-same s t h i =
    same_length by_id (everyone s) (everyone t) (ascending-everyone s) (ascending-everyone t)
    (λ x. has-everyone x s ∙ total-same ◌||◌ false joining-or (named x) s t h i ∙ sym (has-everyone x t))

-- ---- the plain record's name and time
-- as the first line spells it
pub plain-name : (l : Channel) (s : List Channel) → (plain l s).name ≡ l.name
unfolding plain
plain-name l s = refl

-- the smallest time of its lines
pub plain-time : (l : Channel) (s : List Channel) → (plain l s).time ≡ earliest l s
unfolding plain
plain-time l s = refl

-- ---- its members
-- they ascend
pub ascending-plain : (l : Channel) (s : List Channel) → Ascending by_id (plain l s).members
unfolding plain
ascending-plain l s = ascending-restated by_id keyed-by_id (status_at (earliest l s) (l ∷ s)) (everyone (l ∷ s)) (ascending-everyone (l ∷ s))

-- every user id that any line names
pub plain-has : (x : List ℕ) (l : Channel) (s : List Channel) → named x (plain l s) ≡ total ◌||◌ false (named x) (l ∷ s)
unfolding plain
plain-has x l s = has-restated by_id keyed-by_id x (status_at (earliest l s) (l ∷ s)) (everyone (l ∷ s)) ∙ has-everyone x (l ∷ s)

-- where no line names an id, none gives it a status
part-false : {X : Type 0} (g : X → Bool) {x : X} {s : List X} → total ◌||◌ false g s ≡ false → Memᴰ x s → g x ≡ false
part-false g {x} h m = sym (or-false (g x)) ∙ (rw h at (total-mem ◌||◌ false joining-or g m))

unnamed : (x : List ℕ) (time : ℕ) (s : List Channel) → total ◌||◌ false (named x) s ≡ false → status_at time s x ≡ 0
unfolding status_at
unnamed x time s h =
    total-none bit_or 0 joining-bits (λ c. status_in x (standing time c)) s (λ c i. status-absent x (standing time c) (has-standing time c x ∙ part-false (named x) h i))

-- voice if a counting line gives that id voice, operator if one gives it operator
pub plain-status : (x : List ℕ) (l : Channel) (s : List Channel) → status_in x (plain l s).members ≡ status_at (earliest l s) (l ∷ s) x
unfolding plain status_in
plain-status x l s =
    content-restated by_id 0 lawful-by_id x (status_at (earliest l s) (l ∷ s)) (everyone (l ∷ s)) ∙ rw (has-everyone x (l ∷ s)) (go (total ◌||◌ false (named x) (l ∷ s)) refl)
  where
    go : (t : Bool) → total ◌||◌ false (named x) (l ∷ s) ≡ t → cond t (status_at (earliest l s) (l ∷ s) x) 0 ≡ status_at (earliest l s) (l ∷ s) x
    go true e = refl
    go false e = sym (unnamed x (earliest l s) (l ∷ s) e)

-- as many as the lines name
pub length-plain : (l : Channel) (s : List Channel) → length (plain l s).members ≡ length (everyone (l ∷ s))
unfolding plain
length-plain l s = length-map (everyone (l ∷ s)) _

-- ---- what the lines give at a time: a part g of a record
module _ {A : Type 0} (join : A → A → A) (none : A) (J : Joining join none) (g : ℕ → Channel → A) where
  -- the same lines give the same
  alike : (l k : Channel) (s t : List Channel) → Within (l ∷ s) (k ∷ t) → Within (k ∷ t) (l ∷ s) → total join none (g (earliest l s)) (l ∷ s) ≡ total join none (g (earliest k t)) (k ∷ t)
  alike l k s t h i = total-same join none J (g (earliest l s)) (l ∷ s) (k ∷ t) h i ∙ ap (λ (n : ℕ). total join none (g n) (k ∷ t)) (earliest-same l k s t h i)

  -- where a record gives nothing at a time before its own, and a plain record at its own time what its lines give
  module _ (late : (time : ℕ) (c : Channel) → time < c.time → g time c ≡ none)
      (made : (l : Channel) (s : List Channel) → g (earliest l s) (plain l s) ≡ total join none (g (earliest l s)) (l ∷ s)) where
    -- it gives what they give at any time no later
    share : (l : Channel) (s : List Channel) (time : ℕ) → time ≤ earliest l s → g time (plain l s) ≡ total join none (g time) (l ∷ s)
    share l s time h = go (eqb time (earliest l s)) refl
      where
        go : (b : Bool) → eqb time (earliest l s) ≡ b → g time (plain l s) ≡ total join none (g time) (l ∷ s)
        go true e = subst (λ (n : ℕ). g n (plain l s) ≡ total join none (g n) (l ∷ s)) (sym (eqb-true time (earliest l s) e)) (made l s)
        go false e =
            let k : time < earliest l s = omega (arith, eqb-false time (earliest l s) e) in
            late time (plain l s) (omega (arith, plain-time l s)) ∙ sym (total-none join none J (g time) (l ∷ s) (λ c i. late time c (omega (arith, earliest-le l s c i))))

    -- so two of them give together what all the lines give
    both : (l k : Channel) (s t : List Channel)
        → join (g (min (earliest l s) (earliest k t)) (plain l s)) (g (min (earliest l s) (earliest k t)) (plain k t)) ≡ total join none (g (earliest l (s ++ k ∷ t))) (l ∷ (s ++ k ∷ t))
    both l k s t =
        ap₂ join (share l s (min (earliest l s) (earliest k t)) (omega arith)) (share k t (min (earliest l s) (earliest k t)) (omega arith))
        ∙ sym (total-append join none J (g _) (l ∷ s) (k ∷ t))
        ∙ ap (λ (n : ℕ). total join none (g n) (l ∷ (s ++ k ∷ t))) (earliest-append l k s t)

-- ---- the laws
-- merging two plain records gives the plain record of all the lines, the first's first
pub merge-plain : (l k : Channel) (s t : List Channel) → merge (plain l s) (plain k t) ≡ plain l (s ++ k ∷ t)
unfolding merge plain status_at
merge-plain l k s t =
    channel-path refl (earliest-append l k s t)
    (both join_settings no_settings joining-settings settings_at settings-late (λ j u. settings-own (plain j u)) l k s t)
    (same-members _ _ (ascending-merge (plain l s) (plain k t) (ascending-plain l s)) (ascending-plain l (s ++ k ∷ t))
    (λ x. has-unite by_id stays-by_id x _ _ ∙ ap₂ ◌||◌ (has-standing _ (plain l s) x ∙ plain-has x l s) (has-standing _ (plain k t) x ∙ plain-has x k t)
    ∙ sym (total-append ◌||◌ false joining-or (named x) (l ∷ s) (k ∷ t)) ∙ sym (plain-has x l (s ++ k ∷ t)))
    (λ x. status-unite x _ _
    ∙ both bit_or 0 joining-bits (λ time c. status_in x (standing time c)) (λ time c h. ap (status_in x) (standing-late time c h) ∙ status-bare x c.members)
    (λ j u. ap (status_in x) (standing-own (plain j u)) ∙ plain-status x j u) l k s t
    ∙ sym (plain-status x l (s ++ k ∷ t))))

-- the plain record of one line is the line's record
pub plain-single : (l : Channel) → Ascending by_id l.members → plain l [] ≡ l
unfolding plain earliest status_at
plain-single l h =
    channel-path refl refl (join-none join_settings no_settings joining-settings _ ∙ settings-own l)
    (same-members _ _ (ascending-plain l []) h
    (λ x. plain-has x l [] ∙ or-false (named x l))
    (λ x. plain-status x l [] ∙ join-none bit_or 0 joining-bits _ ∙ ap (status_in x) (standing-own l)))

-- the same channel under another spelling of its name
unfoldable pub spelled : List ℕ → Channel → Channel
spelled name c = record { name = name; time = c.time; settings = c.settings; members = c.members }

-- the plain record depends only on which lines there are, order and repeats apart, but for the spelling
pub plain-same : (l k : Channel) (s t : List Channel) → Within (l ∷ s) (k ∷ t) → Within (k ∷ t) (l ∷ s) → plain l s ≡ spelled l.name (plain k t)
unfolding plain spelled status_at
plain-same l k s t h i =
    channel-path refl (earliest-same l k s t h i) (alike join_settings no_settings joining-settings settings_at l k s t h i)
    (same-members _ _ (ascending-plain l s) (ascending-plain k t)
    (λ x. plain-has x l s ∙ total-same ◌||◌ false joining-or (named x) (l ∷ s) (k ∷ t) h i ∙ sym (plain-has x k t))
    (λ x. plain-status x l s ∙ alike bit_or 0 joining-bits (λ time c. status_in x (standing time c)) l k s t h i ∙ sym (plain-status x k t)))
