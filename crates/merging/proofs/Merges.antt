-- Merging is associative, commutative but for the spelling, and idempotent, and records merged one after the other give the plain record of all.
-- A record whose members ascend is the plain record of itself alone, and merging plain records gives that of all their lines. Assumes nothing.
use Prim.Native.Nat.{ℕ, min}
use mathlib.Core.Path.{◌≡◌, refl, sym, ap, ap₂, ◌∙◌}
use mathlib.Core.Bool.{Bool, false, ◌||◌, or_assoc, or-false}
use mathlib.Core.List.{List, [], ◌∷◌, ◌++◌, append_assoc, append-nil, Memᴰ}
use native.Mathlib.Omega.{arith}
use lib.ListN.{length}
use Rattle.laws.specs.Joins.{total}
use Rattle.ascending.proofs.Ascends.{Ascending}
use Rattle.ascending.proofs.Contents.{has-unite, same_length, unite-comm, unite-self}
use Rattle.channel.specs.Channel.{Channel, by_id}
use Rattle.channel.specs.Standing.{settings_at, standing}
use Rattle.channel.proofs.Fields.{channel-path}
use Rattle.channel.proofs.Statuses.{stays-by_id, lawful-by_id, named}
use Rattle.channel.proofs.Standing.{settings-own, standing-own, has-standing, ascending-standing}
use Rattle.merging.specs.Merging.{merge}
use Rattle.merging.specs.Plain.{everyone, plain}
use Rattle.merging.proofs.Settings.{joining-settings}
use Rattle.merging.proofs.Proper.{ascending-merge}
use Rattle.merging.proofs.Plains.{has-everyone, ascending-everyone, merge-plain, plain-single, spelled}

-- A channel whose members ascend.
abbrev pub InOrder : Channel → Type 0
InOrder c = Ascending by_id c.members

-- ---- commutative but for the spelling, and idempotent
-- the other way round it is the same, but for the spelling
pub merge-comm : (a b : Channel) → InOrder a → InOrder b → merge a b ≡ spelled a.name (merge b a)
unfolding merge spelled
merge-comm a b h k =
    let m : ℕ = min b.time a.time in
    let e : min a.time b.time ≡ m = omega arith in
    rw e (channel-path refl refl
    (joining-settings.comm (settings_at m a) (settings_at m b))
    (unite-comm by_id 0 lawful-by_id (standing m a) (standing m b) (ascending-standing m a h) (ascending-standing m b k)))

-- a record merged with itself is the same
pub merge-self : (a : Channel) → InOrder a → merge a a ≡ a
unfolding merge
merge-self a h =
    let e : min a.time a.time ≡ a.time = omega arith in
    rw (e, settings-own a, standing-own a) (channel-path refl refl (joining-settings.idem a.settings) (unite-self by_id 0 lawful-by_id a.members h))

-- ---- one after the other
-- the records of s merged into l
unfoldable pub folded : Channel → List Channel → Channel
folded l [] = l
folded l (k ∷ s) = folded (merge l k) s

-- the first one's spelling
pub folded-name : (l : Channel) (s : List Channel) → (folded l s).name ≡ l.name
unfolding folded merge
folded-name l [] = refl
folded-name l (k ∷ s) = folded-name (merge l k) s

-- one record more
pub folded-snoc : (l k : Channel) (s : List Channel) → folded l (s ++ k ∷ []) ≡ merge (folded l s) k
unfolding folded
folded-snoc l k [] = refl
folded-snoc l k (j ∷ s) = folded-snoc (merge l j) k s

plain-snoc : (l k : Channel) (s : List Channel) → InOrder k → merge (plain l s) k ≡ plain l (s ++ k ∷ [])
plain-snoc l k s h = ap (merge (plain l s)) (sym (plain-single k h)) ∙ merge-plain l k s []

plain-folded : (l : Channel) (s t : List Channel) → ((k : Channel) → Memᴰ k t → InOrder k) → folded (plain l s) t ≡ plain l (s ++ t)
unfolding folded
plain-folded l s [] h = ap (plain l) (sym (append-nil s))
plain-folded l s (k ∷ t) h =
    let f : InOrder k = h k (Memᴰ.head refl) in
    ap (λ (c : Channel). folded c t) (plain-snoc l k s f)
    ∙ plain-folded l (s ++ k ∷ []) t (λ j i. h j (Memᴰ.tail i)) ∙ ap (plain l) (append_assoc s (k ∷ []) t)

-- records merged one after the other give the plain record
pub folded-plain : (l : Channel) (s : List Channel) → ((k : Channel) → Memᴰ k (l ∷ s) → InOrder k) → folded l s ≡ plain l s
folded-plain l s h =
    ap (λ (c : Channel). folded c s) (sym (plain-single l (h l (Memᴰ.head refl)))) ∙ plain-folded l [] s (λ k i. h k (Memᴰ.tail i))

-- ---- associative
merge-pair : (a b : Channel) → InOrder a → InOrder b → merge a b ≡ plain a (b ∷ [])
merge-pair a b p q = ap (λ (c : Channel). merge c b) (sym (plain-single a p)) ∙ plain-snoc a b [] q

-- three may be merged in either grouping
pub merge-assoc : (a b c : Channel) → InOrder a → InOrder b → InOrder c → merge (merge a b) c ≡ merge a (merge b c)
merge-assoc a b c p q r =
    ap (λ (d : Channel). merge d c) (merge-pair a b p q) ∙ plain-snoc a c (b ∷ []) r
    ∙ sym (ap₂ merge (sym (plain-single a p)) (merge-pair b c q r) ∙ merge-plain a b [] (c ∷ []))

-- ---- whatever the times
merge-has : (x : List ℕ) (a b : Channel) → named x (merge a b) ≡ (named x a || named x b)
unfolding merge
merge-has x a b = has-unite by_id stays-by_id x _ _ ∙ ap₂ ◌||◌ (has-standing _ a x) (has-standing _ b x)

ascending-folded : (l : Channel) (s : List Channel) → InOrder l → InOrder (folded l s)
unfolding folded
ascending-folded l [] h = h
ascending-folded l (k ∷ s) h = ascending-folded (merge l k) s (ascending-merge l k h)

-- the ids that some line names
pub folded-has : (x : List ℕ) (l : Channel) (s : List Channel) → named x (folded l s) ≡ total ◌||◌ false (named x) (l ∷ s)
unfolding folded
folded-has x l [] = sym (or-false (named x l))
folded-has x l (k ∷ s) = folded-has x (merge l k) s ∙ ap (λ (b : Bool). b || total ◌||◌ false (named x) s) (merge-has x l k) ∙ or_assoc (named x l) (named x k) (total ◌||◌ false (named x) s)

-- as many as they name
pub length-folded : (l : Channel) (s : List Channel) → InOrder l → length (folded l s).members ≡ length (everyone (l ∷ s))
length-folded l s h =
    same_length by_id (folded l s).members (everyone (l ∷ s)) (ascending-folded l s h) (ascending-everyone (l ∷ s)) (λ x. folded-has x l s ∙ sym (has-everyone x (l ∷ s)))
