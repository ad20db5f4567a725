-- Laws of totals, by a join that is associative, commutative and idempotent and has a neutral element: the order of the elements and repeats
-- don't matter. `or`, `max` and the union of bits are such joins. Assumes nothing.
use Prim.Native.Nat.{ℕ, ◌+◌, ◌*◌, ◌/◌, ◌%◌, ◌^◌, max}
use mathlib.Core.Path.{◌≡◌, refl, sym, ap, ap₂, ◌∙◌}
use mathlib.Core.Bool.{false, ◌||◌, or_assoc, or_comm, or_self}
use mathlib.Core.List.Memᴰ
use mathlib.Core.List.{List, [], ◌∷◌, ◌++◌, map, append_assoc, Memᴰ}
use native.Mathlib.Omega.{arith}
use lib.Arith.{bin_ind}
use lib.Bits.{bit_or, or_step, or_comm as bits-comm, or_self as bits-self, or_zero_l, or_shr}
use Rattle.laws.specs.Joins.{total, concatenated}

pub record Joining {A : Type 0} (join : A → A → A) (none : A) : Type 0 where
  pub assoc : (a b c : A) → join (join a b) c ≡ join a (join b c)
  pub comm : (a b : A) → join a b ≡ join b a
  pub idem : (a : A) → join a a ≡ a
  pub unit : (a : A) → join none a ≡ a

-- each element of s is one of t's
abbrev pub Within : {X : Type 0} → List X → List X → Type 0
Within {X} s t = (x : X) → Memᴰ x s → Memᴰ x t

pub within-map : {X Y : Type 0} (f : X → Y) (s t : List X) → Within s t → Within (map f s) (map f t)
within-map f s t h y m = let (x, i, e) = Memᴰ.of_map f s m in Memᴰ.cast (sym e) (Memᴰ.map f (h x i))

-- ---- laws of any such join
module _ {A : Type 0} (join : A → A → A) (none : A) (J : Joining join none) where
  pub join-none : (a : A) → join a none ≡ a
  join-none a = J.comm a none ∙ J.unit a

  -- what is second joins as well first
  pub join-left : (a b c : A) → join a (join b c) ≡ join b (join a c)
  join-left a b c = sym (J.assoc a b c) ∙ ap (λ (x : A). join x c) (J.comm a b) ∙ J.assoc b a c

-- ---- totals
-- of mapped elements
pub total-map : {A X Y : Type 0} (join : A → A → A) (none : A) (f : Y → A) (g : X → Y) (s : List X) → total join none f (map g s) ≡ total join none (λ x. f (g x)) s
total-map join none f g [] = refl
total-map join none f g (x ∷ s) = ap (join (f (g x))) (total-map join none f g s)

module _ {A X : Type 0} (join : A → A → A) (none : A) (J : Joining join none) (f : X → A) where
  pub total-append : (s t : List X) → total join none f (s ++ t) ≡ join (total join none f s) (total join none f t)
  total-append [] t = sym (J.unit _)
  total-append (x ∷ s) t = ap (join (f x)) (total-append s t) ∙ sym (J.assoc _ _ _)

  -- where each gives nothing, nothing comes together
  pub total-none : (s : List X) → ((x : X) → Memᴰ x s → f x ≡ none) → total join none f s ≡ none
  total-none [] h = refl
  total-none (x ∷ s) h = rw (h x (Memᴰ.head refl), total-none s (λ y m. h y (Memᴰ.tail m))) (J.unit none)

  -- an element's part is in the total already
  pub total-mem : {x : X} {s : List X} → Memᴰ x s → join (f x) (total join none f s) ≡ total join none f s
  total-mem (Memᴰ.head e) = rw e (sym (J.assoc _ _ _) ∙ rw J.idem)
  total-mem {x} (Memᴰ.tail {x = y} {xs = s} m) = join-left join none J (f x) (f y) (total join none f s) ∙ ap (join (f y)) (total-mem m)

  total-within : (s t : List X) → Within s t → join (total join none f s) (total join none f t) ≡ total join none f t
  total-within [] t h = J.unit _
  total-within (x ∷ s) t h = J.assoc _ _ _ ∙ rw (total-within s t (λ y m. h y (Memᴰ.tail m))) (total-mem (h x (Memᴰ.head refl)))

  -- the same elements in any order, repeats or none
  pub total-same : (s t : List X) → Within s t → Within t s → total join none f s ≡ total join none f t
  total-same s t h k = sym (total-within t s k) ∙ J.comm _ _ ∙ total-within s t h

-- ---- joins
pub joining-or : Joining ◌||◌ false
joining-or = record { assoc = or_assoc; comm = or_comm; idem = or_self; unit = λ a. refl }

pub joining-max : Joining max 0
joining-max = record { assoc = λ a b c. omega arith; comm = λ a b. omega arith; idem = λ a. omega arith; unit = λ a. omega arith }

-- the last digit of a union, and what stands before it
bits-last : (a b : ℕ) → bit_or a b % 2 ≡ max (a % 2) (b % 2)
bits-last a b = omega (arith, or_step a b)

bits-half : (a b : ℕ) → bit_or a b / 2 ≡ bit_or (a / 2) (b / 2)
bits-half a b = or_shr a b 1

bits-assoc : (a b c : ℕ) → bit_or (bit_or a b) c ≡ bit_or a (bit_or b c)
bits-assoc =
    bin_ind (λ (n : ℕ). (b c : ℕ) → bit_or (bit_or n b) c ≡ bit_or n (bit_or b c)) (λ b c. refl)
    (λ n ih b c.
    or_step (bit_or n b) c
    ∙ ap₂ (λ (x y : ℕ). x * 2 + y)
    (ap (λ (x : ℕ). bit_or x (c / 2)) (bits-half n b) ∙ ih (b / 2) (c / 2) ∙ ap (bit_or (n / 2)) (sym (bits-half b c)))
    (ap (λ (x : ℕ). max x (c % 2)) (bits-last n b) ∙ joining-max.assoc (n % 2) (b % 2) (c % 2) ∙ ap (max (n % 2)) (sym (bits-last b c)))
    ∙ sym (or_step n (bit_or b c)))

pub joining-bits : Joining bit_or 0
joining-bits = record { assoc = bits-assoc; comm = bits-comm; idem = bits-self; unit = or_zero_l }

-- a union's digit at a place is the greater of the two
pub bits-digit : (k a b : ℕ) → bit_or a b / 2 ^ k % 2 ≡ max (a / 2 ^ k % 2) (b / 2 ^ k % 2)
bits-digit k a b = rw (or_shr a b k) (bits-last (a / 2 ^ k) (b / 2 ^ k))

-- ---- lists one behind the other
-- those of two lists of them
pub concatenated-append : {A : Type 0} (l m : List (List A)) → concatenated (l ++ m) ≡ concatenated l ++ concatenated m
concatenated-append [] m = refl
concatenated-append (s ∷ l) m = ap (◌++◌ s) (concatenated-append l m) ∙ sym (append_assoc s (concatenated l) (concatenated m))
