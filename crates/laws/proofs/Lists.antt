-- Laws of lists: a list at a place, tests of every element, lists of tests, equal lists, padding, and parts of lists. Assumes nothing.
use mathlib.Core.Path.{◌≡◌, refl, sym, ap, ◌∙◌}
use mathlib.Core.Bool.{Bool, true, false, true≢false, ◌&&◌}
use mathlib.Core.List.{List, [], ◌∷◌, ◌++◌, map, append_assoc}
use Prim.Native.Nat.{ℕ, zero, suc, ◌+◌, ◌-◌, ◌≤◌, ◌<◌, min}
use native.Mathlib.Nat.{zero-add}
use native.Mathlib.Numerals.{add-one}
use native.Mathlib.Omega.{arith}
use lib.ListN.{length, take, drop, get_or, set, replicate, drop_of_length-le, length-append, length-take, length-drop, length-map, length-replicate, get_or-replicate, get_or-map, get_or-eq_default}
use lib.Seq.{take-suc, take_all, drop-cons, take-append-le, drop-append-le, take-append_seam, take-append-add, length-take-le, take-take, get_or-take, get_or-drop, ext_get_or, sets, set-append_seam, set-get_or, take-set-lt}
use lib.Dec.{eqb, leb, ltb}
use borrow.Author.Tests.{ne_eqb, leb-true, leb-false, ltb-true, ltb-false}
use Rattle.laws.specs.Lists.{all, is_nil, same_by, padded}
use Rattle.laws.proofs.Bools.{and_left, and_right, and_intro}

-- ---- a list at a place
module _ {A : Type 0} where
  pub drop-step : (s : List A) (i : ℕ) (d : A) → i < length s → drop i s ≡ get_or s i d ∷ drop (i + 1) s
  drop-step s i d h = rw (add-one, drop-cons s i d)

  -- an element that stands at a place, and those behind it
  module _ (s : List A) (i : ℕ) (x : A) (r : List A) (e : drop i s ≡ x ∷ r) where
    pub drop-inside : i < length s
    drop-inside = omega (arith, length-drop i s, ap (λ (l : List A). length l) e)

    abbrev split : get_or s i x ∷ drop (i + 1) s ≡ x ∷ r
    split = sym (drop-step s i x drop-inside) ∙ e

    pub drop-next : drop (i + 1) s ≡ r
    drop-next = ap (λ (l : List A). drop 1 l) split

    pub take_next : take (i + 1) s ≡ take i s ++ (x ∷ [])
    take_next = rw (add-one i, take-suc s i x drop-inside) (ap (λ (l : List A). take i s ++ (get_or l 0 x ∷ [])) split)

  -- behind the first element
  pub drop-behind : (x : A) (s : List A) (i : ℕ) → drop (1 + i) (x ∷ s) ≡ drop i s
  drop-behind x s i = let e : 1 + i ≡ suc i = omega arith in ap (λ (k : ℕ). drop k (x ∷ s)) e

  -- inside a list the default of `get_or` doesn't matter
  pub get_or_any : (l : List A) (k : ℕ) (d e : A) → k < length l → get_or l k d ≡ get_or l k e
  get_or_any [] k d e = λ h. absurd (omega arith)
  get_or_any (x ∷ l) zero d e = λ h. refl
  get_or_any (x ∷ l) (suc k) d e = λ h. get_or_any l k d e (omega arith)

  -- a part of the first of two lists is that part of both
  pub front-part : (f g : List A) (j k : ℕ) → j + k ≤ length f → take k (drop j (f ++ g)) ≡ take k (drop j f)
  front-part f g j k h = rw (drop-append-le j f g (omega arith)) (take-append-le k (drop j f) g (omega (arith, length-drop j f)))

  -- the first n of a list, at a place
  pub front-step : (l : List A) (n i : ℕ) (d : A) → i < n → n ≤ length l → drop i (take n l) ≡ get_or l i d ∷ drop (i + 1) (take n l)
  front-step l n i d h k = drop-step (take n l) i d (omega (arith, length-take-le n l k)) ∙ ap (λ (x : A). x ∷ drop (i + 1) (take n l)) (get_or-take n l i d h)

  -- no more are the first n than there are
  pub take_within : (l : List A) (n i : ℕ) → i ≡ min n (length l) → take i l ≡ take n l
  take_within l n i e = go (leb n (length l)) refl
    where
      go : (t : Bool) → leb n (length l) ≡ t → take i l ≡ take n l
      go true h = let q : i ≡ n = omega (arith, leb-true n (length l) h) in rw q
      go false h = rw (take_all n l (omega (arith, leb-false n (length l) h))) (take_all i l (omega (arith, leb-false n (length l) h)))

  -- nor is less left behind them than nothing
  pub drop_within : (l : List A) (n i : ℕ) → i ≡ min n (length l) → drop i l ≡ drop n l
  drop_within l n i e = go (leb n (length l)) refl
    where
      go : (t : Bool) → leb n (length l) ≡ t → drop i l ≡ drop n l
      go true h = let q : i ≡ n = omega (arith, leb-true n (length l) h) in rw q
      go false h = rw (drop_of_length-le l {i = n} (omega (arith, leb-false n (length l) h))) (drop_of_length-le l {i = i} (omega (arith, leb-false n (length l) h)))

-- ---- an empty list
pub nil-length : {A : Type 0} (l : List A) → is_nil l ≡ eqb (length l) 0
nil-length [] = refl
nil-length (x ∷ l) = sym (ne_eqb (length (x ∷ l)) 0 (λ e. omega arith))

pub nil-map : {A B : Type 0} (f : A → B) (l : List A) → is_nil (map f l) ≡ is_nil l
nil-map f [] = refl
nil-map f (x ∷ l) = refl

-- ---- a mapped list
-- the length of an array of structs, which a value's own facts give under a map
pub unmapped : {X Y : Type 0} (f : X → Y) (l : List X) (n : ℕ) → length (map f l) ≡ n → length l ≡ n
unmapped f l n e = sym (length-map l f) ∙ e

-- a list is mapped once by what changes nothing the second time
pub map-twice : {A : Type 0} (f : A → A) → ((x : A) → f (f x) ≡ f x) → (l : List A) → map f (map f l) ≡ map f l
map-twice f h [] = refl
map-twice f h (x ∷ l) = rw (h x, map-twice f h l)

-- ---- every element, at a place
module _ {A : Type 0} (p : A → Bool) (s : List A) (i : ℕ) where
  pub all_past : length s ≤ i → all p (drop i s) ≡ true
  unfolding all
  all_past h = rw (drop_of_length-le s h)

  module _ (d : A) (h : i < length s) where
    pub all-step : all p (drop i s) ≡ p (get_or s i d) && all p (drop (i + 1) s)
    unfolding all
    all-step = rw (drop-step s i d h)

    pub all-stop : p (get_or s i d) ≡ false → all p (drop i s) ≡ false
    unfolding all
    all-stop e = rw (drop-step s i d h, e)

    pub all_go : p (get_or s i d) ≡ true → all p (drop i s) ≡ all p (drop (i + 1) s)
    unfolding all
    all_go e = rw (drop-step s i d h, e)

-- ---- every element
module _ {A : Type 0} (p : A → Bool) where
  pub all_head : (x : A) (s : List A) → all p (x ∷ s) ≡ true → p x ≡ true
  unfolding all
  all_head x s h = and_left (p x) (all p s) h

  pub all_tail : (x : A) (s : List A) → all p (x ∷ s) ≡ true → all p s ≡ true
  unfolding all
  all_tail x s h = and_right (p x) (all p s) h

  pub all_cons : (x : A) (s : List A) → p x ≡ true → all p s ≡ true → all p (x ∷ s) ≡ true
  unfolding all
  all_cons x s h k = and_intro (p x) (all p s) h k

  pub all_append : (s t : List A) → all p s ≡ true → all p t ≡ true → all p (s ++ t) ≡ true
  all_append [] t h k = k
  all_append (x ∷ s) t h k = all_cons x (s ++ t) (all_head x s h) (all_append s t (all_tail x s h) k)

  pub all_drop : (n : ℕ) (s : List A) → all p s ≡ true → all p (drop n s) ≡ true
  all_drop zero s h = h
  all_drop (suc n) [] h = h
  all_drop (suc n) (x ∷ s) h = all_drop n s (all_tail x s h)

  pub all_take : (n : ℕ) (s : List A) → all p s ≡ true → all p (take n s) ≡ true
  unfolding all
  all_take zero s h = refl
  all_take (suc n) [] h = refl
  all_take (suc n) (x ∷ s) h = all_cons x (take n s) (all_head x s h) (all_take n s (all_tail x s h))

  pub all_replicate : (x : A) (n : ℕ) → p x ≡ true → all p (replicate n x) ≡ true
  unfolding all
  all_replicate x zero e = refl
  all_replicate x (suc n) e = all_cons x (replicate n x) e (all_replicate x n e)

  -- of every element, and so of the one at a place
  pub all-at : (s : List A) (k : ℕ) (d : A) → all p s ≡ true → k < length s → p (get_or s k d) ≡ true
  all-at [] k d h = λ lt. absurd (omega arith)
  all-at (x ∷ s) zero d h = λ lt. all_head x s h
  all-at (x ∷ s) (suc k) d h = λ lt. all-at s k d (all_tail x s h) (omega arith)

  pub all_from : (n : ℕ) (s : List A) (d : A) → all p (drop n s) ≡ true → (k : ℕ) → n ≤ k → k < length s → p (get_or s k d) ≡ true
  all_from n s d h k f g =
      let e : n + (k - n) ≡ k = omega arith in
      rw (get_or-drop n s (k - n) d, e) at (all-at (drop n s) (k - n) d h (omega (arith, length-drop n s)))

  pub at_all : (s : List A) (d : A) → ((k : ℕ) → k < length s → p (get_or s k d) ≡ true) → all p s ≡ true
  unfolding all
  at_all [] d h = refl
  at_all (x ∷ s) d h = all_cons x s (h zero (omega arith)) (at_all s d (λ k lt. h (suc k) (omega arith)))

  pub all-imp : (q : A → Bool) → ((x : A) → p x ≡ true → q x ≡ true) → (s : List A) → all p s ≡ true → all q s ≡ true
  unfolding all
  all-imp q f [] h = refl
  all-imp q f (x ∷ s) h = and_intro (q x) (all q s) (f x (all_head x s h)) (all-imp q f s (all_tail x s h))

  -- what is made of each passes another test
  pub all-imp-map : {B : Type 0} (q : B → Bool) (f : A → B) → ((x : A) → p x ≡ true → q (f x) ≡ true) → (s : List A) → all p s ≡ true → all q (map f s) ≡ true
  unfolding all
  all-imp-map q f g [] h = refl
  all-imp-map q f g (x ∷ s) h = and_intro (q (f x)) (all q (map f s)) (g x (all_head x s h)) (all-imp-map q f g s (all_tail x s h))

  pub all_map : (f : A → A) → ((x : A) → p x ≡ true → p (f x) ≡ true) → (s : List A) → all p s ≡ true → all p (map f s) ≡ true
  all_map = all-imp-map p

-- ---- a list of tests that all pass
abbrev pub Passed : List Bool → Type 0
Passed [] = Unit {0}
Passed (t ∷ l) = (t ≡ true) × Passed l

pub all-passed : (l : List Bool) → all (λ t. t) l ≡ true → Passed l
all-passed [] h = tt
all-passed (t ∷ l) h = (all_head (λ u. u) t l h, all-passed l (all_tail (λ u. u) t l h))

-- ---- equal lists, over any test of two elements that tells equal from different
module _ {A : Type 0} (t : A → A → Bool) where
  pub same_by-refl : ((x : A) → t x x ≡ true) → (l : List A) → same_by t l l ≡ true
  unfolding same_by
  same_by-refl f [] = refl
  same_by-refl f (x ∷ l) = and_intro (t x x) (same_by t l l) (f x) (same_by-refl f l)

  pub same_by-true : ((x y : A) → t x y ≡ true → x ≡ y) → (l m : List A) → same_by t l m ≡ true → l ≡ m
  unfolding same_by
  same_by-true f [] [] e = refl
  same_by-true f [] (y ∷ m) e = absurd (true≢false (sym e))
  same_by-true f (x ∷ l) [] e = absurd (true≢false (sym e))
  same_by-true f (x ∷ l) (y ∷ m) e = rw (f x y (and_left (t x y) (same_by t l m) e), same_by-true f l m (and_right (t x y) (same_by t l m) e))

-- ---- equal lists, by any test of two elements
module _ {A : Type 0} (t : A → A → Bool) where
  -- they are equally long
  pub same_by-lengths : (l m : List A) → same_by t l m ≡ true → length l ≡ length m
  unfolding same_by
  same_by-lengths [] [] e = refl
  same_by-lengths [] (y ∷ m) e = absurd (true≢false (sym e))
  same_by-lengths (x ∷ l) [] e = absurd (true≢false (sym e))
  same_by-lengths (x ∷ l) (y ∷ m) e = ap suc (same_by-lengths l m (and_right (t x y) (same_by t l m) e))

  -- lists of other lengths are other lists
  pub same_by-differ : (l m : List A) → (length l ≡ length m → ⊥) → same_by t l m ≡ false
  same_by-differ l m ne = go (same_by t l m) refl
    where
      go : (u : Bool) → same_by t l m ≡ u → same_by t l m ≡ false
      go true e = absurd (ne (same_by-lengths l m e))
      go false e = e

  -- a map of the first list is a part of the test
  pub same_by-map-left : (f : A → A) (l m : List A) → same_by t (map f l) m ≡ same_by (λ x y. t (f x) y) l m
  unfolding same_by
  same_by-map-left f [] [] = refl
  same_by-map-left f [] (y ∷ m) = refl
  same_by-map-left f (x ∷ l) [] = refl
  same_by-map-left f (x ∷ l) (y ∷ m) = ap (λ (u : Bool). t (f x) y && u) (same_by-map-left f l m)

  -- and so is one of the second
  pub same_by-map-right : (f : A → A) (l m : List A) → same_by t l (map f m) ≡ same_by (λ x y. t x (f y)) l m
  unfolding same_by
  same_by-map-right f [] [] = refl
  same_by-map-right f [] (y ∷ m) = refl
  same_by-map-right f (x ∷ l) [] = refl
  same_by-map-right f (x ∷ l) (y ∷ m) = ap (λ (u : Bool). t x (f y) && u) (same_by-map-right f l m)

  -- at a place of both
  module _ (l m : List A) (i : ℕ) where
    -- past both there is nothing that could differ
    pub same_by-past : length l ≤ i → length m ≤ i → same_by t (drop i l) (drop i m) ≡ true
    unfolding same_by
    same_by-past h k = rw (drop_of_length-le l h, drop_of_length-le m k)

    module _ (d : A) (h : i < length l) (k : i < length m) where
      -- elements that differ decide
      pub same_by-stop : t (get_or l i d) (get_or m i d) ≡ false → same_by t (drop i l) (drop i m) ≡ false
      unfolding same_by
      same_by-stop e = rw (drop-step l i d h, drop-step m i d k, e)

      -- behind elements that are the same the others decide
      pub same_by-go : t (get_or l i d) (get_or m i d) ≡ true → same_by t (drop i l) (drop i m) ≡ same_by t (drop (i + 1) l) (drop (i + 1) m)
      unfolding same_by
      same_by-go e = rw (drop-step l i d h, drop-step m i d k, e)

-- ---- a part of a mapped list
-- the first n
pub take-map : {A B : Type 0} (f : A → B) (n : ℕ) (l : List A) → take n (map f l) ≡ map f (take n l)
take-map f zero l = refl
take-map f (suc n) [] = refl
take-map f (suc n) (x ∷ l) = ap (λ m. f x ∷ m) (take-map f n l)

-- and all but the first
pub drop-map : {A B : Type 0} (f : A → B) (n : ℕ) (l : List A) → drop n (map f l) ≡ map f (drop n l)
drop-map f zero l = refl
drop-map f (suc n) [] = refl
drop-map f (suc n) (x ∷ l) = drop-map f n l

-- ---- padding
module _ {A : Type 0} (x : A) where
  take-replicate : (n m : ℕ) → n ≤ m → take n (replicate m x) ≡ replicate n x
  take-replicate zero m = λ h. refl
  take-replicate (suc n) zero = λ h. absurd (omega arith)
  take-replicate (suc n) (suc m) = λ h. ap (λ (l : List A). x ∷ l) (take-replicate n m (omega arith))

  get_or-continued : (l : List A) (m k : ℕ) (d : A) → k < m → get_or (l ++ replicate m x) k d ≡ get_or l k x
  get_or-continued [] m k d = λ h. get_or-replicate m k x d h
  get_or-continued (y ∷ l) m zero d = λ h. refl
  get_or-continued (y ∷ l) m (suc k) d = λ h. get_or-continued l m k d (omega arith)

  pub get_or-padded : (n : ℕ) (l : List A) (k : ℕ) (d : A) → k < n → get_or (padded n x l) k d ≡ get_or l k x
  unfolding padded
  get_or-padded n l k d h = get_or-take n (l ++ replicate n x) k d h ∙ get_or-continued l n k d h

  pub length-padded : (n : ℕ) (l : List A) → length (padded n x l) ≡ n
  unfolding padded
  length-padded n l = length-take-le n (l ++ replicate n x) (omega (arith, length-append l (replicate n x), length-replicate n x))

  -- nothing padded is all padding
  pub padded-none : (n : ℕ) → padded n x [] ≡ replicate n x
  unfolding padded
  padded-none n = take-replicate n n (omega arith)

  -- a list that is no longer stands at the front
  pub take-padded : (n : ℕ) (l : List A) → length l ≤ n → take (length l) (padded n x l) ≡ l
  unfolding padded
  take-padded n l h = take-take (length l) n (l ++ replicate n x) h ∙ take-append_seam l (replicate n x)

  -- and padding stands behind it
  pub padded-behind : (n : ℕ) (l : List A) → length l ≤ n → padded n x l ≡ l ++ replicate (n - length l) x
  unfolding padded
  padded-behind n l h =
      let e : length l + (n - length l) ≡ n = omega arith in
      ap (λ (k : ℕ). take k (l ++ replicate n x)) (sym e) ∙ take-append-add l (replicate n x) (n - length l) ∙ ap (◌++◌ l) (take-replicate (n - length l) n (omega arith))

  -- the places that it leaves open hold x
  pub all-padded : (p : A → Bool) → p x ≡ true → (n : ℕ) (l : List A) → all p (drop (length l) (padded n x l)) ≡ true
  all-padded p h n l = at_all p (drop (length l) (padded n x l)) x (λ k lt. rw (free k (omega (arith, length-drop (length l) (padded n x l), length-padded n l))) h)
    where
      free : (k : ℕ) → length l + k < n → get_or (drop (length l) (padded n x l)) k x ≡ x
      free k lt =
          get_or-drop (length l) (padded n x l) k x ∙ get_or-padded n l (length l + k) x lt ∙ get_or-eq_default l x {n = length l + k} (omega arith)

  -- a list that fills the room is all that stands there
  pub padded-whole : (n : ℕ) (l : List A) → length l ≡ n → padded n x l ≡ l
  unfolding padded
  padded-whole n l e = rw (sym e) (take-append_seam l (replicate (length l) x))

  -- and one that is longer is cut off
  pub padded-cut : (n : ℕ) (l : List A) → padded n x (take n l) ≡ padded n x l
  padded-cut n l =
      ext_get_or x (padded n x (take n l)) (padded n x l) (length-padded n (take n l) ∙ sym (length-padded n l))
      (λ k h. let b : k < n = omega (arith, length-padded n (take n l)) in get_or-padded n (take n l) k x b ∙ get_or-take n l k x b ∙ sym (get_or-padded n l k x b))

  -- a list that holds x from a place on is the padded list of what stands before it
  pub padded-take : (n m : ℕ) (l : List A) → length l ≡ m → ((k : ℕ) → n ≤ k → k < m → get_or l k x ≡ x) → padded m x (take n l) ≡ l
  padded-take n m l e room =
      ext_get_or x (padded m x (take n l)) l (length-padded m (take n l) ∙ sym e)
      (λ k h. get_or-padded m (take n l) k x (omega (arith, length-padded m (take n l))) ∙ go k (ltb k n) refl (omega (arith, length-padded m (take n l))))
    where
      go : (k : ℕ) (t : Bool) → ltb k n ≡ t → k < m → get_or (take n l) k x ≡ get_or l k x
      go k true p h = get_or-take n l k x (ltb-true k n p)
      go k false p h =
          let q : n ≤ k = ltb-false k n p in
          get_or-eq_default (take n l) x {n = k} (omega (arith, length-take n l)) ∙ sym (room k q h)

  -- values set one after the other from the front, those past the end lost, are the padded list of them
  sets-nil : (i : ℕ) (vs : List A) → sets [] i vs ≡ []
  sets-nil i [] = refl
  sets-nil i (v ∷ vs) = sets-nil (suc i) vs

  sets-cons : (vs l : List A) (i : ℕ) (y : A) → sets (y ∷ l) (suc i) vs ≡ y ∷ sets l i vs
  sets-cons [] l i y = refl
  sets-cons (v ∷ vs) l i y = sets-cons vs (set l i v) (suc i) y

  sets-continued : (vs : List A) (n m : ℕ) → n ≤ m → sets (replicate n x) 0 vs ≡ take n (vs ++ replicate m x)
  sets-continued [] n m = λ h. sym (take-replicate n m h)
  sets-continued (v ∷ vs) zero m = λ h. sets-nil 1 vs
  sets-continued (v ∷ vs) (suc n) m = λ h. sets-cons vs (replicate n x) 0 v ∙ ap (λ (l : List A). v ∷ l) (sets-continued vs n m (omega arith))

  pub sets-padded : (n : ℕ) (vs : List A) → sets (replicate n x) 0 vs ≡ padded n x vs
  unfolding padded
  sets-padded n vs = sets-continued vs n n (omega arith)

  sets-snoc : (vs l : List A) (i : ℕ) (v : A) → sets l i (vs ++ (v ∷ [])) ≡ set (sets l i vs) (i + length vs) v
  sets-snoc [] l i v = let e : i + 0 ≡ i = omega arith in rw e
  sets-snoc (u ∷ vs) l i v = let e : i + suc (length vs) ≡ suc i + length vs = omega arith in rw e (sets-snoc vs (set l i u) (suc i) v)

  -- an element set behind the padded ones is one of them
  pub set-padded : (n : ℕ) (l : List A) (v : A) → set (padded n x l) (length l) v ≡ padded n x (l ++ (v ∷ []))
  set-padded n l v =
      ap (λ (m : List A). set m (length l) v) (sym (sets-padded n l))
      ∙ ap (λ (k : ℕ). set (sets (replicate n x) 0 l) k v) (sym (zero-add (length l)))
      ∙ sym (sets-snoc l (replicate n x) 0 v)
      ∙ sets-padded n (l ++ (v ∷ []))

  -- an element in another's stead
  pub set-padded-at : (n : ℕ) (a b : List A) (y v : A) → length a < n → set (padded n x (a ++ y ∷ b)) (length a) v ≡ padded n x (a ++ v ∷ b)
  unfolding padded
  set-padded-at n a b y v h =
      sym (take-set-lt n ((a ++ y ∷ b) ++ replicate n x) (length a) v h)
      ∙ rw (append_assoc a (y ∷ b) (replicate n x), append_assoc a (v ∷ b) (replicate n x), set-append_seam a y (b ++ replicate n x) v)

  -- what pads a list may as well stand in it
  pub padded-more : (n : ℕ) (l : List A) → length l < n → padded n x (l ++ (x ∷ [])) ≡ padded n x l
  padded-more n l h =
      let e : get_or (padded n x l) (length l) x ≡ x = get_or-padded n l (length l) x h ∙ get_or-eq_default l x {n = length l} (omega arith) in
      sym (set-padded n l x) ∙ ap (set (padded n x l) (length l)) (sym e) ∙ set-get_or (padded n x l) (length l) x

-- a function of each place, the open ones too
pub map-padded : {A B : Type 0} (f : A → B) (x : A) (n : ℕ) (l : List A) → map f (padded n x l) ≡ padded n (f x) (map f l)
map-padded f x n l =
    let e : length (map f (padded n x l)) ≡ n = length-map (padded n x l) f ∙ length-padded x n l in
    ext_get_or (f x) (map f (padded n x l)) (padded n (f x) (map f l)) (e ∙ sym (length-padded (f x) n (map f l)))
    (λ k h. let b : k < n = omega (arith, e) in
    get_or-map f (padded n x l) k x ∙ ap f (get_or-padded x n l k x b) ∙ sym (get_or-padded (f x) n (map f l) k (f x) b ∙ get_or-map f l k x))
