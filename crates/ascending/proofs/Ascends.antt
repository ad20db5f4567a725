-- Laws of lists of entries that ascend by their keys, over any kind of entry: what is put or united stands in its place, so that ascending lists
-- stay so, are united in one pass, and take an entry from the end. Assumes nothing.
use Prim.Native.Nat.{ℕ, zero, suc, ◌+◌, ◌≤◌, ◌<◌}
use mathlib.Core.Path.{◌≡◌, refl, sym, ap, ◌∙◌}
use mathlib.Core.Bool.{Bool, true, false, true≢false, ◌&&◌}
use mathlib.Core.List.{List, [], ◌∷◌, ◌++◌, map}
use native.Mathlib.Numerals.{add-one}
use native.Mathlib.Omega.{arith}
use lib.ListN.{length, take, get_or}
use Rattle.std.specs.declared.cmp.Ordering.{Ordering}
use Rattle.std.specs.declared.cmp.Ordering.TheVariants.{Less, Equal, Greater}
use Rattle.octets.specs.Order.{compare, is_less}
use Rattle.laws.specs.Lists.{all, is_nil, same}
use Rattle.ascending.specs.Ascending.{Kind, insert, put, unite, taken, against, one_pass, ascends}
use Rattle.laws.proofs.Bools.{and_left, and_right}
use Rattle.laws.proofs.Lists.{all_head, all_tail, all_cons}
use Rattle.octets.proofs.Bytes.{same_refl}
use Rattle.octets.proofs.Ordered.{Below, compare_refl, compare_same, compare-trans, below_more, more-below}
use Rattle.laws.proofs.Joins.{Joining}

-- The parts of an entry fit together.
pub record Keyed {E P : Type 0} (K : Kind E P) : Type 0 where
  pub key-made : (k : List ℕ) (p : P) → K.key (K.make k p) ≡ k
  pub load-made : (k : List ℕ) (p : P) → K.load (K.make k p) ≡ p
  pub made : (e : E) → K.make (K.key e) (K.load e) ≡ e

-- They fit together, and its loads join, `none` being neutral.
pub record Lawful {E P : Type 0} (K : Kind E P) (none : P) : Type 0 where
  pub keyed : Keyed K
  pub joining : Joining K.join none

module _ {E P : Type 0} (K : Kind E P) where
  -- every key is above x
  abbrev pub Above : List ℕ → List E → Type 0
  Above x [] = Unit {0}
  Above x (e ∷ l) = Below x (K.key e) × Above x l

  -- every key is below x
  abbrev pub Under : List ℕ → List E → Type 0
  Under x [] = Unit {0}
  Under x (e ∷ l) = Below (K.key e) x × Under x l

  abbrev pub Ascending : List E → Type 0
  Ascending [] = Unit {0}
  Ascending (e ∷ l) = Above (K.key e) l × Ascending l

  -- d's key with the load of e joined to its own
  abbrev pub joined : E → E → E
  joined e d = K.make (K.key d) (K.join (K.load e) (K.load d))

-- A kind that keeps a key where two loads of it are joined: all that order asks. One whose load has the key in it, as the spelling of a mask its fold, is of
-- this sort, and is not `Keyed`.
pub record Stays {E P : Type 0} (K : Kind E P) : Type 0 where
  pub stays : (e d : E) → K.key e ≡ K.key d → K.key (joined K e d) ≡ K.key d

pub keyed_stays : {E P : Type 0} (K : Kind E P) → Keyed K → Stays K
keyed_stays K M = record { stays = λ e d h. M.key-made (K.key d) (K.join (K.load e) (K.load d)) }

-- ---- an entry put in its place
module _ {E P : Type 0} (K : Kind E P) where
  pub put-less : (e d : E) (l : List E) → Below (K.key e) (K.key d) → put K e (d ∷ l) ≡ e ∷ d ∷ l
  unfolding put insert
  put-less e d l h = rw h

  pub put_same : (e d : E) (l : List E) → K.key e ≡ K.key d → put K e (d ∷ l) ≡ joined K e d ∷ l
  unfolding put insert
  put_same e d l h = rw (h, compare_refl (K.key d))

  pub put-more : (e d : E) (l : List E) → Below (K.key d) (K.key e) → put K e (d ∷ l) ≡ d ∷ put K e l
  unfolding put insert
  put-more e d l h = rw (below_more (K.key d) (K.key e) h)

  -- behind those that are below it
  pub put-past : (e : E) (a b : List E) → Under K (K.key e) a → put K e (a ++ b) ≡ a ++ put K e b
  put-past e [] b h = refl
  put-past e (d ∷ a) b h = put-more e d (a ++ b) h.0 ∙ ap (◌∷◌ d) (put-past e a b h.1)

  -- before those that are above it
  pub put_front : (e : E) (b : List E) → Above K (K.key e) b → put K e b ≡ e ∷ b
  unfolding put
  put_front e [] h = refl
  put_front e (d ∷ b) h = put-less e d b h.0

  -- an insertion from the end stops behind the last that is below it, or at the one that has its key
  pub put-between : (e : E) (a b : List E) → Under K (K.key e) a → Above K (K.key e) b → put K e (a ++ b) ≡ a ++ e ∷ b
  put-between e a b h k = put-past e a b h ∙ ap (◌++◌ a) (put_front e b k)

  pub put-joined : (e d : E) (a b : List E) → Under K (K.key e) a → K.key e ≡ K.key d → put K e (a ++ d ∷ b) ≡ a ++ joined K e d ∷ b
  put-joined e d a b h k = put-past e a (d ∷ b) h ∙ ap (◌++◌ a) (put_same e d b k)

-- ---- parts of ascending lists
module _ {E P : Type 0} (K : Kind E P) where
  pub above-trans : (x y : List ℕ) (l : List E) → Below x y → Above K y l → Above K x l
  above-trans x y [] p h = tt
  above-trans x y (e ∷ l) p h = (compare-trans x y (K.key e) p h.0, above-trans x y l p h.1)

  above_at : (x : List ℕ) (l : List E) (i : ℕ) (d : E) → Above K x l → i < length l → Below x (K.key (get_or l i d))
  above_at x [] i d h = λ k. absurd (omega arith)
  above_at x (e ∷ l) zero d h = λ k. h.0
  above_at x (e ∷ l) (suc i) d h = λ k. above_at x l i d h.1 (omega arith)

  -- of two places the earlier one has the smaller key
  pub ascending-at : (l : List E) (i j : ℕ) (d : E) → Ascending K l → i < j → j < length l → Below (K.key (get_or l i d)) (K.key (get_or l j d))
  ascending-at [] i j d h = λ b k. absurd (omega arith)
  ascending-at (e ∷ l) i zero d h = λ b k. absurd (omega arith)
  ascending-at (e ∷ l) zero (suc j) d h = λ b k. above_at (K.key e) l j d h.0 (omega arith)
  ascending-at (e ∷ l) (suc i) (suc j) d h = λ b k. ascending-at l i j d h.1 (omega arith) (omega arith)

  -- what stands before a place is below the entry there
  pub under-take : (l : List E) (i : ℕ) (d : E) → Ascending K l → i < length l → Under K (K.key (get_or l i d)) (take i l)
  under-take [] i d h = λ k. absurd (omega arith)
  under-take (e ∷ l) zero d h = λ k. tt
  under-take (e ∷ l) (suc i) d h = λ k. (above_at (K.key e) l i d h.0 (omega arith), under-take l i d h.1 (omega arith))

  -- what stands up to a place is below whatever the entry there is below
  pub under-upto : (x : List ℕ) (l : List E) (i : ℕ) (d : E) → Ascending K l → i < length l → Below (K.key (get_or l i d)) x → Under K x (take (i + 1) l)
  under-upto x l i d h k p = rw (add-one i) (go l i h k p)
    where
      go : (l : List E) (i : ℕ) → Ascending K l → i < length l → Below (K.key (get_or l i d)) x → Under K x (take (suc i) l)
      go [] i h = λ k p. absurd (omega arith)
      go (e ∷ l) zero h = λ k p. (p, tt)
      go (e ∷ l) (suc i) h = λ k p. (compare-trans (K.key e) (K.key (get_or l i d)) x (above_at (K.key e) l i d h.0 (omega arith)) p, go l i h.1 (omega arith) p)

-- ---- two ascending lists united in one pass: the smaller first is taken, equal ones are joined, and what one list has left over stands
module _ {E P : Type 0} (K : Kind E P) where
  unite-past : (x : E) (a b : List E) → Above K (K.key x) b → unite K (x ∷ a) b ≡ x ∷ unite K a b
  unfolding unite
  unite-past x a [] h = refl
  unite-past x a (y ∷ b) h = ap (λ (l : List E). unite K l b) (put-more K y x a h.0) ∙ unite-past x (put K y a) b h.1

  -- nothing united leaves a list as it is
  pub unite-nil-right : (a : List E) → unite K a [] ≡ a
  unfolding unite
  unite-nil-right a = refl

  pub unite-nil-left : (b : List E) → Ascending K b → unite K [] b ≡ b
  unfolding unite put
  unite-nil-left [] h = refl
  unite-nil-left (y ∷ b) h = unite-past y [] b h.0 ∙ ap (◌∷◌ y) (unite-nil-left b h.1)

  module _ (x y : E) (a b : List E) (h : Ascending K (y ∷ b)) where
    unite-less : Below (K.key x) (K.key y) → unite K (x ∷ a) (y ∷ b) ≡ x ∷ unite K a (y ∷ b)
    unite-less p = unite-past x a (y ∷ b) (p, above-trans K (K.key x) (K.key y) b p h.0)

    unite-more : Below (K.key y) (K.key x) → unite K (x ∷ a) (y ∷ b) ≡ y ∷ unite K (x ∷ a) b
    unfolding unite
    unite-more p = ap (λ (l : List E). unite K l b) (put-less K y x a p) ∙ unite-past y (x ∷ a) b h.0

    unite-same : Stays K → K.key x ≡ K.key y → unite K (x ∷ a) (y ∷ b) ≡ joined K y x ∷ unite K a b
    unfolding unite
    unite-same S p = ap (λ (l : List E). unite K l b) (put_same K y x a (sym p)) ∙ unite-past (joined K y x) a b (rw (S.stays y x (sym p), p) h.0)

  -- ---- one pass over any two lists, step by step
  pub pass-nil-left : (b : List E) → one_pass K [] b ≡ b
  unfolding one_pass
  pass-nil-left b = refl

  pub pass-nil-right : (a : List E) → one_pass K a [] ≡ a
  unfolding one_pass against
  pass-nil-right [] = refl
  pass-nil-right (x ∷ a) = ap (◌∷◌ x) (pass-nil-right a)

  pub pass_step : (x y : E) (a b : List E) → one_pass K (x ∷ a) (y ∷ b) ≡ taken K (compare (K.key x) (K.key y)) x y (one_pass K a (y ∷ b)) (one_pass K a b) (one_pass K (x ∷ a) b)
  unfolding one_pass against
  pass_step x y a b = refl

  -- and it is their union where the second ascends
  module _ (S : Stays K) where
    taken-unite : (x y : E) (a b : List E) (o : Ordering) → compare (K.key x) (K.key y) ≡ o → Ascending K (y ∷ b)
        → taken K o x y (unite K a (y ∷ b)) (unite K a b) (unite K (x ∷ a) b) ≡ unite K (x ∷ a) (y ∷ b)
    unfolding taken
    taken-unite x y a b Less p h = sym (unite-less x y a b h p)
    taken-unite x y a b Equal p h = sym (unite-same x y a b h S (compare_same (K.key x) (K.key y) p))
    taken-unite x y a b Greater p h = sym (unite-more x y a b h (more-below (K.key x) (K.key y) p))

    against-unite : (x : E) (a : List E) (others : List E → List E) → ((b : List E) → Ascending K b → others b ≡ unite K a b) → (b : List E) → Ascending K b → against K x others b ≡ unite K (x ∷ a) b
    unfolding against
    against-unite x a others ih [] h = ap (◌∷◌ x) (ih [] h ∙ unite-nil-right a) ∙ sym (unite-nil-right (x ∷ a))
    against-unite x a others ih (y ∷ b) h = rw (ih (y ∷ b) h, ih b h.1, against-unite x a others ih b h.1) (taken-unite x y a b (compare (K.key x) (K.key y)) refl h)

    pub pass-unite : (a b : List E) → Ascending K b → one_pass K a b ≡ unite K a b
    unfolding one_pass
    pass-unite [] b h = sym (unite-nil-left b h)
    pass-unite (x ∷ a) b h = against-unite x a (one_pass K a) (λ b h. pass-unite a b h) b h

  -- the first entry is put, and then the others
  pub unite-next : (e : E) (a b : List E) → unite K a (e ∷ b) ≡ unite K (put K e a) b
  unfolding unite
  unite-next e a b = refl

  pub unite-append : (a b c : List E) → unite K a (b ++ c) ≡ unite K (unite K a b) c
  unfolding unite
  unite-append a [] c = refl
  unite-append a (e ∷ b) c = unite-append (put K e a) b c

-- ---- the test is exactly what it tests for
pub less-says : (o : Ordering) → is_less o ≡ true → o ≡ Less
less-says Less h = refl
less-says Equal h = absurd (true≢false (sym h))
less-says Greater h = absurd (true≢false (sym h))

-- of two lists that differ, where the first is not the smaller one, the second is
pub less-fails : (a b : List ℕ) → is_less (compare a b) ≡ false → same a b ≡ false → Below b a
less-fails a b h k = go (compare a b) refl
  where
    go : (o : Ordering) → compare a b ≡ o → Below b a
    go Less e = absurd (true≢false (ap is_less (sym e) ∙ h))
    go Equal e = absurd (true≢false (sym (same_refl b) ∙ (rw (compare_same a b e) at k)))
    go Greater e = more-below a b e

module _ {E P : Type 0} (K : Kind E P) where
  pub ascends-says : (l : List E) → ascends K l ≡ true → Ascending K l
  unfolding ascends
  ascends-says [] h = tt
  ascends-says (e ∷ []) h = (tt, tt)
  ascends-says (e ∷ d ∷ l) h =
      let p : Below (K.key e) (K.key d) = less-says (compare (K.key e) (K.key d)) (and_left (is_less (compare (K.key e) (K.key d))) (ascends K (d ∷ l)) h) in
      let t : Ascending K (d ∷ l) = ascends-says (d ∷ l) (and_right (is_less (compare (K.key e) (K.key d))) (ascends K (d ∷ l)) h) in
      ((p, above-trans K (K.key e) (K.key d) l p t.0), t)

  pub ascends-passes : (l : List E) → Ascending K l → ascends K l ≡ true
  unfolding ascends
  ascends-passes [] h = refl
  ascends-passes (e ∷ []) h = refl
  ascends-passes (e ∷ d ∷ l) h = rw h.0.0 (ascends-passes (d ∷ l) h.1)

  -- a list of one entry, or of none, passes
  pub ascends-short : (l : List E) → length l ≤ 1 → ascends K l ≡ true
  unfolding ascends
  ascends-short [] h = refl
  ascends-short (e ∷ []) h = refl
  ascends-short (e ∷ d ∷ l) h = absurd (omega arith)

  -- the first two are compared, and then those behind the first
  pub ascends-step : (e d : E) (l : List E) → ascends K (e ∷ d ∷ l) ≡ is_less (compare (K.key e) (K.key d)) && ascends K (d ∷ l)
  unfolding ascends
  ascends-step e d l = refl

-- ---- how many
module _ {E P : Type 0} (K : Kind E P) where
  pub length-put : (e : E) (l : List E) → length l ≤ length (put K e l)
  unfolding put insert
  length-put e [] = omega arith
  length-put e (d ∷ l) = go (compare (K.key e) (K.key d)) (length-put e l)
    where
      go : (o : Ordering) → length l ≤ length (put K e l) → length (d ∷ l) ≤ length (insert K o e d l (put K e l))
      go Less h = omega arith
      go Equal h = omega arith
      go Greater h = omega arith

  pub length-unite-left : (a b : List E) → length a ≤ length (unite K a b)
  unfolding unite
  length-unite-left a [] = omega arith
  length-unite-left a (e ∷ b) = omega (arith, length-put e a, length-unite-left (put K e a) b)

  -- one that is put in its place is there, and makes the list longer by one at most
  pub put_some : (e : E) (l : List E) → 1 ≤ length (put K e l)
  unfolding put insert
  put_some e [] = omega arith
  put_some e (d ∷ l) = go (compare (K.key e) (K.key d))
    where
      go : (o : Ordering) → 1 ≤ length (insert K o e d l (put K e l))
      go Less = omega arith
      go Equal = omega arith
      go Greater = omega arith

  pub put-few : (e : E) (l : List E) → length (put K e l) ≤ suc (length l)
  unfolding put insert
  put-few e [] = omega arith
  put-few e (d ∷ l) = go (compare (K.key e) (K.key d)) (put-few e l)
    where
      go : (o : Ordering) → length (put K e l) ≤ suc (length l) → length (insert K o e d l (put K e l)) ≤ suc (length (d ∷ l))
      go Less h = omega arith
      go Equal h = omega arith
      go Greater h = omega arith

  pub unite-few : (a b : List E) → length (unite K a b) ≤ length a + length b
  unfolding unite
  unite-few a [] = omega arith
  unite-few a (e ∷ b) = omega (arith, put-few e a, unite-few (put K e a) b)

  pub unite-some : (a b : List E) → is_nil b ≡ false → 1 ≤ length (unite K a b)
  unfolding unite
  unite-some a [] h = absurd (true≢false h)
  unite-some a (e ∷ b) h = omega (arith, put_some e a, length-unite-left (put K e a) b)

-- ---- what holds of entries holds of those that are joined from them
module _ {E P : Type 0} (K : Kind E P) (p : E → Bool) (add : (e d : E) → p e ≡ true → p d ≡ true → p (joined K e d) ≡ true) where
  pub all-put : (e : E) (l : List E) → p e ≡ true → all p l ≡ true → all p (put K e l) ≡ true
  unfolding put insert
  all-put e [] h k = all_cons p e [] h k
  all-put e (d ∷ l) h k = go (compare (K.key e) (K.key d)) (all-put e l h (all_tail p d l k))
    where
      go : (o : Ordering) → all p (put K e l) ≡ true → all p (insert K o e d l (put K e l)) ≡ true
      go Less ih = all_cons p e (d ∷ l) h k
      go Equal ih = all_cons p (joined K e d) l (add e d h (all_head p d l k)) (all_tail p d l k)
      go Greater ih = all_cons p d (put K e l) (all_head p d l k) ih

  pub all-unite : (a b : List E) → all p a ≡ true → all p b ≡ true → all p (unite K a b) ≡ true
  unfolding unite
  all-unite a [] h k = h
  all-unite a (e ∷ b) h k = all-unite (put K e a) b (all-put e a (all_head p e b k) h) (all_tail p e b k)

-- ---- ascending lists stay so
module _ {E P : Type 0} (K : Kind E P) (S : Stays K) where
  above-put : (x : List ℕ) (e : E) (l : List E) → Below x (K.key e) → Above K x l → Above K x (put K e l)
  unfolding put insert
  above-put x e [] p h = (p, tt)
  above-put x e (d ∷ l) p h = go (compare (K.key e) (K.key d)) refl (above-put x e l p h.1)
    where
      go : (o : Ordering) → compare (K.key e) (K.key d) ≡ o → Above K x (put K e l) → Above K x (insert K o e d l (put K e l))
      go Less q k = (p, h)
      go Equal q k = (rw (S.stays e d (compare_same (K.key e) (K.key d) q)) h.0, h.1)
      go Greater q k = (h.0, k)

  pub under-put : (x : List ℕ) (e : E) (l : List E) → Below (K.key e) x → Under K x l → Under K x (put K e l)
  unfolding put insert
  under-put x e [] p h = (p, tt)
  under-put x e (d ∷ l) p h = go (compare (K.key e) (K.key d)) refl (under-put x e l p h.1)
    where
      go : (o : Ordering) → compare (K.key e) (K.key d) ≡ o → Under K x (put K e l) → Under K x (insert K o e d l (put K e l))
      go Less q k = (p, h)
      go Equal q k = (rw (S.stays e d (compare_same (K.key e) (K.key d) q)) h.0, h.1)
      go Greater q k = (h.0, k)

  pub ascending-put : (e : E) (l : List E) → Ascending K l → Ascending K (put K e l)
  unfolding put insert
  ascending-put e [] h = (tt, tt)
  ascending-put e (d ∷ l) h = go (compare (K.key e) (K.key d)) refl (ascending-put e l h.1)
    where
      go : (o : Ordering) → compare (K.key e) (K.key d) ≡ o → Ascending K (put K e l) → Ascending K (insert K o e d l (put K e l))
      go Less p k = ((p, above-trans K (K.key e) (K.key d) l p h.0), h)
      go Equal p k = (rw (S.stays e d (compare_same (K.key e) (K.key d) p)) h.0, h.1)
      go Greater p k = (above-put (K.key d) e l (more-below (K.key e) (K.key d) p) h.0, k)

  pub ascending-unite : (a b : List E) → Ascending K a → Ascending K (unite K a b)
  unfolding unite
  ascending-unite a [] h = h
  ascending-unite a (e ∷ b) h = ascending-unite (put K e a) b (ascending-put e a h)

-- ---- entries made into those of another kind, with the same keys
module _ {E P F Q : Type 0} (K : Kind E P) (L : Kind F Q) (f : E → F) (keys : (e : E) → L.key (f e) ≡ K.key e) where
  above-made : (x : List ℕ) (l : List E) → Above K x l → Above L x (map f l)
  above-made x [] h = tt
  above-made x (e ∷ l) h = (rw (keys e) h.0, above-made x l h.1)

  -- an ascending list stays so
  pub ascending-made : (l : List E) → Ascending K l → Ascending L (map f l)
  ascending-made [] h = tt
  ascending-made (e ∷ l) h = (rw (keys e) (above-made (K.key e) l h.0), ascending-made l h.1)

  -- what is put among the entries is put among those made of them, if those that are joined are
  pub put-made : ((e d : E) → f (joined K e d) ≡ joined L (f e) (f d)) → (e : E) (l : List E) → map f (put K e l) ≡ put L (f e) (map f l)
  unfolding put insert
  put-made joins e [] = refl
  put-made joins e (d ∷ l) = rw (keys e, keys d) (go (compare (K.key e) (K.key d)) (put-made joins e l))
    where
      go : (o : Ordering) → map f (put K e l) ≡ put L (f e) (map f l) → map f (insert K o e d l (put K e l)) ≡ insert L o (f e) (f d) (map f l) (put L (f e) (map f l))
      go Less ih = refl
      go Equal ih = ap (λ (x : F). x ∷ map f l) (joins e d)
      go Greater ih = ap (◌∷◌ (f d)) ih
