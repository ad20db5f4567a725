-- Lists in which of two entries with one key the first is kept: united with itself a list stays as it is, and it doesn't matter which of three are united
-- first. Assumes nothing.
use mathlib.Core.Path.{◌≡◌, refl, sym, ap, ◌∙◌}
use mathlib.Core.Bool.{Bool, true, false, true≢false, ◌||◌, or-true}
use mathlib.Core.List.{List, [], ◌∷◌}
use Prim.Native.Nat.{ℕ}
use native.Mathlib.Omega.{arith}
use Rattle.std.specs.declared.cmp.Ordering.{Ordering}
use Rattle.std.specs.declared.cmp.Ordering.TheVariants.{Less, Equal, Greater}
use Rattle.laws.specs.Lists.{all, same}
use Rattle.octets.specs.Order.{compare}
use Rattle.ascending.specs.Ascending.{Kind, insert, put, unite}
use Rattle.octets.proofs.Bytes.{same_true}
use Rattle.laws.proofs.Lists.{all_head, all_tail, all_cons, all-imp}
use Rattle.octets.proofs.Ordered.{Below, compare_refl, compare_same, compare-trans, more-below}
use Rattle.ascending.proofs.Ascends.{Stays, Above, Ascending, joined, above-trans, put-less, put_same, put-more, ascending-put, ascending-unite}
use Rattle.ascending.proofs.Contents.{has, above-has, head-has, has-unite}

-- no list comes before itself
not-below : (x : List ℕ) → Below x x → ⊥
not-below x h = let r = compare_refl x in let z : ◌≡◌ {A = ℕ} 0 1 = cc in absurd (omega arith)

-- a list is another one than what comes before it
below-differs : (x y : List ℕ) → Below y x → same x y ≡ false
below-differs x y h = go (same x y) refl
  where
    go : (t : Bool) → same x y ≡ t → t ≡ false
    go true e = absurd (not-below y (rw (same_true x y e) at h))
    go false e = refl

module _ {E P : Type 0} (K : Kind E P) (first : (e d : E) → joined K e d ≡ d) where
  stays : Stays K
  stays = record { stays = λ e d h. ap K.key (first e d) }

  -- ---- what is there already changes nothing
  pub put-there : (e : E) (l : List E) → Ascending K l → has K (K.key e) l ≡ true → put K e l ≡ l
  unfolding put insert
  put-there e [] a h = absurd (true≢false (sym h))
  put-there e (d ∷ l) a h = go (compare (K.key e) (K.key d)) refl (put-there e l a.1)
    where
      go : (o : Ordering) → compare (K.key e) (K.key d) ≡ o → (has K (K.key e) l ≡ true → put K e l ≡ l) → insert K o e d l (put K e l) ≡ d ∷ l
      go Less p ih = absurd (true≢false (sym h ∙ above-has K (K.key e) (d ∷ l) (p, above-trans K (K.key e) (K.key d) l p a.0)))
      go Equal p ih = ap (λ (x : E). x ∷ l) (first e d)
      go Greater p ih = ap (◌∷◌ d) (ih (rw (below-differs (K.key e) (K.key d) (more-below (K.key e) (K.key d) p)) at h))

  unite-there : (a b : List E) → Ascending K a → all (λ e. has K (K.key e) a) b ≡ true → unite K a b ≡ a
  unfolding unite
  unite-there a [] p h = refl
  unite-there a (e ∷ b) p h =
      ap (λ (l : List E). unite K l b) (put-there e a p (all_head (λ d. has K (K.key d) a) e b h)) ∙ unite-there a b p (all_tail (λ d. has K (K.key d) a) e b h)

  has-own : (l : List E) → all (λ e. has K (K.key e) l) l ≡ true
  unfolding all
  has-own [] = refl
  has-own (d ∷ l) =
      all_cons (λ e. has K (K.key e) (d ∷ l)) d l (head-has K d l)
      (all-imp (λ e. has K (K.key e) l) (λ e. has K (K.key e) (d ∷ l)) (λ e h. rw h (or-true (same (K.key e) (K.key d)))) l (has-own l))

  -- a list united with itself stays as it is
  pub unite-own : (a : List E) → Ascending K a → unite K a a ≡ a
  unite-own a h = unite-there a a h (has-own a)

  -- ---- entries with different keys are put in either order
  put_both : (e d : E) → Below (K.key e) (K.key d) → (l : List E) → put K e (put K d l) ≡ put K d (put K e l)
  unfolding put insert
  put_both e d b [] = put-less K e d [] b ∙ sym (put-more K d e [] b)
  put_both e d b (x ∷ l) = go (compare (K.key e) (K.key x)) refl (compare (K.key d) (K.key x)) refl (put_both e d b l)
    where
      go : (o : Ordering) → compare (K.key e) (K.key x) ≡ o → (q : Ordering) → compare (K.key d) (K.key x) ≡ q → put K e (put K d l) ≡ put K d (put K e l)
          → put K e (insert K q d x l (put K d l)) ≡ put K d (insert K o e x l (put K e l))
      go Less p Less r ih = put-less K e d (x ∷ l) b ∙ ap (◌∷◌ e) (sym (put-less K d x l r)) ∙ sym (put-more K d e (x ∷ l) b)
      go Less p Equal r ih =
          ap (λ (y : E). put K e (y ∷ l)) (first d x)
          ∙ put-less K e x l p
          ∙ ap (λ (y : E). e ∷ y ∷ l) (sym (first d x))
          ∙ ap (◌∷◌ e) (sym (put_same K d x l (compare_same (K.key d) (K.key x) r)))
          ∙ sym (put-more K d e (x ∷ l) b)
      go Less p Greater r ih = put-less K e x (put K d l) p ∙ ap (◌∷◌ e) (sym (put-more K d x l (more-below (K.key d) (K.key x) r))) ∙ sym (put-more K d e (x ∷ l) b)
      go Equal p Less r ih = absurd (not-below (K.key x) (rw (compare_same (K.key e) (K.key x) p) at (compare-trans (K.key e) (K.key d) (K.key x) b r)))
      go Equal p Equal r ih = absurd (not-below (K.key d) (rw (compare_same (K.key e) (K.key x) p ∙ sym (compare_same (K.key d) (K.key x) r)) at b))
      go Equal p Greater r ih =
          put_same K e x (put K d l) (compare_same (K.key e) (K.key x) p)
          ∙ ap (λ (y : E). y ∷ put K d l) (first e x)
          ∙ sym (put-more K d x l (more-below (K.key d) (K.key x) r))
          ∙ ap (λ (y : E). put K d (y ∷ l)) (sym (first e x))
      go Greater p Less r ih =
          absurd (not-below (K.key x) (compare-trans (K.key x) (K.key d) (K.key x) (compare-trans (K.key x) (K.key e) (K.key d) (more-below (K.key e) (K.key x) p) b) r))
      go Greater p Equal r ih =
          absurd (not-below (K.key x) (rw (compare_same (K.key d) (K.key x) r) at (compare-trans (K.key x) (K.key e) (K.key d) (more-below (K.key e) (K.key x) p) b)))
      go Greater p Greater r ih =
          put-more K e x (put K d l) (more-below (K.key e) (K.key x) p)
          ∙ ap (◌∷◌ x) ih
          ∙ sym (put-more K d x (put K e l) (more-below (K.key d) (K.key x) r))

  -- ---- one put, and others united
  unite-below : (e : E) (a b : List E) → Above K (K.key e) b → unite K (put K e a) b ≡ put K e (unite K a b)
  unfolding unite
  unite-below e a [] h = refl
  unite-below e a (d ∷ b) h = ap (λ (l : List E). unite K l b) (sym (put_both e d h.0 a)) ∙ unite-below e (put K d a) b h.1

  unite-put : (e : E) (b a : List E) → Ascending K a → Ascending K b → unite K a (put K e b) ≡ put K e (unite K a b)
  unfolding unite put insert
  unite-put e [] a p q = refl
  unite-put e (d ∷ b) a p q = go (compare (K.key e) (K.key d)) refl (unite-put e b (put K d a) (ascending-put K stays d a p) q.1)
    where
      go : (o : Ordering) → compare (K.key e) (K.key d) ≡ o → unite K (put K d a) (put K e b) ≡ put K e (unite K (put K d a) b)
          → unite K a (insert K o e d b (put K e b)) ≡ put K e (unite K a (d ∷ b))
      go Less r ih = unite-below e a (d ∷ b) (r, above-trans K (K.key e) (K.key d) b r q.0)
      go Equal r ih =
          let k : K.key e ≡ K.key d = compare_same (K.key e) (K.key d) r in
          let h : has K (K.key e) (unite K a (d ∷ b)) ≡ true =
          has-unite K stays (K.key e) a (d ∷ b) ∙ ap (λ (x : List ℕ). has K (K.key e) a || has K x (d ∷ b)) k ∙ rw (head-has K d b) (or-true (has K (K.key e) a)) in
          ap (λ (x : E). unite K a (x ∷ b)) (first e d) ∙ sym (put-there e (unite K a (d ∷ b)) (ascending-unite K stays a (d ∷ b) p) h)
      go Greater r ih = ih

  -- ---- three lists
  pub unite-assoc : (c a b : List E) → Ascending K a → Ascending K b → unite K (unite K a b) c ≡ unite K a (unite K b c)
  unfolding unite
  unite-assoc [] a b p q = refl
  unite-assoc (e ∷ c) a b p q = ap (λ (l : List E). unite K l c) (sym (unite-put e b a p q)) ∙ unite-assoc c a (put K e b) p (ascending-put K stays e b q)
