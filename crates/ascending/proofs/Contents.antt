-- Ascending lists by what they hold: a key's presence and its load are totals, a union has the keys of both with their loads joined, and two
-- ascending lists that agree in keys and loads are equal. Assumes nothing.
use Prim.Native.Nat.{ℕ}
use mathlib.Core.Path.{◌≡◌, refl, sym, ap, ap₂, ◌∙◌}
use mathlib.Core.Bool.{Bool, true, false, ◌||◌, cond, or_self, true≢false}
use mathlib.Core.List.{List, [], ◌∷◌, map, nil≢cons, cons≢nil, head-eq_of_cons-eq, tail-eq_of_cons-eq}
use lib.ListN.{length, length-map}
use Rattle.std.specs.declared.cmp.Ordering.{Ordering}
use Rattle.std.specs.declared.cmp.Ordering.TheVariants.{Less, Equal, Greater}
use Rattle.octets.specs.Order.{compare}
use Rattle.laws.specs.Lists.{same}
use Rattle.laws.specs.Joins.{total}
use Rattle.ascending.specs.Ascending.{Kind, insert, put, unite}
use Rattle.octets.proofs.Bytes.{same_refl, same_true}
use Rattle.octets.proofs.Ordered.{compare_same, more-below, below-same}
use Rattle.laws.proofs.Joins.{Joining, join-none, join-left, joining-or}
use Rattle.ascending.proofs.Ascends.{Keyed, Lawful, Stays, Above, Ascending, joined, keyed_stays, above-trans, ascending-unite}

module _ {E P : Type 0} (K : Kind E P) where
  -- an entry has the key x
  abbrev pub has : List ℕ → List E → Bool
  has x l = total ◌||◌ false (λ e. same x (K.key e)) l

  -- the load of the key x: none where no entry has it
  abbrev pub content : P → List ℕ → List E → P
  content none x l = total K.join none (λ e. cond (same x (K.key e)) (K.load e) none) l

  -- the same keys with other loads
  abbrev pub restated : (List ℕ → P) → List E → List E
  restated f l = map (λ e. K.make (K.key e) (f (K.key e))) l

-- ---- ascending lists of any kind
module _ {E P : Type 0} (K : Kind E P) where
  -- totals to which only an entry with the key x gives something
  module _ {A : Type 0} (join : A → A → A) (nil : A) (J : Joining join nil) (x : List ℕ) (f : E → A) (off : (e : E) → same x (K.key e) ≡ false → f e ≡ nil) where
    above-none : (l : List E) → Above K x l → total join nil f l ≡ nil
    above-none [] h = refl
    above-none (e ∷ l) h = rw (off e (below-same x (K.key e) h.0), above-none l h.1) (J.unit nil)

    tail-total : (d : E) (l : List E) → Above K (K.key d) l → total join nil f l ≡ cond (same x (K.key d)) nil (total join nil f (d ∷ l))
    tail-total d l h = go (same x (K.key d)) refl
      where
        go : (b : Bool) → same x (K.key d) ≡ b → total join nil f l ≡ cond b nil (total join nil f (d ∷ l))
        go true e = above-none l (rw (same_true x (K.key d) e) h)
        go false e = rw (off d e) (sym (J.unit _))

  pub head-has : (d : E) (l : List E) → has K (K.key d) (d ∷ l) ≡ true
  head-has d l = rw (same_refl (K.key d))

  pub above-has : (x : List ℕ) (l : List E) → Above K x l → has K x l ≡ false
  above-has x l = above-none ◌||◌ false joining-or x (λ e. same x (K.key e)) (λ e k. k) l

  tail-has : (d : E) (l : List E) → Above K (K.key d) l → (x : List ℕ) → has K x l ≡ cond (same x (K.key d)) false (has K x (d ∷ l))
  tail-has d l h x = tail-total ◌||◌ false joining-or x (λ e. same x (K.key e)) (λ e k. k) d l h

  -- two that have the same keys have them at the same places
  pub same_keys : (a b : List E) → Ascending K a → Ascending K b → ((x : List ℕ) → has K x a ≡ has K x b) → map K.key a ≡ map K.key b
  same_keys [] [] p q h = refl
  same_keys [] (e ∷ b) p q h = absurd (true≢false (sym (head-has e b) ∙ sym (h (K.key e))))
  same_keys (d ∷ a) [] p q h = absurd (true≢false (sym (head-has d a) ∙ h (K.key d)))
  same_keys (d ∷ a) (e ∷ b) p q h = go (compare (K.key d) (K.key e)) refl (same_keys a b p.1 q.1)
    where
      go : (o : Ordering) → compare (K.key d) (K.key e) ≡ o → (((x : List ℕ) → has K x a ≡ has K x b) → map K.key a ≡ map K.key b)
          → map K.key (d ∷ a) ≡ map K.key (e ∷ b)
      go Less v ih =
          absurd (true≢false (sym (head-has d a) ∙ h (K.key d) ∙ above-has (K.key d) (e ∷ b) (v, above-trans K (K.key d) (K.key e) b v q.0)))
      go Greater v ih =
          let w = more-below (K.key d) (K.key e) v in
          absurd (true≢false (sym (head-has e b) ∙ sym (h (K.key e)) ∙ above-has (K.key e) (d ∷ a) (w, above-trans K (K.key e) (K.key d) a w p.0)))
      go Equal v ih =
          let w : K.key d ≡ K.key e = compare_same (K.key d) (K.key e) v in
          ap₂ ◌∷◌ w (ih (λ x. tail-has d a p.0 x ∙ ap₂ (λ (y : List ℕ) (t : Bool). cond (same x y) false t) w (h x) ∙ sym (tail-has e b q.0 x)))

  -- as many entries as keys, whatever their loads
  pub same_length : (a b : List E) → Ascending K a → Ascending K b → ((x : List ℕ) → has K x a ≡ has K x b) → length a ≡ length b
  same_length a b p q h = sym (length-map a _) ∙ ap length (same_keys a b p q h) ∙ length-map b _

-- ---- totals of what each entry gives, where an entry of joined loads gives what the two give
module _ {E P : Type 0} (K : Kind E P) where
  module _ {A : Type 0} (join : A → A → A) (nil : A) (J : Joining join nil) (f : E → A)
      (add : (e d : E) → K.key e ≡ K.key d → f (joined K e d) ≡ join (f e) (f d)) where
    total-put : (e : E) (l : List E) → total join nil f (put K e l) ≡ join (f e) (total join nil f l)
    unfolding put insert
    total-put e [] = refl
    total-put e (d ∷ l) = go (compare (K.key e) (K.key d)) refl (total-put e l)
      where
        go : (o : Ordering) → compare (K.key e) (K.key d) ≡ o → total join nil f (put K e l) ≡ join (f e) (total join nil f l)
            → total join nil f (insert K o e d l (put K e l)) ≡ join (f e) (join (f d) (total join nil f l))
        go Less p ih = refl
        go Equal p ih = rw (add e d (compare_same (K.key e) (K.key d) p)) (J.assoc _ _ _)
        go Greater p ih = ap (join (f d)) ih ∙ join-left join nil J (f d) (f e) (total join nil f l)

    total-unite : (a b : List E) → total join nil f (unite K a b) ≡ join (total join nil f a) (total join nil f b)
    unfolding unite
    total-unite a [] = sym (join-none join nil J _)
    total-unite a (e ∷ b) = total-unite (put K e a) b ∙ ap (λ (y : A). join y (total join nil f b)) (total-put e a ∙ J.comm _ _) ∙ J.assoc _ _ _

-- ---- kinds that keep a key where two loads of it are joined
module _ {E P : Type 0} (K : Kind E P) (S : Stays K) where
  has-joined : (x : List ℕ) (e d : E) → K.key e ≡ K.key d → same x (K.key (joined K e d)) ≡ (same x (K.key e) || same x (K.key d))
  has-joined x e d h = rw (S.stays e d h, h) (sym (or_self (same x (K.key d))))

  pub has-unite : (x : List ℕ) (a b : List E) → has K x (unite K a b) ≡ (has K x a || has K x b)
  has-unite x = total-unite K ◌||◌ false joining-or (λ e. same x (K.key e)) (has-joined x)

  -- ---- two ascending lists united in either order
  module _ (a b : List E) (h : Ascending K a) (k : Ascending K b) where
    has_either : (x : List ℕ) → has K x (unite K a b) ≡ has K x (unite K b a)
    has_either x = has-unite x a b ∙ joining-or.comm (has K x a) (has K x b) ∙ sym (has-unite x b a)

    -- have the same keys at the same places
    pub unite-keys : map K.key (unite K a b) ≡ map K.key (unite K b a)
    unite-keys = same_keys K (unite K a b) (unite K b a) (ascending-unite K S a b h) (ascending-unite K S b a k) has_either

    -- and so are equally long
    pub unite-length : length (unite K a b) ≡ length (unite K b a)
    unite-length = same_length K (unite K a b) (unite K b a) (ascending-unite K S a b h) (ascending-unite K S b a k) has_either

-- ---- kinds whose parts fit together
module _ {E P : Type 0} (K : Kind E P) (M : Keyed K) where
  -- the same keys with other loads
  above-restated : (x : List ℕ) (f : List ℕ → P) (l : List E) → Above K x l → Above K x (restated K f l)
  above-restated x f [] h = tt
  above-restated x f (e ∷ l) h = (rw (M.key-made (K.key e) (f (K.key e))) h.0, above-restated x f l h.1)

  pub ascending-restated : (f : List ℕ → P) (l : List E) → Ascending K l → Ascending K (restated K f l)
  ascending-restated f [] h = tt
  ascending-restated f (e ∷ l) h = (rw (M.key-made (K.key e) (f (K.key e))) (above-restated (K.key e) f l h.0), ascending-restated f l h.1)

  pub has-restated : (x : List ℕ) (f : List ℕ → P) (l : List E) → has K x (restated K f l) ≡ has K x l
  has-restated x f [] = refl
  has-restated x f (e ∷ l) = rw (M.key-made (K.key e) (f (K.key e)), has-restated x f l)

-- ---- kinds whose loads join
module _ {E P : Type 0} (K : Kind E P) (none : P) (L : Lawful K none) where
  pub content-unite : (x : List ℕ) (a b : List E) → content K none x (unite K a b) ≡ K.join (content K none x a) (content K none x b)
  content-unite x =
      total-unite K K.join none L.joining (λ e. cond (same x (K.key e)) (K.load e) none)
      (λ e d h. rw (L.keyed.key-made (K.key d) (K.join (K.load e) (K.load d)), L.keyed.load-made (K.key d) (K.join (K.load e) (K.load d)), h)
      (elim (same x (K.key d)) as (λ t. cond t (K.join (K.load e) (K.load d)) none ≡ K.join (cond t (K.load e) none) (cond t (K.load d) none)) [ false ↦ sym (L.joining.idem none) | true ↦ refl ]))

  -- a key that no entry has holds nothing
  pub content-absent : (x : List ℕ) (l : List E) → has K x l ≡ false → content K none x l ≡ none
  content-absent x [] h = refl
  content-absent x (e ∷ l) h = go (same x (K.key e)) refl (content-absent x l)
    where
      go : (t : Bool) → same x (K.key e) ≡ t → (has K x l ≡ false → content K none x l ≡ none) → content K none x (e ∷ l) ≡ none
      go true p ih = absurd (true≢false (rw p at h))
      go false p ih = rw (p, ih (rw p at h)) (L.joining.unit none)

  pub content-restated : (x : List ℕ) (f : List ℕ → P) (l : List E) → content K none x (restated K f l) ≡ cond (has K x l) (f x) none
  content-restated x f [] = refl
  content-restated x f (e ∷ l) =
      rw (L.keyed.key-made (K.key e) (f (K.key e)), L.keyed.load-made (K.key e) (f (K.key e)), content-restated x f l) (go (same x (K.key e)) refl (has K x l))
    where
      go : (n : Bool) → same x (K.key e) ≡ n → (b : Bool) → K.join (cond n (f (K.key e)) none) (cond b (f x) none) ≡ cond (n || b) (f x) none
      go true p true = rw (← same_true x (K.key e) p) (L.joining.idem _)
      go true p false = rw (← same_true x (K.key e) p) (join-none K.join none L.joining _)
      go false p b = L.joining.unit _

  content-off : (x : List ℕ) (e : E) → same x (K.key e) ≡ false → cond (same x (K.key e)) (K.load e) none ≡ none
  content-off x e h = rw h

  module _ (d : E) (l : List E) (h : Above K (K.key d) l) where
    head-content : content K none (K.key d) (d ∷ l) ≡ K.load d
    head-content =
        rw (same_refl (K.key d), above-none K K.join none L.joining (K.key d) (λ e. cond (same (K.key d) (K.key e)) (K.load e) none) (content-off (K.key d)) l h)
        (join-none K.join none L.joining (K.load d))

    tail-content : (x : List ℕ) → content K none x l ≡ cond (same x (K.key d)) none (content K none x (d ∷ l))
    tail-content x = tail-total K K.join none L.joining x (λ e. cond (same x (K.key e)) (K.load e) none) (content-off x) d l h

  -- the same keys at the same places, with the same loads
  same-loads : (a b : List E) → map K.key a ≡ map K.key b → Ascending K a → Ascending K b
      → ((x : List ℕ) → content K none x a ≡ content K none x b) → a ≡ b
  same-loads [] [] v p q k = refl
  same-loads [] (e ∷ b) v p q k = absurd (nil≢cons v)
  same-loads (d ∷ a) [] v p q k = absurd (cons≢nil v)
  same-loads (d ∷ a) (e ∷ b) v p q k =
      let w : K.key d ≡ K.key e = head-eq_of_cons-eq v in
      ap₂ ◌∷◌
      (sym (L.keyed.made d)
      ∙ ap₂ K.make w (sym (head-content d a p.0) ∙ k (K.key d) ∙ ap (λ (x : List ℕ). content K none x (e ∷ b)) w ∙ head-content e b q.0)
      ∙ L.keyed.made e)
      (same-loads a b (tail-eq_of_cons-eq v) p.1 q.1
      (λ x. tail-content d a p.0 x ∙ ap₂ (λ (y : List ℕ) (t : P). cond (same x y) none t) w (k x) ∙ sym (tail-content e b q.0 x)))

  -- two ascending lists with the same keys and the same loads are equal
  pub same_entries : (a b : List E) → Ascending K a → Ascending K b
      → ((x : List ℕ) → has K x a ≡ has K x b) → ((x : List ℕ) → content K none x a ≡ content K none x b) → a ≡ b
  same_entries a b p q h k = same-loads a b (same_keys K a b p q h) p q k

  -- ascending lists united in either order, and with themselves
  pub unite-comm : (a b : List E) → Ascending K a → Ascending K b → unite K a b ≡ unite K b a
  unite-comm a b h k =
      same_entries (unite K a b) (unite K b a) (ascending-unite K (keyed_stays K L.keyed) a b h) (ascending-unite K (keyed_stays K L.keyed) b a k)
      (λ x. has-unite K (keyed_stays K L.keyed) x a b ∙ joining-or.comm (has K x a) (has K x b) ∙ sym (has-unite K (keyed_stays K L.keyed) x b a))
      (λ x. content-unite x a b ∙ L.joining.comm _ _ ∙ sym (content-unite x b a))

  pub unite-self : (a : List E) → Ascending K a → unite K a a ≡ a
  unite-self a h =
      same_entries (unite K a a) a (ascending-unite K (keyed_stays K L.keyed) a a h) h
      (λ x. has-unite K (keyed_stays K L.keyed) x a a ∙ joining-or.idem (has K x a))
      (λ x. content-unite x a a ∙ L.joining.idem _)
