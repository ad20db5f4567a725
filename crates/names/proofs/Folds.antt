-- Laws of the fold and of equal names. Only this file, and examples that are computed, open the fold's definition. Assumes nothing.
use mathlib.Core.Path.{◌≡◌, refl, sym, ap, ap₂, ◌∙◌}
use mathlib.Core.Bool.{Bool, true, false, true≢false}
use mathlib.Core.Logic.{◌⊎◌, inl, inr}
use mathlib.Core.List.{List, [], ◌∷◌, map}
use Prim.Native.Nat.{ℕ, ◌+◌, ◌≤◌, ◌<◌}
use native.Mathlib.Omega.{arith}
use lib.ListN.{length, drop, get_or, length-map}
use lib.Dec.{eqb, leb}
use lib.Bits.{bit_or}
use borrow.Author.Tests.{eq-eqb, ne_eqb, eqb-true, eqb-false, leb-true, leb-false}
use Rattle.octets.specs.Bytes.{within}
use Rattle.octets.proofs.Bytes.{within-bounds, bounds-within, below-within, above_within, same_refl, same_true}
use Rattle.laws.specs.Lists.{same_by}
use Rattle.laws.proofs.Bools.{both_ways}
use Rattle.laws.proofs.Bounded.{all_below, all-below}
use Rattle.laws.proofs.Lists.{map-twice, same_by-lengths, same_by-differ, same_by-map-left, same_by-map-right, same_by-past, same_by-stop, same_by-go}
use Rattle.names.specs.Fold.{caret, tilde, fold, with_caret, alike, same_name}
use Rattle.names.specs.Names.{hash}
use Rattle.names.specs.Private.Likeness.{likeness}
use Rattle.std.specs.List.{list_all, zip}
use Rattle.laws.proofs.Chains.{same_zipped}

-- ---- single bytes
-- no byte below 'A' is folded
pub fold-low : (b : ℕ) → b < 65 → fold b ≡ b
unfolding fold
fold-low b h = simp (below-within 65 b 90 h, ne_eqb b 91 (λ q. omega arith), ne_eqb b 93 (λ q. omega arith), ne_eqb b 92 (λ q. omega arith), ne_eqb b tilde (λ q. omega arith))

-- each from 'A' to ']' is folded to the one 32 further on
pub fold-between : (b : ℕ) → 65 ≤ b → b ≤ 93 → fold b ≡ b + 32
unfolding fold
fold-between b h k = go (leb b 90) refl (eqb b 91) refl (eqb b 93) refl (eqb b 92) refl
  where
    go : (t : Bool) → leb b 90 ≡ t → (u : Bool) → eqb b 91 ≡ u → (v : Bool) → eqb b 93 ≡ v → (w : Bool) → eqb b 92 ≡ w → fold b ≡ b + 32
    go true e u f v g w i = rw (bounds-within 65 b 90 h (leb-true b 90 e))
    go false e true f v g w i = simp (above_within 65 b 90 (leb-false b 90 e), f) (omega (arith, eqb-true b 91 f))
    go false e false f true g w i = simp (above_within 65 b 90 (leb-false b 90 e), f, g) (omega (arith, eqb-true b 93 g))
    go false e false f false g true i = simp (above_within 65 b 90 (leb-false b 90 e), f, g, i) (omega (arith, eqb-true b 92 i))
    go false e false f false g false i = absurd (omega (arith, leb-false b 90 e, eqb-false b 91 f, eqb-false b 93 g, eqb-false b 92 i))

-- above ']' '~' becomes '^', and no other byte is folded
pub fold-high : (b : ℕ) → 93 < b → fold b ≡ with_caret b
unfolding fold
fold-high b h = simp (above_within 65 b 90 (omega arith), ne_eqb b 91 (λ q. omega arith), ne_eqb b 93 (λ q. omega arith), ne_eqb b 92 (λ q. omega arith))

-- a byte's fold is the byte itself, or lies from '^' to '}'
folded : (b : ℕ) → ((93 < fold b) × (fold b < tilde)) ⊎ (fold b ≡ b)
folded b = go (leb 65 b) refl (leb b 93) refl (eqb b tilde) refl
  where
    go : (t : Bool) → leb 65 b ≡ t → (u : Bool) → leb b 93 ≡ u → (v : Bool) → eqb b tilde ≡ v → ((93 < fold b) × (fold b < tilde)) ⊎ (fold b ≡ b)
    go false e u f v g = inr (fold-low b (leb-false 65 b e))
    go true e true f v g = let k = fold-between b (leb-true 65 b e) (leb-true b 93 f) in inl (omega (arith, k, leb-true 65 b e), omega (arith, k, leb-true b 93 f))
    go true e false f true g = let k : fold b ≡ caret = fold-high b (leb-false b 93 f) ∙ rw g in inl (omega (arith, k), omega (arith, k))
    go true e false f false g = inr (fold-high b (leb-false b 93 f) ∙ rw g)

pub fold-idempotent : (b : ℕ) → fold (fold b) ≡ fold b
fold-idempotent b = go (folded b)
  where
    go : ((93 < fold b) × (fold b < tilde)) ⊎ (fold b ≡ b) → fold (fold b) ≡ fold b
    go (inl h) = fold-high (fold b) h.0 ∙ rw (ne_eqb (fold b) tilde (λ q. omega (arith, h.1)))
    go (inr e) = ap fold e

pub fold-hash : fold hash ≡ hash
fold-hash = fold-low hash (omega arith)

-- no other byte's fold is '#'
pub hash-fold : (b : ℕ) → fold b ≡ hash → b ≡ hash
hash-fold b e = go (folded b)
  where
    go : ((93 < fold b) × (fold b < tilde)) ⊎ (fold b ≡ b) → b ≡ hash
    go (inl h) = absurd (omega (arith, h.0))
    go (inr f) = sym f ∙ e

-- a fold changes no bit but that of 32
abbrev keeps_others : ℕ → Bool
keeps_others b = eqb (bit_or (fold b) 32) (bit_or b 32)

all_keep : all_below 256 keeps_others ≡ true
unfolding all_below fold within
all_keep = refl

fold-keeps : (b : ℕ) → b < 256 → bit_or (fold b) 32 ≡ bit_or b 32
fold-keeps b h = eqb-true (bit_or (fold b) 32) (bit_or b 32) (all-below keeps_others 256 b all_keep h)

-- so bytes that differ in another bit have different folds
pub folds-differ : (a b : ℕ) → a < 256 → b < 256 → (bit_or a 32 ≡ bit_or b 32 → ⊥) → alike a b ≡ false
folds-differ a b h k ne = ne_eqb (fold a) (fold b) (λ e. ne (sym (fold-keeps a h) ∙ ap (λ (x : ℕ). bit_or x 32) e ∙ fold-keeps b k))

-- ---- '^' in the place of '~'
-- it doesn't change the fold
fold-with-caret : (b : ℕ) → fold (with_caret b) ≡ fold b
fold-with-caret b = go (eqb b tilde) refl
  where
    go : (t : Bool) → eqb b tilde ≡ t → fold (with_caret b) ≡ fold b
    go true e = rw (e, eqb-true b tilde e) (fold-high caret (omega arith) ∙ sym (fold-high tilde (omega arith)))
    go false e = rw e

-- ---- the likeness of a byte
-- with '^' in the place of '~' it is the fold
fold-likeness : (b : ℕ) → fold b ≡ with_caret (likeness b)
unfolding likeness
fold-likeness b = go (leb 65 b) refl (leb b 93) refl (eqb b caret) refl
  where
    go : (t : Bool) → leb 65 b ≡ t → (u : Bool) → leb b 93 ≡ u → (v : Bool) → eqb b caret ≡ v → fold b ≡ with_caret (likeness b)
    go false e u f v g = let h = leb-false 65 b e in rw (below-within 65 b caret h, ne_eqb b tilde (λ q. omega arith)) (fold-low b h)
    go true e true f v g =
        let h = leb-true 65 b e in
        let k = leb-true b 93 f in
        rw (bounds-within 65 b caret h (omega arith), ne_eqb (b + 32) tilde (λ q. omega arith)) (fold-between b h k)
    go true e false f true g = let q = eqb-true b caret g in rw (bounds-within 65 b caret (leb-true 65 b e) (omega arith), q) (fold-high caret (omega arith))
    go true e false f false g =
        let k = leb-false b 93 f in
        let n = eqb-false b caret g in
        rw (above_within 65 b caret (omega arith)) (fold-high b k)

-- itself it is never '^'
likeness-caret : (b : ℕ) → likeness b ≡ caret → ⊥
unfolding likeness
likeness-caret b = go (within 65 b caret) refl
  where
    go : (t : Bool) → within 65 b caret ≡ t → likeness b ≡ caret → ⊥
    go true e q = let k : b + 32 ≡ caret = rw e at q in omega (arith, (within-bounds 65 b caret e).0)
    go false e q = let k : b ≡ caret = rw e at q in true≢false (sym (bounds-within 65 b caret (omega arith) (omega arith)) ∙ e)

-- and bytes other than '^' that become the same are the same
caret-back : (x y : ℕ) → (x ≡ caret → ⊥) → (y ≡ caret → ⊥) → with_caret x ≡ with_caret y → x ≡ y
caret-back x y n m = go (eqb x tilde) refl (eqb y tilde) refl
  where
    go : (t : Bool) → eqb x tilde ≡ t → (u : Bool) → eqb y tilde ≡ u → with_caret x ≡ with_caret y → x ≡ y
    go true e true f q = eqb-true x tilde e ∙ sym (eqb-true y tilde f)
    go true e false f q = absurd (m (sym (rw (e, f) at q)))
    go false e true f q = absurd (n (rw (e, f) at q))
    go false e false f q = rw (e, f) at q

-- so bytes are alike exactly if it is the same of both
pub alike-likeness : (a b : ℕ) → alike a b ≡ eqb (likeness a) (likeness b)
alike-likeness a b =
    both_ways (alike a b) (eqb (likeness a) (likeness b))
    (λ e. eq-eqb (likeness a) (likeness b) (caret-back _ _ (likeness-caret a) (likeness-caret b) (sym (fold-likeness a) ∙ eqb-true (fold a) (fold b) e ∙ fold-likeness b)))
    (λ e. eq-eqb (fold a) (fold b) (fold-likeness a ∙ ap with_caret (eqb-true (likeness a) (likeness b) e) ∙ sym (fold-likeness b)))

-- what bytes that are alike are known by
pub ruleset likenesses = (alike-likeness, folds-differ)

-- ---- whole names
-- the fold keeps the length
pub length-folds : (a : List ℕ) → length (map fold a) ≡ length a
length-folds a = length-map a fold

-- a folded name is its own fold
pub folds-idempotent : (a : List ℕ) → map fold (map fold a) ≡ map fold a
folds-idempotent a = map-twice fold fold-idempotent a

-- names are equal exactly if their folds are
module _ (a b : List ℕ) where
  pub name-folds : same_name a b ≡ true → map fold a ≡ map fold b
  unfolding same_name
  name-folds e = same_true (map fold a) (map fold b) e

  pub folds-name : map fold a ≡ map fold b → same_name a b ≡ true
  unfolding same_name
  folds-name e = rw e (same_refl (map fold b))

-- '~' and '^' are one letter (document 02, §4): what differs in these alone has one fold
folds-with-caret : (a : List ℕ) → map fold (map with_caret a) ≡ map fold a
folds-with-caret [] = refl
folds-with-caret (b ∷ a) = ap₂ ◌∷◌ (fold-with-caret b) (folds-with-caret a)

module _ (a b : List ℕ) (e : map with_caret a ≡ map with_caret b) where
  pub tilde-folds : map fold a ≡ map fold b
  tilde-folds = sym (folds-with-caret a) ∙ ap (map fold) e ∙ folds-with-caret b

  pub tilde-name : same_name a b ≡ true
  tilde-name = folds-name a b tilde-folds

pub name-refl : (a : List ℕ) → same_name a a ≡ true
name-refl a = folds-name a a refl

pub name-sym : (a b : List ℕ) → same_name a b ≡ true → same_name b a ≡ true
name-sym a b e = folds-name b a (sym (name-folds a b e))

pub name-trans : (a b c : List ℕ) → same_name a b ≡ true → same_name b c ≡ true → same_name a c ≡ true
name-trans a b c e f = folds-name a c (name-folds a b e ∙ name-folds b c f)

-- ---- byte by byte
name-bytes : (a b : List ℕ) → same_name a b ≡ same_by alike a b
unfolding same_name
name-bytes a b = same_by-map-left eqb fold a (map fold b) ∙ same_by-map-right (λ x y. eqb (fold x) y) fold a b

-- equal names are equally long
module _ (a b : List ℕ) where
  pub name-lengths : same_name a b ≡ true → length a ≡ length b
  name-lengths e = same_by-lengths alike a b (sym (name-bytes a b) ∙ e)

  -- names of other lengths are other names
  pub lengths_differ : (length a ≡ length b → ⊥) → same_name a b ≡ false
  lengths_differ ne = name-bytes a b ∙ same_by-differ alike a b ne

  -- names of one length are equal exactly if their bytes are alike in pairs
  pub name-zipped : length a ≡ length b → list_all (λ p. alike p.0 p.1) (zip a b) ≡ same_name a b
  name-zipped e = same_zipped alike a b e ∙ sym (name-bytes a b)

-- at a place of both
module _ (a b : List ℕ) (i : ℕ) where
  module _ (h : i < length a) (k : i < length b) where
    -- other bytes make other names
    pub name-stop : (fold (get_or a i 0) ≡ fold (get_or b i 0) → ⊥) → same_name (drop i a) (drop i b) ≡ false
    name-stop ne = name-bytes (drop i a) (drop i b) ∙ same_by-stop alike a b i 0 h k (ne_eqb _ _ ne)

    -- behind equal bytes the others decide
    pub name-go : fold (get_or a i 0) ≡ fold (get_or b i 0) → same_name (drop i a) (drop i b) ≡ same_name (drop (i + 1) a) (drop (i + 1) b)
    name-go e = name-bytes (drop i a) (drop i b) ∙ same_by-go alike a b i 0 h k (eq-eqb _ _ e) ∙ sym (name-bytes (drop (i + 1) a) (drop (i + 1) b))

  -- past both there is nothing that could differ
  pub name-past : length a ≤ i → length b ≤ i → same_name (drop i a) (drop i b) ≡ true
  name-past h k = name-bytes (drop i a) (drop i b) ∙ same_by-past alike a b i h k
