-- Laws of sets of links: which links are in a set after one is registered or dropped, that doing so twice changes nothing more, and which links the
-- relay set has. Assumes nothing.
use mathlib.Core.Path.{◌≡◌, refl, sym, ap, ◌∙◌}
use mathlib.Core.Bool.{Bool, true, false, not, cond, ◌&&◌, ◌||◌, and-true, and-false, and_assoc, and_self, or-false}
use Prim.Native.Nat.{ℕ, zero, suc, ◌-◌, ◌^◌, ◌≤◌, ◌<◌}
use native.Mathlib.Omega.{arith}
use lib.Bits.{bit_or}
use lib.Dec.{eqb, ltb}
use lib.Pow.{pow_pos}
use borrow.Author.Tests.{lt-ltb, le-ltb, eqb-true, eqb-false, ltb-true, ltb-false}
use Rattle.laws.specs.Bits.{has_bit}
use Rattle.laws.proofs.Joins.{joining-bits}
use Rattle.laws.proofs.Bitwise.{bit-small, bit_past, bit-union, bit-power, bit-off, same_bits}
use Rattle.links.specs.declared.Links.{Links}
use Rattle.links.specs.Links.{link_count, is_link, has_link, links, with_link, set_below, all_links, less_link, without_link, relay_set}

-- ---- one registered
module _ (l : Links) (link : ℕ) where
  pub with-is : link < link_count → with_link l link ≡ links (bit_or l.set (2 ^ link))
  unfolding with_link
  with-is h = rw (lt-ltb link link_count h)

  pub with_none : link_count ≤ link → with_link l link ≡ l
  unfolding with_link
  with_none h = rw (le-ltb link link_count h)

  pub has-with : (j : ℕ) → has_bit (with_link l link).set j ≡ has_bit l.set j || (is_link link && eqb j link)
  has-with j = go (is_link link) refl
    where
      go : (t : Bool) → is_link link ≡ t → has_bit (with_link l link).set j ≡ has_bit l.set j || (is_link link && eqb j link)
      go true e = rw (with-is (ltb-true link link_count e), e, bit-union l.set (2 ^ link) j, bit-power link j)
      go false e = rw (with_none (ltb-false link link_count e), e) (sym (or-false (has_bit l.set j)))

-- ---- the set of the links that pass a test
one_bit : (t : Bool) (n k : ℕ) → has_bit (cond t (2 ^ n) 0) k ≡ t && eqb k n
one_bit true n k = bit-power n k
one_bit false n k = bit-small 0 k (pow_pos k)

has-below : (test : ℕ → Bool) (n k : ℕ) → has_bit (set_below n test) k ≡ ltb k n && test k
unfolding set_below
has-below test zero k = bit-small 0 k (pow_pos k) ∙ rw (le-ltb k 0 (omega arith))
has-below test (suc n) k = bit-union (set_below n test) (cond (test n) (2 ^ n) 0) k ∙ rw (has-below test n k, one_bit (test n) n k) (go (eqb k n) refl (ltb k n) refl)
  where
    go : (t : Bool) → eqb k n ≡ t → (u : Bool) → ltb k n ≡ u → (ltb k n && test k) || (test n && eqb k n) ≡ ltb k (suc n) && test k
    go true e u f = let h = eqb-true k n e in rw (e, le-ltb k n (omega arith), lt-ltb k (suc n) (omega arith), h) (and-true (test n))
    go false e true f = rw (e, f, lt-ltb k (suc n) (omega (arith, ltb-true k n f)), and-false, or-false)
    go false e false f = rw (e, f, le-ltb k (suc n) (omega (arith, eqb-false k n e, ltb-false k n f)), and-false)

-- every link is in the set of them all, and no other number
pub has_all : (k : ℕ) → has_link all_links.set k ≡ is_link k
unfolding all_links
has_all k = rw (has-below (λ i. true) link_count k, and-true (is_link k)) (and_self (is_link k))

-- a set of 32 bits has no bit past the last link
pub linked : (set link : ℕ) → set < 2 ^ link_count → has_link set link ≡ has_bit set link
linked set link s = go (is_link link) refl
  where
    go : (t : Bool) → is_link link ≡ t → has_link set link ≡ has_bit set link
    go true e = rw e
    go false e = rw e (sym (bit_past set link_count link s (ltb-false link link_count e)))

-- ---- one dropped
module _ (s k : ℕ) where
  pub has-less : (j : ℕ) → has_bit (less_link s k) j ≡ has_link s j && not (eqb j k)
  unfolding less_link
  has-less j = has-below (λ i. has_bit s i && not (eqb i k)) link_count j ∙ sym (and_assoc (is_link j) (has_bit s j) (not (eqb j k)))

  -- of a set of 32 bits
  module _ (small : s < 2 ^ link_count) where
    own : (j : ℕ) → has_bit (less_link s k) j ≡ has_bit s j && not (eqb j k)
    own j = has-less j ∙ ap (λ (t : Bool). t && not (eqb j k)) (linked s j small)

    pub less-in : has_bit s k ≡ true → less_link s k ≡ s - 2 ^ k
    less-in e = same_bits (less_link s k) (s - 2 ^ k) (λ j. own j ∙ sym (bit-off s k j e))

    pub less-out : has_bit s k ≡ false → less_link s k ≡ s
    less-out e = same_bits (less_link s k) s (λ j. own j ∙ go j (eqb j k) refl)
      where
        go : (j : ℕ) (t : Bool) → eqb j k ≡ t → has_bit s j && not (eqb j k) ≡ has_bit s j
        go j true f = rw (f, and-false) (sym (ap (has_bit s) (eqb-true j k f) ∙ e))
        go j false f = rw (f, and-true)

pub has-without : (l : Links) (link j : ℕ) → has_bit (without_link l link).set j ≡ has_link l.set j && not (eqb j link)
unfolding without_link
has-without l link j = has-less l.set link j

-- ---- doing so twice changes nothing more
pub with-twice : (l : Links) (link : ℕ) → with_link (with_link l link) link ≡ with_link l link
with-twice l link = go (is_link link) refl
  where
    go : (t : Bool) → is_link link ≡ t → with_link (with_link l link) link ≡ with_link l link
    go true e =
        let h = ltb-true link link_count e in
        rw (with-is l link h, with-is (links (bit_or l.set (2 ^ link))) link h) (ap links (joining-bits.assoc l.set (2 ^ link) (2 ^ link) ∙ ap (bit_or l.set) (joining-bits.idem (2 ^ link))))
    go false e = with_none (with_link l link) link (ltb-false link link_count e)

pub without-twice : (l : Links) (link : ℕ) → without_link (without_link l link) link ≡ without_link l link
unfolding without_link
without-twice l link =
    let s = l.set in
    ap links (same_bits (less_link (less_link s link) link) (less_link s link) (λ j. has-less (less_link s link) link j ∙ rw (has-less s link j) (again (is_link j) (has_bit s j) (not (eqb j link)))))
  where
    again : (l h n : Bool) → (l && ((l && h) && n)) && n ≡ (l && h) && n
    again true h true = and-true (h && true)
    again true h false = rw (and-false h)
    again false h n = refl

-- ---- the relay set has exactly the registered links but the source
pub has-relay : (l : Links) (source j : ℕ) → has_bit (relay_set l source) j ≡ has_link l.set j && not (eqb j source)
unfolding relay_set
has-relay l source j = has-less l.set source j
