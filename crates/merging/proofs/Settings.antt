-- Settings join, since modes, keys and limits do, and two proper ones join to a proper one. The greater of two keys is one of the two, whichever way they are
-- grouped or turned, and no key is neutral, since the order of byte lists is total and the empty list is its least. Assumes nothing.
use Prim.Native.Nat.{ℕ, max}
use mathlib.Core.Path.{◌≡◌, refl, sym, ap₂, ◌∙◌}
use mathlib.Core.Bool.{Bool, true, false, ◌&&◌, ◌||◌, not, cond}
use mathlib.Core.List.{List, [], ◌∷◌}
use native.Mathlib.Omega.{arith}
use lib.Bits.{or_lt}
use lib.Dec.{ltb}
use borrow.Author.Tests.{ltb-true, ltb-false, lt-ltb, le-ltb}
use Rattle.std.specs.declared.cmp.Ordering.{Ordering}
use Rattle.std.specs.declared.cmp.Ordering.TheVariants.{Less, Equal, Greater}
use Rattle.octets.specs.Order.{compare, is_less}
use Rattle.octets.proofs.Ordered.{compare-nil, Below, compare_refl, compare_same, compare-trans, below_more, more-below}
use Rattle.laws.specs.Lists.{is_nil}
use Rattle.laws.proofs.Joins.{Joining, joining-bits, joining-max}
use Rattle.channel.specs.Modes.{mode_count, key_mode, limit_mode}
use Rattle.channel.specs.Key.{is_key}
use Rattle.channel.specs.Settings.{Settings, no_settings}
use Rattle.channel.proofs.Fields.{settings-path}
use Rattle.channel.proofs.Letters.{has_either}
use Rattle.channel.proofs.Proper.{ProperSettings}
use Rattle.merging.specs.Settings.{greater, join_settings}

-- ---- keys: the greater
-- it is one of the two: what holds of both holds of it
pub greater-is : (P : List ℕ → Type 0) (a b : List ℕ) → P a → P b → P (greater a b)
unfolding greater
greater-is P a b p q = elim (is_less (compare a b)) as (λ t. P (cond t b a)) [ true ↦ q | false ↦ p ]

greater-less : (a b : List ℕ) → Below a b → greater a b ≡ b
unfolding greater
greater-less a b h = rw h

greater-more : (a b : List ℕ) → Below b a → greater a b ≡ a
unfolding greater
greater-more a b h = rw (below_more b a h)

greater-self : (a : List ℕ) → greater a a ≡ a
unfolding greater
greater-self a = rw (compare_refl a)

greater-comm : (a b : List ℕ) → greater a b ≡ greater b a
greater-comm a b = go (compare a b) refl
  where
    go : (o : Ordering) → compare a b ≡ o → greater a b ≡ greater b a
    go Less p = cc (greater-less a b p, greater-more b a p)
    go Equal p = rw (compare_same a b p)
    go Greater p = cc (greater-more a b (more-below a b p), greater-less b a (more-below a b p))

greater-assoc : (a b c : List ℕ) → greater (greater a b) c ≡ greater a (greater b c)
greater-assoc a b c = go (compare a b) (compare b c) refl refl
  where
    go : (o p : Ordering) → compare a b ≡ o → compare b c ≡ p → greater (greater a b) c ≡ greater a (greater b c)
    go Less Less p q = cc (greater-less a b p, greater-less b c q, greater-less a c (compare-trans a b c p q))
    go Less Equal p q = cc (greater-less a b p, greater-self b, compare_same b c q)
    go Less Greater p q = cc (greater-less a b p, greater-more b c (more-below b c q))
    go Equal Less p q = cc (greater-self a, greater-less b c q, compare_same a b p)
    go Equal Equal p q = cc (greater-self a, compare_same a b p, compare_same b c q)
    go Equal Greater p q = cc (greater-self a, greater-more b c (more-below b c q), compare_same a b p)
    go Greater Less p q = cc (greater-more a b (more-below a b p), greater-less b c q)
    go Greater Equal p q = cc (greater-more a b (more-below a b p), greater-self b, compare_same b c q)
    go Greater Greater p q =
        cc (greater-more a b (more-below a b p), greater-more b c (more-below b c q), greater-more a c (compare-trans c b a (more-below b c q) (more-below a b p)))

greater-unit : (a : List ℕ) → greater [] a ≡ a
greater-unit [] = greater-self []
greater-unit (x ∷ a) = greater-less [] (x ∷ a) (compare-nil x a)

joining-greater : Joining greater []
joining-greater = record { assoc = greater-assoc; comm = greater-comm; idem = greater-self; unit = greater-unit }

-- ---- settings: part by part
-- Joining settings is associative, commutative and idempotent, and to have none changes nothing.
pub joining-settings : Joining join_settings no_settings
unfolding join_settings
joining-settings = record {
  assoc = λ a b c. settings-path (joining-bits.assoc a.modes b.modes c.modes) (joining-greater.assoc _ _ _) (joining-max.assoc a.limit b.limit c.limit);
  comm = λ a b. settings-path (joining-bits.comm a.modes b.modes) (joining-greater.comm _ _) (joining-max.comm a.limit b.limit);
  idem = λ a. settings-path (joining-bits.idem _) (joining-greater.idem _) (joining-max.idem a.limit);
  unit = λ a. settings-path (joining-bits.unit _) (joining-greater.unit _) (joining-max.unit a.limit);
}

-- ---- proper settings
-- there is no greater key only where both sides have none
greater-nil : (a b : List ℕ) → is_nil (greater a b) ≡ is_nil a && is_nil b
unfolding greater compare
greater-nil [] b = rw (greater-unit b)
greater-nil (x ∷ a) [] = refl
greater-nil (x ∷ a) (y ∷ b) = greater-is (λ k. is_nil k ≡ false) (x ∷ a) (y ∷ b) refl refl

-- a key where either has one
both-keys : (x y : List ℕ) → (not (is_nil x) || not (is_nil y)) ≡ not (is_nil (greater x y))
both-keys x y = rw (greater-nil x y) (go (is_nil x) (is_nil y))
  where
    go : (t u : Bool) → (not t || not u) ≡ not (t && u)
    go true u = refl
    go false u = refl

-- a limit where either has one
both-limits : (x y : ℕ) → (ltb 0 x || ltb 0 y) ≡ ltb 0 (max x y)
both-limits x y = go (ltb 0 x) refl (ltb 0 y) refl
  where
    go : (t : Bool) → ltb 0 x ≡ t → (u : Bool) → ltb 0 y ≡ u → (t || u) ≡ ltb 0 (max x y)
    go true h u k = sym (lt-ltb 0 (max x y) (omega (arith, ltb-true 0 x h)))
    go false h true k = sym (lt-ltb 0 (max x y) (omega (arith, ltb-true 0 y k)))
    go false h false k = sym (le-ltb 0 (max x y) (omega (arith, ltb-false 0 x h, ltb-false 0 y k)))

-- two of them join to proper ones
pub proper-join : (a b : Settings) → ProperSettings a → ProperSettings b → ProperSettings (join_settings a b)
unfolding join_settings
proper-join a b p q = record {
  modes = or_lt mode_count _ _ p.modes q.modes;
  keyed = has_either _ _ key_mode ∙ ap₂ ◌||◌ p.keyed q.keyed ∙ both-keys _ _;
  key = greater-is (λ k. (is_nil k || is_key k) ≡ true) _ _ p.key q.key;
  limited = has_either _ _ limit_mode ∙ ap₂ ◌||◌ p.limited q.limited ∙ both-limits a.limit b.limit;
  limit = omega (arith, p.limit, q.limit);
}
