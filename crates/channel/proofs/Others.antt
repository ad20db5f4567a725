-- Laws of the members that stay when one is removed, and of the record that is left. Assumes nothing.
use mathlib.Core.Path.{◌≡◌, refl, sym, ap, ◌∙◌}
use mathlib.Core.Bool.{Bool, true, false, ◌||◌}
use mathlib.Core.List.{List, [], ◌∷◌, ◌++◌, append-nil}
use Prim.Native.Nat.{ℕ, suc, ◌+◌, ◌≤◌, ◌<◌}
use native.Mathlib.Numerals.{add-one}
use native.Mathlib.Omega.{arith}
use lib.ListN.{length, take, get_or}
use lib.Seq.{take-suc}
use borrow.Author.Tests.{eq-eqb, ne_eqb}
use Rattle.std.specs.List.{list_any}
use Rattle.laws.specs.Lists.{same}
use Rattle.laws.proofs.Lists.{nil-length}
use Rattle.channel.specs.declared.Member.{Member}
use Rattle.channel.specs.declared.Record.{Record}
use Rattle.channel.specs.declared.Roster.{Roster}
use Rattle.channel.specs.Record.{decode, empty_record}
use Rattle.channel.specs.Members.{roster, has_member, others, with_members, without}

module _ (id : List ℕ) where
  -- no more members stay than there were
  pub others-in : (l : List Member) → length (others id l) ≤ length l
  unfolding others
  others-in [] = omega arith
  others-in (m ∷ l) = go (same id m.id) refl (others-in l)
    where
      go : (t : Bool) → same id m.id ≡ t → length (others id l) ≤ length l → length (others id (m ∷ l)) ≤ suc (length l)
      go true e ih = rw e (omega arith)
      go false e ih = rw e (omega arith)

  others-append : (a b : List Member) → others id (a ++ b) ≡ others id a ++ others id b
  unfolding others
  others-append [] b = refl
  others-append (m ∷ a) b = go (same id m.id) refl (others-append a b)
    where
      go : (t : Bool) → same id m.id ≡ t → others id (a ++ b) ≡ others id a ++ others id b → others id (m ∷ a ++ b) ≡ others id (m ∷ a) ++ others id b
      go true e ih = rw (e, ih)
      go false e ih = rw (e, ih)

  -- one place on
  module _ (l : List Member) (i : ℕ) (d : Member) (h : i < length l) where
    next : others id (take (i + 1) l) ≡ others id (take i l) ++ others id (get_or l i d ∷ [])
    next = rw (add-one i, take-suc l i d h) (others-append (take i l) (get_or l i d ∷ []))

    -- a member with the id adds nothing to those that stay
    pub others-gone : same id (get_or l i d).id ≡ true → others id (take (i + 1) l) ≡ others id (take i l)
    unfolding others
    others-gone e = next ∙ rw e (append-nil (others id (take i l)))

    -- a member with another id is the next that stays
    pub others-stay : same id (get_or l i d).id ≡ false → others id (take (i + 1) l) ≡ others id (take i l) ++ (get_or l i d ∷ [])
    unfolding others
    others-stay e = next ∙ rw e

-- whether one has the id, as the library's test of them answers
pub has-listed : (id : List ℕ) (l : List Member) → list_any (λ m. same id m.id) l ≡ has_member id l
unfolding has_member
has-listed id [] = refl
has-listed id (m ∷ l) = ap (λ (t : Bool). same id m.id || t) (has-listed id l)

-- ---- the record without a member, by the roster of those that stay
module _ (id : List ℕ) (r : Record) (s : Roster) (is : s ≡ roster (others id (decode r).members)) where
  staying : s.count ≡ length (others id (decode r).members)
  unfolding roster
  staying = ap (λ (x : Roster). x.count) is

  -- where nobody stays, the empty record is left
  pub without_all : s.count ≡ 0 → without id r ≡ empty_record
  unfolding without
  without_all e = rw (nil-length (others id (decode r).members) ∙ eq-eqb _ 0 (sym staying ∙ e))

  -- where somebody stays, the record has those that stay as its members, and all else as it was
  pub without-some : (s.count ≡ 0 → ⊥) → without id r ≡ record {
    name = r.name;
    name_len = r.name_len;
    time = r.time;
    modes = r.modes;
    key = r.key;
    key_len = r.key_len;
    limit = r.limit;
    members = s.list;
    count = s.count;
  }
  unfolding without with_members roster
  without-some ne = rw (nil-length (others id (decode r).members) ∙ ne_eqb _ 0 (λ e. ne (staying ∙ e)), is)
