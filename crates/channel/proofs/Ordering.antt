-- Members put in order one after the other: each is behind all before it, or is put in its place among them. Assumes nothing.
use mathlib.Core.Path.{◌≡◌, refl, sym, ap, ◌∙◌}
use mathlib.Core.Bool.{Bool, true, false}
use mathlib.Core.List.{List, [], ◌∷◌, ◌++◌, append-nil}
use Prim.Native.Nat.{ℕ, ◌+◌, ◌≤◌, ◌<◌}
use native.Mathlib.Numerals.{add-one}
use native.Mathlib.Omega.{arith}
use lib.ListN.{length, take, get_or}
use lib.Seq.{take-suc}
use Rattle.laws.specs.Lists.{same, padded}
use Rattle.octets.specs.Order.{compare, is_less}
use Rattle.ascending.specs.Ascending.{put, unite}
use Rattle.octets.proofs.Bytes.{same_true}
use Rattle.octets.proofs.Ordered.{Below, compare-trans}
use Rattle.ascending.proofs.Ascends.{put-few, Under, Ascending, less-says, ascends-passes, put-between, unite-append, ascending-put, less-fails, under-put}
use Rattle.channel.specs.declared.Member.{Member}
use Rattle.channel.specs.declared.Roster.{Roster}
use Rattle.channel.specs.Limits.{member_limit}
use Rattle.channel.specs.Channel.{by_id}
use Rattle.channel.specs.Record.{nobody}
use Rattle.channel.specs.Members.{roster, pushed, ordered}
use Rattle.channel.specs.Private.Rosters.{Sorted}
use Rattle.channel.proofs.Statuses.{stays-by_id}
use Rattle.channel.proofs.Gathering.{Gathers, gathers-take, roster-gathers, pushed-roster}

under-append : (x : List ℕ) (a b : List Member) → Under by_id x a → Under by_id x b → Under by_id x (a ++ b)
under-append x [] b h k = k
under-append x (e ∷ a) b h k = (h.0, under-append x a b h.1 k)

-- The first i entries are in order in the roster, and whatever is above `last` is above them all.
pub record Inserted (entries : List Member) (i : ℕ) (all : Roster) (last : Member) : Type 0 where
  pub few : all.count ≤ i
  pub is : all ≡ roster (ordered (take i entries))
  pub ascending : Ascending by_id (ordered (take i entries))
  pub behind : (k : List ℕ) → Below last.id k → Under by_id k (ordered (take i entries))

-- at first no entry is in the roster
pub inserted-none : (entries : List Member) (all : Roster) (last : Member) → all ≡ roster [] → Inserted entries 0 all last
unfolding unite roster
inserted-none entries all last e = record { few = omega (arith, ap (λ (r : Roster). r.count) e); is = e; ascending = tt; behind = λ k h. tt }

module _ (entries : List Member) (i : ℕ) (all : Roster) (last : Member) (s : Inserted entries i all last) where
  abbrev so_far : List Member
  so_far = ordered (take i entries)

  g : Gathers all.list all.count so_far
  g = roster-gathers all so_far s.is

  -- while there is room for one more entry, the roster is sorted and has room for one more
  front : i < member_limit → take all.count all.list ≡ so_far
  front h = gathers-take all.list all.count so_far (omega (arith, s.few)) g

  pub inserted-sorted : i < member_limit → Sorted all.list all.count
  inserted-sorted h =
      let e = front h in
      record { room = omega (arith, s.few); clear = g.holds ∙ ap (padded member_limit nobody) (sym e); order = rw e (ascends-passes by_id so_far s.ascending) }

  module _ (d : Member) (h : i < length entries) where
    abbrev e : Member
    e = get_or entries i d

    next : ordered (take (i + 1) entries) ≡ put by_id e so_far
    unfolding unite
    next = rw (add-one i, take-suc entries i d h) (unite-append by_id [] (take i entries) (e ∷ []))

    -- it is behind all
    pub inserted-last : is_less (compare last.id e.id) ≡ true → Inserted entries (i + 1) (pushed all e) e
    inserted-last t =
        let b : Below last.id e.id = less-says (compare last.id e.id) t in
        let is : put by_id e so_far ≡ so_far ++ (e ∷ []) = ap (put by_id e) (sym (append-nil so_far)) ∙ put-between by_id e so_far [] (s.behind e.id b) tt in
        record {
          few = omega (arith, s.few);
          is = rw (next, is) (ap (λ (r : Roster). pushed r e) s.is ∙ pushed-roster so_far e);
          ascending = rw next (ascending-put by_id stays-by_id e so_far s.ascending);
          behind = λ k p. rw (next, is) (under-append k so_far (e ∷ []) (s.behind k (compare-trans last.id e.id k b p)) (p, tt));
        }

    -- it is put in its place
    pub inserted-put : (r : Roster) → r ≡ roster (put by_id e (take all.count all.list)) → i < member_limit → is_less (compare last.id e.id) ≡ false → Inserted entries (i + 1) r last
    inserted-put r is room t =
        let placed : r ≡ roster (put by_id e so_far) = is ∙ ap (λ (m : List Member). roster (put by_id e m)) (front room) in
        record {
          few = omega (arith, (roster-gathers r (put by_id e so_far) placed).counts, put-few by_id e so_far, g.counts, s.few);
          is = rw next placed;
          ascending = rw next (ascending-put by_id stays-by_id e so_far s.ascending);
          behind = λ k p. rw next (under-put by_id stays-by_id k e so_far (below k p (same last.id e.id) refl) (s.behind k p));
        }
      where
        below : (k : List ℕ) → Below last.id k → (b : Bool) → same last.id e.id ≡ b → Below e.id k
        below k p true o = rw (same_true last.id e.id o) at p
        below k p false o = compare-trans e.id last.id k (less-fails last.id e.id t o) p
