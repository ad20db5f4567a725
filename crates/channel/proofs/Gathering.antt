-- A list of members gathered one behind the other, in room whose unused places are vacant. Assumes nothing.
use mathlib.Core.Path.{◌≡◌, refl, ap}
use mathlib.Core.List.{List, [], ◌∷◌, ◌++◌}
use Prim.Native.Nat.{ℕ, ◌+◌, ◌≤◌, ◌<◌}
use native.Mathlib.Omega.{arith}
use lib.ListN.{length, take, set, length-append}
use borrow.Author.Tests.{lt-ltb}
use Rattle.laws.specs.Lists.{padded}
use Rattle.laws.proofs.Lists.{take-padded, set-padded}
use Rattle.channel.specs.declared.Member.{Member}
use Rattle.channel.specs.declared.Roster.{Roster}
use Rattle.channel.specs.Limits.{member_limit}
use Rattle.channel.specs.Record.{nobody}
use Rattle.channel.specs.Members.{roster, pushed, pushed_in_room}

-- The list holds the members l, and no other.
pub record Gathers (list : List Member) (count : ℕ) (l : List Member) : Type 0 where
  pub holds : list ≡ padded member_limit nobody l
  pub counts : count ≡ length l

-- one member more
pub gathers-more : (list : List Member) (count : ℕ) (l : List Member) (m : Member) → Gathers list count l → Gathers (set list count m) (count + 1) (l ++ (m ∷ []))
gathers-more list count l m g = record {
  holds = rw (g.holds, g.counts) (set-padded nobody member_limit l m);
  counts = omega (arith, g.counts, length-append l (m ∷ []));
}

-- they are a roster
pub gathers-roster : (list : List Member) (count : ℕ) (l : List Member) → Gathers list count l → ◌≡◌ {A = Roster} (record { list = list; count = count }) (roster l)
unfolding roster
gathers-roster list count l g = rw (g.holds, g.counts)

-- and a roster is such a list
pub roster-gathers : (r : Roster) (l : List Member) → r ≡ roster l → Gathers r.list r.count l
unfolding roster
roster-gathers r l e = record { holds = ap (λ (s : Roster). s.list) e; counts = ap (λ (s : Roster). s.count) e }

-- they stand at the front
pub gathers-take : (list : List Member) (count : ℕ) (l : List Member) → count ≤ member_limit → Gathers list count l → take count list ≡ l
gathers-take list count l h g = rw (g.holds, g.counts) (take-padded nobody member_limit l (omega (arith, g.counts)))

-- ---- a roster, and one member more
-- where there is room it is put behind the others
pub pushed-room : (r : Roster) (m : Member) → r.count < member_limit → pushed_in_room r m ≡ pushed r m
unfolding pushed_in_room
pushed-room r m h = rw (lt-ltb r.count member_limit h)

pub pushed-roster : (l : List Member) (m : Member) → pushed (roster l) m ≡ roster (l ++ (m ∷ []))
unfolding roster
pushed-roster l m = let g = gathers-more (roster l).list (length l) l m (roster-gathers (roster l) l refl) in gathers-roster _ _ (l ++ (m ∷ [])) g
