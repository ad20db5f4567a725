-- Two lists of members in one pass: at each step the smaller first member is taken, or two with one id as one, and what is gathered so far with what is left
-- comes to the whole. Assumes nothing.
use mathlib.Core.Path.{◌≡◌, refl, sym, ap, ◌∙◌}
use mathlib.Core.List.{List, [], ◌∷◌, ◌++◌, append-nil}
use Prim.Native.Nat.{suc, ◌+◌, ◌≤◌, ◌<◌}
use native.Mathlib.Omega.{arith}
use lib.Bits.{bit_or}
use lib.ListN.{length, length-append}
use lib.Seq.{append_snoc}
use Rattle.std.specs.Prelude.{Some, None}
use Rattle.std.specs.declared.cmp.Ordering.{Ordering}
use Rattle.std.specs.declared.cmp.Ordering.TheVariants.{Less, Equal, Greater}
use Rattle.octets.specs.Order.{compare}
use Rattle.ascending.specs.Ascending.{taken, one_pass}
use Rattle.ascending.proofs.Ascends.{pass-nil-left, pass-nil-right, pass_step}
use Rattle.channel.specs.declared.Member.{Member}
use Rattle.channel.specs.declared.Roster.{Roster}
use Rattle.channel.specs.Limits.{member_limit}
use Rattle.channel.specs.Channel.{by_id, member}
use Rattle.channel.specs.Members.{roster, pushed}
use Rattle.channel.proofs.Gathering.{pushed-roster}
use Rattle.merging.specs.Private.Uniting.{Fills}

-- ---- what comes next
module _ (a b : List Member) where
  -- neither has one left
  pub none-left : a ≡ [] → b ≡ [] → one_pass by_id a b ≡ []
  none-left e f = rw (e, f) (pass-nil-left by_id [])

  -- only the first has
  pub first-left : (x : Member) (s : List Member) → a ≡ x ∷ s → b ≡ [] → one_pass by_id a b ≡ x ∷ one_pass by_id s b
  first-left x s e f = rw (e, f) (pass-nil-right by_id (x ∷ s) ∙ ap (◌∷◌ x) (sym (pass-nil-right by_id s)))

  -- only the second has
  pub second-left : (y : Member) (t : List Member) → a ≡ [] → b ≡ y ∷ t → one_pass by_id a b ≡ y ∷ one_pass by_id a t
  second-left y t e f = rw (e, f) (pass-nil-left by_id (y ∷ t) ∙ ap (◌∷◌ y) (sym (pass-nil-left by_id t)))

  module _ (x y : Member) (s t : List Member) (e : a ≡ x ∷ s) (f : b ≡ y ∷ t) where
    step : (o : Ordering) → compare x.id y.id ≡ o → one_pass by_id a b ≡ taken by_id o x y (one_pass by_id s b) (one_pass by_id s t) (one_pass by_id a t)
    step o c = rw (e, f) (pass_step by_id x y s t ∙ ap (λ (p : Ordering). taken by_id p x y (one_pass by_id s (y ∷ t)) (one_pass by_id s t) (one_pass by_id (x ∷ s) t)) c)

    -- both have: the one with the smaller id comes
    pub first-less : compare x.id y.id ≡ Less → one_pass by_id a b ≡ x ∷ one_pass by_id s b
    unfolding taken
    first-less c = step Less c

    pub second-less : compare x.id y.id ≡ Greater → one_pass by_id a b ≡ y ∷ one_pass by_id a t
    unfolding taken
    second-less c = step Greater c

    -- or both as one
    pub both-same : compare x.id y.id ≡ Equal → one_pass by_id a b ≡ member x.id (bit_or y.status x.status) ∷ one_pass by_id s t
    unfolding taken
    both-same c = step Equal c

-- so fewer are left
pub fewer : (a b s t : List Member) (m : Member) → one_pass by_id a b ≡ m ∷ one_pass by_id s t → length (one_pass by_id s t) < length (one_pass by_id a b)
fewer a b s t m e = omega (arith, ap (λ (l : List Member). length l) e)

pub ruleset passes = (none-left, first-left, second-left, first-less, second-less, both-same, fewer)

-- ---- gathered so far, with what is left
count-roster : (l : List Member) → (roster l).count ≡ length l
unfolding roster
count-roster l = refl

-- What was gathered so far, with what is left, comes to the goal.
pub record Begun (all : Roster) (more goal : List Member) : Type 0 where
  pub so_far : List Member
  pub holds : all ≡ roster so_far
  pub few : length so_far ≤ member_limit
  pub comes : so_far ++ more ≡ goal

-- nothing so far
pub begun-none : (all : Roster) (more goal : List Member) → all ≡ roster [] → more ≡ goal → Begun all more goal
begun-none all more goal e f = record { so_far = []; holds = e; few = omega arith; comes = f }

module _ (all : Roster) (more goal : List Member) (b : Begun all more goal) where
  counted : all.count ≡ length b.so_far
  counted = ap (λ (r : Roster). r.count) b.holds ∙ count-roster b.so_far

  -- the first of what is left
  pub begun-step : (m : Member) (more' : List Member) → more ≡ m ∷ more' → (all.count ≡ member_limit → ⊥) → Begun (pushed all m) more' goal
  begun-step m more' e ne = record {
    so_far = b.so_far ++ (m ∷ []);
    holds = ap (λ (r : Roster). pushed r m) b.holds ∙ pushed-roster b.so_far m;
    few = omega (arith, length-append b.so_far (m ∷ []), counted, b.few);
    comes = append_snoc b.so_far m more' ∙ ap (λ (l : List Member). b.so_far ++ l) (sym e) ∙ b.comes;
  }

  -- while it isn't full, there is room for it
  pub begun-room : (all.count ≡ member_limit → ⊥) → all.count < member_limit
  begun-room ne = omega (arith, counted, b.few)

  -- there is no room for it
  pub begun-over : (m : Member) (more' : List Member) → more ≡ m ∷ more' → all.count ≡ member_limit → Fills None goal
  begun-over m more' e full =
      let n : length b.so_far + length more ≡ length goal = sym (length-append b.so_far more) ∙ ap (λ (l : List Member). length l) b.comes in
      let p : length more ≡ suc (length more') = ap (λ (l : List Member). length l) e in
      omega (arith, counted)

  -- nothing is left
  pub begun-end : more ≡ [] → Fills (Some all) goal
  begun-end e =
      let is : b.so_far ≡ goal = sym (append-nil b.so_far) ∙ ap (λ (l : List Member). b.so_far ++ l) (sym e) ∙ b.comes in
      (omega (arith, b.few, ap (λ (l : List Member). length l) is), b.holds ∙ ap roster is)
