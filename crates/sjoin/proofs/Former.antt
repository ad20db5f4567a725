-- What became of 17: wherever the rules give a number of modes now, they gave 17, and all else is as it was. True since modes have a fault exactly if they aren't good.
-- Assumes nothing.
use Prim.Native.Nat.{ℕ}
use mathlib.Core.Path.{◌≡◌, refl, sym, ap, ◌∙◌}
use mathlib.Core.Bool.{Bool, true, false, true≢false, not, cond}
use mathlib.Core.List.{List, [], ◌∷◌, ◌++◌}
use native.Mathlib.Omega.{arith}
use lib.Dec.{eqb}
use borrow.Author.Tests.{eqb-true, eqb-false}
use Rattle.refusal.specs.Numbers.{accepted, bad_modes, bad_members, is_mode_number}
use Rattle.refusal.specs.Rules.{Rule, ◌when◌, first_of}
use Rattle.refusal.specs.Faults.{number_of}
use Rattle.refusal.proofs.Rules.{skip, stop, first-nil, plain_rules, first_plain, numbered, append-some, append-none}
use Rattle.message.specs.Content.{Content}
use Rattle.sjoin.specs.Modes.{is_modes}
use Rattle.sjoin.specs.Entries.{good_entries}
use Rattle.sjoin.specs.Join.{modes_in, arguments_in, list_in, source_rules, head_rules, mode_rules, lead_rules, join_rules}
use Rattle.sjoin.specs.Former.{former_mode_rules, former_join_rules}
use Rattle.sjoin.proofs.Faults.{modes-good, good-modes, mode-number, mode-none, mode-given}
use Rattle.sjoin.proofs.Judged.{lead-numbered}

-- ---- what a number was
-- 17 where it is one of modes now
abbrev pub formerly : ℕ → ℕ
formerly n = cond (is_mode_number n) bad_modes n

-- one that isn't of modes is what it was
pub formerly-plain : (n : ℕ) → is_mode_number n ≡ false → formerly n ≡ n
formerly-plain n e = rw e

-- none was given exactly where none is
formerly-none : (n : ℕ) → (n ≡ accepted → ⊥) → formerly n ≡ accepted → ⊥
formerly-none n ne = go (is_mode_number n) refl
  where
    go : (t : Bool) → is_mode_number n ≡ t → formerly n ≡ accepted → ⊥
    go true e z = let q : bad_modes ≡ accepted = rw e at z in omega (arith, q)
    go false e z = ne (sym (formerly-plain n e) ∙ z)

-- ---- rules as they were
-- rules without a number of modes are
pub same-formerly : (rs : List Rule) → plain_rules rs ≡ true → first_of rs ≡ formerly (first_of rs)
same-formerly rs p = sym (formerly-plain (first_of rs) (first_plain rs p))

-- and so are two lists of rules, one after the other, where each is
pub append-formerly : (old xs olds ys : List Rule) → numbered old ≡ true → numbered xs ≡ true → first_of old ≡ formerly (first_of xs) → first_of olds ≡ formerly (first_of ys)
    → first_of (old ++ olds) ≡ formerly (first_of (xs ++ ys))
append-formerly old xs olds ys a b e f = go (eqb (first_of xs) accepted) refl
  where
    go : (t : Bool) → eqb (first_of xs) accepted ≡ t → first_of (old ++ olds) ≡ formerly (first_of (xs ++ ys))
    go true h =
        let z : first_of xs ≡ accepted = eqb-true (first_of xs) accepted h in
        append-none olds old a (e ∙ ap formerly z) ∙ f ∙ ap formerly (sym (append-none ys xs b z))
    go false h =
        let ne : first_of xs ≡ accepted → ⊥ = eqb-false (first_of xs) accepted h in
        append-some olds old (λ z. formerly-none (first_of xs) ne (sym e ∙ z)) ∙ e ∙ ap formerly (sym (append-some ys xs ne))

-- ---- those of an SJOIN
modes-formerly : (c : Content) → first_of (former_mode_rules c) ≡ formerly (first_of (mode_rules c))
modes-formerly c = go (is_modes (modes_in c) (arguments_in c)) refl
  where
    go : (t : Bool) → is_modes (modes_in c) (arguments_in c) ≡ t → first_of (former_mode_rules c) ≡ formerly (first_of (mode_rules c))
    go true e = skip _ _ (ap not e) ∙ first-nil ∙ ap formerly (sym (mode-number c ∙ ap number_of (modes-good c e)))
    go false e = stop _ _ (ap not e) ∙ sym (rw (mode-given c (λ z. true≢false (sym (good-modes c (mode-none c z)) ∙ e))))

-- Its rules gave 17 where they give a number of modes now, and any other number as they do.
pub join-formerly : (c : Content) → first_of (former_join_rules c) ≡ formerly (first_of (join_rules c))
unfolding former_join_rules join_rules
join-formerly c =
    let last = bad_members when not (good_entries (list_in c)) ∷ [] in
    append-formerly (source_rules c) (source_rules c) _ _ refl refl (same-formerly (source_rules c) refl)
    (append-formerly (head_rules c ++ former_mode_rules c) (lead_rules c) last last refl (lead-numbered c)
    (append-formerly (head_rules c) (head_rules c) (former_mode_rules c) (mode_rules c) refl refl (same-formerly (head_rules c) refl) (modes-formerly c))
    (same-formerly last refl))
