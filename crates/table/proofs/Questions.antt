-- Whether a text is banned, by the rule that refuses the question, or by the masks of the slot that holds the name. Assumes nothing.
use Prim.Native.Nat.{ℕ, ◌≤◌, ◌<◌}
use mathlib.Core.Path.{◌≡◌, refl, sym, ap, ◌∙◌}
use mathlib.Core.Bool.{Bool, true, false, not}
use mathlib.Core.List.{List}
use native.Mathlib.Omega.{arith}
use lib.ListN.{length}
use borrow.Author.Tests.{ne_eqb, lt-ltb, le-ltb}
use Rattle.refusal.specs.Numbers.{accepted, not_well_formed, bad_name, no_such_channel, text_too_long}
use Rattle.refusal.specs.Rules.{first_of, ascend, ascend_from, place_in}
use Rattle.refusal.proofs.Rules.{skip, stop, first-nil}
use Rattle.names.specs.Names.{is_channel}
use Rattle.glob.specs.Mask.{text_limit}
use Rattle.bans.specs.Masks.{masks}
use Rattle.bans.specs.Matching.{some_matches}
use Rattle.bans.specs.Slots.{list_at}
use Rattle.table.specs.Network.{Table, network_of}
use Rattle.table.specs.Table.{good_table}
use Rattle.table.specs.Slots.{Slot, Held, Free, Full, slot_in, is_held}
use Rattle.table.specs.Banned.{banned_rules, banned_answer}
use Rattle.table.specs.Private.Parts.{unbanned}

-- The rules stand in the order of their numbers: the first in it that applies is given.
pub rules-ascend : (t : Table) (name text : List ℕ) → ascend (banned_rules t name text) ≡ true
unfolding ascend_from banned_rules place_in
rules-ascend t name text = refl

module _ (t : Table) (name text : List ℕ) where
  refused-by : (k : ℕ) → first_of (banned_rules t name text) ≡ k → (k ≡ accepted → ⊥) → unbanned k ≡ banned_answer t name text
  unfolding banned_answer
  refused-by k e ne = rw (e, ne_eqb k accepted ne)

  -- the table isn't well formed
  pub banned-ill : good_table t ≡ false → unbanned not_well_formed ≡ banned_answer t name text
  unfolding banned_rules
  banned-ill e = refused-by not_well_formed (stop _ _ (ap not e)) (λ z. omega (arith, z))

  module _ (good : good_table t ≡ true) where
    -- the name is none
    pub banned-unnamed : is_channel name ≡ false → unbanned bad_name ≡ banned_answer t name text
    unfolding banned_rules
    banned-unnamed e = refused-by bad_name (skip _ _ (ap not good) ∙ stop _ _ (ap not e)) (λ z. omega (arith, z))

    module _ (named : is_channel name ≡ true) where
      -- no slot holds it
      pub banned-absent : is_held (slot_in (network_of t) name) ≡ false → unbanned no_such_channel ≡ banned_answer t name text
      unfolding banned_rules
      banned-absent e = refused-by no_such_channel (skip _ _ (ap not good) ∙ skip _ _ (ap not named) ∙ stop _ _ (ap not e)) (λ z. omega (arith, z))

      module _ (k : ℕ) (held : slot_in (network_of t) name ≡ Held k) where
        -- the text is too long
        pub banned-long : text_limit < length text → unbanned text_too_long ≡ banned_answer t name text
        unfolding banned_rules
        banned-long h =
            refused-by text_too_long (skip _ _ (ap not good) ∙ skip _ _ (ap not named) ∙ skip _ _ (rw held) ∙ stop _ _ (lt-ltb text_limit (length text) h)) (λ z. omega (arith, z))

        none : length text ≤ text_limit → first_of (banned_rules t name text) ≡ accepted
        unfolding banned_rules
        none h = skip _ _ (ap not good) ∙ skip _ _ (ap not named) ∙ skip _ _ (rw held) ∙ skip _ _ (le-ltb text_limit (length text) h) ∙ first-nil

        -- the masks of slot k decide
        pub banned-asked : length text ≤ text_limit → (b : Bool) → b ≡ some_matches text (masks (list_at t.bans k)) → record { number = accepted; yes = b } ≡ banned_answer t name text
        unfolding banned_answer
        banned-asked h b e = rw (none h, held, e)

-- ---- where the text decides nothing
module _ (t : Table) (name x y : List ℕ) where
  -- the name is none
  pub unnamed-any : is_channel name ≡ false → banned_answer t name x ≡ banned_answer t name y
  unnamed-any e = go (good_table t) refl
    where
      go : (g : Bool) → good_table t ≡ g → banned_answer t name x ≡ banned_answer t name y
      go true f = sym (banned-unnamed t name x f e) ∙ banned-unnamed t name y f e
      go false f = sym (banned-ill t name x f) ∙ banned-ill t name y f

  -- it is too long
  pub long-any : text_limit < length x → text_limit < length y → banned_answer t name x ≡ banned_answer t name y
  long-any h k = go (good_table t) refl (is_channel name) refl (slot_in (network_of t) name) refl
    where
      go : (g : Bool) → good_table t ≡ g → (c : Bool) → is_channel name ≡ c → (s : Slot) → slot_in (network_of t) name ≡ s → banned_answer t name x ≡ banned_answer t name y
      go false f c e s d = sym (banned-ill t name x f) ∙ banned-ill t name y f
      go true f false e s d = unnamed-any e
      go true f true e (Held i) d = sym (banned-long t name x f e i d h) ∙ banned-long t name y f e i d k
      go true f true e (Free i) d = sym (banned-absent t name x f e (ap is_held d)) ∙ banned-absent t name y f e (ap is_held d)
      go true f true e Full d = sym (banned-absent t name x f e (ap is_held d)) ∙ banned-absent t name y f e (ap is_held d)
