-- The numbers that come before a command's own: table, output and link, then the reader's. Past them the command's rules decide. Assumes nothing.
use mathlib.Core.Path.{◌≡◌, refl, ap, ◌∙◌}
use mathlib.Core.Bool.{Bool, true, false, not}
use mathlib.Core.List.{[], ◌∷◌}
use Prim.Native.Nat.{ℕ, ◌≤◌, ◌<◌, ◌^◌}
use native.Mathlib.Omega.{arith}
use borrow.Author.Tests.{lt-ltb, le-ltb, not-false}
use Rattle.refusal.specs.Numbers.{accepted, not_well_formed, output_too_short, bad_link}
use Rattle.refusal.specs.Rules.{◌when◌, first_of}
use Rattle.refusal.proofs.Rules.{skip, stop, first-nil, first-none, append-some, append-none}
use Rattle.laws.specs.Bits.{has_bit}
use Rattle.message.specs.Grammar.{line_limit}
use Rattle.message.specs.Reading.{line_rules, number_for, is_read}
use Rattle.message.proofs.Readings.{rules-numbered, number-none, refused-number}
use Rattle.links.specs.declared.Links.{Links}
use Rattle.links.specs.Links.{link_count}
use Rattle.links.proofs.Sets.{linked}
use Rattle.table.specs.Network.{Table, Network, network_of}
use Rattle.relay.specs.Arrival.{Arrival}
use Rattle.relay.specs.Relay.{meaning_in, taken_rules, entry_rules, entering_rules, process_rules}

-- ---- table, output and link
module _ (good : Bool) (links : Links) (link n : ℕ) where
  -- the table isn't well formed
  pub entry-ill-formed : good ≡ false → first_of (entry_rules good n links link) ≡ not_well_formed
  entry-ill-formed g = stop _ _ (ap not g)

  module _ (g : good ≡ true) where
    -- the output is too short
    pub entry-short : n < line_limit → first_of (entry_rules good n links link) ≡ output_too_short
    entry-short h = skip _ _ (ap not g) ∙ stop _ _ (lt-ltb n line_limit h)

    module _ (h : line_limit ≤ n) (s : links.set < 2 ^ link_count) where
      -- the link is left
      entry-link : first_of (entry_rules good n links link) ≡ first_of (bad_link when not (has_bit links.set link) ∷ [])
      entry-link = skip _ _ (ap not g) ∙ skip _ _ (le-ltb n line_limit h) ∙ ap (λ (t : Bool). first_of (bad_link when not t ∷ [])) (linked links.set link s)

      -- the link isn't registered
      pub entry-unlinked : has_bit links.set link ≡ false → first_of (entry_rules good n links link) ≡ bad_link
      entry-unlinked l = entry-link ∙ stop _ _ (ap not l)

      -- nothing to refuse
      pub entry-passes : has_bit links.set link ≡ true → first_of (entry_rules good n links link) ≡ accepted
      entry-passes l = entry-link ∙ skip _ _ (ap not l) ∙ first-nil

  -- where none applies, the table is well formed
  pub entry-good : first_of (entry_rules good n links link) ≡ accepted → good ≡ true
  entry-good e = not-false _ (first-none _ _ (λ z. omega arith) e).0

-- those numbers come first
module _ (t : Table) (a : Arrival) (n : ℕ) where
  abbrev pub entry : ℕ
  entry = first_of (entering_rules t a n)

  -- one of them decides
  pub entry-refuses : (entry ≡ accepted → ⊥) → first_of (process_rules t a n) ≡ entry
  unfolding process_rules
  entry-refuses ne = append-some (taken_rules (network_of t) a) (entering_rules t a n) ne

  -- none applies: the line's own decide
  pub enters : entry ≡ accepted → first_of (process_rules t a n) ≡ first_of (taken_rules (network_of t) a)
  unfolding process_rules
  enters e = append-none (taken_rules (network_of t) a) (entering_rules t a n) refl e

-- ---- the reader's numbers
module _ (a : Arrival) where
  -- one of them decides
  pub reader-refuses : is_read a.line ≡ false → (n : Network) → first_of (taken_rules n a) ≡ number_for a.line
  unfolding taken_rules number_for
  reader-refuses r n = append-some ((meaning_in a).rules n a) (line_rules a.line) (refused-number a.line r)

  -- none applies: the command's decide
  pub command-decides : is_read a.line ≡ true → (n : Network) → first_of (taken_rules n a) ≡ first_of ((meaning_in a).rules n a)
  unfolding taken_rules number_for
  command-decides r n = append-none ((meaning_in a).rules n a) (line_rules a.line) (rules-numbered a.line) (number-none a.line r)
