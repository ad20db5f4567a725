-- Links registered and dropped: which rule answers, that doing so twice changes nothing more, and that the network stays. Assumes nothing.
use mathlib.Core.Path.{◌≡◌, refl, sym, ap, ◌∙◌}
use mathlib.Core.Bool.{Bool, true, false, not, cond}
use mathlib.Core.List.{[], ◌∷◌}
use Prim.Native.Nat.{ℕ, ◌≤◌, ◌<◌}
use lib.Dec.{eqb}
use borrow.Author.Tests.{lt-ltb, le-ltb, ltb-true, ltb-false}
use Rattle.refusal.specs.Numbers.{accepted, not_well_formed, bad_link}
use Rattle.refusal.specs.Rules.{◌when◌, first_of, ascend, ascend_from, place_in}
use Rattle.refusal.specs.declared.Refusal.{Refusal}
use Rattle.refusal.specs.Refusals.{number_of}
use Rattle.refusal.proofs.Refusals.{not-accepted}
use Rattle.refusal.proofs.Rules.{skip, stop, first-nil}
use Rattle.links.specs.declared.Links.{Links}
use Rattle.links.specs.Links.{link_count, is_link, with_link, without_link}
use Rattle.links.proofs.Sets.{with-twice, without-twice}
use Rattle.table.specs.Network.{Table, network_of, table_of}
use Rattle.table.specs.Table.{Relinked, good_network, good_table, link_rules, relinked, register_answer, unregister_answer}

-- The rules stand in the order of their numbers: the first in it that applies is given.
pub rules-ascend : (t : Table) (link : ℕ) → ascend (link_rules t link) ≡ true
unfolding ascend_from link_rules place_in
rules-ascend t link = refl

-- ---- the answer, by the rule that applies
module _ (t : Table) (link : ℕ) (l : Links) where
  relinked-by : (k : ℕ) → first_of (link_rules t link) ≡ k → relinked t link l ≡ record { number = k; table = cond (eqb k accepted) (table_of (network_of t) l) t }
  unfolding relinked
  relinked-by k e = rw e

  -- what the rules refuse stays as it is
  pub links-refused : (e : Refusal) → number_of e ≡ first_of (link_rules t link) → relinked t link l ≡ record { number = number_of e; table = t }
  links-refused e q = relinked-by (number_of e) (sym q) ∙ rw (not-accepted e)

  -- and where they refuse nothing the links change
  pub links-accepted : accepted ≡ first_of (link_rules t link) → relinked t link l ≡ record { number = accepted; table = table_of (network_of t) l }
  links-accepted q = relinked-by accepted (sym q)

  -- a table that isn't well formed is refused and stays as it is
  pub links-ill-formed : good_table t ≡ false → relinked t link l ≡ record { number = not_well_formed; table = t }
  unfolding link_rules
  links-ill-formed e = relinked-by not_well_formed (stop _ _ (rw e))

  module _ (good : good_table t ≡ true) where
    -- the link's own rule is left
    then : (k : ℕ) → first_of (bad_link when not (is_link link) ∷ []) ≡ k → first_of (link_rules t link) ≡ k
    unfolding link_rules
    then k e = skip _ _ (rw good) ∙ e

    -- a number that is no link is refused, and the table stays as it is
    pub links-no-link : link_count ≤ link → relinked t link l ≡ record { number = bad_link; table = t }
    links-no-link h = relinked-by bad_link (then bad_link (stop _ _ (rw (le-ltb link link_count h))))

    -- a link is accepted where the table is well formed: the links change, and the network stays
    pub links-changed : link < link_count → relinked t link l ≡ record { number = accepted; table = table_of (network_of t) l }
    links-changed h = relinked-by accepted (then accepted (skip _ _ (rw (lt-ltb link link_count h)) ∙ first-nil))

-- ---- the table after
module _ (t : Table) (link : ℕ) (l : Links) where
  -- the network stays
  pub relinked-network : network_of (relinked t link l).table ≡ network_of t
  unfolding relinked
  relinked-network = go (eqb (first_of (link_rules t link)) accepted)
    where
      go : (b : Bool) → network_of (cond b (table_of (network_of t) l) t) ≡ network_of t
      go true = refl
      go false = refl

  -- and a well-formed table stays well formed
  pub relinked-good : good_table (relinked t link l).table ≡ good_table t
  relinked-good = ap good_network relinked-network

-- Dropping a link leaves the network as it is.
pub unregister-network : (t : Table) (link : ℕ) → network_of (unregister_answer t link).table ≡ network_of t
unregister-network t link = relinked-network t link (without_link t.links link)

-- Registering a link leaves the network as it is.
pub register-network : (t : Table) (link : ℕ) → network_of (register_answer t link).table ≡ network_of t
register-network t link = relinked-network t link (with_link t.links link)

-- ---- doing so twice changes nothing more
module _ (t : Table) (link : ℕ) (f : Links → Links) (twice : (l : Links) → f (f l) ≡ f l) where
  relinked-twice : relinked (relinked t link (f t.links)).table link (f (relinked t link (f t.links)).table.links) ≡ relinked t link (f t.links)
  relinked-twice = go (good_table t) refl (is_link link) refl
    where
      again : (r : Relinked) → relinked t link (f t.links) ≡ r → relinked r.table link (f r.table.links) ≡ r → relinked (relinked t link (f t.links)).table link (f (relinked t link (f t.links)).table.links) ≡ relinked t link (f t.links)
      again r e s = rw e s

      go : (g : Bool) → good_table t ≡ g → (h : Bool) → is_link link ≡ h → relinked (relinked t link (f t.links)).table link (f (relinked t link (f t.links)).table.links) ≡ relinked t link (f t.links)
      go false e h q = let is = links-ill-formed t link (f t.links) e in again _ is is
      go true e false q = let is = links-no-link t link (f t.links) e (ltb-false link link_count q) in again _ is is
      go true e true q =
          let h = ltb-true link link_count q in
          let next : Table = table_of (network_of t) (f t.links) in
          again _ (links-changed t link (f t.links) e h) (rw (twice t.links) (links-changed next link (f t.links) e h))

-- Registering a link again answers the same.
pub register-twice : (t : Table) (link : ℕ) → register_answer (register_answer t link).table link ≡ register_answer t link
register-twice t link = relinked-twice t link (λ l. with_link l link) (λ l. with-twice l link)

-- Dropping a link again answers the same.
pub unregister-twice : (t : Table) (link : ℕ) → unregister_answer (unregister_answer t link).table link ≡ unregister_answer t link
unregister-twice t link = relinked-twice t link (λ l. without_link l link) (λ l. without-twice l link)
