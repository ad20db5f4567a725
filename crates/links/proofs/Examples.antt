-- Sets of links as computed from their definitions: 0, 3 and 5 registered, a line from 3, and the last link. Instances that meet the premises of this
-- crate's laws. Assumes nothing.
use mathlib.Core.Path.{◌≡◌, refl}
use mathlib.Core.List.{[], ◌∷◌}
use native.Mathlib.Omega.{arith}
use lib.Count.{ones}
use Rattle.laws.specs.Bits.{has_bit}
use Rattle.links.specs.declared.Links.{Links}
use Rattle.links.specs.Links.{links, no_links, with_link, set_below, less_link, without_link, relay_set, links_from, links_in}
use Rattle.links.proofs.Sets.{with-is, with_none, less-in, less-out}
use Rattle.links.proofs.Counted.{ones-links}

three : Links
unfolding with_link
three = with_link (with_link (with_link no_links 5) 0) 3

registered : links_in three.set ≡ 0 ∷ 3 ∷ 5 ∷ []
unfolding three links_from has_bit
registered = refl

relayed : links_in (relay_set three 3) ≡ 0 ∷ 5 ∷ []
unfolding three relay_set less_link set_below links_from has_bit
relayed = refl

dropped : links_in (without_link three 0).set ≡ 3 ∷ 5 ∷ []
unfolding three without_link less_link set_below links_from has_bit
dropped = refl

-- 31 is the last link, 32 is none
last : links_in (with_link (with_link no_links 31) 32).set ≡ 31 ∷ []
unfolding with_link links_from has_bit
last = refl

-- ---- the laws that have premises
one_more : with_link (links 33) 3 ≡ links 41
one_more = with-is (links 33) 3 (omega arith)

no_more : with_link (links 33) 32 ≡ links 33
no_more = with_none (links 33) 32 (omega arith)

one_less : less_link 41 3 ≡ 33
unfolding has_bit
one_less = less-in 41 3 (omega arith) refl

no_less : less_link 33 3 ≡ 33
unfolding has_bit
no_less = less-out 33 3 (omega arith) refl

two : ones 33 ≡ 2
unfolding links_from has_bit
two = ones-links 33 (omega arith)
