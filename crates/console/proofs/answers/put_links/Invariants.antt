-- `put_links` meets its contract. The invariant: what was put, with the links that are left from here on, is the text of all. The measure: the links left. Assumes nothing.
use Prim.Native.Nat.{◌-◌}
use mathlib.Core.List.{map}
use Rattle.octets.specs.Bytes.{comma}
use Rattle.laws.specs.Lists.{prefixed}
use Rattle.octets.specs.Decimals.{digits_of}
use Rattle.octets.proofs.Room.{Begun}
use Rattle.links.specs.Links.{link_count, links_in}
use Rattle.console.proofs.Answering.{prefixed_links}
use Rattle.console.proofs.answers.put_links.Given as goal

abbrev pub invariant-loop-link : goal.invariant-loop-link
invariant-loop-link l =
    Begun l.initial.out l.at l.out l.next (prefixed_links l.set l.link) (prefixed comma (map digits_of (links_in l.set)))

abbrev pub decreases-loop-link : goal.decreases-loop-link
decreases-loop-link l =
    link_count - l.link
