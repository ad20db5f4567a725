-- The invariant of `put_masks`: what is put, with the masks that are left from here on, is the text of all.
use Rattle.std.proofs.Common.{◌≡◌}
use Rattle.octets.specs.Bytes.{space}
use Rattle.octets.specs.Pages.{added}
use Rattle.laws.specs.Lists.{separated}
use Rattle.bans.specs.Masks.{masks}
use Rattle.listing.proofs.Lines.{masks_from}
use Rattle.listing.proofs.put_masks.Given as goal

abbrev pub invariant-loop-i : goal.invariant-loop-i
invariant-loop-i l =
    added l.text (masks_from l.i (masks l.list)) ≡ added l.initial.text (separated space (masks l.list))
