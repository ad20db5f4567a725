-- The invariant of `put_listing`: what is put, with the lines of the slots from k on, is all of them; and all are no longer than those, and as much as the slots before k
-- may have.
use Rattle.std.proofs.Common.{◌≡◌, ◌+◌, ◌*◌, ◌≤◌, length}
use Rattle.octets.specs.Pages.{added}
use Rattle.listing.specs.Private.Slots.{slot_limit}
use Rattle.listing.proofs.Lines.{lines_from}
use Rattle.listing.proofs.put_listing.Given as goal

abbrev pub invariant-loop-k : goal.invariant-loop-k
invariant-loop-k l =
    (added l.text (lines_from l.bans l.t.slots l.k) ≡ added l.initial.text (lines_from l.bans l.t.slots 0))
    × (length (lines_from l.bans l.t.slots 0) ≤ length (lines_from l.bans l.t.slots l.k) + slot_limit * l.k)
