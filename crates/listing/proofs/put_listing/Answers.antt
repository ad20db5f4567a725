-- `put_listing` meets its contract: each turn puts the lines of its slot, which are no longer than those of a slot may be. Assumes nothing.
use Rattle.std.proofs.Common.{◌≡◌, ◌<◌, List, ℕ, refl, ap, length, arith}
use borrow.Author.Rules.{rules}
use Rattle.laws.proofs.Lists.{unmapped}
use Rattle.octets.proofs.Pages.{added_step, added_end}
use Rattle.channel.specs.Limits.{slot_count}
use Rattle.listing.specs.Listing.{listing}
use Rattle.listing.proofs.Lines.{lines_step, lines-past, lines-few}
use Rattle.listing.proofs.put_listing.Goals as goal

pub loop-k-preserved : goal.loop-k-preserved
loop-k-preserved c =
    let sixteen : length c.args.t.slots ≡ slot_count = search (rules, unmapped) in
    let bans = c.args.bans.now in
    let slots = c.args.t.slots in
    let k = c.loop-k.k in
    let inside : k < length slots = omega (arith, sixteen) in
    let listed = c.list_at.ensures.bytes in (
      added_step _ _ _ _ _ _ _ (lines_step bans slots k _ inside) (rw listed at c.put_slot.ensures.lines) c.loop-k.invariant.0,
      lines-few bans slots k _ inside _ (rw listed at c.put_slot.ensures.few) c.loop-k.invariant.1,
    )

pub returns : goal.returns
unfolding listing
returns c =
    let sixteen : length c.args.t.slots ≡ slot_count = search (rules, unmapped) in
    let none = lines-past c.args.bans.now c.args.t.slots c.loop-k.k (omega (arith, sixteen)) in
    record { lines = added_end _ _ _ _ none c.loop-k.invariant.0; limit = (omega (arith, ap (λ (l : List ℕ). length l) none, c.loop-k.invariant.1), refl) }
