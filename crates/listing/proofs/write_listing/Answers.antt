-- `write_listing` meets its contract: the lines of any table have room in the local text, and go to the output where that has room for them. Assumes nothing.
use Rattle.std.proofs.Common.{ap, ◌∙◌, arith}
use Rattle.octets.specs.Pages.{Page, added}
use Rattle.writer.specs.Writing.{written_of}
use Rattle.writer.proofs.Answers.{answers-copied}
use Rattle.table.specs.Network.{Network, network_of, table_with}
use Rattle.listing.specs.Listing.{listing, listing_limit, listing_rules}
use Rattle.listing.proofs.Lines.{listing-over, listing-accepts}
use Rattle.listing.proofs.write_listing.Goals as goal

pub returns : goal.returns
returns c =
    let n : Network = network_of (table_with c.args.t c.args.bans.now) in
    let w = listing n in
    let out = c.args.out.now in
    let limit = c.put_listing.ensures.limit in
    let both = answers-copied (listing_rules n out) w out listing_limit (λ h. absurd (omega (arith, limit.0))) (listing-over n out) (λ _ k. listing-accepts n out k)
    _ (c.put_listing.ensures.lines ∙ ap (λ (g : Page). added g w) c.new-text.ensures) _ c.copy_to.ensures.length _ c.copy_to.ensures.output in
    record { answer = c.into.ensures ∙ ap written_of c.ok_or.ensures.value ∙ both.0; output = both.1; limit = limit }
