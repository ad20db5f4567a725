-- `describe` meets its contract: the text has room in the scratch, so it is put where it has room in the output. Assumes nothing.
use Rattle.std.proofs.Common.{ap, ◌∙◌}
use Rattle.octets.specs.Pages.{Page, added}
use Rattle.channel.specs.Record.{decode}
use Rattle.telling.specs.Telling.{described, description_limit}
use Rattle.telling.proofs.Described.{described_goes}
use Rattle.telling.proofs.describe.Goals as goal

pub returns : goal.returns
returns c =
    let r = decode c.args.r in
    let limit = c.put_description.ensures.limit in
    let told = c.put_description.ensures.told ∙ ap (λ (g : Page). added g (described r)) c.new-text.ensures in
    let goes = described_goes c.args.out.now r description_limit limit.0 _ told _ c.copy_to.ensures.length _ c.copy_to.ensures.output in
    record { answer = c.unwrap_or.ensures ∙ goes.0; output = goes.1; limit = limit }
