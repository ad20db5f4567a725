-- `held` meets its contract: the words are put into room that is zero. Assumes nothing.
use mathlib.Core.Path.{◌∙◌}
use Rattle.octets.proofs.Room.{put-padded}
use Rattle.wording.specs.Wording.{text_limit}
use Rattle.wording.proofs.held.Goals as goal

pub returns : goal.returns
returns c =
    let entry = c in
    rw (c.put.ensures.bytes ∙ put-padded text_limit entry.args.words.now entry.requires)
