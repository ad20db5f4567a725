-- `is_clean` meets its contract: the bytes in use are tested first, and then the others. Assumes nothing.
use Rattle.std.proofs.Common.{◌≡◌, sym, ap, ◌∙◌, take}
use Rattle.octets.specs.Bytes.{is_non_lf}
use Rattle.octets.proofs.Room.{part-front}
use Rattle.laws.specs.Lists.{all}
use Rattle.feed.proofs.Feeder.is_clean.Goals.{After-all_in}
use Rattle.feed.proofs.Feeder.is_clean.Goals as goal

clean : (c : After-all_in) → c.all_in.result ≡ all is_non_lf (take c.args.self.now.len c.args.self.now.bytes)
clean c = c.all_in.ensures ∙ ap (all is_non_lf) (c.part.ensures.bytes ∙ part-front _ _)

pub returns-then-all_in : goal.returns-then-all_in
returns-then-all_in c = rw (sym (clean (goal.at.returns-then-all_in c).After-all_in) ∙ c.if-all_in.true) c.zero_from.ensures

pub returns-else-all_in : goal.returns-else-all_in
returns-else-all_in c = rw (sym (clean (goal.at.returns-else-all_in c).After-all_in) ∙ c.if-all_in.false) c.if-all_in.false
