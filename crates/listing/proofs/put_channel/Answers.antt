-- `put_channel` meets its contract: what is told of a record has its limit, and so have its masks. Assumes nothing.
use Rattle.bans.specs.Records.{whole}
use Rattle.listing.proofs.Lines.{channel-few}
use Rattle.listing.proofs.put_channel.Goals as goal

pub returns-clause-few : goal.returns-clause-few
returns-clause-few c = channel-few (whole c.args.r (record { room = c.args.list.now })) c.put_description.ensures.limit.0
