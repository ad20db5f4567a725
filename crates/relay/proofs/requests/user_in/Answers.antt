-- `user_in` meets its contract: the prefix is a user id, or not. Assumes nothing.
use mathlib.Core.Path.{◌≡◌}
use mathlib.Core.Bool.{true, false}
use Rattle.names.specs.Names.{is_user_id}
use Rattle.message.specs.Content.{Content, prefix_is}
use Rattle.message.specs.Parts.{content_by}
use Rattle.relay.proofs.Users.{user-told, user-held}
use Rattle.relay.proofs.requests.user_in.Goals as goal

pub returns-then-is_user_id : goal.returns-then-is_user_id
returns-then-is_user_id c =
    let content : Content = content_by c.args.line.now c.args.m in
    let source = c.prefix_in-source in
    let user : prefix_is is_user_id content.prefix ≡ true = user-told content source.result.now source.ensures.bytes _ true c.is_user_id.ensures c.if-is_user_id.true in
    rw (user, user-held content source.result.now source.ensures.bytes user _ c.user_id.ensures)

pub returns-else-is_user_id : goal.returns-else-is_user_id
returns-else-is_user_id c =
    let source = c.prefix_in-source in
    rw (user-told (content_by c.args.line.now c.args.m) source.result.now source.ensures.bytes _ false c.is_user_id.ensures c.if-is_user_id.false)
