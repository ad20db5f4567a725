-- `Record::unused` meets its contract: no more is in use than there is room for. Assumes nothing.
use mathlib.Core.Path.{◌≡◌, ◌∙◌}
use native.Mathlib.Omega.{arith}
use borrow.Author.Rules.{rules}
use lib.ListN.{length, length-drop}
use lib.Seq.{take_all}
use Rattle.laws.proofs.Lists.{drop_within, unmapped}
use Rattle.channel.specs.Limits.{member_limit}
use Rattle.channel.proofs.Record.unused.Goals as goal

pub returns : goal.returns
returns c =
    let r = c.args.self.now in
    let n = c.min.result in
    let long : length r.members ≡ member_limit = search (rules, unmapped) in
    take_all _ _ (omega (arith, length-drop n r.members)) ∙ drop_within r.members r.count n (omega arith)
