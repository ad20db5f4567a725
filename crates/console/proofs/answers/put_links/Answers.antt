-- `put_links` meets its contract. The invariant: what was put, with the links that are left from here on, is the text of all. The measure: the links left. Assumes nothing.
use Rattle.octets.proofs.Room.{begun, begun-step, begun-end}
use Rattle.console.proofs.Answering.{prefixed-links-step, prefixed-links-past}
use Rattle.console.proofs.answers.put_links.Goals as goal

pub loop-link-init : goal.loop-link-init
loop-link-init c =
    begun _ _ _

pub loop-link-preserved : goal.loop-link-preserved
loop-link-preserved c =
    let loop = c in
    begun-step _ _ _ _ _ _ _ _ _ _ (prefixed-links-step loop.args.set loop.loop-link.link c.loop-link-test.true) c.put_link-next.ensures loop.loop-link.invariant

pub returns : goal.returns
returns c =
    begun-end _ _ _ _ _ _ (prefixed-links-past _ c.loop-link.link c.loop-link-test.false) c.loop-link.invariant
