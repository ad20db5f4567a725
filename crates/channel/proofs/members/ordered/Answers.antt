-- `ordered` meets its contract. The invariant: the members so far are in order, and whatever is above `last` is above them all. Assumes nothing.
use mathlib.Core.Path.{sym, ap, ◌∙◌}
use mathlib.Core.List.{List, []}
use native.Mathlib.Omega.{arith}
use lib.ListN.{get_or}
use lib.Seq.{take_all}
use Rattle.channel.specs.declared.Member.{Member}
use Rattle.channel.specs.Members.{roster, ordered}
use Rattle.channel.proofs.Gathering.{pushed-room}
use Rattle.channel.proofs.Ordering.{inserted-none, inserted-sorted, inserted-last, inserted-put}
use Rattle.channel.proofs.members.ordered.Goals as goal
use Rattle.channel.proofs.members.ordered.Goals.{then-is_below, else-is_below}

-- what the code reads past the list's end
abbrev none : Member
none = record { id = []; status = 0 }

pub loop-m-init : goal.loop-m-init
loop-m-init c =
    inserted-none c.members-m-items.result.now c.empty-all.result _ c.empty-all.ensures

pub insert-requires : goal.insert-requires
insert-requires c =
    let l = c.loop-m in
    inserted-sorted c.members-m-items.result.now l.m-index l.all l.last l.invariant (omega (arith, c.members-m-items.ensures.few))

pub loop-m-preserved : goal.loop-m-preserved
loop-m-preserved c =
    let l = c.loop-m in
    let items = c.members-m-items.result.now in
    elim c.if-is_below.branch [
      | then-is_below w ↦
          rw (w.all-is, w.last-is, w.push.ensures, pushed-room l.all (get_or items l.m-index none) (omega (arith, l.invariant.few, c.members-m-items.ensures.few)))
          (inserted-last items l.m-index l.all l.last l.invariant none c.loop-m-test.true (sym w.if-is_below.ensures))
      | else-is_below w ↦
          rw (w.all-is, w.last-is)
          (inserted-put items l.m-index l.all l.last l.invariant none c.loop-m-test.true w.insert.new.self w.insert.ensures (omega (arith, c.members-m-items.ensures.few)) (sym w.if-is_below.ensures))
    ]

pub returns : goal.returns
returns c =
    let l = c.loop-m in
    let items = c.members-m-items.result.now in
    l.invariant.is ∙ ap (λ (m : List Member). roster (ordered m)) (take_all l.m-index items (omega arith) ∙ c.members-m-items.ensures.list)
