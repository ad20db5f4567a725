-- `others` meets its contract. The invariant: those of the members so far that stay are left. Assumes nothing.
use mathlib.Core.Path.{sym, ap, ◌∙◌}
use mathlib.Core.List.{[]}
use native.Mathlib.Omega.{arith}
use lib.ListN.{get_or}
use Rattle.channel.specs.declared.Member.{Member}
use Rattle.channel.specs.declared.Roster.{Roster}
use Rattle.channel.specs.Members.{roster, pushed, others}
use Rattle.channel.proofs.Gathering.{pushed-room, pushed-roster}
use Rattle.channel.proofs.Others.{others-gone, others-stay}
use Rattle.channel.proofs.members.others.Goals as goal
use Rattle.channel.proofs.members.others.Goals.{then-not-is_same, else-not-is_same}

-- what the code reads past the list's end
abbrev none : Member
none = record { id = []; status = 0 }

pub loop-m-init : goal.loop-m-init
unfolding others roster
loop-m-init c =
    (omega (arith, ap (λ (r : Roster). r.count) c.empty-left.ensures), c.empty-left.ensures)

pub loop-m-preserved : goal.loop-m-preserved
loop-m-preserved c =
    let l = c.loop-m in
    let items = c.members-m-items.result.now in
    elim c.if-not-is_same.branch [
      | then-not-is_same w ↦
          let new = w.left-is ∙ w.push.ensures ∙ pushed-room l.left (get_or items l.m-index none) (omega (arith, c.members-m-items.ensures.few)) in
          (omega (arith, ap (λ (r : Roster). r.count) new), new ∙ ap (λ (r : Roster). pushed r (get_or items l.m-index none)) l.invariant.1 ∙ pushed-roster _ _ ∙ ap roster (sym (others-stay c.args.id items l.m-index none c.loop-m-test.true (sym w.if-not-is_same.ensures))))
      | else-not-is_same w ↦
          (omega (arith, ap (λ (r : Roster). r.count) w.left-is), w.left-is ∙ l.invariant.1 ∙ ap roster (sym (others-gone c.args.id items l.m-index none c.loop-m-test.true (sym w.if-not-is_same.ensures))))
    ]
