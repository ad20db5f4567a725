-- `are_good` meets its contract. The invariant: all slots are good, each with its list, exactly if those from k on are. Assumes nothing.
use mathlib.Core.Path.{sym, ◌∙◌}
use native.Mathlib.Omega.{arith}
use Rattle.table.proofs.Searching.{nothing}
use Rattle.table.proofs.WellFormed.{record-stops, list-stops, slot-passes, slots-past}
use Rattle.table.proofs.slots.are_good.Goals as goal
use Rattle.table.proofs.slots.are_good.Goals.{then-not-good_record-via-then-not-good_record, then-not-good_record-via-else-not-good_record+then-not-is_good}

pub returns-then-not-good_record : goal.returns-then-not-good_record
returns-then-not-good_record c =
    let slots = c.args.slots.now in
    let l = c.loop-k in
    sym
    (sym l.invariant
    ∙ elim c.then-not-good_record.branch [
      | then-not-good_record-via-then-not-good_record w ↦ record-stops c.args.bans.now slots l.k nothing c.loop-k-test.true (sym w.if-not-good_record.ensures)
      | then-not-good_record-via-else-not-good_record+then-not-is_good w ↦
          list-stops c.args.bans.now slots l.k nothing c.loop-k-test.true (sym w.if-not-good_record.ensures) (sym w.if-not-is_good.ensures)
    ])

pub loop-k-preserved : goal.loop-k-preserved
loop-k-preserved c =
    let l = c.loop-k in
    sym (slot-passes c.args.bans.now c.args.slots.now l.k nothing c.loop-k-test.true (sym c.if-not-good_record.ensures) (sym c.if-not-is_good.ensures)) ∙ l.invariant

pub returns : goal.returns
returns c =
    let l = c.loop-k in
    sym (sym l.invariant ∙ slots-past c.args.bans.now c.args.slots.now l.k (omega arith))
