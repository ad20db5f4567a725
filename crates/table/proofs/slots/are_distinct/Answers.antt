-- `are_distinct` meets its contract. The invariant: no two of all slots are alike exactly if no two of those that are left are. Assumes nothing.
use mathlib.Core.Path.{sym, ◌∙◌}
use native.Mathlib.Omega.{arith}
use borrow.Author.Rules.{rules}
use borrow.Author.Tests.{tests}
use lib.ListN.{get_or}
use Rattle.std.proofs.lemmas.Iterator.{YieldsList-from_slice}
use Rattle.std.proofs.lemmas.Iterator.Search.{any_from_yields_List}
use Rattle.table.specs.Table.{alike}
use Rattle.table.proofs.Searching.{nothing}
use Rattle.table.proofs.Pairs.{others, row-alike, row-unlike, row-free, row-none}
use Rattle.table.proofs.slots.are_distinct.Goals as goal
use Rattle.table.proofs.slots.are_distinct.Goals.{else-r-ne0-via-then-r-ne0+else-any, else-r-ne0-via-else-r-ne0}

pub returns-then-any : goal.returns-then-any
returns-then-any c =
    let l = c.loop-left.left.now in
    let any = any_from_yields_List (alike (get_or l 0 nothing)) _ _ c.any.result c.any.ensures.ran (YieldsList-from_slice (others l) cc) (λ x b q k. search (rules, tests)) in
    sym (c.loop-left.invariant ∙ row-alike l nothing c.in-len1-up.len_at_least (sym any ∙ c.if-any.true))

pub loop-left-preserved : goal.loop-left-preserved
loop-left-preserved c =
    let l = c.loop-left.left.now in
    c.loop-left.invariant
    ∙ elim c.else-r-ne0.branch [
      | else-r-ne0-via-then-r-ne0+else-any w ↦
          let any = any_from_yields_List (alike (get_or l 0 nothing)) _ _ w.any.result w.any.ensures.ran (YieldsList-from_slice (others l) cc) (λ x b q k. search (rules, tests)) in
          row-unlike l nothing c.in-len1-up.len_at_least (sym any ∙ w.if-any.false)
      | else-r-ne0-via-else-r-ne0 w ↦ row-free l nothing c.in-len1-up.len_at_least w.if-r-ne0.false
    ]

pub returns : goal.returns
returns c =
    sym (c.loop-left.invariant ∙ row-none c.loop-left.left.now (omega (arith, c.in_default.len_below)))
