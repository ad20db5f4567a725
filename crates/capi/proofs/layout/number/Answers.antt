-- `number` meets its contract: the numbers of the code are those that C's rules give, which is computed, and past the last there is none. Assumes nothing.
use mathlib.Core.Path.{refl, sym}
use lib.ListN.{get_or-eq_default}
use Rattle.capi.specs.Layout.{layout, numbers, numbers_of, placed, ended, widest, up_to}
use Rattle.capi.proofs.layout.number.Goals as goal

pub returns-then-k-ge-COUNT : goal.returns-then-k-ge-COUNT
unfolding layout numbers numbers_of placed ended widest up_to
returns-then-k-ge-COUNT c =
    sym (get_or-eq_default layout 0 c.if-k-ge-COUNT.true)

pub returns : goal.returns
unfolding layout numbers numbers_of placed ended widest up_to
returns c =
    refl
