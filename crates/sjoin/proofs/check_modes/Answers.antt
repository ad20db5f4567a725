-- `check_modes` meets its contract: a letter is at fault, whose place in the text is behind where the modes begin, or what follows decides. Assumes nothing.
use Rattle.std.proofs.Common.{◌≡◌, length, arith, rules, ◌∙◌}
use Rattle.laws.proofs.Lists.{unmapped}
use Rattle.message.specs.Grammar.{param_limit}
use Rattle.message.specs.Parts.{span}
use Rattle.sjoin.proofs.Faults.{letters-inside, letters-decide, letters-pass}
use Rattle.sjoin.proofs.check_modes.Goals as goal

pub overflow_add-m : goal.overflow_add-m
overflow_add-m c =
    let a = c.args in
    let full : length a.m.params ≡ param_limit = search (rules, unmapped) in
    omega (arith, letters-inside a.text.now a.m a.last c.requires.0 full (span 0 0) c.param_in-modes.result.now c.param_in-modes.ensures.bytes _ c.in-Err.ensures 18446744073709551616 (omega arith) (omega arith))

pub returns-in-Err : goal.returns-in-Err
returns-in-Err c =
    let a = c.args in
    let full : length a.m.params ≡ param_limit = search (rules, unmapped) in
    rw c.at.ensures (letters-decide a.text.now a.m a.last c.requires.0 full _ c.param_in-modes.result.now c.param_in-modes.ensures.bytes _ c.in-Err.ensures)

pub returns : goal.returns
returns c =
    let a = c.args in
    let full : length a.m.params ≡ param_limit = search (rules, unmapped) in
    c.check_arguments.ensures ∙ letters-pass a.text.now a.m a.last c.requires.0 full (span 0 0) c.param_in-modes.result.now c.param_in-modes.ensures.bytes c.in_default.ensures
