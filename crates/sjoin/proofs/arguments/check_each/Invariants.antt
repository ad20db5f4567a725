-- `check_each` meets its contract. The invariant: what is known before a letter is looked at. Assumes nothing.
use Rattle.refusal.specs.Faults.{first_fault}
use Rattle.message.specs.Parts.{content_by}
use Rattle.sjoin.specs.Modes.{letters_of, parametered}
use Rattle.sjoin.specs.Faults.{arguments_at, argument_checks}
use Rattle.sjoin.specs.Join.{arguments_in}
use Rattle.sjoin.proofs.Parameters.{Weighed}
use Rattle.sjoin.proofs.arguments.check_each.Given as goal

abbrev pub invariant-loop-letter : goal.invariant-loop-letter
invariant-loop-letter l =
    let c = content_by l.text l.m in
    Weighed c l.last l.letter-items l.letter-index l.at (first_fault (argument_checks arguments_at (parametered (letters_of l.modes)) (arguments_in c)))
