-- `entries_of` meets its contract. The invariant: the words before those that are left are entries, and their members are gathered. Assumes nothing.
use Rattle.message.specs.Listed.{words_left}
use Rattle.sjoin.proofs.Listed.{Gathered}
use Rattle.sjoin.proofs.entries.entries_of.Given as goal

abbrev pub invariant-loop-word : goal.invariant-loop-word
invariant-loop-word l =
    Gathered l.list (words_left l.word-iterator) l.members
