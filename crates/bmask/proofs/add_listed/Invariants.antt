-- `add_listed` meets its contract. The invariant: the words left, put into the list so far, come to what all come to. Assumes nothing.
use Rattle.std.proofs.Common.{◌≡◌}
use Rattle.bans.specs.Putting.{put_all}
use Rattle.message.specs.Listed.{words_left}
use Rattle.bmask.specs.Masks.{listed}
use Rattle.bmask.proofs.add_listed.Given as goal

abbrev pub invariant-loop-word : goal.invariant-loop-word
invariant-loop-word l =
    put_all (listed l.fn.text) l.fn.list ≡ put_all (words_left l.word-iterator) l.sofar
