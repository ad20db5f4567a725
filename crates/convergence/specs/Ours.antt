-- The relay's own taking and merging: what `process` (crate relay) and `merge` (crate merging) answer, by the contracts of `taking` and `merging` (src/lib.rt).
use Rattle.std.specs.Prelude.{length}
use Rattle.octets.specs.Room.{front}
use Rattle.merging.specs.Merging.{merge_answer}
use Rattle.relay.specs.Relay.{process_answer, sent}
use Rattle.convergence.specs.Demands.{Taking, Merging}

abbrev pub ours : Taking
ours t a out = (process_answer t a (length out), front (sent t a (length out)) out)

abbrev pub our_merging : Merging
our_merging = merge_answer
