-- The invariant of `put_params`: what is put, with the parameters from k on, is the whole.
use Rattle.std.proofs.Common.{◌≡◌, map, take, drop}
use Rattle.octets.specs.Pages.{added}
use Rattle.message.specs.Parts.{bytes_at}
use Rattle.writer.specs.Form.{written_params}
use Rattle.writer.proofs.form.put_params.Given as goal

abbrev pub invariant-loop-k : goal.invariant-loop-k
invariant-loop-k l =
    added l.line (written_params l.k (map (bytes_at l.text) (drop l.k (take l.m.count l.m.params)))) ≡ added l.initial.line (written_params 0 (map (bytes_at l.text) (take l.m.count l.m.params)))
