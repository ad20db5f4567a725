-- The invariant of `put_capitals`: what is put are the capitals of the bytes so far.
use Rattle.std.proofs.Common.{◌≡◌, map, take}
use Rattle.octets.specs.Bytes.{capital}
use Rattle.octets.specs.Pages.{added}
use Rattle.writer.proofs.form.put_capitals.Given as goal

abbrev pub invariant-loop-b : goal.invariant-loop-b
invariant-loop-b l =
    l.line ≡ added l.initial.line (map capital (take l.b-index l.p))
