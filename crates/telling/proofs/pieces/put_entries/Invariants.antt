-- The invariant of `put_entries`: what is put, with the text that is left at k, is the list's text.
use Rattle.std.proofs.Common.{◌≡◌, take, drop}
use Rattle.octets.specs.Pages.{added}
use Rattle.telling.specs.Telling.{list_text}
use Rattle.telling.proofs.Lines.{entries_from}
use Rattle.telling.proofs.pieces.put_entries.Given as goal

abbrev pub invariant-loop-k : goal.invariant-loop-k
invariant-loop-k l =
    added l.line (entries_from l.k (drop l.k (take l.r.count l.r.members))) ≡ added l.initial.line (list_text (take l.r.count l.r.members))
