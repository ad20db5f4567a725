-- `Pending::extend` meets its contract: as many bytes as there is room for are put behind those held. Assumes nothing.
use mathlib.Core.Path.{◌≡◌, ◌∙◌}
use mathlib.Core.List.{◌++◌}
use native.Mathlib.Omega.{arith}
use lib.ListN.{take}
use Rattle.std.proofs.lemmas.Grind.{common_steps}
use Rattle.console.specs.Lines.{held_in}
use Rattle.console.proofs.Splitting.{extended-holds}
use Rattle.console.proofs.lines.Pending.extend.Goals as goal

pub returns : goal.returns
returns c =
    let held = held_in c.args.self.now in
    let put : c.try_extend_from_slice.new.self.items ≡ held ++ take c.min-n.result c.args.more.now = grind (arith, common_steps) in
    put ∙ extended-holds held c.args.more.now (omega (arith, c.remaining_capacity.ensures)) _ (omega (arith, c.min-n.ensures, c.remaining_capacity.ensures))
