-- `has_mode` meets its contract: a shift and a mask take the bit out, and past the eighth place a byte has none. Assumes nothing.
use mathlib.Core.Path.{sym, ◌∙◌}
use borrow.Author.Rules.{rules}
use borrow.Author.Tests.{le-ltb}
use Rattle.laws.proofs.Bitwise.{bit-tested, bit_past}
use Rattle.channel.specs.Modes.{mode_count}
use Rattle.channel.proofs.modes.has_mode.Goals as goal

pub returns-then-place-lt-MODES : goal.returns-then-place-lt-MODES
returns-then-place-lt-MODES c =
    bit-tested c.args.modes c.args.place

pub returns-else-place-lt-MODES : goal.returns-else-place-lt-MODES
returns-else-place-lt-MODES c =
    le-ltb c.args.place mode_count (search rules) ∙ sym (bit_past c.args.modes mode_count c.args.place (search rules) (search rules))
