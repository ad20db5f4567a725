-- `good_key` meets its contract: with the mode k there is a key, and a good one, and without it there is none. Assumes nothing.
use mathlib.Core.Path.{sym, ◌∙◌}
use Rattle.laws.proofs.Lists.{nil-length}
use Rattle.channel.proofs.Keys.{key-with, key_without}
use Rattle.channel.proofs.well.good_key.Goals as goal

pub returns-then-has_mode : goal.returns-then-has_mode
returns-then-has_mode c =
    c.is_key.ensures ∙ sym (key-with c.args.modes c.args.key.now (sym c.if-has_mode.ensures))

pub returns-else-has_mode : goal.returns-else-has_mode
returns-else-has_mode c =
    c.is_empty.ensures ∙ sym (nil-length c.args.key.now) ∙ sym (key_without c.args.modes c.args.key.now (sym c.if-has_mode.ensures))
