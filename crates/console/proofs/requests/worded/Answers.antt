-- `worded` meets its contract: the bytes that the line begins with decide which of the two it is. Assumes nothing.
use mathlib.Core.Path.{◌∙◌}
use Rattle.console.proofs.Asking.{question-asked, line-asked}
use Rattle.console.proofs.requests.worded.Goals as goal

pub returns-then-starts_with : goal.returns-then-starts_with
returns-then-starts_with c = c.asking.ensures ∙ question-asked c.args.input.now _ c.starts_with.ensures.value c.if-starts_with.true

pub returns-else-starts_with : goal.returns-else-starts_with
returns-else-starts_with c = c.taking.ensures ∙ line-asked c.args.input.now _ c.starts_with.ensures.value c.if-starts_with.false
