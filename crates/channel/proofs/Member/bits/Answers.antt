-- `Member::bits` meets its contract. The invariant: the id is zero exactly if there are no bits so far and the bytes from i on are zero. Assumes nothing.
use mathlib.Core.Path.{sym, ap, ◌∙◌}
use mathlib.Core.Bool.{Bool, ◌&&◌}
use native.Mathlib.Omega.{arith}
use borrow.Author.Rules.{rules}
use Rattle.laws.proofs.Bitwise.{or-zero, or_step, or-past}
use Rattle.octets.specs.Bytes.{is_zero}
use Rattle.channel.proofs.Tests.{shifted-zero}
use Rattle.channel.proofs.Member.bits.Goals as goal

pub loop-i-preserved : goal.loop-i-preserved
loop-i-preserved c =
    let l = c.loop-i in
    l.invariant ∙ or_step is_zero c.args.self.id l.i l.bits _ 0 (search rules) (rw c.from.ensures (shifted-zero _ _ (search rules) (omega arith)))

pub returns : goal.returns
returns c =
    let l = c.loop-i in
    let m = c.args.self in
    rw c.from-2.ensures (or-zero l.bits m.status ∙ ap (λ (t : Bool). t && is_zero m.status) (sym (l.invariant ∙ or-past is_zero m.id l.i l.bits (search rules))))
