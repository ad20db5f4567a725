-- `odd_bytes` meets its contract. The invariant: all bytes behind the first may stand in an id exactly if there are no bits so far and those from here on
-- may. Assumes nothing.
use mathlib.Core.Path.{◌≡◌, sym, ap, ◌∙◌}
use Prim.Native.Nat.{◌≤◌}
use native.Mathlib.Omega.{arith}
use lib.ListN.{length, take, drop, length-drop}
use lib.Seq.{take_all}
use borrow.Author.Rules.{rules}
use Rattle.octets.specs.Bytes.{is_id_byte}
use Rattle.laws.specs.Lists.{all}
use Rattle.laws.proofs.Bitwise.{or_step, or-past}
use Rattle.names.proofs.ids.odd_bytes.Goals as goal

pub loop-b-preserved : goal.loop-b-preserved
loop-b-preserved c =
    let l = c.loop-b in
    l.invariant ∙ or_step is_id_byte (take 8 (drop 1 c.args.id)) l.b-index l.bits c.odd-bits.result 0 c.loop-b-test.true c.odd-bits.ensures

pub returns : goal.returns
returns c =
    let l = c.loop-b in
    let nine : length c.args.id ≡ 9 = search rules in
    let rest : length (drop 1 c.args.id) ≤ 8 = omega (arith, length-drop 1 c.args.id) in
    sym (l.invariant ∙ or-past is_id_byte (take 8 (drop 1 c.args.id)) l.b-index l.bits c.loop-b-test.false) ∙ ap (all is_id_byte) (take_all 8 (drop 1 c.args.id) rest)
