-- `copy` meets its contract. The invariant: the first i bytes are copied. Assumes nothing.
use mathlib.Core.Path.{sym, ap, ◌∙◌}
use mathlib.Core.List.{List}
use Prim.Native.Nat.{ℕ}
use native.Mathlib.Nat.{zero-add, le_antisymm}
use native.Mathlib.Numerals.{add-one}
use native.Mathlib.Omega.{arith}
use lib.ListN.{set, get_or}
use lib.Seq.{paste, paste-zero, paste-suc}
use Rattle.octets.proofs.Room.{pasted-whole}
use Rattle.octets.proofs.copy.Goals as goal

pub loop-i-init : goal.loop-i-init
loop-i-init c = paste-zero c.args.room.now 0 c.args.p.now

pub loop-i-preserved : goal.loop-i-preserved
loop-i-preserved c =
    let a = c.args in
    let l = c.loop-i in
    ap (λ (r : List ℕ). set r l.i (get_or a.p.now l.i 0)) l.invariant
    ∙ ap (λ (j : ℕ). set (paste a.room.now 0 a.p.now l.i) j (get_or a.p.now l.i 0)) (sym (zero-add l.i))
    ∙ paste-suc a.room.now 0 a.p.now l.i 0 (omega (arith, c.requires)) (omega arith)
    ∙ ap (λ (n : ℕ). paste a.room.now 0 a.p.now n) (sym (add-one l.i))

pub returns : goal.returns
returns c =
    let a = c.args in
    let l = c.loop-i in
    l.invariant ∙ ap (λ (n : ℕ). paste a.room.now 0 a.p.now n) (le_antisymm l.auto.i-end c.loop-i-test.false) ∙ pasted-whole a.room.now a.p.now c.requires
