-- `merge_in` meets its contract: the refusals come in the order of the rules, and what is left needs no test. Assumes nothing.
use mathlib.Core.Path.{◌≡◌, sym, ap, ap₂, ◌∙◌}
use mathlib.Core.Bool.{Bool, true, false, ◌&&◌}
use mathlib.Core.List.{List}
use native.Mathlib.Omega.{arith}
use Prim.Native.Nat.{ℕ}
use Rattle.std.specs.Prelude.{Some, None}
use Rattle.std.proofs.lemmas.Result.{err_from_is_err_and}
use Rattle.refusal.specs.declared.Refusal.TheVariants.{TooManyMasks}
use Rattle.octets.specs.Room.{part}
use Rattle.octets.proofs.Room.{part-front}
use Rattle.names.specs.Fold.{same_name}
use Rattle.channel.specs.Record.{decode}
use Rattle.bans.specs.declared.WholeRecord.{WholeRecord}
use Rattle.bans.specs.Putting.{added}
use Rattle.bans.specs.Records.{well_formed_whole}
use Rattle.merging.proofs.Answers.{answer-ill, answer-name, merge-over, merge-full, merge-both}
use Rattle.merging.proofs.merge_in.Goals as goal
use Rattle.merging.proofs.merge_in.Goals.{then-is_whole, else-is_whole}

-- the test of both is that of the first, and then that of the second
first-only : (t u v : Bool) → t ≡ false → v ≡ false → v ≡ t && u
first-only t u v e f = rw e f

then-second : (t u v : Bool) → t ≡ true → v ≡ u → v ≡ t && u
then-second t u v e f = rw e f

-- the names as they stand
names : (a b : WholeRecord) (x y : List ℕ) (r : Bool) → x ≡ part a.«record».name 0 a.«record».name_len → y ≡ part b.«record».name 0 b.«record».name_len → r ≡ same_name x y
    → r ≡ same_name (decode a.«record»).name (decode b.«record»).name
unfolding decode
names a b x y r e f g =
    g ∙ ap₂ same_name (e ∙ part-front a.«record».name a.«record».name_len) (f ∙ part-front b.«record».name b.«record».name_len)

pub returns-then-not-is_whole : goal.returns-then-not-is_whole
returns-then-not-is_whole c =
    let tested : c.if-is_whole.value ≡ well_formed_whole c.args.a.now && well_formed_whole c.args.b.now =
    elim c.if-is_whole.branch [
      | then-is_whole w ↦ then-second _ _ _ (sym c.is_whole.ensures ∙ w.if-is_whole.true) (w.value-is ∙ w.is_whole-then-is_whole.ensures)
      | else-is_whole w ↦ first-only _ _ _ (sym c.is_whole.ensures ∙ w.if-is_whole.false) (w.value-is ∙ w.if-is_whole.false)
    ] in
    sym (answer-ill c.args.a.now c.args.b.now (sym tested ∙ c.if-not-is_whole.true))

pub returns-then-not-equal : goal.returns-then-not-equal
returns-then-not-equal c =
    let tested : c.if-is_whole.value ≡ well_formed_whole c.args.a.now && well_formed_whole c.args.b.now =
    elim c.if-is_whole.branch [
      | then-is_whole w ↦ then-second _ _ _ (sym c.is_whole.ensures ∙ w.if-is_whole.true) (w.value-is ∙ w.is_whole-then-is_whole.ensures)
      | else-is_whole w ↦ first-only _ _ _ (sym c.is_whole.ensures ∙ w.if-is_whole.false) (w.value-is ∙ w.if-is_whole.false)
    ] in
    sym (answer-name c.args.a.now c.args.b.now (sym tested ∙ c.if-not-is_whole.false) (sym (c.equal.ensures ∙ ap₂ same_name c.name.ensures c.name-2.ensures) ∙ c.if-not-equal.true))

pub returns-in_err-record : goal.returns-in_err-record
returns-in_err-record c =
    let tested : c.if-is_whole.value ≡ well_formed_whole c.args.a.now && well_formed_whole c.args.b.now =
    elim c.if-is_whole.branch [
      | then-is_whole w ↦ then-second _ _ _ (sym c.is_whole.ensures ∙ w.if-is_whole.true) (w.value-is ∙ w.is_whole-then-is_whole.ensures)
      | else-is_whole w ↦ first-only _ _ _ (sym c.is_whole.ensures ∙ w.if-is_whole.false) (w.value-is ∙ w.if-is_whole.false)
    ] in
    let same = sym (c.equal.ensures ∙ ap₂ same_name c.name.ensures c.name-2.ensures) ∙ c.if-not-equal.false in
    let p = err_from_is_err_and c.from_residual.result c.from_residual.ensures.1 in
    rw (p.1, p.2) (merge-over c.args.a.now c.args.b.now (sym tested ∙ c.if-not-is_whole.false) same _ c.in_err-record.ensures)

pub returns-in_err-bans : goal.returns-in_err-bans
returns-in_err-bans c =
    let tested : c.if-is_whole.value ≡ well_formed_whole c.args.a.now && well_formed_whole c.args.b.now =
    elim c.if-is_whole.branch [
      | then-is_whole w ↦ then-second _ _ _ (sym c.is_whole.ensures ∙ w.if-is_whole.true) (w.value-is ∙ w.is_whole-then-is_whole.ensures)
      | else-is_whole w ↦ first-only _ _ _ (sym c.is_whole.ensures ∙ w.if-is_whole.false) (w.value-is ∙ w.if-is_whole.false)
    ] in
    let same = sym (c.equal.ensures ∙ ap₂ same_name c.name.ensures c.name-2.ensures) ∙ c.if-not-equal.false in
    let p = err_from_is_err_and c.from_residual-in_err-bans.result c.from_residual-in_err-bans.ensures.1 in
    let none : c.merged_list.result ≡ None = grind arith in
    let full : c.in_err-bans.field-0.0 ≡ TooManyMasks = grind arith in
    let lists = ap (added c.args.a.now.bans) (sym none) ∙ c.merged_list.ensures in
    rw (p.1, p.2, full) (merge-full c.args.a.now c.args.b.now (sym tested ∙ c.if-not-is_whole.false) same _ c.in_ok-record.ensures lists)

pub returns : goal.returns
returns c =
    let tested : c.if-is_whole.value ≡ well_formed_whole c.args.a.now && well_formed_whole c.args.b.now =
    elim c.if-is_whole.branch [
      | then-is_whole w ↦ then-second _ _ _ (sym c.is_whole.ensures ∙ w.if-is_whole.true) (w.value-is ∙ w.is_whole-then-is_whole.ensures)
      | else-is_whole w ↦ first-only _ _ _ (sym c.is_whole.ensures ∙ w.if-is_whole.false) (w.value-is ∙ w.if-is_whole.false)
    ] in
    let same = sym (c.equal.ensures ∙ ap₂ same_name c.name.ensures c.name-2.ensures) ∙ c.if-not-equal.false in
    let some : c.merged_list.result ≡ Some c.in_ok-bans.bans = grind arith in
    let lists = ap (added c.args.a.now.bans) (sym some) ∙ c.merged_list.ensures in
    merge-both c.args.a.now c.args.b.now (sym tested ∙ c.if-not-is_whole.false) same _ c.in_ok-record.ensures _ lists
