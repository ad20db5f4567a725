-- `read_message` meets its contract: the text is too long, or a rule applies, or the record is told. Assumes nothing.
use Rattle.std.proofs.Common.{◌≡◌, Some, None, length, arith, rules, sym, ap, ◌∙◌}
use Rattle.std.proofs.lemmas.Result.{err_from_is_err_and}
use Rattle.refusal.specs.declared.Refusal.TheVariants.{BadMembers}
use Rattle.laws.proofs.Lists.{unmapped}
use Rattle.message.specs.Grammar.{param_limit}
use Rattle.message.specs.Parts.{content_by}
use Rattle.sjoin.specs.Private.Parts.{entries_in}
use Rattle.sjoin.proofs.Answers.{list_at, list-small, source-long, long-told, source-told, some-params, list-parted, head-told, modes-told, list-told, telling, record-told}
use Rattle.sjoin.proofs.read_message.Goals as goal

pub returns-then-text-gt-LINE_LIMIT : goal.returns-then-text-gt-LINE_LIMIT
returns-then-text-gt-LINE_LIMIT c = rw c.into.ensures (long-told c.args.text.now c.args.m c.if-text-gt-LINE_LIMIT.true)

pub returns-in_err-check_source : goal.returns-in_err-check_source
returns-in_err-check_source c =
    let p = err_from_is_err_and c.from_residual.result c.from_residual.ensures.1 in
    rw (p.1, p.2) (source-told c.args.text.now c.args.m c.if-text-gt-LINE_LIMIT.false _ c.in_err-check_source.ensures)

pub overflow_sub-last : goal.overflow_sub-last
overflow_sub-last c =
    let full : length c.args.m.params ≡ param_limit = search (rules, unmapped) in
    some-params c.args.text.now c.args.m c.if-text-gt-LINE_LIMIT.false (sym c.in_ok-check_source.ensures) full

pub returns-in_err-time : goal.returns-in_err-time
returns-in_err-time c =
    let p = err_from_is_err_and c.from_residual-in_err-time.result c.from_residual-in_err-time.ensures.1 in
    rw (p.1, p.2) (head-told c.args.text.now c.args.m c.if-text-gt-LINE_LIMIT.false (sym c.in_ok-check_source.ensures) _ c.in_err-time.ensures.refusal)

pub check_modes-requires : goal.check_modes-requires
check_modes-requires c =
    let full : length c.args.m.params ≡ param_limit = search (rules, unmapped) in
    let s = sym c.in_ok-check_source.ensures in
    (list-parted c.args.text.now c.args.m c.if-text-gt-LINE_LIMIT.false s full, source-long c.args.text.now c.args.m s)

pub returns-in_err-check_modes : goal.returns-in_err-check_modes
returns-in_err-check_modes c =
    let p = err_from_is_err_and c.from_residual-in_err-check_modes.result c.from_residual-in_err-check_modes.ensures.1 in
    rw (p.1, p.2)
    (modes-told c.args.text.now c.args.m c.if-text-gt-LINE_LIMIT.false (sym c.in_ok-check_source.ensures) (sym c.in_ok-time.ensures.refusal) _ c.in_err-check_modes.ensures)

pub entries_of-requires : goal.entries_of-requires
entries_of-requires c =
    let text = c.args.text.now in
    let m = c.args.m in
    let full : length m.params ≡ param_limit = search (rules, unmapped) in
    let parted = list-parted text m c.if-text-gt-LINE_LIMIT.false (sym c.in_ok-check_source.ensures) full in
    omega (arith, list-small text m, ap (λ l. length l) (c.param_in.ensures.bytes ∙ list_at (content_by text m) _ parted))

pub returns-in_err-entries : goal.returns-in_err-entries
returns-in_err-entries c =
    let text = c.args.text.now in
    let m = c.args.m in
    let full : length m.params ≡ param_limit = search (rules, unmapped) in
    let s = sym c.in_ok-check_source.ensures in
    let list = c.param_in.ensures.bytes ∙ list_at (content_by text m) _ (list-parted text m c.if-text-gt-LINE_LIMIT.false s full) in
    let none : c.entries_of.result ≡ None = grind arith in
    let is : c.in_err-entries.field-0.0 ≡ BadMembers = grind arith in
    let p = err_from_is_err_and c.from_residual-in_err-entries.result c.from_residual-in_err-entries.ensures.1 in
    rw (p.1, p.2, is)
    (list-told text m c.if-text-gt-LINE_LIMIT.false s (sym c.in_ok-time.ensures.refusal) c.in_ok-check_modes.ensures (sym none ∙ c.entries_of.ensures ∙ ap entries_in list))

pub record_of-requires : goal.record_of-requires
record_of-requires c =
    let text = c.args.text.now in
    let m = c.args.m in
    let full : length m.params ≡ param_limit = search (rules, unmapped) in
    let s = sym c.in_ok-check_source.ensures in
    let list = c.param_in.ensures.bytes ∙ list_at (content_by text m) _ (list-parted text m c.if-text-gt-LINE_LIMIT.false s full) in
    let some : c.entries_of.result ≡ Some c.in_ok-entries.entries = grind arith in
    telling text m c.if-text-gt-LINE_LIMIT.false s (sym c.in_ok-time.ensures.refusal) c.in_ok-check_modes.ensures _ full (sym some ∙ c.entries_of.ensures ∙ ap entries_in list) _ c.in_ok-time.ensures.time

pub returns : goal.returns
returns c =
    let text = c.args.text.now in
    let m = c.args.m in
    let full : length m.params ≡ param_limit = search (rules, unmapped) in
    let s = sym c.in_ok-check_source.ensures in
    let list = c.param_in.ensures.bytes ∙ list_at (content_by text m) _ (list-parted text m c.if-text-gt-LINE_LIMIT.false s full) in
    let some : c.entries_of.result ≡ Some c.in_ok-entries.entries = grind arith in
    record-told text m c.if-text-gt-LINE_LIMIT.false s (sym c.in_ok-time.ensures.refusal) c.in_ok-check_modes.ensures _ full (sym some ∙ c.entries_of.ensures ∙ ap entries_in list) c.record_of.result c.record_of.ensures
