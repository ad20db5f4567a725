-- `entry_of` meets its contract: what follows the marks is judged as a user id, and held whole it is the member's. Assumes nothing.
use Rattle.std.proofs.Common.{◌≡◌, List, ℕ, length, rules, ◌∙◌}
use Rattle.names.specs.Names.{user_id_length}
use Rattle.sjoin.proofs.Listed.{entry-unheld, entry-held}
use Rattle.sjoin.proofs.entries.entry_of.Goals as goal

pub returns-in_err-id : goal.returns-in_err-id
returns-in_err-id c =
    let bytes = c.split_status-status.result.1.now in
    let ne : length bytes ≡ user_id_length → ⊥ = search rules in
    c.from_residual.ensures ∙ entry-unheld c.args.word.now bytes c.split_status-status.ensures.id ne

pub returns : goal.returns
returns c =
    let bytes = c.split_status-status.result.1.now in
    let id : ◌≡◌ {A = List ℕ} c.in_ok-id.id bytes = search rules in
    c.then_some.ensures ∙ rw c.is_id.ensures (entry-held c.args.word.now c.in_ok-id.id _ (id ∙ c.split_status-status.ensures.id) c.split_status-status.ensures.status)
