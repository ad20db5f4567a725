-- `next` meets its contract: the line is what stands before the first LF, with that, and the others stand behind it. Assumes nothing.
use Rattle.std.proofs.Common.{rules, arith, ◌≡◌, ap, ℕ, suc, ◌-◌, List, length, take, drop}
use Rattle.std.proofs.lemmas.Grind.{common_steps}
use Rattle.octets.proofs.Search.{before-within}
use Rattle.console.specs.Lines.{lines_of}
use Rattle.console.proofs.Splitting.{lines-none, lines-cut}
use Rattle.console.proofs.lines.LinesIterator.next.Goals as goal

pub returns-then-is_empty-clause-steps : goal.returns-then-is_empty-clause-steps
returns-then-is_empty-clause-steps c =
    let none = lines-none c.args.self.now.rest.now (search rules) in
    (none, none)

pub overflow_add-place_of : goal.overflow_add-place_of
overflow_add-place_of c = grind (arith, common_steps, before-within)

pub returns-clause-steps : goal.returns-clause-steps
returns-clause-steps c = lines-cut c.args.self.now.rest.now c.min-end.result (search rules) (search rules)

pub returns-clause-goes : goal.returns-clause-goes
returns-clause-goes c =
    let s : List ℕ = c.args.self.now.rest.now in
    let n : ℕ = c.min-end.result in
    let is = lines-cut s n (search rules) (search rules) in
    let fewer : length (lines_of s) ≡ suc (length (lines_of (take (length s - n) (drop n s)))) = ap (λ (l : List (List ℕ)). length l) is in
    search rules
