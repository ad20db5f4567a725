-- `next` meets its contract: the first word is found by its span, and the others stand behind it. Assumes nothing.
use Rattle.std.proofs.Common.{rules, ◌≡◌, ap, ℕ, suc, ◌-◌, List, length, take, drop}
use Rattle.message.specs.Words.{words_of}
use Rattle.message.proofs.Splits.{taken-none, taken-one}
use Rattle.message.proofs.lists.WordsIterator.next.Goals as goal

pub returns-then-word-text-clause-steps : goal.returns-then-word-text-clause-steps
returns-then-word-text-clause-steps c =
    let none = taken-none c.args.self.now.rest.now c.next_word-word.result c.next_word-word.ensures c.if-word-text.true in
    (none, none)

pub returns-clause-steps : goal.returns-clause-steps
returns-clause-steps c = taken-one c.args.self.now.rest.now c.next_word-word.result c.next_word-word.ensures c.if-word-text.false

pub returns-clause-goes : goal.returns-clause-goes
returns-clause-goes c =
    let s : List ℕ = c.args.self.now.rest.now in
    let w = c.next_word-word.result in
    let is = taken-one s w c.next_word-word.ensures c.if-word-text.false in
    let fewer : length (words_of s) ≡ suc (length (words_of (take (length s - w.end) (drop w.end s)))) = ap (λ (l : List (List ℕ)). length l) is in
    search rules
