-- `add_listed` meets its contract. The invariant: the words left, put into the list so far, come to what all come to. Assumes nothing.
use Rattle.std.proofs.Common.{List, ℕ, sym, ap, ◌∙◌}
use Rattle.bans.specs.Putting.{added, put_all}
use Rattle.bans.proofs.Additions.{put-next, put-full, add-none, add-some}
use Rattle.message.specs.Listed.{words_left}
use Rattle.bmask.proofs.add_listed.Goals as goal

pub loop-word-init : goal.loop-word-init
loop-word-init c = ap (λ (l : List (List ℕ)). put_all l c.args.list) (sym (ap words_left c.into_iter-word-iterator.ensures.into_iter_gives ∙ c.words-word-items.ensures))

pub returns-in_err-sofar : goal.returns-in_err-sofar
returns-in_err-sofar c =
    let l = c.loop-word in
    let all = l.invariant ∙ ap (λ (ws : List (List ℕ)). put_all ws l.sofar) c.in-Some.ensures.steps ∙ put-full _ (words_left c.next.new.self) l.sofar c.in_err-sofar.ensures in
    ap (added c.args.list) c.from_residual.ensures ∙ add-none _ c.args.list l.sofar all

pub loop-word-preserved : goal.loop-word-preserved
loop-word-preserved c =
    let l = c.loop-word in
    l.invariant ∙ ap (λ (ws : List (List ℕ)). put_all ws l.sofar) c.in-Some.ensures.steps ∙ put-next _ (words_left c.next.new.self) l.sofar c.in_ok-sofar.sofar c.in_ok-sofar.ensures

pub returns : goal.returns
returns c =
    let l = c.loop-word in
    add-some _ _ l.sofar (l.invariant ∙ ap (λ (ws : List (List ℕ)). put_all ws l.sofar) c.in-None.ensures.steps.0)
