-- `next` gives the member with the smaller id, or two with one id as one. Assumes nothing.
use mathlib.Core.Path.{sym, ◌∙◌}
use Rattle.merging.proofs.OnePass.{first-less, second-less, both-same, fewer}
use Rattle.merging.proofs.uniting.UnionIterator.next.Goals as goal

pub returns-in-Less-clause-steps : goal.returns-in-Less-clause-steps
returns-in-Less-clause-steps c =
    let p = c.in-Some-Some in first-less _ _ p.x p.y _ _ p.ensures p.ensures' (sym c.compare_ids.ensures ∙ c.in-Less.is)

pub returns-in-Less-clause-goes : goal.returns-in-Less-clause-goes
returns-in-Less-clause-goes c =
    let p = c.in-Some-Some in
    let e = first-less _ _ p.x p.y _ _ p.ensures p.ensures' (sym c.compare_ids.ensures ∙ c.in-Less.is) in
    record { on = λ h. (tt, tt, fewer _ _ _ _ _ e); keeps = tt; rests = λ h. tt }

pub returns-in-Equal-clause-goes : goal.returns-in-Equal-clause-goes
returns-in-Equal-clause-goes c =
    let p = c.in-Some-Some in
    let e = both-same _ _ p.x p.y _ _ p.ensures p.ensures' (sym c.compare_ids.ensures ∙ c.in-Equal.is) in
    record { on = λ h. (tt, tt, fewer _ _ _ _ _ e); keeps = tt; rests = λ h. tt }

pub returns-in-Greater-clause-steps : goal.returns-in-Greater-clause-steps
returns-in-Greater-clause-steps c =
    let p = c.in-Some-Some in second-less _ _ p.x p.y _ _ p.ensures p.ensures' (sym c.compare_ids.ensures ∙ c.in-Greater.is)

pub returns-in-Greater-clause-goes : goal.returns-in-Greater-clause-goes
returns-in-Greater-clause-goes c =
    let p = c.in-Some-Some in
    let e = second-less _ _ p.x p.y _ _ p.ensures p.ensures' (sym c.compare_ids.ensures ∙ c.in-Greater.is) in
    record { on = λ h. (tt, tt, fewer _ _ _ _ _ e); keeps = tt; rests = λ h. tt }
