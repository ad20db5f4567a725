-- The invariant of `fit_params`: what holds of the parameters from k on holds of all.
use Rattle.std.proofs.Common.{◌≡◌, take, drop}
use Rattle.writer.specs.Private.Fit.{fit_params}
use Rattle.writer.proofs.fit.fit_params.Given as goal

abbrev pub invariant-loop-k : goal.invariant-loop-k
invariant-loop-k l =
    fit_params l.text (drop l.k (take l.m.count l.m.params)) ≡ fit_params l.text (take l.m.count l.m.params)
