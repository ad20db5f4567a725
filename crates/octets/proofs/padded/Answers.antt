-- `padded` meets its contract: what is copied to the front of zeros stands there padded. Assumes nothing.
use mathlib.Core.Path.{◌∙◌, ap}
use mathlib.Core.List.{List, ◌++◌}
use Prim.Native.Nat.{ℕ}
use lib.ListN.{drop, replicate}
use Rattle.octets.proofs.Room.{copied-padded}
use Rattle.octets.proofs.padded.Goals as goal

pub returns : goal.returns
returns g c =
    let n = c.min-n.result in
    ap (λ (l : List ℕ). l ++ drop n (replicate g.row.N 0)) c.copy.ensures ∙ copied-padded g.row.N n c.args.s.now c.min-n.ensures
