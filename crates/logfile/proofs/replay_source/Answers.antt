-- `replay_source` meets its contract: what has been read at each turn is read after it, and so many reads take no place past 64 bits. Assumes nothing.
use native.Mathlib.Omega.{arith}
use Rattle.logfile.proofs.Reading.{read-on, read_ends, from-on, from_ends}
use Rattle.logfile.proofs.replay_source.Goals as goal

pub returns-in-Break-clause-some : goal.returns-in-Break-clause-some
returns-in-Break-clause-some g c = read_ends _ _ c.loop.invariant.so_far _ _ _ c.in-Break.ensures

pub returns-in-Break-clause-known : goal.returns-in-Break-clause-known
returns-in-Break-clause-known g c = from_ends _ _ _ _ _ c.loop.invariant.from _ _ _ c.in_ok-n.ensures.bytes.0 c.in-Break.ensures

pub loop-preserved : goal.loop-preserved
loop-preserved g c = record {
  near = omega (arith, c.in_default.ensures.near, c.loop.invariant.near);
  so_far = read-on _ _ c.loop.invariant.so_far _ _ _ c.in_default.ensures;
  from = from-on _ _ _ _ _ c.loop.invariant.from _ _ _ c.in_ok-n.ensures.bytes.0 c.in_default.ensures;
}
