-- A state whose places have room to grow.
use Rattle.std.specs.Prelude.{◌≤◌}
use Rattle.glob.specs.declared.State.{State}
use Rattle.glob.specs.Mask.{text_limit}

-- none is past the most that a mask or a text may hold
pub record Growing (s : State) : Type 0 where
  pub mask-in : s.mask ≤ text_limit
  pub text_in : s.text ≤ text_limit
  pub run_in : s.run ≤ text_limit
