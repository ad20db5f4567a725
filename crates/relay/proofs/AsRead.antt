-- A message that goes out as read can be read, and is no longer than its line. Assumes nothing.
use mathlib.Core.Path.{◌≡◌}
use mathlib.Core.Bool.{true}
use mathlib.Core.List.{List}
use Prim.Native.Nat.{ℕ}
use Rattle.message.specs.Reading.{is_read, content_of}
use Rattle.writer.specs.Form.{in_capitals}
use Rattle.writer.specs.Writing.{forwarded}
use Rattle.writer.proofs.Rounds.{forwarded-reads}
use Rattle.retelling.specs.Retelling.{Reads}

-- The written form of a line that was read, its command in capitals, can be read.
pub as_read : (line : List ℕ) → is_read line ≡ true → Reads line (in_capitals (content_of line))
unfolding forwarded
as_read line read = let r = forwarded-reads line read in record { read = r.0; message = r.1; short = r.2 }
