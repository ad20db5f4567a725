-- The unfinished line that bytes are gathered for.
use Rattle.std.specs.Prelude.{ℕ, ◌+◌, ◌≡◌, Bool, true, false, ◌&&◌, List, take, drop}
use Rattle.octets.specs.Bytes.{is_zero, is_non_lf}
use Rattle.laws.specs.Lists.{all}
use Rattle.feed.specs.declared.Feeder.{Feeder}
use Rattle.feed.specs.declared.Fed.{Fed}
use Rattle.feed.specs.Feeder.{is_reached}

-- the first n bytes of a room hold no LF, and the others are zero
abbrev pub is_clean : List ℕ → ℕ → Bool
is_clean room n = all is_non_lf (take n room) && all is_zero (drop n room)

-- A state that some bytes reach, and that keeps an unfinished line.
pub record KeepsLine (f : Feeder) : Type 0 where
  pub reached : is_reached f ≡ true
  pub undropped : f.dropping ≡ false

-- the bytes of that line
abbrev pub held_bytes : Feeder → List ℕ
held_bytes f = take f.len f.bytes

-- the answer of a call that passed over n bytes first
abbrev pub past : ℕ → Fed → Fed
past n r = record { state = r.state; used = n + r.used; line = r.line; len = r.len; number = r.number }
