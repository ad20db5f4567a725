-- A line as it arrives.
use Rattle.std.specs.Prelude.{ℕ, List}
use Rattle.message.specs.Content.{Content}
use Rattle.message.specs.Reading.{content_of}

-- A line, and the link that it came by.
pub record Arrival : Type 0 where
  pub link : ℕ
  pub line : List ℕ

abbrev pub arrival : ℕ → List ℕ → Arrival
arrival link line = record { link = link; line = line }

-- what it says
abbrev pub said : Arrival → Content
said a = content_of a.line
