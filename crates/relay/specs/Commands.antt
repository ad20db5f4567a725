-- The commands that the relay takes (document 01, 'What the relay holds'; document 02, §2), which one a word is, and what each means.
use Rattle.std.specs.Prelude.{ℕ, true, cond, List, [], ◌∷◌, map}
use Rattle.refusal.specs.Numbers.{unknown_command}
use Rattle.refusal.specs.Rules.{◌when◌}
use Rattle.laws.specs.Lists.{same}
use Rattle.octets.specs.Bytes.{capital}
use Rattle.writer.specs.Form.{in_capitals}
use Rattle.message.specs.Reading.{content_of}
use Rattle.relay.specs.Arrival.{said}
use Rattle.relay.specs.Meaning.{Meaning}
use Rattle.relay.specs.Sjoin as joining
use Rattle.relay.specs.Part as parting
use Rattle.relay.specs.Quit as quitting
use Rattle.relay.specs.Bmask as masking

-- the commands, and any other
pub data Command : Type 0 where
  Sjoin : Command
  Part : Command
  Quit : Command
  Bmask : Command
  Unknown : Command

-- those that it knows
abbrev pub commands : List Command
commands = Sjoin ∷ Part ∷ Quit ∷ Bmask ∷ []

-- any other is refused, whatever it says
abbrev pub unknown : Meaning
unknown = record { word = []; rules = λ n a. unknown_command when true ∷ []; after = λ n a. n; goes = λ n a. true; out = λ n a. in_capitals (said a) }

-- what each means
abbrev pub meaning_of : Command → Meaning
meaning_of Sjoin = joining.meaning
meaning_of Part = parting.meaning
meaning_of Quit = quitting.meaning
meaning_of Bmask = masking.meaning
meaning_of Unknown = unknown

-- the first of some commands that has the word
unfoldable pub command_among : List Command → List ℕ → Command
command_among [] word = Unknown
command_among (k ∷ s) word = cond (same word (meaning_of k).word) k (command_among s word)

-- which command a word is; letters compare without case
abbrev pub command_of : List ℕ → Command
command_of word = command_among commands (map capital word)

-- which one a line has
abbrev pub command_in : List ℕ → Command
command_in line = command_of (content_of line).command
