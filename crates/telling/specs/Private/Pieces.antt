-- What private functions of src/pieces.rt promise: pieces of the line that tells of a channel. No public contract cites this file: nobody needs to believe it.
use Rattle.std.specs.Prelude.{ℕ, ◌+◌, cond, List, [], ◌∷◌, ◌++◌}
use Rattle.octets.specs.Bytes.{space}
use Rattle.octets.specs.Decimals.{digits_of}
use Rattle.channel.specs.Modes.{key_mode, limit_mode, has_mode}
use Rattle.channel.specs.Channel.{Channel}
use Rattle.telling.specs.Telling.{modes_text}

-- the place of the list among the parameters: behind the time, the name, the modes, and the key and the limit where they are told
unfoldable pub list_place : ℕ → ℕ
list_place modes = 3 + cond (has_mode modes key_mode) 1 0 + cond (has_mode modes limit_mode) 1 0

-- all that comes between the command and the list, a SPACE between parameters: the time, the name and the settings
unfoldable pub lead_text : Channel → List ℕ
lead_text c =
    digits_of c.time
    ++ (space ∷ c.name)
    ++ (space ∷ modes_text c.settings.modes)
    ++ cond (has_mode c.settings.modes key_mode) (space ∷ c.settings.key) []
    ++ cond (has_mode c.settings.modes limit_mode) (space ∷ digits_of c.settings.limit) []
