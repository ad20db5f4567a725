-- The parameters of an SJOIN that tells of a channel: modes in the order i m n p s t k l, key before limit, entries ascending. What it tells of a well-formed channel, from
-- a server, reads back as it.
use Rattle.std.specs.Prelude.{ℕ, suc, cond, List, [], ◌∷◌, ◌++◌, map, length, ltb}
use Rattle.std.proofs.Math.Option.{some}
use Rattle.refusal.specs.Numbers.{output_too_short, no_room}
use Rattle.refusal.specs.Rules.{Rule, ◌when◌}
use Rattle.octets.specs.Bytes.{space}
use Rattle.laws.specs.Lists.{separated}
use Rattle.laws.specs.Bits.{has_bit}
use Rattle.octets.specs.Decimals.{digits_of}
use Rattle.octets.specs.Room.{fits}
use Rattle.channel.specs.declared.Member.{Member}
use Rattle.channel.specs.Modes.{letters, key_mode, limit_mode, has_mode, plus}
use Rattle.channel.specs.Channel.{Channel, voice_place, operator_place, at_sign}
use Rattle.message.specs.Grammar.{line_limit}
use Rattle.message.specs.Content.{Content}
use Rattle.writer.specs.Form.{written}

-- those of some letters, the first in the place k, whose modes the byte has
unfoldable pub letters_from : ℕ → List ℕ → ℕ → List ℕ
letters_from k [] modes = []
letters_from k (x ∷ s) modes = cond (has_mode modes k) (x ∷ letters_from (suc k) s modes) (letters_from (suc k) s modes)

abbrev pub modes_text : ℕ → List ℕ
modes_text modes = plus ∷ letters_from 0 letters modes

-- '@' for an operator, '+' for voice, then the id
unfoldable pub entry_of : Member → List ℕ
entry_of m = cond (has_bit m.status operator_place) (at_sign ∷ []) [] ++ cond (has_bit m.status voice_place) (plus ∷ []) [] ++ m.id

-- one SPACE between entries
abbrev pub list_text : List Member → List ℕ
list_text l = separated space (map entry_of l)

-- what follows the command
unfoldable pub params_of : Channel → List (List ℕ)
params_of c =
    (digits_of c.time ∷ c.name ∷ modes_text c.settings.modes ∷ [])
    ++ cond (has_mode c.settings.modes key_mode) (c.settings.key ∷ []) []
    ++ cond (has_mode c.settings.modes limit_mode) (digits_of c.settings.limit ∷ []) []
    ++ (list_text c.members ∷ [])

-- and the same as a text of its own, one SPACE between parameters
unfoldable pub described : Channel → List ℕ
described c = separated space (params_of c)

-- the most bytes that it has of a record: a time of 10, a name of 50, '+' and 8 letters, a key of 23, a limit of 5, 64 entries of 11, and the SPACEs between
abbrev pub description_limit : ℕ
description_limit = 869

-- what is put into lent room of it: all or nothing
unfoldable pub described_in : List ℕ → Channel → List ℕ
described_in out c = cond (fits out 0 (described c)) (described c) []

-- SJOIN
abbrev pub sjoin : List ℕ
sjoin = 83 ∷ 74 ∷ 79 ∷ 73 ∷ 78 ∷ []

-- the message by which a server tells of a channel
abbrev pub join_message : List ℕ → Channel → Content
join_message sid c = record { prefix = some sid; command = sjoin; params = params_of c }

-- ---- when it is written: the numbers 2 and 25
unfoldable pub tell_rules : List ℕ → Channel → List ℕ → List Rule
tell_rules sid c out =
    output_too_short when ltb (length out) line_limit
    ∷ no_room when ltb line_limit (length (written (join_message sid c)))
    ∷ []
