-- A record as a text: the numbers 1 and 25.
use Rattle.std.specs.Prelude.{ℕ, not, List, [], ◌∷◌}
use Rattle.refusal.specs.Numbers.{not_well_formed, no_room}
use Rattle.refusal.specs.Rules.{Rule, ◌when◌}
use Rattle.octets.specs.Room.{fits}
use Rattle.channel.specs.declared.Record.{Record}
use Rattle.channel.specs.Record.{decode}
use Rattle.channel.specs.WellFormed.{well_formed}
use Rattle.telling.specs.Telling.{described}

-- the record isn't well formed, or its text doesn't fit the output
unfoldable pub describe_rules : Record → List ℕ → List Rule
describe_rules r out = not_well_formed when not (well_formed r) ∷ no_room when not (fits out 0 (described (decode r))) ∷ []
