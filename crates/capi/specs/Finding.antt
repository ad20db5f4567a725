-- A channel found by its name, without an enum.
use Rattle.std.specs.Prelude.{ℕ, List, Result, Ok, Err}
use Rattle.refusal.specs.declared.Refusal.{Refusal}
use Rattle.refusal.specs.Numbers.{accepted, no_such_channel}
use Rattle.refusal.specs.Refusals.{number_of}
use Rattle.channel.specs.declared.Record.{Record}
use Rattle.table.specs.Slots.{Slot, Held, Free, Full, slot_for}
use Rattle.capi.specs.declared.ChannelFound.{ChannelFound}

-- number 19: channel not in the table
abbrev pub absent : ChannelFound
absent = record { number = no_such_channel; slot = 0 }

-- the place of a slot that holds the name
abbrev pub held_at : Slot → ChannelFound
held_at (Held k) = record { number = accepted; slot = k }
held_at (Free k) = absent
held_at Full = absent

-- where among some slots the name is held: in the slot that it uses, if that isn't a free one
abbrev pub find_answer : List Record → List ℕ → ChannelFound
find_answer slots name = held_at (slot_for slots name)

-- the same of what is found
abbrev pub found_as : Result ℕ Refusal → ChannelFound
found_as (Ok k) = record { number = accepted; slot = k }
found_as (Err e) = record { number = number_of e; slot = 0 }
