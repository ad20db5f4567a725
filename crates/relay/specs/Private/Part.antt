-- PART: its user leaves the record that its slot holds.
use Rattle.std.specs.Prelude.{ℕ, cond, List, Result, Ok, Err, get_or}
use Rattle.refusal.specs.Numbers.{no_such_channel, not_on_channel}
use Rattle.channel.specs.declared.Record.{Record}
use Rattle.channel.specs.Record.{decode}
use Rattle.channel.specs.Members.{has_member, without}
use Rattle.table.specs.Slots.{Slot, Held, Free, Full}
use Rattle.message.specs.Content.{source_in}
use Rattle.relay.specs.declared.Change.{Change}
use Rattle.relay.specs.declared.Deed.TheVariants.{Set}
use Rattle.relay.specs.declared.Request.TheVariants.{Part}
use Rattle.relay.specs.declared.Sending.TheVariants.{AsRead}
use Rattle.relay.specs.Leaving.{is_last}
use Rattle.relay.specs.Part.{part_rules}
use Rattle.relay.specs.Private.Work.{Work, nowhere, change}

-- slot k is to hold the record that is left, and its list goes with the last member
abbrev pub parts : ℕ → Record → List ℕ → Change
parts k held user = change (Set k (without user held) (is_last user held)) AsRead

-- unless the user isn't there
unfoldable pub parts_held : ℕ → Record → List ℕ → Result Change ℕ
parts_held k held user = cond (has_member user (decode held).members) (Ok (parts k held user)) (Err not_on_channel)

-- by the slot that the name uses, and the record that has it
abbrev pub parts_found : Slot → Record → List ℕ → Result Change ℕ
parts_found (Held k) held user = parts_held k held user
parts_found (Free k) held user = Err no_such_channel
parts_found Full held user = Err no_such_channel

-- the name is the first parameter
abbrev pub work : Work
work = record { own = part_rules; asks = λ m c. Part (get_or m.params 0 nowhere) (source_in c) }
