-- BMASK: its masks are added to the list of the slot that its name uses, where there is room, and where it isn't later.
use Rattle.std.specs.Prelude.{ℕ, cond, List, Result, Ok, Err, get_or, ltb}
use Rattle.refusal.specs.Numbers.{no_such_channel, too_many_masks}
use Rattle.octets.specs.Decimals.{value_of}
use Rattle.channel.specs.declared.Record.{Record}
use Rattle.bans.specs.Putting.{Added, add_answer}
use Rattle.bans.specs.Slots.{list_at, list_of}
use Rattle.sjoin.specs.Join.{time_in}
use Rattle.bmask.specs.Masks.{listed, bmask_rules}
use Rattle.table.specs.Slots.{Slot, Held, Free, Full}
use Rattle.relay.specs.declared.Change.{Change}
use Rattle.relay.specs.declared.Deed.TheVariants.{Nothing, Add}
use Rattle.relay.specs.declared.Request.TheVariants.{Bmask}
use Rattle.relay.specs.declared.Sending.TheVariants.{Silent, AsRead}
use Rattle.relay.specs.Private.Work.{Work, nowhere, change}

-- slot k's list with the masks of some bytes
abbrev pub with_masks : List ℕ → ℕ → List ℕ → Added
with_masks bans k list = add_answer (listed list) (list_of (list_at bans k))

-- nothing is done, and nothing goes out
abbrev pub nothing : Change
nothing = change Nothing Silent

-- the masks are added to those of slot k, and the line goes out
abbrev pub adds : ℕ → Change
adds k = change (Add k) AsRead

-- unless there is no room; where the line is later, nothing is done
unfoldable pub masks_held : ℕ → Record → ℕ → List ℕ → List ℕ → Result Change ℕ
masks_held k held time list bans = cond (ltb held.time time) (Ok nothing) (cond (with_masks bans k list).full (Err too_many_masks) (Ok (adds k)))

-- by the slot that the name uses, and the record that has it
abbrev pub masks_found : Slot → Record → ℕ → List ℕ → List ℕ → Result Change ℕ
masks_found (Held k) held time list bans = masks_held k held time list bans
masks_found (Free k) held time list bans = Err no_such_channel
masks_found Full held time list bans = Err no_such_channel

-- the name is the second parameter
abbrev pub work : Work
work = record { own = bmask_rules; asks = λ m c. Bmask (get_or m.params 1 nowhere) (value_of (time_in c)) }
