-- SJOIN: its record is merged into the one that its slot holds, or opens the slot.
use Rattle.std.specs.Prelude.{ℕ, Bool, false, cond, Result, Ok, Err, get_or, replicate, eqb, ltb}
use Rattle.refusal.specs.Numbers.{accepted, no_free_slot}
use Rattle.channel.specs.declared.Record.{Record}
use Rattle.channel.specs.Limits.{key_limit}
use Rattle.channel.specs.Record.{encode}
use Rattle.channel.specs.Standing.{bare}
use Rattle.merging.specs.Merging.{Combined, combined}
use Rattle.table.specs.Slots.{Slot, Held, Free, Full}
use Rattle.sjoin.specs.Join.{join_rules, channel_in}
use Rattle.relay.specs.declared.Change.{Change}
use Rattle.relay.specs.declared.Deed.TheVariants.{Set}
use Rattle.relay.specs.declared.Request.TheVariants.{Sjoin}
use Rattle.relay.specs.declared.Sending.TheVariants.{Anew}
use Rattle.relay.specs.Private.Work.{Work, nowhere, change}

-- what goes out of an incoming record, by the one that results
unfoldable pub told_of : Record → Record → Record
told_of result incoming =
    let counts : Bool = eqb incoming.time result.time in
    record {
      name = result.name;
      name_len = result.name_len;
      time = result.time;
      modes = cond counts incoming.modes 0;
      key = cond counts incoming.key (replicate key_limit 0);
      key_len = cond counts incoming.key_len 0;
      limit = cond counts incoming.limit 0;
      members = cond counts incoming.members (bare incoming.members);
      count = incoming.count;
    }

-- slot k is to hold the record that results, its list emptied if so, and what stands of the incoming one goes out
abbrev pub joins : ℕ → Record → Bool → Record → Change
joins k result emptied incoming = change (Set k result emptied) (Anew (told_of result incoming))

-- the result is what the records merge to, unless that is refused; an earlier time empties the list
unfoldable pub joins_held : ℕ → Record → Record → Result Change ℕ
joins_held k held incoming =
    let m : Combined = combined held incoming in
    cond (eqb m.number accepted) (Ok (joins k m.result (ltb incoming.time held.time) incoming)) (Err m.number)

-- by the slot that the name uses, and the record that has it
abbrev pub joins_found : Slot → Record → Record → Result Change ℕ
joins_found (Held k) held incoming = joins_held k held incoming
joins_found (Free k) held incoming = Ok (joins k incoming false incoming)
joins_found Full held incoming = Err no_free_slot

-- the name is the second parameter
abbrev pub work : Work
work = record { own = join_rules; asks = λ m c. Sjoin (get_or m.params 1 nowhere) (encode (channel_in c)) }
