-- What a record holds, as parts of its room. Assumes nothing.
use mathlib.Core.Path.{◌≡◌, sym}
use Rattle.octets.specs.Room.{part}
use Rattle.octets.proofs.Room.{part-front}
use Rattle.channel.specs.declared.Record.{Record}
use Rattle.channel.specs.Record.{decode}

-- the name is the part in use of the room for it, or all of that where the record says that more is in use
pub decoded-name : (r : Record) → (decode r).name ≡ part r.name 0 r.name_len
unfolding decode
decoded-name r = sym (part-front r.name r.name_len)
