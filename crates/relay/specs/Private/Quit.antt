-- QUIT: its user is dropped from every slot. It names no channel.
use Rattle.std.specs.Prelude.{ℕ, List}
use Rattle.message.specs.Content.{source_in}
use Rattle.relay.specs.declared.Change.{Change}
use Rattle.relay.specs.declared.Deed.TheVariants.{Drop}
use Rattle.relay.specs.declared.Request.TheVariants.{Quit}
use Rattle.relay.specs.declared.Sending.TheVariants.{AsRead}
use Rattle.relay.specs.Quit.{quit_rules}
use Rattle.relay.specs.Private.Work.{Work, change}

abbrev pub quits : List ℕ → Change
quits user = change (Drop user) AsRead

abbrev pub work : Work
work = record { own = quit_rules; asks = λ m c. Quit (source_in c) }
