-- The steps of any command: what a line asks for, the slot that its name uses, and what the request comes to there.
use Rattle.std.specs.Prelude.{ℕ, true, cond, List, [], ◌∷◌, Result, Ok, Err, eqb}
use Rattle.refusal.specs.Numbers.{accepted, unknown_command}
use Rattle.refusal.specs.Rules.{◌when◌, first_of}
use Rattle.refusal.specs.Faults.{Fault, fault}
use Rattle.message.specs.declared.Message.{Message}
use Rattle.message.specs.declared.Span.{Span}
use Rattle.message.specs.Content.{Content}
use Rattle.message.specs.Parts.{bytes_at, content_by}
use Rattle.channel.specs.declared.Record.{Record}
use Rattle.bmask.specs.Masks.{mask_list_in}
use Rattle.table.specs.Network.{Network}
use Rattle.table.specs.Slots.{Found, found_for}
use Rattle.sjoin.specs.Join.{span_place}
use Rattle.relay.specs.declared.Change.{Change}
use Rattle.relay.specs.declared.Request.{Request}
use Rattle.relay.specs.declared.Request.TheVariants as request
use Rattle.relay.specs.Commands.{Command, Sjoin, Part, Quit, Bmask, Unknown}
use Rattle.relay.specs.Private.Work.{Work, no_user}
use Rattle.relay.specs.Private.Sjoin as joining
use Rattle.relay.specs.Private.Part as parting
use Rattle.relay.specs.Private.Quit as quitting
use Rattle.relay.specs.Private.Bmask as masking

-- an unknown command's own rule applies, so that what it asks for is never asked
abbrev pub idle : Work
idle = record { own = λ c. unknown_command when true ∷ []; asks = λ m c. request.Quit no_user }

-- what the code makes of each
abbrev pub work_of : Command → Work
work_of Sjoin = joining.work
work_of Part = parting.work
work_of Quit = quitting.work
work_of Bmask = masking.work
work_of Unknown = idle

-- ---- what the message of a line asks for, or the number of its first own rule that applies, with its place
unfoldable pub asked_by : Command → List ℕ → Message → Result Request (Fault ℕ)
asked_by k line m =
    let number : ℕ = first_of ((work_of k).own (content_by line m)) in
    cond (eqb number accepted) (Ok ((work_of k).asks m (content_by line m))) (Err (fault number (span_place number line m)))

-- ---- the slot that its name uses
abbrev pub looked_up : List Record → List ℕ → Span → Found
looked_up slots line name = found_for slots (bytes_at line name)

-- ---- what it comes to there, with what its line says
abbrev pub settled_in : Network → List ℕ → Request → Content → Result Change ℕ
settled_in n line (request.Sjoin name incoming) c = joining.joins_found (looked_up n.slots line name).slot (looked_up n.slots line name).«record» incoming
settled_in n line (request.Part name user) c = parting.parts_found (looked_up n.slots line name).slot (looked_up n.slots line name).«record» user
settled_in n line (request.Quit user) c = Ok (quitting.quits user)
settled_in n line (request.Bmask name time) c = masking.masks_found (looked_up n.slots line name).slot (looked_up n.slots line name).«record» time (mask_list_in c) n.bans
