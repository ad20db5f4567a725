-- What the code makes of a command, in two steps: what a message asks for, and what that comes to in the slot that its name uses. A refusal is told by its number.
use Rattle.std.specs.Prelude.{ℕ, cond, List, Result, Ok, Err, eqb, replicate}
use Rattle.refusal.specs.Numbers.{accepted}
use Rattle.refusal.specs.Rules.{Rule, first_of}
use Rattle.refusal.specs.Faults as faults
use Rattle.refusal.specs.Faults.{fault}
use Rattle.refusal.specs.Refusals.{number_of}
use Rattle.refusal.specs.declared.Fault.{Fault}
use Rattle.refusal.specs.declared.Refusal.{Refusal}
use Rattle.names.specs.Names.{user_id_length}
use Rattle.message.specs.declared.Span.{Span}
use Rattle.message.specs.declared.Message.{Message}
use Rattle.message.specs.Content.{Content}
use Rattle.message.specs.Parts.{span}
use Rattle.relay.specs.declared.Change.{Change}
use Rattle.relay.specs.declared.Deed.{Deed}
use Rattle.relay.specs.declared.Request.{Request}
use Rattle.relay.specs.declared.Sending.{Sending}

-- What the code makes of a command.
pub record Work : Type 0 where
  -- the rules of a message by itself
  pub own : Content → List Rule
  -- what a message asks for where none of its own rules applies
  pub asks : Message → Content → Request

-- the room of an id that isn't needed
abbrev pub no_user : List ℕ
no_user = replicate user_id_length 0

-- the span of a name that isn't there
abbrev pub nowhere : Span
nowhere = span 0 0

-- what is done, and what goes out
abbrev pub change : Deed → Sending → Change
change deed sending = record { deed = deed; sending = sending }

-- ---- answers
module _ {A : Type 0} where
  -- an answer, unless the first rule that applies refuses it
  abbrev pub ruled : List Rule → A → Result A ℕ
  ruled rules x = cond (eqb (first_of rules) accepted) (Ok x) (Err (first_of rules))

  -- an answer of the code, a refusal told by its number
  abbrev pub by_number : Result A Refusal → Result A ℕ
  by_number (Ok x) = Ok x
  by_number (Err e) = Err (number_of e)

  -- and by its place
  abbrev pub by_place : Result A Fault → Result A (faults.Fault ℕ)
  by_place (Ok x) = Ok x
  by_place (Err f) = Err (fault (number_of f.refusal) f.place)
