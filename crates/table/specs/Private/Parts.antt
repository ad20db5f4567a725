-- The parts of a slot's test, and a refused question.
use Rattle.std.specs.Prelude.{ℕ, suc, Bool, true, false, not, cond, ◌&&◌, List, [], ◌∷◌, Result, Ok, Err}
use Rattle.refusal.specs.Numbers.{accepted}
use Rattle.refusal.specs.Refusals.{number_of}
use Rattle.refusal.specs.declared.Refusal.{Refusal}
use Rattle.channel.specs.declared.Record.{Record}
use Rattle.channel.specs.WellFormed.{is_blank, well_formed}
use Rattle.bans.specs.WellFormed.{good_list}
use Rattle.bans.specs.Slots.{list_at}
use Rattle.table.specs.declared.Banned.{Banned}
use Rattle.table.specs.Table.{is_free}

-- a used slot holds a well-formed record, a free one is zero
unfoldable pub good_record : Record → Bool
good_record r = cond (is_free r) (is_blank r) (well_formed r)

-- the list of each of some slots is well formed where the slot is used, else zero; the first is list k
unfoldable pub good_lists : ℕ → List Record → List ℕ → Bool
good_lists k [] bans = true
good_lists k (r ∷ rs) bans = good_list (not (is_free r)) (list_at bans k) && good_lists (suc k) rs bans

-- a question that is refused is answered no
abbrev pub unbanned : ℕ → Banned
unbanned number = record { number = number; yes = false }

-- an answer to a question as C has it
abbrev pub banned_as : Result Bool Refusal → Banned
banned_as (Ok answer) = record { number = accepted; yes = answer }
banned_as (Err e) = unbanned (number_of e)
