-- A channel: what a record holds, as lists.
use Rattle.std.specs.Prelude.{ℕ, ◌^◌, List}
use Rattle.std.specs.Int.Bits.{bit_or}
use Rattle.ascending.specs.Ascending.{Kind}
use Rattle.channel.specs.declared.Member.{Member}
use Rattle.channel.specs.Settings.{Settings}

pub record Channel : Type 0 where
  pub name : List ℕ
  pub time : ℕ
  pub settings : Settings
  pub members : List Member

-- ---- members, each with a status of voice 1 plus operator 2
-- the places of the two bits
abbrev pub voice_place : ℕ
voice_place = 0

abbrev pub operator_place : ℕ
operator_place = 1

abbrev pub voice : ℕ
voice = 2 ^ voice_place

abbrev pub operator : ℕ
operator = 2 ^ operator_place

-- '@', the mark of an operator
abbrev pub at_sign : ℕ
at_sign = 64

abbrev pub member : List ℕ → ℕ → Member
member id status = record { id = id; status = status }

-- members by their ids, an id given twice having both statuses
abbrev pub by_id : Kind Member ℕ
by_id = record { key = λ m. m.id; load = λ m. m.status; make = member; join = bit_or }
