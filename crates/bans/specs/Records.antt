-- A channel's record with its ban list, which together are what document 02 calls a record (§2: "The record and its well-formedness change").
use Rattle.std.specs.Prelude.{Bool, cond, ◌&&◌, eqb}
use Rattle.channel.specs.declared.Record.{Record}
use Rattle.channel.specs.WellFormed.{well_formed, is_blank}
use Rattle.bans.specs.declared.BanList.{BanList}
use Rattle.bans.specs.declared.WholeRecord.{WholeRecord}
use Rattle.bans.specs.WellFormed.{well_formed_list, is_unused}

-- a record with its list
abbrev pub whole : Record → BanList → WholeRecord
whole r b = record { «record» = r; bans = b }

-- both are well formed
unfoldable pub well_formed_whole : WholeRecord → Bool
well_formed_whole w = well_formed w.«record» && well_formed_list w.bans.room

-- good in a slot: a used slot holds a well-formed record with its list, a free one is zero, list and all
unfoldable pub good_whole : WholeRecord → Bool
good_whole w = cond (eqb w.«record».count 0) (is_blank w.«record» && is_unused w.bans.room) (well_formed_whole w)
