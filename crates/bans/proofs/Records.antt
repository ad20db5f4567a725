-- A record with its list is well formed, or good in a slot, exactly if each of the two is. Assumes nothing.
use mathlib.Core.Path.{◌≡◌, refl}
use mathlib.Core.Bool.{Bool, true, false, not, cond, ◌&&◌}
use lib.Dec.{eqb}
use Rattle.laws.proofs.Bools.{and_left, and_right, and_intro}
use Rattle.channel.specs.WellFormed.{well_formed, is_blank}
use Rattle.bans.specs.declared.WholeRecord.{WholeRecord}
use Rattle.bans.specs.WellFormed.{well_formed_list, good_list}
use Rattle.bans.specs.Records.{well_formed_whole, good_whole}

-- where the record is well formed, and its list is, both together are
pub whole-well : (w : WholeRecord) → well_formed w.«record» ≡ true → well_formed_list w.bans.room ≡ true → well_formed_whole w ≡ true
unfolding well_formed_whole
whole-well w r b = and_intro (well_formed w.«record») (well_formed_list w.bans.room) r b

-- and only there
pub whole_says : (w : WholeRecord) → well_formed_whole w ≡ true → (well_formed w.«record» ≡ true) × (well_formed_list w.bans.room ≡ true)
unfolding well_formed_whole
whole_says w h = (and_left (well_formed w.«record») (well_formed_list w.bans.room) h, and_right (well_formed w.«record») (well_formed_list w.bans.room) h)

-- the record is good in its slot, and its list is
pub whole_parts : (w : WholeRecord)
    → good_whole w ≡ cond (eqb w.«record».count 0) (is_blank w.«record») (well_formed w.«record») && good_list (not (eqb w.«record».count 0)) w.bans.room
unfolding good_whole well_formed_whole good_list
whole_parts w = go (eqb w.«record».count 0) refl
  where
    go : (t : Bool) → eqb w.«record».count 0 ≡ t
        → good_whole w ≡ cond (eqb w.«record».count 0) (is_blank w.«record») (well_formed w.«record») && good_list (not (eqb w.«record».count 0)) w.bans.room
    go true e = rw e
    go false e = rw e
