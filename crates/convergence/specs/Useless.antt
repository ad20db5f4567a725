-- The useless relays of document 01, 'How the promises are judged', each made as good as it can be without its use, two that are useless for document 02's bans, one that
-- is for its places, and two useless mergings.
use Rattle.std.specs.Prelude.{ℕ, Bool, cond, List, map, eqb}
use Rattle.refusal.specs.Numbers.{accepted, not_well_formed}
use Rattle.laws.specs.Lists.{all, same}
use Rattle.octets.specs.Bytes.{capital}
use Rattle.channel.specs.Record.{empty_record}
use Rattle.bans.specs.Slots.{empty_list}
use Rattle.bans.specs.Records.{whole}
use Rattle.table.specs.Network.{Table}
use Rattle.table.specs.Table.{is_free}
use Rattle.telling.specs.Telling.{sjoin}
use Rattle.relay.specs.Arrival.{Arrival, said}
use Rattle.relay.specs.Bmask.{bmask}
use Rattle.relay.specs.Relay.{Outcome, refused}
use Rattle.convergence.specs.Demands.{Taking, Merging, ruled, placed}
use Rattle.convergence.specs.Ours.{ours, our_merging}

-- refuses all: by the rules' number where they give one, else by 1
abbrev pub refusing : Taking
refusing t a out = (refused t (cond (eqb (ruled t a out) accepted) not_well_formed (ruled t a out)) (placed t a out), out)

-- answers the same whatever it is given
abbrev pub constant : Outcome → List ℕ → Taking
constant answer after t a out = (answer, after)

-- the answer with another table
abbrev pub with_table : Outcome → Table → Outcome
with_table x t = record { number = x.number; place = x.place; table = t; set = x.set; count = x.count; len = x.len }

-- answers and writes as ours does, and never alters the table
abbrev pub unaltering : Taking
unaltering t a out = (with_table (ours t a out).0 t, (ours t a out).1)

-- takes the first join as ours does, and alters no table that has a channel
abbrev pub first_only : Taking
first_only t a out = cond (all is_free t.slots) (ours t a out) (unaltering t a out)

-- the answer with another count of links
abbrev pub with_count : Outcome → ℕ → Outcome
with_count x n = record { number = x.number; place = x.place; table = x.table; set = x.set; count = n; len = x.len }

-- answers and writes as ours does, but for the count of links of an accepted line, which is made up
abbrev pub counted_as : ℕ → Taking
counted_as n t a out = (with_count (ours t a out).0 (cond (eqb (ruled t a out) accepted) n 0), (ours t a out).1)

-- the line's command is this word
abbrev pub has_word : List ℕ → Arrival → Bool
has_word word a = same (map capital (said a).command) word

-- answers and writes as ours does, and never adds a mask
abbrev pub unmasking : Taking
unmasking t a out = cond (has_word bmask a) (unaltering t a out) (ours t a out)

-- the table with the ban lists of another
abbrev pub with_bans_of : Table → Table → Table
with_bans_of t u = record { slots = t.slots; links = t.links; bans = u.bans }

-- answers and writes as ours does, and an SJOIN leaves the ban lists as they are, whatever its time
abbrev pub keeping_lists : Taking
keeping_lists t a out = cond (has_word sjoin a) (with_table (ours t a out).0 (with_bans_of (ours t a out).0.table t), (ours t a out).1) (ours t a out)

-- answers as ours does, and never tells the place
abbrev pub unpointing : Taking
unpointing t a out =
    let x : Outcome = (ours t a out).0 in
    (record { number = x.number; place = 0; table = x.table; set = x.set; count = x.count; len = x.len }, (ours t a out).1)

-- answers its first record
abbrev pub first_record : Merging
first_record a b = record { number = accepted; result = a }

-- merges as ours does, and accepts what that refuses, with no channel
abbrev pub never_refusing : Merging
never_refusing a b = record { number = accepted; result = cond (eqb (our_merging a b).number accepted) (our_merging a b).result (whole empty_record empty_list) }
