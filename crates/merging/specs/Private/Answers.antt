-- A merge as it is answered, and the lists of two records as the code merges them.
use Rattle.std.specs.Prelude.{ℕ, false, cond, eqb, ltb}
use Rattle.bans.specs.declared.BanList.{BanList}
use Rattle.bans.specs.declared.WholeRecord.{WholeRecord}
use Rattle.bans.specs.Putting.{Added, addition, unite_answer}
use Rattle.merging.specs.declared.Merged.{Merged}

abbrev pub refused_by : ℕ → WholeRecord → Merged
refused_by number a = record { number = number; result = a }

-- what the code answers of a merge, as it is handed to a caller that has no Result: the number of a refusal, or 0, and the record that was merged into as it is then
abbrev pub merged_by : ℕ → WholeRecord → Merged
merged_by number w = record { number = number; result = w }

-- the list after, and whether there was no room
unfoldable pub merged_lists : ℕ → BanList → ℕ → BanList → Added
merged_lists x a y b = cond (eqb x y) (unite_answer a b) (addition false (cond (ltb x y) a b).room)
