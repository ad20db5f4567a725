-- The room of buffers in which texts are put together.
use Rattle.std.specs.Prelude.{ℕ}

-- the room for an answer, and for the records and the answers of a group
abbrev pub answer_room : ℕ
answer_room = 1152

abbrev pub records_room : ℕ
records_room = 8192

abbrev pub answers_room : ℕ
answers_room = 40960
