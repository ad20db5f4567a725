-- What private functions of src/lib.rt promise: how long the lines of one slot can be. No public contract cites this file: nobody needs to believe it.
use Rattle.std.specs.Prelude.{ℕ}

-- the most bytes that the lines of a slot are: what is told of a record, 869, 32 masks of 100 with 31 SPACEs between, and two LF
abbrev pub slot_limit : ℕ
slot_limit = 4102
