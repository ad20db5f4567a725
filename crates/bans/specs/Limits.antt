-- The room that ban lists take. Their limits stand with the record's.
use Rattle.std.specs.Prelude.{ℕ}

-- the bytes of a mask's room: one with its length, and the mask
abbrev pub room_size : ℕ
room_size = 101

-- the bytes of all rooms of a list
abbrev pub rooms_size : ℕ
rooms_size = 3232

-- the bytes of a list: its rooms, and before them one with the number of masks
abbrev pub list_size : ℕ
list_size = 3233

-- the bytes of all lists
abbrev pub bans_size : ℕ
bans_size = 51728
