-- The limits of a record (document 01: "These limits belong to the record and are named once, with it"), and of its ban list (document 02, §2: up to 32 masks a
-- channel, 1 to 100 bytes each). A name's is that of crate names.
use Rattle.std.specs.Prelude.{ℕ}

-- the most members
abbrev pub member_limit : ℕ
member_limit = 64

-- the most bytes of a key
abbrev pub key_limit : ℕ
key_limit = 23

-- the channels of a table
abbrev pub slot_count : ℕ
slot_count = 16

-- the latest time
abbrev pub time_limit : ℕ
time_limit = 4294967295

-- the largest user limit
abbrev pub limit_limit : ℕ
limit_limit = 65535

-- the most masks of a ban list
abbrev pub ban_limit : ℕ
ban_limit = 32

-- the most bytes of a mask
abbrev pub mask_limit : ℕ
mask_limit = 100
