-- The numbers of document 01's table and of 02's requests, under the names that src/lib.rt gives them there with the papers' words.
-- A contract that cites one here and a function that answers the constant agree, or the function isn't proved.
use Rattle.std.specs.Prelude.{ℕ, Bool, ◌&&◌, List, [], ◌∷◌, ◌++◌, leb}

abbrev pub accepted : ℕ
accepted = 0

abbrev pub not_well_formed : ℕ
not_well_formed = 1

abbrev pub output_too_short : ℕ
output_too_short = 2

abbrev pub bad_link : ℕ
bad_link = 3

abbrev pub line_too_long : ℕ
line_too_long = 4

abbrev pub no_line_end : ℕ
no_line_end = 5

abbrev pub forbidden_byte : ℕ
forbidden_byte = 6

abbrev pub empty_line : ℕ
empty_line = 7

abbrev pub empty_prefix : ℕ
empty_prefix = 8

abbrev pub bad_command : ℕ
bad_command = 9

-- given no longer: no line has a sixteenth parameter (document 02, §7)
abbrev pub too_many_params : ℕ
too_many_params = 10

abbrev pub unknown_command : ℕ
unknown_command = 11

abbrev pub wrong_param_count : ℕ
wrong_param_count = 12

abbrev pub bad_source : ℕ
bad_source = 13

abbrev pub bad_time : ℕ
bad_time = 14

abbrev pub zero_time : ℕ
zero_time = 15

abbrev pub bad_name : ℕ
bad_name = 16

-- given no longer: `mode_numbers` have taken its place (document 02, §6)
abbrev pub bad_modes : ℕ
bad_modes = 17

abbrev pub bad_members : ℕ
bad_members = 18

abbrev pub no_such_channel : ℕ
no_such_channel = 19

abbrev pub not_on_channel : ℕ
not_on_channel = 20

abbrev pub no_free_slot : ℕ
no_free_slot = 21

abbrev pub too_many_members : ℕ
too_many_members = 22

abbrev pub text_too_long : ℕ
text_too_long = 23

abbrev pub unwritable : ℕ
unwritable = 24

abbrev pub no_room : ℕ
no_room = 25

abbrev pub bad_masks : ℕ
bad_masks = 26

abbrev pub too_many_masks : ℕ
too_many_masks = 27

abbrev pub no_mark : ℕ
no_mark = 28

abbrev pub bad_log_link : ℕ
bad_log_link = 29

abbrev pub bad_log_length : ℕ
bad_log_length = 30

abbrev pub log_cut : ℕ
log_cut = 31

abbrev pub unknown_mode : ℕ
unknown_mode = 32

abbrev pub mode_twice : ℕ
mode_twice = 33

abbrev pub wrong_mode_params : ℕ
wrong_mode_params = 34

abbrev pub bad_key : ℕ
bad_key = 35

abbrev pub bad_limit : ℕ
bad_limit = 36

-- The fixed list, in the order in which the numbers are looked for: where more than one applies, the first in this list is given. In document 01 that is "the
-- lowest"; document 02 puts numbers between those. Of 32 to 36, the numbers of modes, the earliest place in the line decides (§6).
abbrev pub order : List ℕ
order =
    not_well_formed
    ∷ output_too_short
    ∷ bad_link
    ∷ line_too_long
    ∷ no_line_end
    ∷ forbidden_byte
    ∷ empty_line
    ∷ empty_prefix
    ∷ bad_command
    ∷ unknown_command
    ∷ wrong_param_count
    ∷ bad_source
    ∷ bad_time
    ∷ zero_time
    ∷ bad_name
    ∷ unknown_mode
    ∷ mode_twice
    ∷ wrong_mode_params
    ∷ bad_key
    ∷ bad_limit
    ∷ bad_members
    ∷ bad_masks
    ∷ no_such_channel
    ∷ not_on_channel
    ∷ no_free_slot
    ∷ too_many_members
    ∷ too_many_masks
    ∷ text_too_long
    ∷ unwritable
    ∷ no_room
    ∷ []

-- those of modes
abbrev pub mode_numbers : List ℕ
mode_numbers = unknown_mode ∷ mode_twice ∷ wrong_mode_params ∷ bad_key ∷ bad_limit ∷ []

-- a number is one of these: 32 to 36
abbrev pub is_mode_number : ℕ → Bool
is_mode_number n = leb unknown_mode n && leb n bad_limit

-- The log reader's stand apart (document 02, §5): of these the place of the first byte at fault decides. They stand here by those places.
abbrev pub log_order : List ℕ
log_order = no_mark ∷ bad_log_link ∷ bad_log_length ∷ log_cut ∷ []

-- every number that a caller may get
abbrev pub all_numbers : List ℕ
all_numbers = order ++ log_order
