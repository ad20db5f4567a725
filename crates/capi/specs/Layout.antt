-- How C lays out the structs of the interface on x86-64: a field stands at the first place after the one before it that its alignment divides, and a
-- struct's size is rounded up to its widest alignment.
use Rattle.std.specs.Prelude.{ℕ, ◌+◌, ◌-◌, ◌*◌, ◌/◌, List, [], ◌∷◌, ◌++◌, length}
use Rattle.names.specs.Names.{name_limit, user_id_length}
use Rattle.message.specs.Grammar.{line_limit, param_limit}
use Rattle.channel.specs.Limits.{member_limit, key_limit, slot_count}
use Rattle.bans.specs.Limits.{list_size}
use Rattle.wording.specs.Wording.{text_limit}

-- a type: its size and its alignment in bytes
pub record Kind : Type 0 where
  pub size : ℕ
  pub align : ℕ

abbrev pub plain : ℕ → Kind
plain n = record { size = n; align = n }

-- u8 and bool, u16, u32, usize
abbrev pub byte : Kind
byte = plain 1

abbrev pub half : Kind
half = plain 2

abbrev pub word : Kind
word = plain 4

abbrev pub long : Kind
long = plain 8

abbrev pub array : ℕ → Kind → Kind
array n k = record { size = n * k.size; align = k.align }

-- the first place from n on that a divides
unfoldable pub up_to : ℕ → ℕ → ℕ
up_to n a = (n + (a - 1)) / a * a

-- the widest alignment of some fields: a difference below 0 is 0
unfoldable pub widest : List Kind → ℕ
widest [] = 1
widest (k ∷ ks) = (k.align - widest ks) + widest ks

-- where some fields end, of which the first may stand at n
unfoldable pub ended : ℕ → List Kind → ℕ
ended n [] = n
ended n (k ∷ ks) = ended (up_to n k.align + k.size) ks

-- a struct as the type of a field
abbrev pub struct : List Kind → Kind
struct ks = record { size = up_to (ended 0 ks) (widest ks); align = widest ks }

-- the place and the size of each of some fields, of which the first may stand at n
unfoldable pub placed : ℕ → List Kind → List ℕ
placed n [] = []
placed n (k ∷ ks) = up_to n k.align ∷ k.size ∷ placed (up_to n k.align + k.size) ks

-- those of a struct's fields, and its size
unfoldable pub numbers_of : List Kind → List ℕ
numbers_of ks = placed 0 ks ++ ((struct ks).size ∷ [])

-- ---- the fields of each struct, in their order
abbrev pub span : List Kind
span = long ∷ long ∷ []

abbrev pub message : List Kind
message = byte ∷ struct span ∷ struct span ∷ long ∷ array param_limit (struct span) ∷ []

abbrev pub member : List Kind
member = array user_id_length byte ∷ byte ∷ []

abbrev pub channel : List Kind
channel =
    array name_limit byte
    ∷ long
    ∷ word
    ∷ byte
    ∷ array key_limit byte
    ∷ long
    ∷ half
    ∷ array member_limit (struct member)
    ∷ long
    ∷ []

-- BanList: its room
abbrev pub ban_list : List Kind
ban_list = array list_size byte ∷ []

-- WholeRecord: the record, then its ban list
abbrev pub whole_record : List Kind
whole_record = struct channel ∷ struct ban_list ∷ []

abbrev pub links : List Kind
links = word ∷ []

-- Head: the slots, then the links
abbrev pub head : List Kind
head = array slot_count (struct channel) ∷ struct links ∷ []

-- a number, then what an answer tells: of LineRead, Written, Logged a count of things or bytes, of Match and Banned a yes, of Merged a record with its list, of
-- ChannelFound a place
abbrev pub numbered : Kind → List Kind
numbered k = byte ∷ k ∷ []

-- Registered: the head, then its number
abbrev pub registered : List Kind
registered = struct head ∷ byte ∷ []

-- Taken: the head, the length of what was written, the place in the line, the links and how many they are, then its number
abbrev pub taken : List Kind
taken = struct head ∷ long ∷ long ∷ word ∷ word ∷ byte ∷ []

-- Text: the room for the words, then their length
abbrev pub text : List Kind
text = array text_limit byte ∷ long ∷ []

-- Feeder: the room for a line, the length of what is kept of it, whether it is dropped
abbrev pub feeder : List Kind
feeder = array line_limit byte ∷ long ∷ byte ∷ []

-- Fed: the state after, how many bytes were used, the room for a line, its length, then the number
abbrev pub fed : List Kind
fed = struct feeder ∷ long ∷ array line_limit byte ∷ long ∷ byte ∷ []

-- RecordRead: the part of the log that is a line, the place of a fault, the link, then its number, and whether there is a record
abbrev pub record_read : List Kind
record_read = struct span ∷ long ∷ word ∷ byte ∷ byte ∷ []

-- ---- all numbers, and how many they are first
unfoldable pub numbers : List ℕ
unfolding numbers_of
numbers =
    numbers_of span
    ++ numbers_of message
    ++ numbers_of (numbered long)
    ++ numbers_of (numbered long)
    ++ numbers_of (numbered byte)
    ++ numbers_of member
    ++ numbers_of channel
    ++ numbers_of ban_list
    ++ numbers_of whole_record
    ++ numbers_of (numbered (struct whole_record))
    ++ numbers_of links
    ++ numbers_of head
    ++ numbers_of registered
    ++ numbers_of taken
    ++ numbers_of (numbered byte)
    ++ numbers_of (numbered long)
    ++ numbers_of (numbered long)
    ++ numbers_of text
    ++ numbers_of feeder
    ++ numbers_of fed
    ++ numbers_of record_read

unfoldable pub layout : List ℕ
layout = length numbers ∷ numbers
