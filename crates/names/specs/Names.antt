-- Channel names, server ids and user ids (document 01, 'Names and ids').
use Rattle.std.specs.Prelude.{ℕ, ◌+◌, Bool, false, ◌&&◌, List, [], ◌∷◌, length, take, drop, get_or, eqb, leb}
use Rattle.octets.specs.Bytes.{within, is_digit, is_id_byte, is_name_byte}
use Rattle.laws.specs.Lists.{all}

abbrev pub hash : ℕ
hash = 35

-- the most bytes of a channel name, '#' counted
abbrev pub name_limit : ℕ
name_limit = 50

-- the bytes of a server id, and of a user id, which begins with one
abbrev pub server_id_length : ℕ
server_id_length = 3

abbrev pub user_id_length : ℕ
user_id_length = 9

-- '#' and 1 to 49 further bytes, none of them SPACE, BELL, NUL, CR, LF or comma
unfoldable pub is_channel : List ℕ → Bool
is_channel [] = false
is_channel (b ∷ s) = eqb b hash && (leb 1 (length s) && (leb (length (b ∷ s)) name_limit && all is_name_byte s))

-- three bytes, a digit, then two of 'A' to 'Z' or '0' to '9'
unfoldable pub is_server_id : List ℕ → Bool
is_server_id id = eqb (length id) server_id_length && (all is_digit (take 1 id) && all is_id_byte (drop 1 id))

-- nine bytes: a server id, one of 'A' to 'Z', then five of 'A' to 'Z' or '0' to '9'
unfoldable pub is_user_id : List ℕ → Bool
is_user_id id = eqb (length id) user_id_length && (is_server_id (take server_id_length id) && (within 65 (get_or id server_id_length 0) 90 && all is_id_byte (drop (server_id_length + 1) id)))
