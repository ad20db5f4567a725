-- The member list of an SJOIN line (document 01, 'SJOIN'): entries parted by one or more SPACEs, at least one; an entry is '@+', '@', '+' or nothing, then a
-- user id.
use Rattle.std.specs.Prelude.{ℕ, ◌+◌, Bool, not, cond, ◌&&◌, List, map, drop}
use Rattle.laws.specs.Lists.{all, is_nil, starts_with}
use Rattle.names.specs.Names.{is_user_id}
use Rattle.channel.specs.declared.Member.{Member}
use Rattle.channel.specs.Channel.{voice, operator, at_sign, member}
use Rattle.message.specs.Words.{words_of}
use Rattle.channel.specs.Modes.{plus}

-- what follows a mark, or all where it doesn't stand first
unfoldable pub past : ℕ → List ℕ → List ℕ
past mark s = cond (starts_with mark s) (drop 1 s) s

-- the entry's id: what follows '@' and '+', in that order
unfoldable pub id_of : List ℕ → List ℕ
id_of entry = past plus (past at_sign entry)

-- operator with '@', voice with '+'
unfoldable pub status_of : List ℕ → ℕ
status_of entry = cond (starts_with at_sign entry) operator 0 + cond (starts_with plus (past at_sign entry)) voice 0

unfoldable pub is_entry : List ℕ → Bool
is_entry entry = is_user_id (id_of entry)

unfoldable pub member_of : List ℕ → Member
member_of entry = member (id_of entry) (status_of entry)

unfoldable pub good_entries : List ℕ → Bool
good_entries list = not (is_nil (words_of list)) && all is_entry (words_of list)

-- the members that a list names, in its order, an id perhaps more than once
abbrev pub named : List ℕ → List Member
named list = map member_of (words_of list)
