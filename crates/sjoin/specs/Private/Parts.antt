-- What private functions answer of parts of a line. No public contract cites this file: nobody needs to believe it.
use Rattle.std.specs.Prelude.{ℕ, cond, List, Option, Some, None, position, eqb}
use Rattle.octets.specs.Decimals.{value_of}
use Rattle.channel.specs.declared.Member.{Member}
use Rattle.channel.specs.declared.Roster.{Roster}
use Rattle.channel.specs.Members.{roster}
use Rattle.sjoin.specs.Modes.{is_limit}
use Rattle.sjoin.specs.Entries.{is_entry, member_of, good_entries, named}

-- the place of a letter among some, if it is one of them
unfoldable pub found_among : ℕ → List ℕ → Option ℕ
found_among letter s = position (λ x. eqb x letter) s

-- the limit that some bytes are, if they are one
unfoldable pub limit_in : List ℕ → Option ℕ
limit_in s = cond (is_limit s) (Some (value_of s)) None

-- the member that a word of a list names, if it is an entry
unfoldable pub entry_in : List ℕ → Option Member
entry_in word = cond (is_entry word) (Some (member_of word)) None

-- the members that a list names, if it is good
unfoldable pub entries_in : List ℕ → Option Roster
entries_in list = cond (good_entries list) (Some (roster (named list))) None
