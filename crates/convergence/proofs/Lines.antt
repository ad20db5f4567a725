-- Lines for `#Race`, good ones and bad ones, and joins of them: what the rules and the reader give, as computed. The failures and the witnesses name them.
-- Assumes nothing.
use Prim.Native.Nat.{ℕ, suc, ◌≤◌}
use mathlib.Core.Path.{◌≡◌, refl, sym, ap, ◌∙◌}
use mathlib.Core.Bool.{true, false, not}
use mathlib.Core.Logic.{inl, inr}
use mathlib.Core.List.Memᴰ
use mathlib.Core.List.{List, [], ◌∷◌, ◌++◌, map, Memᴰ}
use native.Mathlib.Omega.{arith}
use lib.ListN.{length, get_or, replicate, length-replicate}
use lib.Dec.{ltb}
use Rattle.refusal.specs.Numbers.{accepted, empty_prefix, zero_time, mode_twice, bad_link}
use Rattle.refusal.specs.Faults.{first_fault}
use Rattle.refusal.specs.Rules.{first_of}
use Rattle.refusal.proofs.Rules.{skip, stop}
use Rattle.octets.specs.Bytes.{capital, within, is_plain, is_letter, is_digit, is_id_byte, is_name_byte, is_key_byte}
use Rattle.laws.specs.Lists.{all, same_by, starts_with, padded}
use Rattle.octets.specs.Order.{compare}
use Rattle.octets.specs.Room.{part}
use Rattle.ascending.specs.Ascending.{insert, put, unite}
use Rattle.octets.specs.Decimals.{leads_with_zero, is_decimal, value_from}
use Rattle.names.specs.Fold.{fold}
use Rattle.names.specs.Names.{is_channel, is_server_id, is_user_id}
use Rattle.message.specs.Grammar.{line_limit, word, spaces, prefix, prefix_end, command_start, command, command_end, is_command, rest, params}
use Rattle.message.specs.Content.{content_in, prefix_is}
use Rattle.message.specs.Parts.{message_in, content_by, param_span}
use Rattle.message.specs.Words.{words_at}
use Rattle.message.specs.Reading.{crlf, ends_line, body_of, body_rules, line_rules, number_for, is_read, content_of, message_of}
use Rattle.channel.specs.Limits.{member_limit}
use Rattle.channel.specs.Modes.{with_mode, place_among}
use Rattle.channel.specs.Key.{is_key}
use Rattle.channel.specs.Channel.{Channel, member}
use Rattle.channel.proofs.Examples.{2cd, 1ab, stored, incoming}
use Rattle.merging.specs.Plain.{everyone}
use Rattle.links.specs.Links.{has_link, links}
use Rattle.table.specs.Network.{Table, table_of, empty_network}
use Rattle.sjoin.specs.Modes.{modes_byte, parametered, is_limit, good_argument, argument_of}
use Rattle.sjoin.specs.Faults.{letter_checks, own_checks, argument_checks, count_checks, modes_checks}
use Rattle.sjoin.specs.Entries.{past, id_of, status_of, is_entry, member_of, good_entries}
use Rattle.sjoin.specs.Join.{arguments_in, good_count, is_time, mode_rules, join_rules, channel_in, span_place, line_place}
use Rattle.telling.specs.Telling.{sjoin}
use Rattle.sjoin.proofs.Examples.{line, line-tells}
use Rattle.relay.specs.Arrival.{arrival}
use Rattle.relay.proofs.Joined.{IsJoin}
use Rattle.convergence.specs.Demands.{Join, number_at, channel_of, Kept}
use Rattle.convergence.proofs.Folding.{start-number}

-- ---- the lines
-- `:2CD SJOIN 1000 #Race +k buoy @2CDAAAAAA`
unfoldable pub earlier : List ℕ
earlier = 58 ∷ 50 ∷ 67 ∷ 68 ∷ 32 ∷ 83 ∷ 74 ∷ 79 ∷ 73 ∷ 78 ∷ 32 ∷ 49 ∷ 48 ∷ 48 ∷ 48 ∷ 32 ∷ 35 ∷ 82 ∷ 97 ∷ 99 ∷ 101 ∷ 32 ∷ 43 ∷ 107 ∷ 32 ∷ 98 ∷ 117 ∷ 111 ∷ 121 ∷ 32 ∷ 64 ∷ 50 ∷ 67 ∷ 68 ∷ 65 ∷ 65 ∷ 65 ∷ 65 ∷ 65 ∷ 65 ∷ crlf

-- `:1AB SJOIN 1200 #race +nt :@1ABAAAAAA 1ABAAAAAB`, document 01's whole case
abbrev pub later : List ℕ
later = line

-- `:1AB sjoin 1000 #RACE +lk 20 cove :1ABAAAAAA +2CDAAAAAA`
unfoldable pub equal : List ℕ
equal = 58 ∷ 49 ∷ 65 ∷ 66 ∷ 32 ∷ 115 ∷ 106 ∷ 111 ∷ 105 ∷ 110 ∷ 32 ∷ 49 ∷ 48 ∷ 48 ∷ 48 ∷ 32 ∷ 35 ∷ 82 ∷ 65 ∷ 67 ∷ 69 ∷ 32 ∷ 43 ∷ 108 ∷ 107 ∷ 32 ∷ 50 ∷ 48 ∷ 32 ∷ 99 ∷ 111 ∷ 118 ∷ 101 ∷ 32 ∷ 58 ∷ 49 ∷ 65 ∷ 66 ∷ 65 ∷ 65 ∷ 65 ∷ 65 ∷ 65 ∷ 65 ∷ 32 ∷ 43 ∷ 50 ∷ 67 ∷ 68 ∷ 65 ∷ 65 ∷ 65 ∷ 65 ∷ 65 ∷ 65 ∷ crlf

-- `: X`, which isn't read
unfoldable pub unread : List ℕ
unread = 58 ∷ 32 ∷ 88 ∷ crlf

-- `:1AB SJOIN 0 #race + 1ABAAAAAA`
unfoldable pub untimed : List ℕ
untimed = 58 ∷ 49 ∷ 65 ∷ 66 ∷ 32 ∷ 83 ∷ 74 ∷ 79 ∷ 73 ∷ 78 ∷ 32 ∷ 48 ∷ 32 ∷ 35 ∷ 114 ∷ 97 ∷ 99 ∷ 101 ∷ 32 ∷ 43 ∷ 32 ∷ 49 ∷ 65 ∷ 66 ∷ 65 ∷ 65 ∷ 65 ∷ 65 ∷ 65 ∷ 65 ∷ crlf

-- `:1AB SJOIN 1 #race +nn 1ABAAAAAA`, whose second n is at place 21
unfoldable pub twice : List ℕ
twice = 58 ∷ 49 ∷ 65 ∷ 66 ∷ 32 ∷ 83 ∷ 74 ∷ 79 ∷ 73 ∷ 78 ∷ 32 ∷ 49 ∷ 32 ∷ 35 ∷ 114 ∷ 97 ∷ 99 ∷ 101 ∷ 32 ∷ 43 ∷ 110 ∷ 110 ∷ 32 ∷ 49 ∷ 65 ∷ 66 ∷ 65 ∷ 65 ∷ 65 ∷ 65 ∷ 65 ∷ 65 ∷ crlf

-- ---- what the rules give them, those on link and output apart
abbrev judge : List ℕ → ℕ
judge l = first_of (line_rules l ++ join_rules (content_of l))

judged : map judge (earlier ∷ later ∷ equal ∷ unread ∷ untimed ∷ twice ∷ []) ≡ accepted ∷ accepted ∷ accepted ∷ empty_prefix ∷ zero_time ∷ mode_twice ∷ []
unfolding earlier line equal unread untimed twice join_rules good_count prefix_is is_time is_decimal leads_with_zero value_from is_digit is_channel is_name_byte is_server_id is_user_id is_id_byte mode_rules modes_checks own_checks letter_checks count_checks argument_checks first_fault parametered good_argument is_key is_key_byte is_limit arguments_in place_among good_entries is_entry id_of past words_at content_of content_in is_read number_for line_rules body_rules first_of ends_line same_by body_of all is_plain starts_with prefix word prefix_end command_start spaces command is_command is_letter within command_end rest params
judged = refl

-- the commands, and the line that isn't read
commands : map (λ l. map capital (content_of l).command) (earlier ∷ later ∷ equal ∷ untimed ∷ twice ∷ []) ≡ sjoin ∷ sjoin ∷ sjoin ∷ sjoin ∷ sjoin ∷ []
unfolding earlier line equal untimed twice capital content_of content_in is_read number_for line_rules body_rules first_of ends_line same_by body_of all is_plain starts_with prefix word prefix_end command_start spaces command is_command is_letter within command_end rest params
commands = refl

not-read : is_read unread ≡ false
unfolding unread is_read number_for line_rules body_rules first_of ends_line same_by body_of all is_plain starts_with prefix word
not-read = refl

-- ---- what they tell
-- what `equal` tells: #RACE, time 1000, k with key cove, l with limit 20, members 1ABAAAAAA and 2CDAAAAAA, the second with voice
unfoldable pub third : Channel
third = record {
  name = 35 ∷ 82 ∷ 65 ∷ 67 ∷ 69 ∷ [];
  time = 1000;
  settings = record { modes = 192; key = 99 ∷ 111 ∷ 118 ∷ 101 ∷ []; limit = 20 };
  members = member (1ab 65) 0 ∷ member 2cd 1 ∷ [];
}

told : map channel_of (earlier ∷ equal ∷ []) ≡ stored ∷ third ∷ []
unfolding earlier equal stored third 1ab 2cd channel_in arguments_in argument_of parametered modes_byte with_mode place_among value_from member_of id_of status_of past words_at insert put unite compare content_of content_in is_read number_for line_rules body_rules first_of ends_line same_by body_of all is_plain starts_with prefix word prefix_end command_start spaces command is_command is_letter within command_end rest params
told = refl

-- `earlier` tells of `stored`
pub earlier-tells : channel_of earlier ≡ stored
earlier-tells = ap (λ (l : List Channel). get_or l 0 stored) told

-- `later` tells of `incoming`
pub later-tells : channel_of later ≡ incoming
later-tells = line-tells

-- `equal` tells of `third`
pub equal-tells : channel_of equal ≡ third
equal-tells = ap (λ (l : List Channel). get_or l 1 stored) told

-- ---- joins of them
-- a lent output of 512 bytes
unfoldable pub room : List ℕ
room = replicate line_limit 0

length-room : length room ≡ line_limit
unfolding room
length-room = length-replicate {A = ℕ} line_limit 0

-- an empty table with these links
abbrev pub start : ℕ → Table
start set = table_of empty_network (links set)

-- the join of a line by a link, with that output
abbrev pub from : (l : List ℕ) → IsJoin l → ℕ → Join
from l is link = record { arrival = arrival link l; output = room; reads = is }

-- the command of `earlier` is SJOIN
pub earlier-command : map capital (content_of earlier).command ≡ sjoin
earlier-command = ap (λ (l : List (List ℕ)). get_or l 0 []) commands

-- the command of `later` is SJOIN
pub later-command : map capital (content_of later).command ≡ sjoin
later-command = ap (λ (l : List (List ℕ)). get_or l 1 []) commands

-- `earlier` may be a join: it reads as SJOIN
pub earlier-is : IsJoin earlier
earlier-is = inl earlier-command

-- so may `later`
pub later-is : IsJoin later
later-is = inl later-command

-- so may `equal`, with its command in small letters
pub equal_is : IsJoin equal
equal_is = inl (ap (λ (l : List (List ℕ)). get_or l 2 []) commands)

-- so may `untimed`
pub untimed-is : IsJoin untimed
untimed-is = inl (ap (λ (l : List (List ℕ)). get_or l 3 []) commands)

-- so may `twice`
pub twice-is : IsJoin twice
twice-is = inl (ap (λ (l : List (List ℕ)). get_or l 4 []) commands)

-- `unread` may be a join: it isn't read
pub unread-is : IsJoin unread
unread-is = inr not-read

-- the join of `earlier` by a link
abbrev pub earlier_from : ℕ → Join
earlier_from = from earlier earlier-is

-- the join of `later` by a link
abbrev pub later_from : ℕ → Join
later_from = from later later-is

-- the join of `equal` by a link
abbrev pub equal_from : ℕ → Join
equal_from = from equal equal_is

-- the join of `untimed` by a link
abbrev pub untimed_from : ℕ → Join
untimed_from = from untimed untimed-is

-- the join of `twice` by a link
abbrev pub twice_from : ℕ → Join
twice_from = from twice twice-is

-- the join of `unread` by a link
abbrev pub unread_from : ℕ → Join
unread_from = from unread unread-is

-- and it is enough
pub roomy : ltb (length room) line_limit ≡ false
roomy = rw length-room

-- the number of a join at the start: that of its line on a registered link
module _ (set link : ℕ) where
  on-link : (l : List ℕ) (is : IsJoin l) → has_link set link ≡ true → number_at (start set) (from l is link) ≡ judge l
  on-link l is h = start-number (start set) refl (from l is link) ∙ skip _ _ roomy ∙ skip _ _ (ap not h)

  -- by a link that isn't registered, a join has the number of a bad link
  pub off-link : (l : List ℕ) (is : IsJoin l) → has_link set link ≡ false → number_at (start set) (from l is link) ≡ bad_link
  off-link l is h = start-number (start set) refl (from l is link) ∙ skip _ _ roomy ∙ stop _ _ (ap not h)

  module _ (h : has_link set link ≡ true) where
    -- by a registered link, `earlier` is accepted
    pub earlier-number : number_at (start set) (earlier_from link) ≡ accepted
    earlier-number = on-link earlier earlier-is h ∙ ap (λ (l : List ℕ). get_or l 0 0) judged

    -- so is `later`
    pub later-number : number_at (start set) (later_from link) ≡ accepted
    later-number = on-link later later-is h ∙ ap (λ (l : List ℕ). get_or l 1 0) judged

    -- so is `equal`
    pub equal-number : number_at (start set) (equal_from link) ≡ accepted
    equal-number = on-link equal equal_is h ∙ ap (λ (l : List ℕ). get_or l 2 0) judged

    -- `unread` is refused for its empty prefix
    pub unread-number : number_at (start set) (unread_from link) ≡ empty_prefix
    unread-number = on-link unread unread-is h ∙ ap (λ (l : List ℕ). get_or l 3 0) judged

    -- `untimed` is refused for its time 0
    pub untimed-number : number_at (start set) (untimed_from link) ≡ zero_time
    untimed-number = on-link untimed untimed-is h ∙ ap (λ (l : List ℕ). get_or l 4 0) judged

    -- `twice` is refused for its second n
    pub twice-number : number_at (start set) (twice_from link) ≡ mode_twice
    twice-number = on-link twice twice-is h ∙ ap (λ (l : List ℕ). get_or l 5 0) judged

-- which is where it points
pub twice-place : line_place mode_twice twice ≡ 21
unfolding twice span_place content_by param_span part message_of message_in padded arguments_in modes_checks own_checks letter_checks count_checks argument_checks first_fault parametered place_among is_read number_for line_rules body_rules first_of ends_line same_by body_of all is_plain starts_with prefix word prefix_end command_start spaces command is_command is_letter within command_end rest params
twice-place = refl

-- ---- lines that keep to one channel and to 64 users, by what they tell
-- the folded name
abbrev pub race : List ℕ
race = 35 ∷ 114 ∷ 97 ∷ 99 ∷ 101 ∷ []

-- each of some channels has that folded name
abbrev pub Races : List Channel → Type 0
Races [] = Unit {0}
Races (c ∷ s) = (map fold c.name ≡ race) × Races s

-- `stored` has that folded name
pub stored-race : map fold stored.name ≡ race
unfolding stored fold within
stored-race = refl

-- `incoming` has that folded name
pub incoming-race : map fold incoming.name ≡ race
unfolding incoming fold within
incoming-race = refl

-- `third` has that folded name
pub third-race : map fold third.name ≡ race
unfolding third fold within
third-race = refl

one-race : (cs : List Channel) → Races cs → (c : Channel) → Memᴰ c cs → map fold c.name ≡ race
one-race [] h c m = absurd (Memᴰ.not-nil m)
one-race (d ∷ cs) h c (Memᴰ.head e) = ap (λ (x : Channel). map fold x.name) e ∙ h.0
one-race (d ∷ cs) h c (Memᴰ.tail m) = one-race cs h.1 c m

-- lines keep to one channel and to 64 users where the channels that they tell of have that folded name and no more users
pub kept_by : (lines : List (List ℕ)) (cs : List Channel) → map channel_of lines ≡ cs → Races cs → length (everyone cs) ≤ member_limit → Kept lines
kept_by lines cs e h f = record { one = λ k l x y. name k x ∙ sym (name l y); few = rw e f }
  where
    name : (k : List ℕ) → Memᴰ k lines → map fold (channel_of k).name ≡ race
    name k m = one-race cs h (channel_of k) (rw e at (Memᴰ.map channel_of m))

-- lines with a first one are some
pub not_none : {lines : List (List ℕ)} {l : List ℕ} {s : List (List ℕ)} → lines ≡ l ∷ s → lines ≡ [] → ⊥
not_none {s = s} e f = let n : suc (length s) ≡ 0 = ap (λ (x : List (List ℕ)). length x) (sym e ∙ f) in omega (arith, n)
