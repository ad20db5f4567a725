-- Requests and answers as computed from their definitions, and instances that meet the premises of `kept_line` and `kept-question`. Assumes nothing.
use Prim.Native.Nat.{ℕ}
use mathlib.Core.Path.{◌≡◌, refl}
use mathlib.Core.Bool.{true, false}
use mathlib.Core.List.{List, [], ◌∷◌, map}
use native.Mathlib.Omega.{arith}
use Rattle.octets.specs.Bytes.{cr, lf, space, is_digit, within}
use Rattle.octets.specs.Order.{compare}
use Rattle.octets.specs.Room.{part}
use Rattle.octets.specs.Search.{before}
use Rattle.laws.specs.Bits.{has_bit}
use Rattle.laws.specs.Lists.{all, starts_with, prefixed, separated}
use Rattle.octets.specs.Decimals.{leads_with_zero, is_decimal, value_from, value_up_to, decimal_up_to, digits_up_to, digits_of}
use Rattle.links.specs.Links.{links_from}
use Rattle.message.specs.Grammar.{word}
use Rattle.table.specs.Network.{Table}
use Rattle.table.specs.Banned.{banned_answer}
use Rattle.wording.specs.Wording.{bytes_of, table, words_in}
use Rattle.console.specs.declared.requests.Request.TheVariants.{Register, Unregister, Take, Banned, Channels, Unknown, Help, Nothing}
use Rattle.console.specs.Lines.{kept, first_line, begun, lines_of}
use Rattle.console.specs.Requests.{plus, minus, question, ended, taking_in, question_in, worded_in, request_in, line_from, name_in, text_in}
use Rattle.console.specs.Showing.{shown_byte, shown, pointer, pointed_line}
use Rattle.console.specs.Answers.{exclamation, spaced, place_text, numbered_text, refused_text, IsPlaceIn, links_text, relayed_text}
use Rattle.console.specs.Typing.{typed, typed_in}
use Rattle.console.proofs.Keeping.{kept_line}
use Rattle.console.proofs.Questioned.{kept-question}

-- ---- requests
-- `31 X`, with CR LF
line : List ℕ
line = 51 ∷ 49 ∷ space ∷ 88 ∷ cr ∷ lf ∷ []

-- `+31`; `+31` with CR LF; `+01`; `-0` unfinished; `-1` with CR and no LF; `?` with CR LF; `??`; `31 X`; ` 31`; `31`; nothing but LF; questions with a text and
-- without, one about no name, and one without its second SPACE
asked : map request_in (
    (plus ∷ 51 ∷ 49 ∷ lf ∷ [])
    ∷ (plus ∷ 51 ∷ 49 ∷ cr ∷ lf ∷ [])
    ∷ (plus ∷ 48 ∷ 49 ∷ lf ∷ [])
    ∷ (minus ∷ 48 ∷ [])
    ∷ (minus ∷ 49 ∷ cr ∷ [])
    ∷ (question ∷ cr ∷ lf ∷ [])
    ∷ (question ∷ question ∷ lf ∷ [])
    ∷ line
    ∷ (space ∷ 51 ∷ 49 ∷ lf ∷ [])
    ∷ (51 ∷ 49 ∷ lf ∷ [])
    ∷ (lf ∷ [])
    ∷ bytes_of "banned #a x y\n"
    ∷ bytes_of "banned #a \n"
    ∷ bytes_of "banned  x\n"
    ∷ bytes_of "banned #a\n"
    ∷ [])
    ≡ Register 31 ∷ Register 31 ∷ Unknown ∷ Unregister 0 ∷ Unknown ∷ Channels ∷ Unknown ∷ Take 31 3 ∷ Unknown ∷ Unknown ∷ Unknown ∷ Banned 9 10 ∷ Banned 9 10 ∷ Banned 7 8 ∷ Unknown ∷ []
unfolding line request_in worded_in compare question_in before ended taking_in word decimal_up_to is_decimal all is_digit within leads_with_zero starts_with value_up_to value_from bytes_of
asked = refl

-- the link's line is what stands behind the SPACE, in what is kept too
taken : line_from 3 line ≡ 88 ∷ cr ∷ lf ∷ []
unfolding line line_from
taken = refl

still : line_from 3 (kept line) ≡ line_from 3 line
unfolding line request_in worded_in compare ended taking_in word decimal_up_to is_decimal all is_digit within leads_with_zero starts_with value_up_to value_from
still = kept_line line 31 3 refl

-- the name and the text of a question
about : (name_in 9 (bytes_of "banned #a x y\r\n") ≡ bytes_of "#a") × (text_in 10 (bytes_of "banned #a x y\r\n") ≡ bytes_of "x y")
unfolding name_in text_in part ended bytes_of
about = (refl, refl)

-- and what is kept of it gets the answer that it gets
answered : (t : Table) → banned_answer t (name_in 9 (kept (bytes_of "banned #a x\n"))) (text_in 10 (kept (bytes_of "banned #a x\n"))) ≡ banned_answer t (name_in 9 (bytes_of "banned #a x\n")) (text_in 10 (bytes_of "banned #a x\n"))
unfolding request_in worded_in compare question_in before bytes_of
answered t = kept-question t (bytes_of "banned #a x\n") 9 10 refl

-- ---- lines: the first ends with its LF
first : first_line (65 ∷ lf ∷ 66 ∷ lf ∷ []) ≡ 65 ∷ lf ∷ []
unfolding first_line
first = refl

-- the lines of pieces: two that end, of which one has nothing but its LF; one that ends, and one under way; and none
split : map lines_of ((65 ∷ lf ∷ lf ∷ []) ∷ (65 ∷ lf ∷ 66 ∷ 67 ∷ []) ∷ [] ∷ []) ≡ ((65 ∷ lf ∷ []) ∷ (lf ∷ []) ∷ []) ∷ ((65 ∷ lf ∷ []) ∷ (66 ∷ 67 ∷ []) ∷ []) ∷ [] ∷ []
unfolding begun lines_of
split = refl

-- ---- answers
-- mode n stands twice, at 17 and at 18
twice : List ℕ
twice = bytes_of ":1AB SJOIN 1 #a +nn 1ABAAAAAA\r\n"

-- `! 20`; typed, `! 15 time is 0` and `= 0`
numbered : numbered_text exclamation 20 0 false ≡ exclamation ∷ space ∷ 50 ∷ 48 ∷ lf ∷ []
unfolding numbered_text place_text digits_of digits_up_to
numbered = refl

worded : numbered_text exclamation 15 0 true ≡ bytes_of "! 15 time is 0\n"
unfolding numbered_text place_text digits_of digits_up_to spaced table words_in bytes_of
worded = refl

wordless : numbered_text 61 0 0 true ≡ bytes_of "= 0\n"
unfolding numbered_text place_text digits_of digits_up_to spaced table words_in bytes_of
wordless = refl

-- a line with a fault at a place, from a pipe and typed; a line that has none
placed : refused_text 33 18 twice false ≡ bytes_of "! 33 18\n"
unfolding refused_text numbered_text place_text digits_of digits_up_to bytes_of
placed = refl

placed-typed : refused_text 33 18 twice true ≡ bytes_of "! 33 18 mode letter twice\n:1AB SJOIN 1 #a +nn 1ABAAAAAA\n                  ^\n"
unfolding twice refused_text numbered_text place_text digits_of digits_up_to spaced table words_in pointed_line shown shown_byte within pointer bytes_of
placed-typed = refl

unplaced : refused_text 15 0 twice true ≡ bytes_of "! 15 time is 0\n"
unfolding refused_text numbered_text place_text digits_of digits_up_to spaced table words_in bytes_of
unplaced = refl

-- DEL, ESC and a byte over 127 are shown as '?'
odd : shown (97 ∷ 127 ∷ 27 ∷ 255 ∷ 126 ∷ cr ∷ lf ∷ []) ≡ bytes_of "a???~"
unfolding shown shown_byte within bytes_of
odd = refl

-- a place of a line, as the answer to it asks
inside : IsPlaceIn twice 18
unfolding twice bytes_of
inside ne = (omega arith, omega arith)

-- ---- lines that are typed: `help`, an empty line, `?`
typing : map typed_in (bytes_of "help\n" ∷ bytes_of "\r\n" ∷ bytes_of "?\n" ∷ []) ≡ Help ∷ Nothing ∷ Channels ∷ []
unfolding typed_in ended compare request_in bytes_of
typing = refl

-- LF alone is taken as CR LF
ending : map typed (bytes_of "1 X\n" ∷ bytes_of "1 X\r\n" ∷ bytes_of "1 X" ∷ []) ≡ bytes_of "1 X\r\n" ∷ bytes_of "1 X\r\n" ∷ bytes_of "1 X" ∷ []
unfolding typed ended bytes_of
ending = refl

-- links 0, 5 and 31
several : links_text 2147483681 ≡ 48 ∷ 44 ∷ 53 ∷ 44 ∷ 51 ∷ 49 ∷ []
unfolding links_text links_from has_bit separated prefixed digits_of digits_up_to
several = refl

-- no link: `- X`
alone : relayed_text 0 (88 ∷ cr ∷ lf ∷ []) ≡ 45 ∷ space ∷ 88 ∷ cr ∷ lf ∷ []
unfolding relayed_text links_text links_from has_bit
alone = refl
