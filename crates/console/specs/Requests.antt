-- What an input line asks for: `+N` registers link N, `-N` drops it, `N ` and bytes is a line from link N, `?` asks for the table, `banned NAME TEXT` whether a
-- text is banned from a channel. After all but a link's line a CR before the LF is passed over.
use Rattle.std.specs.Prelude.{ℕ, ◌+◌, ◌-◌, cond, List, [], ◌∷◌, length, take, drop, get_or, eqb, leb, ltb, Option, Some, None}
use Rattle.std.specs.declared.cmp.Ordering.{Ordering}
use Rattle.std.specs.declared.cmp.Ordering.TheVariants.{Less, Equal, Greater}
use Rattle.octets.specs.Bytes.{cr, space}
use Rattle.laws.specs.Lists.{is_nil}
use Rattle.octets.specs.Decimals.{decimal_up_to}
use Rattle.octets.specs.Order.{compare}
use Rattle.octets.specs.Room.{part}
use Rattle.octets.specs.Search.{before}
use Rattle.message.specs.Grammar.{word}
use Rattle.console.specs.declared.requests.Request.{Request}
use Rattle.console.specs.declared.requests.Request.TheVariants.{Register, Unregister, Take, Banned, Channels, Unknown}
use Rattle.console.specs.Lines.{ends_in_lf}

-- '+', '-' and '?'
abbrev pub plus : ℕ
plus = 43

abbrev pub minus : ℕ
minus = 45

abbrev pub question : ℕ
question = 63

-- the bytes before LF, or before CR LF; all of them where there is no LF at the end
unfoldable pub ended : List ℕ → List ℕ
ended s = cond (ends_in_lf s) (cond (eqb (get_or s (length s - 2) 0) cr) (take (length s - 2) s) (take (length s - 1) s)) s

-- a link's number: decimal, without leading zeros, at most nine digits, which is up to 999,999,999
abbrev pub link_in : List ℕ → Option ℕ
link_in s = decimal_up_to 999999999 s

-- a request of that link
abbrev pub numbered : (ℕ → Request) → Option ℕ → Request
numbered f (Some link) = f link
numbered f None = Unknown

-- a link's number before the first SPACE, and the place behind that, where the link's line begins
unfoldable pub taking_in : List ℕ → Request
taking_in s =
    let n : ℕ = length (word s) in
    cond (ltb n (length s)) (numbered (λ link. Take link (n + 1)) (link_in (word s))) Unknown

-- `banned` and a SPACE, and how many bytes they are
abbrev pub banned_word : List ℕ
banned_word = 98 ∷ 97 ∷ 110 ∷ 110 ∷ 101 ∷ 100 ∷ space ∷ []

abbrev pub banned_length : ℕ
banned_length = 7

-- the most bytes of a name that is asked about
abbrev pub name_room : ℕ
name_room = 512

-- a name behind them, before the next SPACE, and a text: where the name ends, and where the text begins
unfoldable pub question_in : List ℕ → Request
question_in s =
    let behind : List ℕ = drop banned_length s in
    let n : ℕ = length (before space behind) in
    cond (ltb n (length behind)) (cond (leb n name_room) (Banned (banned_length + n) (banned_length + n + 1)) Unknown) Unknown

-- a question, where the word is `banned`, else another request
abbrev pub questioned : Ordering → Request → Request → Request
questioned Equal q r = q
questioned Less q r = r
questioned Greater q r = r

-- a question about a ban, or a link's line
unfoldable pub worded_in : List ℕ → Request
worded_in s = questioned (compare (take banned_length s) banned_word) (question_in s) (taking_in s)

unfoldable pub request_in : List ℕ → Request
request_in [] = Unknown
request_in (b ∷ s) =
    cond (eqb b plus) (numbered Register (link_in (ended s)))
    (cond (eqb b minus) (numbered Unregister (link_in (ended s)))
    (cond (eqb b question) (cond (is_nil (ended s)) Channels Unknown)
    (worded_in (b ∷ s))))

-- the link's line: of a longer one the first 513 bytes
unfoldable pub line_from : ℕ → List ℕ → List ℕ
line_from start s = take 513 (drop start s)

-- the name and the text of a question
unfoldable pub name_in : ℕ → List ℕ → List ℕ
name_in end s = part s banned_length end

unfoldable pub text_in : ℕ → List ℕ → List ℕ
text_in start s = ended (drop start s)
