-- What is answered.
use Rattle.std.specs.Prelude.{ℕ, ◌+◌, ◌≤◌, ◌≡◌, Bool, cond, List, [], ◌∷◌, ◌++◌, map, length, eqb}
use Rattle.octets.specs.Bytes.{lf, space, comma}
use Rattle.laws.specs.Lists.{is_nil, separated}
use Rattle.octets.specs.Decimals.{digits_of}
use Rattle.links.specs.Links.{links_in}
use Rattle.message.specs.Grammar.{line_limit}
use Rattle.wording.specs.Wording.{words_of}
use Rattle.console.specs.Showing.{pointed_line}

-- '!'
abbrev pub exclamation : ℕ
exclamation = 33

-- a SPACE before some words, if there are any
unfoldable pub spaced : List ℕ → List ℕ
spaced words = cond (is_nil words) [] (space ∷ words)

-- a SPACE before a place, if there is one: 0 is none
unfoldable pub place_text : ℕ → List ℕ
place_text place = cond (eqb place 0) [] (space ∷ digits_of place)

-- a mark, a SPACE, a number and a place, if there is one: `= 0`, `! 12`, `! 33 18`; with the number's words, if they are asked for: `! 33 18 mode letter twice`
unfoldable pub numbered_text : ℕ → ℕ → ℕ → Bool → List ℕ
numbered_text mark n place worded = (mark ∷ space ∷ []) ++ digits_of n ++ place_text place ++ cond worded (spaced (words_of n)) [] ++ (lf ∷ [])

-- the answer to a line that is refused: '!', the number and the place at fault, if there is one; below its words the line then, with a caret under the place
unfoldable pub refused_text : ℕ → ℕ → List ℕ → Bool → List ℕ
refused_text n place line worded = numbered_text exclamation n place worded ++ cond (eqb place 0) [] (cond worded (pointed_line place line) [])

-- a place at fault is one of a line that isn't too long: before its CR LF, or where that begins
abbrev pub IsPlaceIn : List ℕ → ℕ → Type 0
IsPlaceIn line place = (place ≡ 0 → ⊥) → (length line ≤ line_limit) × (place + 2 ≤ length line)

-- '-'
abbrev pub no_link : List ℕ
no_link = 45 ∷ []

-- the links of a set, ascending, parted by commas, or '-' where there are none
unfoldable pub links_text : ℕ → List ℕ
links_text set = cond (is_nil (links_in set)) no_link (separated comma (map digits_of (links_in set)))

-- the links that a line goes to, one SPACE, and the line with its CR LF
unfoldable pub relayed_text : ℕ → List ℕ → List ℕ
relayed_text set line = links_text set ++ (space ∷ []) ++ line

-- the answer to a line that is accepted: where nothing goes out, '-' alone
unfoldable pub accepted_text : ℕ → List ℕ → List ℕ
accepted_text set line = cond (is_nil line) (no_link ++ (lf ∷ [])) (relayed_text set line)
