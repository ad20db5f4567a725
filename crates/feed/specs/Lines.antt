-- Bytes made into lines, byte by byte (document 02, §1): what is kept of the line under way, and what each byte yields.
use Rattle.std.specs.Prelude.{ℕ, suc, Bool, cond, List, [], ◌∷◌, ◌++◌, length, eqb, leb}
use Rattle.octets.specs.Bytes.{lf}
use Rattle.laws.specs.Lists.{is_nil}
use Rattle.message.specs.Grammar.{line_limit}

-- What is yielded: a whole line, up to and with its LF, or the one refusal, 4, of a line that is too long.
pub data Event : Type 0 where
  Whole : List ℕ → Event
  TooLong : Event

-- What is kept of the line under way: an unfinished line's bytes; of one that is too long nothing, since it is dropped up to and with its LF.
pub data Pending : Type 0 where
  Unfinished : List ℕ → Pending
  Dropping : Pending

-- no byte of a line has come
abbrev pub nothing : Pending
nothing = Unfinished []

-- the next byte of the line would be its 513th
abbrev pub is_full : List ℕ → Bool
is_full w = leb line_limit (length w)

-- what a byte yields: the 513th, LF or not, the refusal; any other LF the line that it ends
unfoldable pub yielded : Pending → ℕ → List Event
yielded (Unfinished w) b = cond (is_full w) (TooLong ∷ []) (cond (eqb b lf) (Whole (w ++ (b ∷ [])) ∷ []) [])
yielded Dropping b = []

-- what is kept after a byte other than LF
unfoldable pub continued : Pending → ℕ → Pending
continued (Unfinished w) b = cond (is_full w) Dropping (Unfinished (w ++ (b ∷ [])))
continued Dropping b = Dropping

-- what is kept after a byte: LF ends the line
unfoldable pub after : Pending → ℕ → Pending
after p b = cond (eqb b lf) nothing (continued p b)

-- ---- the plain run of some bytes
-- what they yield, in order
unfoldable pub events : Pending → List ℕ → List Event
events p [] = []
events p (b ∷ s) = yielded p b ++ events (after p b) s

-- what is kept at the end
unfoldable pub after_all : Pending → List ℕ → Pending
after_all p [] = p
after_all p (b ∷ s) = after_all (after p b) s

-- how many come up to and with the first that yields something; all where none does
unfoldable pub used : Pending → List ℕ → ℕ
used p [] = 0
used p (b ∷ s) = cond (is_nil (yielded p b)) (suc (used (after p b) s)) 1
