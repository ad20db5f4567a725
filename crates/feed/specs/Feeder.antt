-- The feeder's state, which states some bytes reach, and the answer to a call: number 1, and 4, which is yielded.
use Rattle.std.specs.Prelude.{ℕ, Bool, true, false, not, cond, ◌&&◌, List, [], ◌∷◌, length, take, drop, eqb, leb}
use Rattle.refusal.specs.Numbers.{accepted, not_well_formed, line_too_long}
use Rattle.refusal.specs.Rules.{Rule, ◌when◌, first_of}
use Rattle.octets.specs.Bytes.{is_zero, is_non_lf}
use Rattle.laws.specs.Lists.{all, padded}
use Rattle.message.specs.Grammar.{line_limit}
use Rattle.feed.specs.declared.Feeder.{Feeder}
use Rattle.feed.specs.declared.Fed.{Fed}
use Rattle.feed.specs.Lines.{Event, Whole, TooLong, Pending, Unfinished, Dropping, nothing, events, after_all, used}

-- ---- the state
-- the state that keeps a pending line: room for the longest, unused room zero
unfoldable pub state_of : Pending → Feeder
state_of (Unfinished w) = record { bytes = padded line_limit 0 w; len = length w; dropping = false }
state_of Dropping = record { bytes = padded line_limit 0 []; len = 0; dropping = true }

-- the state that some bytes reach from the empty one
abbrev pub state_after : List ℕ → Feeder
state_after s = state_of (after_all nothing s)

-- the pending line of a state
unfoldable pub pending_in : Feeder → Pending
pending_in f = cond f.dropping Dropping (Unfinished (take f.len f.bytes))

-- The tests of a state that some bytes reach: it has room for 512 bytes, as its type says, and keeps no more; none of those that it keeps is LF; unused room
-- is zero; and one that is dropping keeps none.
unfoldable pub reached_tests : Feeder → List Bool
reached_tests f =
    eqb (length f.bytes) line_limit
    ∷ leb f.len line_limit
    ∷ all is_non_lf (take f.len f.bytes)
    ∷ all is_zero (drop f.len f.bytes)
    ∷ not (f.dropping && not (is_zero f.len))
    ∷ []

unfoldable pub is_reached : Feeder → Bool
is_reached f = all (λ t. t) (reached_tests f)

-- ---- the answer
-- a state, how many bytes were used, a line in room for the longest, unused room zero, and a number
abbrev pub fed : Feeder → ℕ → List ℕ → ℕ → Fed
fed f n line number = record { state = f; used = n; line = padded line_limit 0 line; len = length line; number = number }

-- the answer of a call that used n bytes, by what they yielded: no line and no number, a line, or 4; they yield once at most
unfoldable pub answer_of : Pending → ℕ → List Event → Fed
answer_of p n [] = fed (state_of p) n [] accepted
answer_of p n (Whole line ∷ es) = fed (state_of p) n line accepted
answer_of p n (TooLong ∷ es) = fed (state_of p) n [] line_too_long

-- bytes are used up to and with the first that yields something, else all
unfoldable pub answer_to : Pending → List ℕ → Fed
answer_to p s = answer_of (after_all p (take (used p s) s)) (used p s) (events p (take (used p s) s))

-- the call's own refusal: 4 is none, since the state moves on with it
abbrev pub feed_rules : Feeder → List Rule
feed_rules f = not_well_formed when not (is_reached f) ∷ []

-- the answer to a call: a refusal answers the state as given, no byte used, no line
unfoldable pub feed_answer : Feeder → List ℕ → Fed
feed_answer f s = cond (eqb (first_of (feed_rules f)) accepted) (answer_to (pending_in f) s) (fed f 0 [] (first_of (feed_rules f)))
