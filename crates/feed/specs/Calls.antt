-- The calls that a caller makes, and what is claimed of any feeder (document 02, §1). Any numbers stand for bytes here: a state that a list of them reaches is reached
-- by its own bytes, or by zeros (`tested-reached`, proofs/States.antt).
use Rattle.std.specs.Prelude.{ℕ, zero, suc, ◌≤◌, ◌≡◌, not, cond, ◌&&◌, ◌⊎◌, List, [], ◌∷◌, ◌++◌, length, take, drop, eqb}
use Rattle.refusal.specs.Numbers.{accepted, not_well_formed, line_too_long}
use Rattle.laws.specs.Lists.{is_nil}
use Rattle.laws.specs.Joins.{concatenated}
use Rattle.feed.specs.declared.Feeder.{Feeder}
use Rattle.feed.specs.declared.Fed.{Fed}
use Rattle.feed.specs.Lines.{Event, Whole, TooLong, nothing, events, after_all}
use Rattle.feed.specs.Feeder.{state_after, fed}

-- What varies: what a call answers to a state and bytes.
abbrev pub Feeding : Type 0
Feeding = Feeder → List ℕ → Fed

-- what an answer yields: the refusal of a line, a line, or nothing
unfoldable pub yields : Fed → List Event
yields r =
    cond (eqb r.number line_too_long) (TooLong ∷ [])
    (cond (eqb r.number accepted && not (eqb r.len 0)) (Whole (take r.len r.line) ∷ [])
    [])

-- What calls come to: what they yielded, in order, the state at the end, and the bytes that were not used.
pub record Run : Type 0 where
  pub yielded : List Event
  pub state : Feeder
  pub unused : List ℕ

-- one run behind what was yielded, and not used, before it
abbrev pub then : List Event → List ℕ → Run → Run
then es left r = record { yielded = es ++ r.yielded; state = r.state; unused = left ++ r.unused }

-- Calls with a piece of bytes, n of them at most, each with the state that the one before answered and the bytes that it left. The first that yields nothing
-- is the last.
unfoldable pub calls : Feeding → ℕ → Feeder → List ℕ → Run
calls feed zero f s = record { yielded = []; state = f; unused = s }
calls feed (suc n) f s =
    cond (is_nil (yields (feed f s)))
    (record { yielded = []; state = (feed f s).state; unused = drop (feed f s).used s })
    (then (yields (feed f s)) [] (calls feed n (feed f s).state (drop (feed f s).used s)))

-- a piece takes no more calls than it has bytes, and one
abbrev pub calls_with : Feeding → Feeder → List ℕ → Run
calls_with feed f s = calls feed (suc (length s)) f s

-- the calls with one piece after the other
unfoldable pub calls_over : Feeding → Feeder → List (List ℕ) → Run
calls_over feed f [] = record { yielded = []; state = f; unused = [] }
calls_over feed f (s ∷ pieces) = then (calls_with feed f s).yielded (calls_with feed f s).unused (calls_over feed (calls_with feed f s).state pieces)

-- ---- the claims
pub record Feeds (feed : Feeding) : Type 0 where
  -- "A state that no bytes reach from the empty one gets 1": the state as given, no byte used, no line.
  pub refuses : (f : Feeder) (s : List ℕ) → ((earlier : List ℕ) → f ≡ state_after earlier → ⊥) → feed f s ≡ fed f 0 [] not_well_formed
  -- Any other gets no number but 4, and no more bytes are used than there are.
  pub numbers : (earlier s : List ℕ) → ((feed (state_after earlier) s).number ≡ accepted) ⊎ ((feed (state_after earlier) s).number ≡ line_too_long)
  pub within : (earlier s : List ℕ) → (feed (state_after earlier) s).used ≤ length s
  -- "From any other, the sequence of lines and refusals, and what is kept at the end, depend only on the bytes joined, never on the cuts": they are those of
  -- the plain run of the bytes joined, behind those that came earlier, and every byte is used.
  pub runs : (earlier : List ℕ) (pieces : List (List ℕ)) → calls_over feed (state_after earlier) pieces
      ≡ record { yielded = events (after_all nothing earlier) (concatenated pieces); state = state_after (earlier ++ concatenated pieces); unused = [] }
