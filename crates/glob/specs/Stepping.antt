-- A match in steps (document 02, §3), which step back only to the last star passed. A step is given at most one mask byte and one text byte: it can
-- look at no more. As many steps as the product of the two lengths, each plus 1, always reach the answer: `steps-suffice`, proofs/Claim.antt.
use Rattle.std.specs.Prelude.{ℕ, zero, suc, ◌+◌, ◌*◌, Bool, true, false, cond, Option, Some, None, List, slice_get, length, eqb}
use Rattle.std.specs.declared.ops.ControlFlow.{ControlFlow}
use Rattle.std.specs.declared.ops.ControlFlow.TheVariants.{Continue, Break}
use Rattle.glob.specs.declared.State.{State}
use Rattle.glob.specs.Mask.{star, matches_byte}

-- ---- what a step is given
-- of a mask or a text: the byte at a place, or nothing, where this is its end
abbrev pub look : List ℕ → ℕ → Option ℕ
look s at = slice_get s at

-- a match in progress: the place in the mask and in the text, the place after the last star passed, 0 where none was, and where that star's run ends
abbrev pub state : ℕ → ℕ → ℕ → ℕ → State
state mask text after run = record { mask = mask; text = text; after = after; run = run }

abbrev pub start : State
start = state 0 0 0 0

-- ---- what it comes to: another state, with which the match goes on, or the answer
abbrev pub Progress : Type 0
Progress = ControlFlow Bool State

-- a star is passed, and its run is empty so far
abbrev pub passed : State → Progress
passed s = Continue (state (s.mask + 1) s.text (s.mask + 1) s.text)

-- a mask byte takes a text byte
abbrev pub taken : State → Progress
taken s = Continue (state (s.mask + 1) (s.text + 1) s.after s.run)

-- the last star's run takes one byte more, and the match goes on behind both
abbrev pub longer : State → Progress
longer s = Continue (state s.after (s.run + 1) s.after (s.run + 1))

-- back to the last star passed; where there is none, there is no match
unfoldable pub back : State → Progress
back s = cond (eqb s.after 0) (Break false) (longer s)

-- the mask is used up: so is the text, or a star that is the mask's last byte takes what is left of it, or the last star's run must be longer
unfoldable pub mask_ended : State → Option ℕ → Progress
mask_ended s None = Break true
mask_ended s (Some b) = cond (eqb s.after 0) (Break false) (cond (eqb s.after s.mask) (Break true) (longer s))

-- a mask byte that is no star takes a text byte, or not; the text being used up, the answer is no: a longer run would leave less of it
unfoldable pub compared : State → ℕ → Option ℕ → Progress
compared s m None = Break false
compared s m (Some b) = cond (matches_byte m b) (taken s) (back s)

-- One step: of a state, and of the mask byte and the text byte at its places.
unfoldable pub step : State → Option ℕ → Option ℕ → Progress
step s None text = mask_ended s text
step s (Some m) text = cond (eqb m star) (passed s) (compared s m text)

-- ---- many steps
-- the step of a state, by the bytes at its places
abbrev pub step_in : List ℕ → List ℕ → State → Progress
step_in mask text s = step s (look mask s.mask) (look text s.text)

-- one more step, unless the answer is reached
unfoldable pub onward : (State → Progress) → Progress → Progress
onward f (Continue s) = f s
onward f (Break answer) = Break answer

unfoldable pub steps : List ℕ → List ℕ → ℕ → State → Progress
steps mask text zero s = Continue s
steps mask text (suc k) s = onward (steps mask text k) (step_in mask text s)

-- as many as always suffice
abbrev pub budget : List ℕ → List ℕ → ℕ
budget mask text = (length mask + 1) * (length text + 1)
