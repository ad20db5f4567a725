-- States and bytes that meet the premises of the theorems, and what these then say of them; and whole answers, computed. Assumes nothing.
use mathlib.Core.Path.{◌≡◌, refl, sym, ap, ◌∙◌}
use mathlib.Core.Bool.{true, false, true≢false}
use mathlib.Core.List.Memᴰ
use mathlib.Core.List.{List, [], ◌∷◌, ◌++◌, Memᴰ}
use Prim.Native.Nat.{ℕ}
use lib.ListN.{replicate}
use lib.Dec.{eqb}
use Rattle.refusal.specs.Numbers.{accepted, not_well_formed, line_too_long, no_line_end}
use Rattle.refusal.specs.Rules.{first_of}
use Rattle.octets.specs.Bytes.{cr, lf}
use Rattle.laws.specs.Lists.{all, padded}
use Rattle.message.specs.Grammar.{line_limit}
use Rattle.message.specs.Reading.{number_for}
use Rattle.feed.specs.declared.Feeder.{Feeder}
use Rattle.feed.specs.Lines.{Whole, TooLong, Unfinished, Dropping, nothing, yielded, continued, after, events, after_all, used}
use Rattle.feed.specs.Feeder.{state_of, state_after, pending_in, reached_tests, is_reached, fed, answer_of, answer_to, feed_answer}
use Rattle.feed.specs.Calls.{yields, calls_over}
use Rattle.feed.specs.Division.{Divided, event_of, overdue, kept_of, has_cr}
use Rattle.feed.proofs.States.{reaching, reached-tested, tested-reached}
use Rattle.feed.proofs.Calls.{feeds, cuts}
use Rattle.feed.proofs.Division.{accounted}
use Rattle.feed.proofs.Yielded.{yielded-fitting, reads-5, reads-not-4}

-- ---- states that no bytes reach, one of each kind
-- more is kept than a line has
abbrev overlong : Feeder
overlong = record { bytes = replicate line_limit 97; len = 513; dropping = false }

-- LF is kept
abbrev ended : Feeder
ended = record { bytes = padded line_limit 0 (lf ∷ []); len = 1; dropping = false }

-- unused room isn't zero
abbrev unclear : Feeder
unclear = record { bytes = padded line_limit 0 (97 ∷ []); len = 0; dropping = false }

-- one that is dropping keeps a byte
abbrev both : Feeder
both = record { bytes = padded line_limit 0 (97 ∷ []); len = 1; dropping = true }

unreached : (f : Feeder) → is_reached f ≡ false → (earlier : List ℕ) → f ≡ state_after earlier → ⊥
unreached f e earlier h = true≢false (sym (reached-tested earlier) ∙ ap is_reached (sym h) ∙ e)

gets-1 : (f : Feeder) → is_reached f ≡ false → (s : List ℕ) → feed_answer f s ≡ fed f 0 [] not_well_formed
gets-1 f e s = feeds.refuses f s (unreached f e)

pub each-gets-1 : (s : List ℕ)
    → (feed_answer overlong s ≡ fed overlong 0 [] not_well_formed)
    × (feed_answer ended s ≡ fed ended 0 [] not_well_formed)
    × (feed_answer unclear s ≡ fed unclear 0 [] not_well_formed)
    × (feed_answer both s ≡ fed both 0 [] not_well_formed)
unfolding is_reached reached_tests padded all
each-gets-1 s = (gets-1 overlong refl s, gets-1 ended refl s, gets-1 unclear refl s, gets-1 both refl s)

-- ---- a state that bytes reach: one that is dropping
pub dropping-is-reached : state_of Dropping ≡ state_after (reaching (state_of Dropping))
unfolding is_reached reached_tests state_of padded all
dropping-is-reached = tested-reached (state_of Dropping) refl

-- ---- a line in pieces comes to what it comes to in one
abbrev line : List ℕ
line = 97 ∷ cr ∷ lf ∷ []

abbrev pieces : List (List ℕ)
pieces = (97 ∷ []) ∷ [] ∷ (cr ∷ lf ∷ []) ∷ []

pub line-cut : calls_over feed_answer (state_after []) pieces ≡ calls_over feed_answer (state_after []) (line ∷ [])
line-cut = cuts feed_answer feeds [] pieces (line ∷ []) refl

-- and is accounted for: one line, and nothing is kept
line-divided : Divided line (line ∷ []) []
unfolding all
line-divided = record {
  whole = refl;
  ended = λ l m. rw (Memᴰ.eq_of_singleton m) (record { body = 97 ∷ cr ∷ []; ends = refl; one = refl });
  unended = refl;
}

pub line-accounted : calls_over feed_answer (state_of nothing) pieces ≡ record { yielded = Whole line ∷ []; state = state_of nothing; unused = [] }
line-accounted = accounted pieces (line ∷ []) [] line-divided

-- ---- lines that are yielded, with CR and without
computed-line : feed_answer (state_of nothing) line ≡ fed (state_of nothing) 3 line accepted
unfolding feed_answer first_of is_reached reached_tests pending_in state_of answer_to answer_of used events yielded after_all after continued padded all
computed-line = refl

computed-lf : feed_answer (state_of nothing) (lf ∷ []) ≡ fed (state_of nothing) 1 (lf ∷ []) accepted
unfolding feed_answer first_of is_reached reached_tests pending_in state_of answer_to answer_of used events yielded after_all after continued padded all
computed-lf = refl

line-yielded : Memᴰ (Whole line) (yields (feed_answer (state_of nothing) line))
unfolding yields padded
line-yielded = rw computed-line (Memᴰ.head refl)

lf-yielded : Memᴰ (Whole (lf ∷ [])) (yields (feed_answer (state_of nothing) (lf ∷ [])))
unfolding yields padded
lf-yielded = rw computed-lf (Memᴰ.head refl)

pub line-not-5 : eqb (number_for line) no_line_end ≡ false
line-not-5 = reads-5 line (yielded-fitting (state_of nothing) line line line-yielded)

pub lf-gets-5 : eqb (number_for (lf ∷ [])) no_line_end ≡ true
lf-gets-5 = reads-5 (lf ∷ []) (yielded-fitting (state_of nothing) (lf ∷ []) (lf ∷ []) lf-yielded)

pub lf-not-4 : eqb (number_for (lf ∷ [])) line_too_long ≡ false
lf-not-4 = reads-not-4 (lf ∷ []) (yielded-fitting (state_of nothing) (lf ∷ []) (lf ∷ []) lf-yielded)

-- ---- the edge: 512 bytes with LF the last, and 513
abbrev full : List ℕ
full = replicate line_limit 97

-- the 513th byte, LF and not
computed-over : feed_answer (state_of (Unfinished full)) (lf ∷ 98 ∷ []) ≡ fed (state_of nothing) 1 [] line_too_long
unfolding feed_answer first_of is_reached reached_tests pending_in state_of answer_to answer_of used events yielded after_all after continued padded all
computed-over = refl

computed-long : feed_answer (state_of (Unfinished full)) (97 ∷ lf ∷ []) ≡ fed (state_of Dropping) 1 [] line_too_long
unfolding feed_answer first_of is_reached reached_tests pending_in state_of answer_to answer_of used events yielded after_all after continued padded all
computed-long = refl

-- the rest of a long line, and the line behind it, in one call
computed-next : feed_answer (state_of Dropping) (98 ∷ lf ∷ 97 ∷ lf ∷ []) ≡ fed (state_of nothing) 4 (97 ∷ lf ∷ []) accepted
unfolding feed_answer first_of is_reached reached_tests pending_in state_of answer_to answer_of used events yielded after_all after continued padded all
computed-next = refl

-- the same told all at once
computed-events : (event_of (replicate 511 97 ++ (lf ∷ [])) ≡ Whole (replicate 511 97 ++ (lf ∷ []))) × (event_of (full ++ (lf ∷ [])) ≡ TooLong)
computed-events = (refl, refl)

computed-rest : (overdue full ≡ []) × (kept_of full ≡ Unfinished full) × (overdue (97 ∷ full) ≡ TooLong ∷ []) × (kept_of (97 ∷ full) ≡ Dropping)
computed-rest = (refl, refl, refl, refl)

computed-cr : (has_cr line ≡ true) × (has_cr (lf ∷ []) ≡ false) × (has_cr (97 ∷ lf ∷ []) ≡ false)
computed-cr = (refl, refl, refl)
