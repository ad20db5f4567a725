-- What masks match, as computed from the definition, and step by step. Assumes nothing.
use Prim.Native.Nat.{ℕ}
use mathlib.Core.Path.{◌≡◌, refl, sym}
use mathlib.Core.Bool.{true, false}
use mathlib.Core.List.{List, [], ◌∷◌, ◌++◌}
use native.Mathlib.Omega.{arith}
use lib.ListN.{replicate}
use Rattle.octets.specs.Bytes.{within}
use Rattle.names.specs.Fold.{fold}
use Rattle.std.specs.declared.ops.ControlFlow.TheVariants.{Continue, Break}
use Rattle.glob.specs.Mask.{star, question, matches_byte, first_then, after_run, matches, match_answer}
use Rattle.glob.specs.Stepping.{state, start, back, mask_ended, compared, step, onward, steps, budget}
use Rattle.glob.proofs.Claim.{steps-right, steps-answer}

-- bytes match by their folds: `[*]~` matches `{a}^`
folded : matches (91 ∷ star ∷ 93 ∷ 126 ∷ []) (123 ∷ 97 ∷ 125 ∷ 94 ∷ []) ≡ true
unfolding matches after_run first_then matches_byte fold within
folded = refl

-- a star's run ends where the rest of the mask matches, and not before: `*ab?` matches `aabab!` and not `abab`
late : matches (star ∷ 97 ∷ 98 ∷ question ∷ []) (97 ∷ 97 ∷ 98 ∷ 97 ∷ 98 ∷ 33 ∷ []) ≡ true
unfolding matches after_run first_then matches_byte fold within
late = refl

never : matches (star ∷ 97 ∷ 98 ∷ question ∷ []) (97 ∷ 98 ∷ 97 ∷ 98 ∷ []) ≡ false
unfolding matches after_run first_then matches_byte fold within
never = refl

-- there are no escapes: `\*` matches `\` and a run, `|x` too
no-escape : matches (92 ∷ star ∷ []) (124 ∷ 120 ∷ []) ≡ true
unfolding matches after_run first_then matches_byte fold within
no-escape = refl

-- ---- step by step
-- the empty mask on the empty text takes one step
ends-at-once : steps [] [] 1 start ≡ Break true
unfolding step mask_ended steps onward
ends-at-once = refl

-- without a star there is nothing to go back to: `a` on `b`, and on `aa`
no_way_back : (steps (97 ∷ []) (98 ∷ []) 1 start ≡ Break false) × (steps (97 ∷ []) (97 ∷ 97 ∷ []) 2 start ≡ Break false)
unfolding step mask_ended back compared matches_byte fold within steps onward
no_way_back = (refl, refl)

-- `*a` on `aa`: the mask is used up and the text isn't, so the star's run takes the first byte
run-grows : (steps (star ∷ 97 ∷ []) (97 ∷ 97 ∷ []) 3 start ≡ Continue (state 1 1 1 1)) × (steps (star ∷ 97 ∷ []) (97 ∷ 97 ∷ []) 5 start ≡ Break true)
unfolding step mask_ended compared matches_byte fold within steps onward
run-grows = (refl, refl)

-- ---- many stars (document 02, §3), on 512 times 'a'
abbrev crawl : List ℕ
crawl = star ∷ 97 ∷ star ∷ 97 ∷ star ∷ 97 ∷ star ∷ 97 ∷ star ∷ 97 ∷ star ∷ []

-- `*a*a*a*a*a*` matches, by twelve steps
crawl-matches : matches crawl (replicate 512 97) ≡ true
unfolding step mask_ended compared matches_byte fold within steps onward
crawl-matches = sym (steps-right crawl (replicate 512 97) 12 true refl)

-- `*a*a*a*a*a*b` doesn't, by 519 of the 6,669 that suffice: the plain meaning tries too many runs to be computed
crawl-differs : matches (crawl ++ 98 ∷ []) (replicate 512 97) ≡ false
unfolding step back compared matches_byte fold within steps onward
crawl-differs = sym (steps-right (crawl ++ 98 ∷ []) (replicate 512 97) 519 false refl)

-- a mask and a text of which `steps-answer` speaks
crawl-answers : steps crawl (replicate 512 97) (budget crawl (replicate 512 97)) start ≡ Break (match_answer crawl (replicate 512 97)).yes
crawl-answers = steps-answer crawl (replicate 512 97) (omega arith) (omega arith)
