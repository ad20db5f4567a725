-- The messages that get 24 are those that got it: a form was, and is, read back as the message exactly if its parts pass the tests of `good`. The form and the grammar of document 01 are
-- today's where fifteen parameters or more are counted before, so that the same laws say both. Assumes nothing.
use mathlib.Core.Path.{◌≡◌, refl, sym, ap, ◌∙◌}
use mathlib.Core.Bool.{Bool, true}
use mathlib.Core.List.{List, [], ◌∷◌, ◌++◌}
use Prim.Native.Nat.{ℕ, ◌+◌, ◌≤◌, ◌<◌}
use native.Mathlib.Omega.{arith}
use lib.ListN.{length, drop, length-map}
use lib.Dec.{eqb}
use borrow.Author.Tests.{eq-eqb, ne_eqb, eqb-true, le-ltb, ltb-false}
use Rattle.refusal.specs.Numbers.{accepted}
use Rattle.refusal.specs.Rules.{first_of}
use Rattle.refusal.proofs.Rules.{numbered, skip, first-nil, first-none, append-none, both-none}
use Rattle.laws.specs.Lists.{is_nil}
use Rattle.laws.proofs.Bools.{and_left, and_right, and_intro, both_ways}
use Rattle.message.specs.Grammar.{Part, param_limit, middle_limit, command_end}
use Rattle.message.specs.Content.{Content}
use Rattle.message.specs.Reading.{crlf, body_of, body_rules, grammar_rules}
use Rattle.message.specs.Former.{former_params, sixteenth}
use Rattle.message.proofs.Former.{rest-past}
use Rattle.message.proofs.Readings.{formed}
use Rattle.writer.specs.Form.{takes_colon, written_param, written_params, reads_back}
use Rattle.writer.specs.Former.{former_param, former_written_params, former_written, former_content, former_reads_back}
use Rattle.writer.specs.Private.Fit.{good}
use Rattle.writer.proofs.Trips.{read_from, body_from, good-few, content-back, body-plain, body-full, good-reads, body_back, form-reads}
use Rattle.writer.proofs.Fitting.{content-refl, content-true, read-good, good-exactly}

-- ---- where fifteen or more are counted before
module _ (k : ℕ) (past : middle_limit < k) where
  param-past : (last : Bool) (p : List ℕ) → former_param last p ≡ written_param k last p
  unfolding former_param written_param takes_colon
  param-past last p = rw (ne_eqb k middle_limit (λ e. omega arith))

  content-past : (body : List ℕ) → former_content body ≡ read_from k body
  unfolding former_content former_params
  content-past body = rw (rest-past (drop (command_end body) body) k (command_end body) past)

params-past : (ps : List (List ℕ)) (k : ℕ) → middle_limit < k → former_written_params ps ≡ written_params k ps
unfolding former_written_params written_params
params-past [] k h = refl
params-past (p ∷ ps) k h = rw (param-past k h (is_nil ps) p, params-past ps (k + 1) (omega arith))

written-past : (d : Content) → former_written d ≡ body_from param_limit d ++ crlf
unfolding former_written
written-past d = rw (params-past d.params param_limit (omega arith))

grammar-numbered : (line : List ℕ) → numbered (grammar_rules line) ≡ true
unfolding body_rules
grammar-numbered line = refl

-- ---- what was read back is good, and the other way round
module _ (d : Content) where
  abbrev line : List ℕ
  line = former_written d

  -- as many parameters as it held
  held-count : length (former_params (body_of line)) ≡ length (former_content (body_of line)).params
  unfolding former_content
  held-count = sym (length-map (former_params (body_of line)) (λ (p : Part). p.bytes))

  module _ (ok : good d ≡ true) where
    abbrev body : List ℕ
    body = body_from param_limit d

    back : read_from param_limit body ≡ d
    back = content-back param_limit d ok (λ l. omega arith)

    content-was : former_content (body_of line) ≡ d
    content-was = ap (λ (s : List ℕ). former_content (body_of s)) (written-past d) ∙ ap former_content (body_back body) ∙ content-past param_limit (omega arith) body ∙ back

    grammar-was : first_of (grammar_rules line) ≡ accepted
    grammar-was =
        ap (λ (s : List ℕ). first_of (grammar_rules s)) (written-past d)
        ∙ form-reads body (body-plain param_limit d ok) (body-full param_limit d ok)
        ∙ good-reads param_limit body (ap good back ∙ ok)

    few-were : length (former_params (body_of line)) ≤ param_limit
    few-were = omega (arith, held-count, ap (λ (c : Content). length c.params) content-was, good-few d ok)

    good-was : former_reads_back d ≡ true
    unfolding former_reads_back
    good-was =
        and_intro _ _ (eq-eqb _ accepted (append-none (sixteenth line) (grammar_rules line) (grammar-numbered line) grammar-was ∙ skip _ _ (le-ltb param_limit _ few-were) ∙ first-nil))
        (rw content-was (content-refl d))

  was-good : former_reads_back d ≡ true → good d ≡ true
  unfolding former_reads_back
  was-good h =
      let t = eqb (first_of (grammar_rules line ++ sixteenth line)) accepted in
      let none = both-none (sixteenth line) (grammar_rules line) (grammar-numbered line) (eqb-true _ accepted (and_left t _ h)) in
      let few = ltb-false param_limit (length (former_params (body_of line))) (first-none _ _ (λ q. omega arith) none.1).0 in
      let past = content-past param_limit (omega arith) (body_of line) in
      let same : former_content (body_of line) ≡ d = content-true _ d (and_right t _ h) in
      let count = ap (λ (c : Content). length c.params) past in
      ap good (sym same ∙ past) ∙ read-good line (formed line none.0) param_limit (omega (arith, few, held-count, count))

-- 24 is given to the same messages (document 02, §7).
pub reads_back-same : (d : Content) → reads_back d ≡ former_reads_back d
reads_back-same d = sym (good-exactly d) ∙ both_ways (good d) (former_reads_back d) (good-was d) (was-good d)
