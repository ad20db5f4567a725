-- Laws of readings: what a line that is read keeps to, what the tests that a line passes and fails make of its reading, and where its
-- parts lie. Assumes nothing.
use mathlib.Core.Path.{◌≡◌, refl, sym, ap, ◌∙◌}
use mathlib.Core.Bool.{Bool, true, false, not, ◌&&◌, and-false, and-true}
use mathlib.Core.List.{List, [], ◌∷◌}
use mathlib.Core.Option
use Prim.Native.Nat.{ℕ, ◌+◌, ◌-◌, ◌≤◌, ◌<◌}
use native.Mathlib.Omega.{arith}
use lib.ListN.{length, drop, get_or, length-take, length-drop, length-map, get_or-replicate, drop_of_length-le, get_or-eq_default}
use lib.Dec.{eqb, ltb}
use lib.Pointwise.{pointwise}
use borrow.Author.Tests.{eq-eqb, ne_eqb, lt-ltb, le-ltb, ltb-false, eqb-true, eqb-false, not-false}
use Rattle.std.proofs.Common.{Result, Ok, Err}
use Rattle.refusal.specs.declared.Refusal.{Refusal}
use Rattle.refusal.specs.Refusals as refusals
use Rattle.refusal.specs.Refusals.{answered}
use Rattle.refusal.specs.Numbers.{accepted, line_too_long, no_line_end, forbidden_byte, empty_line, empty_prefix, bad_command}
use Rattle.refusal.specs.Rules.{◌when◌, first_of, ascend, ascend_from, place_in}
use Rattle.refusal.proofs.Refusals.{not-accepted}
use Rattle.refusal.proofs.Rules.{skip, stop, first-nil, first-none, first-lacks, numbered}
use Rattle.octets.specs.Bytes.{cr, lf, is_plain}
use Rattle.octets.proofs.Bytes.{same_true}
use Rattle.laws.specs.Lists.{all, is_nil, same_by}
use Rattle.laws.proofs.Lists.{nil-length, drop-step}
use Rattle.message.specs.declared.Span.{Span}
use Rattle.message.specs.declared.Message.{Message}
use Rattle.message.specs.Grammar.{Part, line_limit, param_limit, has_prefix, prefix, prefix_end, command, is_command, params}
use Rattle.message.specs.Content.{Content, bytes_of, content_in}
use Rattle.message.specs.Parts.{empty_at, message_in, blank}
use Rattle.message.specs.Reading.{Parsed, Line, Refused, crlf, ends_line, body_of, body_rules, grammar_rules, line_rules, number_for, is_read, number_of, count_of, answer, reading_of, content_of, message_of, parsed_of, parsed_as}
use Rattle.message.specs.Private.Scan.{body_parsed}
use Rattle.message.proofs.Fifteenth.{params-few}
use Rattle.message.proofs.Places.{Placed, empty-placed, command-placed, prefix-in-line, command-in-line, param-in-line}

-- The rules stand in the order of their numbers: the first in it that applies is given.
pub rules-ascend : (line : List ℕ) → ascend (line_rules line) ≡ true
unfolding ascend_from line_rules body_rules place_in
rules-ascend line = refl

-- none of them is `accepted`
pub rules-numbered : (line : List ℕ) → numbered (line_rules line) ≡ true
unfolding line_rules body_rules
rules-numbered line = refl

-- ---- the end of a line
pub same-pointwise : (s t : List ℕ) → pointwise eqb s t ≡ same_by eqb s t
unfolding same_by
same-pointwise [] [] = refl
same-pointwise [] (y ∷ t) = refl
same-pointwise (x ∷ s) [] = refl
same-pointwise (x ∷ s) (y ∷ t) = ap (λ (b : Bool). eqb x y && b) (same-pointwise s t)

module _ (line : List ℕ) where
  pub ends-as : pointwise eqb (drop (length line - 2) line) crlf ≡ ends_line line
  unfolding ends_line
  ends-as = same-pointwise (drop (length line - 2) line) crlf

  pub ends-short : length line < 2 → false ≡ ends_line line
  unfolding ends_line same_by
  ends-short h = go line h
    where
      go : (l : List ℕ) → length l < 2 → false ≡ same_by eqb (drop (length l - 2) l) (cr ∷ lf ∷ [])
      go [] = λ k. refl
      go (x ∷ []) = λ k. sym (and-false (eqb x cr))
      go (x ∷ y ∷ l) = λ k. absurd (omega arith)

  last-two : 2 ≤ length line → drop (length line - 2) line ≡ get_or line (length line - 2) 0 ∷ get_or line (length line - 1) 0 ∷ []
  last-two h =
      let n = length line in
      let k : n - 2 + 1 ≡ n - 1 = omega arith in
      drop-step line (n - 2) 0 (omega arith)
      ∙ rw (k, drop-step line (n - 1) 0 (omega arith), drop_of_length-le line {i = n - 1 + 1} (omega arith))

  pub ends_by : 2 ≤ length line → eqb (get_or line (length line - 2) 0) cr && eqb (get_or line (length line - 1) 0) lf ≡ ends_line line
  unfolding ends_line same_by
  ends_by h = rw (last-two h, and-true (eqb (get_or line (length line - 1) 0) lf))

  pub ends-long : ends_line line ≡ true → 2 ≤ length line
  unfolding ends_line
  ends-long e = let n : length (drop (length line - 2) line) ≡ 2 = ap (λ (l : List ℕ). length l) (same_true (drop (length line - 2) line) crlf e) in omega (arith, length-drop (length line - 2) line)

  pub body-length : length (body_of line) ≡ length line - 2
  unfolding body_of
  body-length = length-take (length line - 2) line ∙ omega arith

-- ---- a line that keeps to the grammar
-- What holds of a line to which none of the grammar's rules applies.
pub record Formed (line : List ℕ) : Type 0 where
  pub ends : ends_line line ≡ true
  pub plain : all is_plain (body_of line) ≡ true
  pub prefixed : has_prefix (body_of line) && is_nil (prefix (body_of line)) ≡ false
  pub commanded : is_command (command (body_of line)) ≡ true

pub formed : (line : List ℕ) → first_of (grammar_rules line) ≡ accepted → Formed line
unfolding body_rules
formed line e =
    let r5 = first-none _ _ (λ q. omega arith) e in
    let r6 = first-none _ _ (λ q. omega arith) r5.1 in
    let r7 = first-none _ _ (λ q. omega arith) r6.1 in
    let r8 = first-none _ _ (λ q. omega arith) r7.1 in
    let r9 = first-none _ _ (λ q. omega arith) r8.1 in
    record {
      ends = not-false _ r5.0;
      plain = not-false _ r6.0;
      prefixed = r8.0;
      commanded = not-false _ r9.0;
    }

-- ---- a line that is read
module _ (line : List ℕ) (h : is_read line ≡ true) where
  pub number-none : number_for line ≡ accepted
  unfolding is_read
  number-none = eqb-true (number_for line) accepted h

  unmarked : (ltb line_limit (length line) ≡ false) × (first_of (grammar_rules line) ≡ accepted)
  unfolding number_for line_rules
  unmarked = first-none _ _ (λ q. omega arith) number-none

  pub read_small : length line ≤ line_limit
  read_small = ltb-false line_limit (length line) unmarked.0

  pub read-formed : Formed line
  read-formed = formed line unmarked.1

  -- its last two bytes are CR LF
  pub read-ends : drop (length line - 2) line ≡ crlf
  unfolding ends_line
  read-ends = same_true (drop (length line - 2) line) crlf read-formed.ends

  pub read-content : content_of line ≡ content_in (body_of line)
  unfolding content_of
  read-content = rw h

  -- as many parameters as its body has
  pub read_count : length (content_of line).params ≡ length (params (body_of line))
  unfolding content_in
  read_count = ap (λ (c : Content). length c.params) read-content ∙ length-map (params (body_of line)) (λ (p : Part). p.bytes)

pub number_read : (line : List ℕ) → number_for line ≡ accepted → is_read line ≡ true
unfolding is_read
number_read line e = eq-eqb (number_for line) accepted e

pub refused-number : (line : List ℕ) → is_read line ≡ false → number_for line ≡ accepted → ⊥
unfolding is_read
refused-number line h = eqb-false (number_for line) accepted h

-- ---- the answer
answered-reading : (n : ℕ) (r : Result Message Refusal) → number_of (parsed_as n r).reading ≡ answered r
answered-reading n (Ok m) = refl
answered-reading n (Err e) = refl

module _ (line : List ℕ) where
  pub reading-line : (n : ℕ) → reading_of line ≡ Line n → is_read line ≡ true
  unfolding reading_of answer is_read
  reading-line n e = go (is_read line) refl
    where
      go : (t : Bool) → is_read line ≡ t → is_read line ≡ true
      go true h = h
      go false h =
          let q : reading_of line ≡ Refused (number_for line) = rw h in
          let z : ◌≡◌ {A = ℕ} 0 1 = cc in
          absurd (omega arith)

  pub reading-refused : (k : ℕ) → reading_of line ≡ Refused k → is_read line ≡ false
  unfolding reading_of answer is_read
  reading-refused k e = go (is_read line) refl
    where
      go : (t : Bool) → is_read line ≡ t → is_read line ≡ false
      go true h =
          let q : reading_of line ≡ Line (length (params (body_of line))) = rw h in
          let z : ◌≡◌ {A = ℕ} 0 1 = cc in
          absurd (omega arith)
      go false h = h

  reading-number : number_of (reading_of line) ≡ number_for line
  unfolding reading_of answer is_read
  reading-number = go (is_read line) refl
    where
      go : (t : Bool) → is_read line ≡ t → number_of (reading_of line) ≡ number_for line
      go true h = rw h (sym (number-none line h))
      go false h = rw h

  reading-count : count_of (reading_of line) ≡ length (content_of line).params
  unfolding reading_of answer is_read content_of content_in
  reading-count = go (is_read line) refl
    where
      go : (t : Bool) → is_read line ≡ t → count_of (reading_of line) ≡ length (content_of line).params
      go true h = rw h (sym (length-map (params (body_of line)) (λ (p : Part). p.bytes)))
      go false h = rw h

  -- the answer settles its number and its count
  module _ (r : Result Message Refusal) (is : parsed_as (length line) r ≡ parsed_of line) where
    reading-is : (parsed_as (length line) r).reading ≡ reading_of line
    reading-is = ap (λ (x : Parsed). x.reading) is

    pub answer-number : answered r ≡ number_for line
    answer-number = sym (answered-reading (length line) r) ∙ ap number_of reading-is ∙ reading-number

    pub answer-count : count_of (parsed_as (length line) r).reading ≡ length (content_of line).params
    answer-count = ap count_of reading-is ∙ reading-count

  -- an answer with parts is that of a line that is read, and has its parts
  pub parsed-read : (m : Message) → parsed_as (length line) (Ok m) ≡ parsed_of line → (is_read line ≡ true) × (m ≡ message_of line)
  parsed-read m e = (reading-line m.count (sym (ap (λ (x : Parsed). x.reading) e)), ap (λ (x : Parsed). x.message) e)

  -- a refusal is that of a line that isn't read, and has its number
  pub parsed-refused : (e : Refusal) → parsed_as (length line) (Err e) ≡ parsed_of line → (is_read line ≡ false) × (refusals.number_of e ≡ number_for line)
  parsed-refused e q = (reading-refused (refusals.number_of e) (sym (ap (λ (x : Parsed). x.reading) q)), answer-number (Err e) q)

-- ---- what the line comes to at its number
module _ (line : List ℕ) where
  pub parses-refused : (e : Refusal) → number_for line ≡ refusals.number_of e → parsed_as (length line) (Err e) ≡ parsed_of line
  unfolding reading_of answer message_of is_read
  parses-refused e is = simp (is, not-accepted e)

  pub parses-body : (r : Result Message Refusal) (b : List ℕ) → b ≡ body_of line → number_for line ≡ first_of (body_rules (body_of line)) → parsed_as (length line) r ≡ body_parsed b (length line)
      → parsed_as (length line) r ≡ parsed_of line
  unfolding reading_of message_of is_read body_parsed
  parses-body r b is e q = rw e (rw is at q)

-- ---- what each test makes of the number
module _ (line : List ℕ) where
  pub number-long : line_limit < length line → number_for line ≡ line_too_long
  unfolding number_for line_rules
  number-long h = stop _ _ (lt-ltb line_limit (length line) h)

  module _ (small : length line ≤ line_limit) where
    pub number-grammar : number_for line ≡ first_of (grammar_rules line)
    unfolding number_for line_rules
    number-grammar = skip _ _ (le-ltb line_limit (length line) small)

    pub number-unended : ends_line line ≡ false → number_for line ≡ no_line_end
    number-unended e = number-grammar ∙ stop _ _ (rw e)

    -- 4 isn't given, and 5 exactly where CR LF doesn't end the line
    pub number_small : eqb (number_for line) line_too_long ≡ false
    unfolding body_rules
    number_small = rw number-grammar (first-lacks line_too_long (grammar_rules line) (λ e. omega arith) refl)

    pub number-ending : eqb (number_for line) no_line_end ≡ not (ends_line line)
    unfolding body_rules
    number-ending = go (ends_line line) refl
      where
        go : (t : Bool) → ends_line line ≡ t → eqb (number_for line) no_line_end ≡ not (ends_line line)
        go true e = rw (e, number-grammar ∙ skip _ _ (rw e)) (first-lacks no_line_end _ (λ z. omega arith) refl)
        go false e = rw (number-unended e, e)

    module _ (ends : ends_line line ≡ true) (body : List ℕ) (is : body ≡ body_of line) where
      pub number-control : all is_plain body ≡ false → number_for line ≡ forbidden_byte
      number-control e = number-grammar ∙ skip _ _ (rw ends) ∙ stop _ _ (rw (rw is at e))

      module _ (plain : all is_plain body ≡ true) where
        number-plain : number_for line ≡ first_of (empty_line when is_nil (body_of line) ∷ body_rules (body_of line))
        number-plain = number-grammar ∙ skip _ _ (rw ends) ∙ skip _ _ (rw (rw is at plain))

        pub number-empty : length line ≡ 2 → number_for line ≡ empty_line
        number-empty h = number-plain ∙ stop _ _ (nil-length (body_of line) ∙ eq-eqb (length (body_of line)) 0 (omega (arith, body-length line)))

        pub number-body : (length line ≡ 2 → ⊥) → number_for line ≡ first_of (body_rules (body_of line))
        number-body h =
            number-plain ∙ skip _ _ (nil-length (body_of line) ∙ ne_eqb (length (body_of line)) 0 (λ z. h (omega (arith, body-length line, ends-long line ends))))

one-eqb : (n : ℕ) → eqb 1 (1 + n) ≡ eqb n 0
one-eqb n = go (eqb n 0) refl
  where
    go : (t : Bool) → eqb n 0 ≡ t → eqb 1 (1 + n) ≡ t
    go true e = eq-eqb 1 (1 + n) (omega (arith, eqb-true n 0 e))
    go false e = ne_eqb 1 (1 + n) (λ q. eqb-false n 0 e (omega arith))

-- the test of an empty prefix, by the message's spans
empty-is : (b : List ℕ) (n : ℕ) → (message_in b n).has_prefix && eqb (message_in b n).prefix.start (message_in b n).prefix.end ≡ has_prefix b && is_nil (prefix b)
unfolding message_in prefix_end
empty-is b n = go (has_prefix b) refl
  where
    go : (t : Bool) → has_prefix b ≡ t → (message_in b n).has_prefix && eqb (message_in b n).prefix.start (message_in b n).prefix.end ≡ has_prefix b && is_nil (prefix b)
    go true h = rw h (one-eqb (length (prefix b)) ∙ sym (nil-length (prefix b)))
    go false h = rw h

module _ (b : List ℕ) (n : ℕ) (m : Message) (is : m ≡ message_in b n) where
  tested : m.has_prefix && eqb m.prefix.start m.prefix.end ≡ has_prefix b && is_nil (prefix b)
  tested = rw is (empty-is b n)

  counted : m.count ≡ length (params b)
  unfolding message_in
  counted = ap (λ (x : Message). x.count) is

  pub command-in : Placed b m.command (command b)
  command-in = rw is (command-placed b n)

  pub body-empty-prefix : m.has_prefix && eqb m.prefix.start m.prefix.end ≡ true → first_of (body_rules b) ≡ empty_prefix
  unfolding body_rules
  body-empty-prefix e = stop _ _ (sym tested ∙ e)

  module _ (full : m.has_prefix && eqb m.prefix.start m.prefix.end ≡ false) where
    pub body-no-command : is_command (command b) ≡ false → first_of (body_rules b) ≡ bad_command
    unfolding body_rules
    body-no-command e = skip _ _ (sym tested ∙ full) ∙ stop _ _ (rw e)

    module _ (named : is_command (command b) ≡ true) where
      body-accepted : first_of (body_rules b) ≡ accepted
      unfolding body_rules
      body-accepted = skip _ _ (sym tested ∙ full) ∙ skip _ _ (rw named) ∙ first-nil

      pub body_reads : parsed_as n (Ok m) ≡ body_parsed b n
      unfolding body_parsed answer
      body_reads = rw (body-accepted, ← counted, ← is)

-- what a body comes to that gets a number
pub body_refused : (b : List ℕ) (n : ℕ) (e : Refusal) → first_of (body_rules b) ≡ refusals.number_of e → parsed_as n (Err e) ≡ body_parsed b n
unfolding body_parsed answer
body_refused b n e is = simp (is, not-accepted e)

-- ---- where the parts of any line lie
pub prefix-nil : (b : List ℕ) → has_prefix b ≡ false → prefix b ≡ []
unfolding prefix
prefix-nil b h = rw h

prefix-bytes : (b : List ℕ) → Option.get_or (content_in b).prefix [] ≡ prefix b
unfolding content_in
prefix-bytes b = go (has_prefix b) refl
  where
    go : (t : Bool) → has_prefix b ≡ t → Option.get_or (content_in b).prefix [] ≡ prefix b
    go true h = rw h
    go false h = rw h (sym (prefix-nil b h))

module _ (line : List ℕ) (m : Message) (is : m ≡ message_of line) where
  pub prefix-at : Placed line m.prefix (Option.get_or (content_of line).prefix [])
  unfolding message_of content_of content_in blank body_of
  prefix-at = rw is (go (is_read line) refl)
    where
      go : (t : Bool) → is_read line ≡ t → Placed line (message_of line).prefix (Option.get_or (content_of line).prefix [])
      go true h = rw (h, prefix-bytes (body_of line)) (prefix-in-line line (length line - 2))
      go false h = rw h (empty-placed line)

  pub command-at : Placed line m.command (content_of line).command
  unfolding message_of content_of content_in blank body_of
  command-at = rw is (go (is_read line) refl)
    where
      go : (t : Bool) → is_read line ≡ t → Placed line (message_of line).command (content_of line).command
      go true h = rw h (command-in-line line (length line - 2))
      go false h = rw h (empty-placed line)

  pub param-at : (k : ℕ) (d : Span) → k < param_limit → Placed line (get_or m.params k d) (get_or (content_of line).params k [])
  unfolding message_of content_of content_in blank body_of
  param-at k d lt = rw is (go (is_read line) refl)
    where
      go : (t : Bool) → is_read line ≡ t → Placed line (get_or (message_of line).params k d) (get_or (content_of line).params k [])
      go true h = rw h (param-in-line line (length line - 2) k d lt)
      go false h = rw (h, get_or-replicate param_limit k (empty_at (length line)) d lt) (empty-placed line)

-- ---- past the last parameter
pub param-past : (line : List ℕ) (k : ℕ) → param_limit ≤ k → get_or (content_of line).params k [] ≡ []
unfolding content_of content_in
param-past line k past = go (is_read line) refl
  where
    go : (t : Bool) → is_read line ≡ t → get_or (content_of line).params k [] ≡ []
    go true h = rw h (get_or-eq_default (bytes_of (params (body_of line))) [] {n = k} (omega (arith, params-few (body_of line), length-map (params (body_of line)) (λ (p : Part). p.bytes))))
    go false h = rw h

-- a message never counts more parameters than it has spans
pub count-few : (line : List ℕ) → (message_of line).count ≤ param_limit
unfolding message_of message_in blank
count-few line = go (is_read line) refl
  where
    go : (t : Bool) → is_read line ≡ t → (message_of line).count ≤ param_limit
    go true h = rw h (params-few (body_of line))
    go false h = rw h (omega arith)
