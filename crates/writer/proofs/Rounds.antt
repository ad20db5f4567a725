-- What reading and writing make of each other (document 01, 'Reading one line'). True since the tests for number 24 are exactly what the grammar asks
-- (`Fitting`), and no line that holds a message is shorter than the fixed form (`Lengths`). Assumes nothing.
use mathlib.Core.Path.{◌≡◌, refl, sym, ap, ◌∙◌}
use mathlib.Core.Bool.{Bool, true, not, ◌&&◌, ◌||◌, or-true}
use mathlib.Core.List.{List, map}
use Prim.Native.Nat.{ℕ, ◌≤◌, ◌<◌}
use native.Mathlib.Omega.{arith}
use lib.ListN.{length, take, get_or, length-append, length-map, length-take}
use lib.Seq.{get_or-take}
use lib.Dec.{leb}
use borrow.Author.Tests.{le-leb, ltb-false, not-false}
use Rattle.refusal.specs.Numbers.{accepted}
use Rattle.refusal.specs.Rules.{first_of}
use Rattle.refusal.proofs.Rules.{first-none}
use Rattle.octets.specs.Bytes.{capital}
use Rattle.laws.specs.Lists.{all}
use Rattle.laws.proofs.Bools.{and_left, and_right, and_intro}
use Rattle.laws.proofs.Lists.{at_all}
use Rattle.octets.proofs.Bytes.{capitals-twice}
use Rattle.message.specs.declared.Span.{Span}
use Rattle.message.specs.declared.Message.{Message}
use Rattle.message.specs.Grammar.{line_limit, param_limit, command, is_command}
use Rattle.message.specs.Content.{Content, content_in}
use Rattle.message.specs.Parts.{empty_at, content_by}
use Rattle.message.specs.Reading.{crlf, body_of, is_read, content_of, message_of}
use Rattle.message.proofs.Places.{Placed}
use Rattle.message.proofs.Readings.{Formed, ends-long, body-length, number-grammar, number_read, read_small, read-formed, read-content, prefix-at, command-at, param-at, count-few}
use Rattle.message.proofs.SpanContents.{message-holds}
use Rattle.writer.specs.Form.{written_body, written, reads_back, lies_in, lies, with_command, in_capitals}
use Rattle.writer.specs.Writing.{write_rules, forwarded}
use Rattle.writer.specs.Private.Fit.{good_source, good_params, good, fit}
use Rattle.writer.proofs.Words.{command-long, command-capital}
use Rattle.writer.proofs.Trips.{good-command}
use Rattle.writer.proofs.Fitting.{formed-good, good-form, good-exactly, fit-exactly}
use Rattle.writer.proofs.Rules.{write-accepts}
use Rattle.writer.proofs.Lengths.{body-short}

-- ---- the written form of a good message
pub good-line : (d : Content) → good d ≡ true → length (written d) ≤ line_limit → (is_read (written d) ≡ true) × (content_of (written d) ≡ d)
good-line d ok h =
    let r = good-form d ok in
    let q : is_read (written d) ≡ true = number_read (written d) (number-grammar (written d) h ∙ r.0) in
    (q, read-content (written d) q ∙ r.1)

-- Reading what was written gives the message back.
pub written-reads : (text : List ℕ) (m : Message) (out : List ℕ) → first_of (write_rules text m out) ≡ accepted
    → (is_read (written (content_by text m)) ≡ true) × (content_of (written (content_by text m)) ≡ content_by text m)
unfolding write_rules
written-reads text m out e =
    let r2 = first-none _ _ (λ q. omega arith) e in
    let r24 = first-none _ _ (λ q. omega arith) r2.1 in
    let r25 = first-none _ _ (λ q. omega arith) r24.1 in
    let ok : good (content_by text m) ≡ true = good-exactly (content_by text m) ∙ and_right (lies text m) (reads_back (content_by text m)) (not-false _ r24.0) in
    good-line (content_by text m) ok (ltb-false line_limit _ r25.0)

-- ---- the spans that the reader finds
placed-lies : (s : List ℕ) (at : Span) (bytes : List ℕ) → Placed s at bytes → lies_in (length s) at ≡ true
unfolding lies_in
placed-lies s at bytes p = and_intro _ _ (le-leb at.start at.end p.forward) (le-leb at.end (length s) p.inside)

module _ (line : List ℕ) where
  spans-lie : all (lies_in (length line)) (take (message_of line).count (message_of line).params) ≡ true
  spans-lie = at_all (lies_in (length line)) (take (message_of line).count (message_of line).params) (empty_at (length line)) one
    where
      one : (k : ℕ) → k < length (take (message_of line).count (message_of line).params) → lies_in (length line) (get_or (take (message_of line).count (message_of line).params) k (empty_at (length line))) ≡ true
      one k h =
          let i : k < (message_of line).count = omega (arith, length-take (message_of line).count (message_of line).params) in
          rw (get_or-take (message_of line).count (message_of line).params k (empty_at (length line)) i)
          (placed-lies line _ _ (param-at line (message_of line) refl k (empty_at (length line)) (omega (arith, count-few line))))

  -- The parts that the reader finds lie in the line.
  message-lies : lies line (message_of line) ≡ true
  unfolding lies
  message-lies =
      let sourced = placed-lies line _ _ (prefix-at line (message_of line) refl) in
      and_intro _ _ (le-leb (message_of line).count param_limit (count-few line))
      (and_intro (not (message_of line).has_prefix || lies_in (length line) (message_of line).prefix) _ (rw sourced (or-true (not (message_of line).has_prefix)))
      (and_intro _ _ (placed-lies line _ _ (command-at line (message_of line) refl)) spans-lie))

-- ---- a line that is read
module _ (line : List ℕ) (h : is_read line ≡ true) where
  content-good : good (content_of line) ≡ true
  content-good = rw (read-content line h) (formed-good line (read-formed line h))

  message-fit : fit line (message_of line) ≡ true
  message-fit =
      fit-exactly line (message_of line)
      ∙ and_intro _ _ (message-lies line) (ap reads_back (message-holds line) ∙ sym (good-exactly (content_of line)) ∙ content-good)

  -- the fixed form is no longer than the line
  pub content-short : length (written (content_of line)) ≤ length line
  unfolding written
  content-short =
      let f : Formed line = read-formed line h in
      let b : List ℕ = body_of line in
      rw (read-content line h)
      (omega (arith, body-short b (command-long (command b) f.commanded), length-append (written_body (content_in b)) crlf, body-length line, ends-long line f.ends))

-- Writing what was read is never refused, if the output isn't too short, and gives a line with the same message, never longer than the one read.
pub read-writes : (line out : List ℕ) → is_read line ≡ true → line_limit ≤ length out
    → (first_of (write_rules line (message_of line) out) ≡ accepted)
    × (content_of (written (content_by line (message_of line))) ≡ content_of line)
    × (length (written (content_by line (message_of line))) ≤ length line)
read-writes line out h room =
    let d : Content = content_of line in
    let short : length (written d) ≤ line_limit = omega (arith, content-short line h, read_small line h) in (
      write-accepts line (message_of line) out room (message-fit line h) (rw (message-holds line) short),
      rw (message-holds line) (good-line d (content-good line h) short).1,
      rw (message-holds line) (content-short line h),
    )

-- Writing what was written and read again is never refused either, and gives the same line.
pub written_twice : (text : List ℕ) (m : Message) (out next : List ℕ) → first_of (write_rules text m out) ≡ accepted → line_limit ≤ length next
    → (first_of (write_rules (written (content_by text m)) (message_of (written (content_by text m))) next) ≡ accepted)
    × (written (content_by (written (content_by text m)) (message_of (written (content_by text m)))) ≡ written (content_by text m))
written_twice text m out next e room =
    let line : List ℕ = written (content_by text m) in
    let r = written-reads text m out e in
    ((read-writes line next r.0 room).0, ap written (message-holds line ∙ r.1))

-- ---- the command in capitals
-- The command in capitals leaves the line as long as it is.
pub capitals-length : (d : Content) → length (written (in_capitals d)) ≡ length (written d)
unfolding written written_body with_command
capitals-length d = simp (length-append, length-map)

capitals-good : (d : Content) → good d ≡ true → good (in_capitals d) ≡ true
unfolding good with_command
capitals-good d ok =
    let a : Bool = good_source d.prefix in
    let c : Bool = is_command d.command in
    let r : Bool = good_params d.params && leb (length d.params) param_limit in
    and_intro a (is_command (map capital d.command) && r) (and_left a (c && r) ok)
    (and_intro (is_command (map capital d.command)) r (command-capital d.command (good-command d ok)) (and_right c r (and_right a (c && r) ok)))

-- ---- a line that is passed on
-- A line that is passed on reads as the line's message, the command in capitals, and is never longer than the line read.
pub forwarded-reads : (line : List ℕ) → is_read line ≡ true
    → (is_read (forwarded line) ≡ true) × (content_of (forwarded line) ≡ in_capitals (content_of line)) × (length (forwarded line) ≤ length line)
unfolding forwarded
forwarded-reads line h =
    let d : Content = content_of line in
    let short : length (written (in_capitals d)) ≤ length line = omega (arith, capitals-length d, content-short line h) in
    let r = good-line (in_capitals d) (capitals-good d (content-good line h)) (omega (arith, read_small line h)) in
    (r.0, r.1, short)

-- Passing on what was passed on gives the same line.
pub forwarded-twice : (line : List ℕ) → is_read line ≡ true → forwarded (forwarded line) ≡ forwarded line
unfolding forwarded with_command
forwarded-twice line h = ap (λ (d : Content). written (in_capitals d)) (forwarded-reads line h).1 ∙ ap (λ (c : List ℕ). written (with_command (content_of line) c)) (capitals-twice (content_of line).command)

-- A line that is read is passed on by the parts that the reader found, if the output isn't too short: none of the writer's rules applies to them, and what
-- they are written as is the line passed on.
pub read-forwards : (line out : List ℕ) (m : Message) → m ≡ message_of line → is_read line ≡ true → line_limit ≤ length out
    → (first_of (write_rules line m out) ≡ accepted) × (written (in_capitals (content_by line m)) ≡ forwarded line)
unfolding forwarded
read-forwards line out m is h room = rw is ((read-writes line out h room).0, ap (λ (d : Content). written (in_capitals d)) (message-holds line))
