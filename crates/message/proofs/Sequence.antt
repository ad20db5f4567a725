-- The parameters of a line stand one behind the other, behind the command, before CR LF, and each but the last has a byte: true since a SPACE stands between each two, and
-- a middle isn't empty. Assumes nothing.
use Prim.Native.Nat.{ℕ, zero, suc, ◌+◌, ◌-◌, ◌≤◌, ◌<◌}
use mathlib.Core.Path.{◌≡◌, sym, ap, ◌∙◌}
use mathlib.Core.Bool.{true, true≢false}
use mathlib.Core.List.{List, [], ◌∷◌, map}
use native.Mathlib.Omega.{arith}
use lib.ListN.{length, drop, get_or, length-map, get_or-map}
use lib.Seq.{get_or-take, get_or-drop}
use Rattle.laws.proofs.Lists.{get_or_any}
use Rattle.octets.specs.Room.{part}
use Rattle.message.specs.declared.Span.{Span}
use Rattle.message.specs.Grammar.{Part, part_at, word, is_command, command, command_end, params}
use Rattle.message.specs.Parts.{empty_at, span_of, param_span}
use Rattle.message.specs.Content.{Content, content_in}
use Rattle.message.specs.Reading.{body_of, is_read, content_of, message_of}
use Rattle.message.proofs.Induction.{Claim, Clauses, of-rest}
use Rattle.message.proofs.Places.{Each, In, params_in}
use Rattle.message.proofs.Readings.{ends-long, body-length, read-formed, read-content, read_count}
use Rattle.message.proofs.SpanContents.{param-held, message-holds, spans-read}

-- ---- parts one behind the other
-- The first begins at a place or behind it, each other one behind the end of the one before it, and a byte is between them; each but the last has a byte.
abbrev Sequence : ℕ → List Part → Type 0
Sequence at [] = Unit {0}
Sequence at (p ∷ ps) = (at ≤ p.start) × (1 ≤ length ps → 1 ≤ length p.bytes) × Sequence (p.start + length p.bytes + 1) ps

sequence-from : (at from : ℕ) (ps : List Part) → from ≤ at → Sequence at ps → Sequence from ps
sequence-from at from [] h s = tt
sequence-from at from (p ∷ ps) h s = (omega (arith, h, s.0), s.1, s.2)

abbrev Rests : Claim
Rests k at s ps = Sequence at ps

-- behind the middle, of which bytes may be left
abbrev Follows : Claim
Follows k at s ps = Sequence (at + length (word s) + 1) ps

sequence : Clauses Rests Follows
unfolding word
sequence = record {
  nothing = λ k at. tt;
  spaced = λ k at s ps r. sequence-from (at + 1) at ps (omega arith) r;
  trailing = λ k at s. (omega arith, λ h. absurd (omega (arith, h)), tt);
  remains = λ k at x s p q l. (omega arith, λ h. absurd (omega (arith, h)), tt);
  middle = λ k at x s ps p q l m. (omega arith, λ h. omega arith, sequence-from (at + 1 + length (word s) + 1) (at + suc (length (word s)) + 1) ps (omega arith) m);
  ends = λ k at. tt;
  stops = λ k at s ps r. sequence-from (at + 1) (at + 0 + 1) ps (omega arith) r;
  goes = λ k at x s ps p m. rw p (sequence-from (at + 1 + length (word s) + 1) (at + suc (length (word s)) + 1) ps (omega arith) m);
}

params-sequence : (body : List ℕ) → Sequence (command_end body) (params body)
unfolding params
params-sequence body = of-rest Rests Follows sequence (drop (command_end body) body) 0 (command_end body)

-- ---- the part in a place
-- no part
abbrev none : Part
none = part_at 0 []

abbrev start_of : List Part → ℕ → ℕ
start_of ps k = (get_or ps k none).start

abbrev size_of : List Part → ℕ → ℕ
size_of ps k = length (get_or ps k none).bytes

first-at : (at : ℕ) (ps : List Part) → Sequence at ps → (k : ℕ) → k < length ps → at ≤ start_of ps k
first-at at [] s k h = absurd (omega (arith, h))
first-at at (p ∷ ps) s zero h = s.0
first-at at (p ∷ ps) s (suc k) h = omega (arith, s.0, first-at (p.start + length p.bytes + 1) ps s.2 k (omega (arith, h)))

next-at : (at : ℕ) (ps : List Part) → Sequence at ps → (k : ℕ) → suc k < length ps → (1 ≤ size_of ps k) × (start_of ps k + size_of ps k < start_of ps (suc k))
next-at at [] s k h = absurd (omega (arith, h))
next-at at (p ∷ ps) s zero h = (s.1 (omega (arith, h)), omega (arith, first-at (p.start + length p.bytes + 1) ps s.2 0 (omega (arith, h))))
next-at at (p ∷ ps) s (suc k) h = next-at (p.start + length p.bytes + 1) ps s.2 k (omega (arith, h))

inside-at : (b : List ℕ) (ps : List Part) → Each (In b) ps → (k : ℕ) → k < length ps → start_of ps k + size_of ps k ≤ length b
inside-at b [] e k h = absurd (omega (arith, h))
inside-at b (p ∷ ps) e zero h = e.0.inside
inside-at b (p ∷ ps) e (suc k) h = inside-at b ps e.1 k (omega (arith, h))

-- ---- the spans of a line that is read
-- a command has a byte
command-some : (w : List ℕ) → is_command w ≡ true → 1 ≤ length w
unfolding is_command
command-some [] e = absurd (true≢false (sym e))
command-some (x ∷ w) e = omega arith

module _ (line : List ℕ) (read : is_read line ≡ true) where
  abbrev parts : List Part
  parts = params (body_of line)

  -- that of a parameter
  abbrev pub span_in : ℕ → Span
  span_in k = param_span (length line) (message_of line) k

  span-is : (k : ℕ) → k < length (content_of line).params → span_in k ≡ span_of (get_or parts k none)
  unfolding param_span
  span-is k h =
      ap (λ (l : List Span). get_or l k (empty_at (length line))) (spans-read line read)
      ∙ get_or_any (map span_of parts) k (empty_at (length line)) (span_of none) (omega (arith, h, read_count line read, length-map parts span_of))
      ∙ get_or-map span_of parts k none

  -- It is as long as the parameter.
  pub span-size : (k : ℕ) → k < length (content_of line).params → (span_in k).end ≡ (span_in k).start + length (get_or (content_of line).params k [])
  unfolding content_in
  span-size k h =
      let bytes : get_or (content_of line).params k [] ≡ (get_or parts k none).bytes = ap (λ (c : Content). get_or c.params k []) (read-content line read) ∙ get_or-map (λ (p : Part). p.bytes) parts k none in
      rw (span-is k h) (ap (λ (l : List ℕ). (get_or parts k none).start + length l) (sym bytes))

  -- It stands behind the command, and before CR LF.
  pub span-inside : (k : ℕ) → k < length (content_of line).params → (1 ≤ (span_in k).start) × ((span_in k).start ≤ (span_in k).end) × ((span_in k).end + 2 ≤ length line)
  unfolding command_end
  span-inside k h =
      let is = span-is k h in
      let f = read-formed line read in
      let first = first-at (command_end (body_of line)) parts (params-sequence (body_of line)) k (omega (arith, h, read_count line read)) in
      let in_body = inside-at (body_of line) parts (params_in (body_of line)) k (omega (arith, h, read_count line read)) in
      let some = command-some (command (body_of line)) f.commanded in
      rw is (omega (arith, first, some), omega arith, omega (arith, in_body, body-length line, ends-long line f.ends))

  -- One that isn't the last has a byte, and ends before the next one begins.
  pub span-next : (k : ℕ) → suc k < length (content_of line).params → ((span_in k).start < (span_in k).end) × ((span_in k).end < (span_in (suc k)).start)
  span-next k h =
      let s = next-at (command_end (body_of line)) parts (params-sequence (body_of line)) k (omega (arith, h, read_count line read)) in
      rw (span-is k (omega (arith, h)), span-is (suc k) h) (omega (arith, s.0), omega (arith, s.1))

  -- A byte of it stands in the line at its place.
  pub span-byte : (k i : ℕ) → (span_in k).start + i < (span_in k).end → get_or line ((span_in k).start + i) 0 ≡ get_or (get_or (content_of line).params k []) i 0
  unfolding part
  span-byte k i h =
      let s = span_in k in
      sym (get_or-take (s.end - s.start) (drop s.start line) i 0 (omega (arith, h)) ∙ get_or-drop s.start line i 0)
      ∙ ap (λ (l : List ℕ). get_or l i 0) (param-held line (message_of line) k ∙ ap (λ (c : Content). get_or c.params k []) (message-holds line))
