-- Laws of a message's spans: what they hold of any text, and that those which the reader finds hold what the line holds, each at the place that its
-- span says, since every part lies in the line (`Places`). Assumes nothing.
use mathlib.Core.Path.{◌≡◌, refl, sym, ap, ◌∙◌}
use mathlib.Core.Bool.{Bool, true, false, cond}
use mathlib.Core.List.{List, [], ◌∷◌, map}
use mathlib.Core.Option
use mathlib.Core.Option.{Option, some, none}
use Prim.Native.Nat.{ℕ, ◌-◌, ◌≤◌, ◌<◌, min}
use native.Mathlib.Omega.{arith}
use lib.ListN.{length, take, get_or, length-map, length-take, get_or-map, get_or-eq_default}
use lib.Seq.{get_or-take}
use lib.Dec.{ltb}
use borrow.Author.Tests.{ltb-true, ltb-false}
use Rattle.laws.specs.Lists.{padded}
use Rattle.laws.proofs.Lists.{get_or_any, get_or-padded, length-padded, take-padded}
use Rattle.message.specs.declared.Span.{Span}
use Rattle.message.specs.declared.Message.{Message}
use Rattle.message.specs.Grammar.{Part, param_limit, has_prefix, prefix, command, params}
use Rattle.message.specs.Content.{Content, bytes_of, content_in, no_content}
use Rattle.message.specs.Parts.{empty_at, bytes_at, span_of, message_in, blank, content_by, prefix_span, param_span, start_in}
use Rattle.message.specs.Reading.{body_of, is_read, content_of, message_of}
use Rattle.message.proofs.Fifteenth.{params-few}
use Rattle.message.proofs.Places.{Placed, Each, In, empty-placed, placed-start, prefix-in-line, command-in-line, params-in-line}
use Rattle.message.proofs.Readings.{prefix-at, command-at, param-at, param-past, count-few}

-- ---- two messages with the same parts
abbrev pub content : Option (List ℕ) → List ℕ → List (List ℕ) → Content
content o c ps = record { prefix = o; command = c; params = ps }

pub content-eq : (d e : Content) → d.prefix ≡ e.prefix → d.command ≡ e.command → d.params ≡ e.params → d ≡ e
content-eq d e p c ps =
    ap (λ (o : Option (List ℕ)). content o d.command d.params) p ∙ ap (λ (l : List ℕ). content e.prefix l d.params) c ∙ ap (content e.prefix e.command) ps

-- ---- any message of spans
module _ (text : List ℕ) (m : Message) where
  pub prefix-held : bytes_at text (prefix_span (length text) m) ≡ Option.get_or (content_by text m).prefix []
  unfolding prefix_span content_by
  prefix-held = go m.has_prefix refl
    where
      go : (t : Bool) → m.has_prefix ≡ t → bytes_at text (cond m.has_prefix m.prefix (empty_at (length text))) ≡ Option.get_or (cond m.has_prefix (some (bytes_at text m.prefix)) none) []
      go true h = rw h
      go false h = rw h (empty-placed text).same

  pub prefix-span-some : m.has_prefix ≡ true → m.prefix ≡ prefix_span (length text) m
  unfolding prefix_span
  prefix-span-some h = rw h

  pub prefix-span-none : m.has_prefix ≡ false → empty_at (length text) ≡ prefix_span (length text) m
  unfolding prefix_span
  prefix-span-none h = rw h

  -- It holds as many parameters as it counts, if it has room for them.
  pub params-count : length m.params ≡ param_limit → length (content_by text m).params ≡ min m.count param_limit
  unfolding content_by
  params-count e = length-map (take m.count m.params) (bytes_at text) ∙ length-take m.count m.params ∙ ap (min m.count) e

  module _ (k : ℕ) where
    pub param-held : bytes_at text (param_span (length text) m k) ≡ get_or (content_by text m).params k []
    unfolding param_span content_by
    param-held =
        let ss : List Span = take m.count m.params in
        sym (get_or-map (bytes_at text) ss k (empty_at (length text))) ∙ ap (λ (d : List ℕ). get_or (map (bytes_at text) ss) k d) (empty-placed text).same

    pub param-span-some : (d : Span) → k < m.count → k < length m.params → get_or m.params k d ≡ param_span (length text) m k
    unfolding param_span
    param-span-some d h i = sym (get_or-take m.count m.params k (empty_at (length text)) h ∙ get_or_any m.params k (empty_at (length text)) d i)

    pub param-span-none : length (take m.count m.params) ≤ k → empty_at (length text) ≡ param_span (length text) m k
    unfolding param_span
    param-span-none h = sym (get_or-eq_default (take m.count m.params) (empty_at (length text)) {n = k} h)

-- ---- the spans of a line's parts
each_same : (line : List ℕ) (ps : List Part) → Each (In line) ps → map (bytes_at line) (map span_of ps) ≡ bytes_of ps
each_same line [] e = refl
each_same line (p ∷ ps) e = rw (e.0.same, each_same line ps e.1)

module _ (line : List ℕ) where
  abbrev body : List ℕ
  body = body_of line

  abbrev parts : Message
  parts = message_in body (length line)

  spans-are : take parts.count parts.params ≡ map span_of (params body)
  unfolding message_in
  spans-are =
      let n : length (map span_of (params body)) ≡ length (params body) = length-map (params body) span_of in
      ap (λ (i : ℕ). take i (padded param_limit (empty_at (length line)) (map span_of (params body)))) (sym n) ∙ take-padded (empty_at (length line)) param_limit (map span_of (params body)) (omega (arith, params-few body))

  prefix_same : bytes_at line parts.prefix ≡ prefix body
  unfolding body_of
  prefix_same = (prefix-in-line line (length line - 2)).same

  command-same : bytes_at line parts.command ≡ command body
  unfolding body_of
  command-same = (command-in-line line (length line - 2)).same

  params_same : map (bytes_at line) (map span_of (params body)) ≡ bytes_of (params body)
  unfolding body_of
  params_same = each_same line (params body) (params-in-line line (length line - 2))

  parts-hold : content_by line parts ≡ content_in body
  unfolding content_by content_in message_in
  parts-hold =
      content-eq (content_by line parts) (content_in body) (ap (λ (p : List ℕ). cond (has_prefix body) (some p) none) prefix_same) command-same
      (ap (map (bytes_at line)) spans-are ∙ params_same)

-- ---- the spans that the reader finds
padded-past : {A : Type 0} (x : A) (n : ℕ) (l : List A) (k : ℕ) → length l ≤ k → get_or (padded n x l) k x ≡ x
padded-past x n l k h = go (ltb k n) refl
  where
    go : (t : Bool) → ltb k n ≡ t → get_or (padded n x l) k x ≡ x
    go true e = get_or-padded x n l k x (ltb-true k n e) ∙ get_or-eq_default l x {n = k} h
    go false e = get_or-eq_default (padded n x l) x {n = k} (omega (arith, length-padded x n l, ltb-false k n e))

blank-holds : (line : List ℕ) → content_by line (blank (length line)) ≡ no_content
unfolding content_by blank
blank-holds line = rw (empty-placed line).same

module _ (line : List ℕ) where
  -- They hold what the line holds.
  pub message-holds : content_by line (message_of line) ≡ content_of line
  unfolding message_of content_of
  message-holds = go (is_read line) refl
    where
      go : (t : Bool) → is_read line ≡ t → content_by line (message_of line) ≡ content_of line
      go true h = rw h (parts-hold line)
      go false h = rw h (blank-holds line)

  -- Those of a line that is read are the spans of its parts.
  pub spans-read : is_read line ≡ true → take (message_of line).count (message_of line).params ≡ map span_of (params (body_of line))
  unfolding message_of
  spans-read h = rw h (spans-are line)

  -- and a part that is missing is the empty one at the line's end
  prefix-span : prefix_span (length line) (message_of line) ≡ (message_of line).prefix
  unfolding prefix_span message_of message_in blank
  prefix-span = go (is_read line) refl (has_prefix (body_of line)) refl
    where
      go : (t : Bool) → is_read line ≡ t → (u : Bool) → has_prefix (body_of line) ≡ u → prefix_span (length line) (message_of line) ≡ (message_of line).prefix
      go true h true p = simp (h, p)
      go true h false p = simp (h, p)
      go false h u p = rw h

  past-count : (k : ℕ) → (message_of line).count ≤ k → get_or (message_of line).params k (empty_at (length line)) ≡ empty_at (length line)
  unfolding message_of message_in blank padded
  past-count k h = go (is_read line) refl
    where
      go : (t : Bool) → is_read line ≡ t → get_or (message_of line).params k (empty_at (length line)) ≡ empty_at (length line)
      go true e = let i : length (params (body_of line)) ≤ k = rw e at h in rw e (padded-past (empty_at (length line)) param_limit (map span_of (params (body_of line))) k (omega (arith, length-map (params (body_of line)) span_of)))
      go false e = rw e (padded-past (empty_at (length line)) param_limit [] k (omega arith))

  param-span : (k : ℕ) → param_span (length line) (message_of line) k ≡ get_or (message_of line).params k (empty_at (length line))
  unfolding param_span
  param-span k = go (ltb k (message_of line).count) refl
    where
      go : (t : Bool) → ltb k (message_of line).count ≡ t → param_span (length line) (message_of line) k ≡ get_or (message_of line).params k (empty_at (length line))
      go true h = get_or-take (message_of line).count (message_of line).params k (empty_at (length line)) (ltb-true k (message_of line).count h)
      go false h =
          let past : (message_of line).count ≤ k = ltb-false k (message_of line).count h in
          sym (param-span-none line (message_of line) k (omega (arith, length-take (message_of line).count (message_of line).params))) ∙ sym (past-count k past)

  param-placed : (k : ℕ) → Placed line (get_or (message_of line).params k (empty_at (length line))) (get_or (content_of line).params k [])
  param-placed k = go (ltb k param_limit) refl
    where
      go : (t : Bool) → ltb k param_limit ≡ t → Placed line (get_or (message_of line).params k (empty_at (length line))) (get_or (content_of line).params k [])
      go true h = param-at line (message_of line) refl k (empty_at (length line)) (ltb-true k param_limit h)
      go false h = let past : param_limit ≤ k = ltb-false k param_limit h in rw (past-count k (omega (arith, count-few line)), param-past line k past) (empty-placed line)

-- So each part begins where its span does.
module _ (line : List ℕ) (m : Message) (is : m ≡ message_of line) where
  pub prefix-start : start_in (length line) (prefix_span (length line) m) ≡ (message_of line).prefix.start
  prefix-start = rw (is, prefix-span line) (placed-start line (message_of line).prefix _ (prefix-at line (message_of line) refl))

  pub command-start : start_in (length line) m.command ≡ (message_of line).command.start
  command-start = rw is (placed-start line (message_of line).command _ (command-at line (message_of line) refl))

  pub param-start : (k : ℕ) → start_in (length line) (param_span (length line) m k) ≡ (get_or (message_of line).params k (empty_at (length line))).start
  param-start k = rw (is, param-span line k) (placed-start line (get_or (message_of line).params k (empty_at (length line))) _ (param-placed line k))
