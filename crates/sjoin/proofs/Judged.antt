-- What the rules of SJOIN give, test by test, of a message and of one whose parts are spans. Assumes nothing.
use Prim.Native.Nat.{ℕ, ◌≤◌, ◌<◌}
use mathlib.Core.Path.{◌≡◌, refl, sym, ap, ◌∙◌}
use mathlib.Core.Bool.{Bool, true, false, true≢false, not, and-false}
use mathlib.Core.List.{List, [], ◌∷◌}
use mathlib.Core.Option.{Option, some, none}
use native.Mathlib.Omega.{arith}
use lib.ListN.{length}
use lib.Dec.{eqb, leb}
use borrow.Author.Tests.{eq-eqb, ne_eqb, eqb-true, eqb-false, lt-ltb, le-ltb, le-leb, lt-leb, leb-true, not-false}
use Rattle.std.specs.Prelude.{Some, None}
use Rattle.refusal.specs.Numbers.{accepted, line_too_long, wrong_param_count, bad_source, bad_time, zero_time, bad_name, bad_members, is_mode_number}
use Rattle.refusal.specs.Rules.{◌when◌, first_of, ascend, ascend_from, place_in}
use Rattle.refusal.specs.Faults.{Fault, number_of}
use Rattle.refusal.proofs.Rules.{skip, stop, first-nil, first-none, first_plain, numbered, append-some, append-none}
use Rattle.laws.specs.Lists.{same}
use Rattle.laws.proofs.Bools.{and_left, and_right, both_ways}
use Rattle.octets.specs.Decimals.{zero_digit, is_decimal, value_from, value_of, digits_of, decimal_up_to}
use Rattle.octets.proofs.Bytes.{same_refl, same_true}
use Rattle.octets.proofs.Digits.{digits-one, value-digits, decimal-digits, digits_value, decimal-read, value_in}
use Rattle.names.specs.Names.{is_channel, is_server_id}
use Rattle.channel.specs.Limits.{time_limit}
use Rattle.message.specs.declared.Message.{Message}
use Rattle.message.specs.Grammar.{line_limit}
use Rattle.message.specs.Content.{Content, prefix_is}
use Rattle.message.specs.Parts.{content_by}
use Rattle.message.specs.Reading.{body_rules, line_rules}
use Rattle.sjoin.specs.Modes.{is_modes}
use Rattle.sjoin.specs.Entries.{good_entries}
use Rattle.sjoin.specs.Faults.{Site}
use Rattle.sjoin.specs.Join.{time_in, name_in, modes_in, list_in, arguments_in, fewest, most, good_count, is_time, time_of, source_rules, head_rules, fault_in, mode_rules, lead_rules, telling_rules, join_rules, span_rules, line_join_rules}
use Rattle.sjoin.proofs.Faults.{modes-good, fault-numbered, mode-some, mode-number}

-- The rules stand in the order of their numbers: the first in it that applies is given.
pub rules-ascend : (c : Content) → ascend (join_rules c) ≡ true
unfolding ascend_from join_rules mode_rules place_in
rules-ascend c = refl

-- those of a line, behind the reader's own
pub line-rules-ascend : (line : List ℕ) → ascend (line_join_rules line) ≡ true
unfolding ascend_from line_join_rules line_rules body_rules join_rules mode_rules place_in
line-rules-ascend line = refl

-- none of them is `accepted`
pub rules-numbered : (c : Content) → numbered (join_rules c) ≡ true
unfolding join_rules mode_rules
rules-numbered c = refl

-- ---- the time
-- a text that is read as a number is a time, and the number its value
pub time-value : (s : List ℕ) (n : ℕ) → decimal_up_to time_limit s ≡ Some n → (is_time s ≡ true) × (value_of s ≡ n)
unfolding is_time
time-value s n e =
    let r = decimal-read time_limit n s e in
    (rw (r.1, decimal-digits n, value-digits n, le-leb n time_limit r.0), rw r.1 (value-digits n))

-- a text that isn't read is no time
pub time-none : (s : List ℕ) → decimal_up_to time_limit s ≡ None → is_time s ≡ false
unfolding decimal_up_to is_time
time-none s e = go (is_decimal s) refl (leb (value_of s) time_limit) refl
  where
    go : (t : Bool) → is_decimal s ≡ t → (u : Bool) → leb (value_of s) time_limit ≡ u → is_time s ≡ false
    go true f true g =
        let d : decimal_up_to time_limit s ≡ Some (value_of s) = rw f (value_in time_limit s (leb-true (value_of s) time_limit g)) in
        let z : ◌≡◌ {A = ℕ} 0 1 = cc in absurd (omega arith)
    go true f false g = rw (f, g)
    go false f u g = rw f

-- a time says its value
pub time-said : (s : List ℕ) → is_time s ≡ true → time_of s ≡ value_of s
unfolding time_of
time-said s t = rw t

-- a text that is no time says 0
pub time-unsaid : (s : List ℕ) → is_time s ≡ false → time_of s ≡ 0
unfolding time_of
time-unsaid s t = rw t

-- one that is good is `0` exactly if its value is 0
pub time_zero : (s : List ℕ) → is_time s ≡ true → same s (zero_digit ∷ []) ≡ eqb (value_of s) 0
unfolding is_time value_from
time_zero s t =
    let d = digits_value s (and_left (is_decimal s) _ t) in
    both_ways (same s (zero_digit ∷ [])) (eqb (value_of s) 0)
    (λ e. eq-eqb (value_of s) 0 (ap value_of (same_true s (zero_digit ∷ []) e)))
    (λ e. rw (sym d ∙ ap digits_of (eqb-true (value_of s) 0 e) ∙ digits-one 0 (omega arith)) (same_refl (zero_digit ∷ [])))

-- and else it is from 1 up to the last
pub time-bounds : (s : List ℕ) → is_time s ≡ true → same s (zero_digit ∷ []) ≡ false → (1 ≤ value_of s) × (value_of s ≤ time_limit)
unfolding is_time
time-bounds s t z = (omega (arith, eqb-false (value_of s) 0 (sym (time_zero s t) ∙ z)), leb-true (value_of s) time_limit (and_right (is_decimal s) _ t))

-- ---- the numbers of count and source, in their order
module _ (c : Content) where
  -- too few parameters give the number of a wrong count
  pub few : length c.params < fewest → wrong_param_count ≡ first_of (source_rules c)
  unfolding good_count
  few h = sym (stop _ _ (rw (lt-leb fewest (length c.params) h)))

  -- too many parameters give it as well
  pub many : most < length c.params → wrong_param_count ≡ first_of (source_rules c)
  unfolding good_count
  many h = sym (stop _ _ (rw (lt-leb (length c.params) most h, and-false (leb fewest (length c.params)))))

  -- neither too few nor too many is a good count
  pub counted : fewest ≤ length c.params → length c.params ≤ most → good_count c ≡ true
  unfolding good_count
  counted h k = rw (le-leb fewest (length c.params) h, le-leb (length c.params) most k)

  module _ (n : good_count c ≡ true) where
    -- with a good count, a source that is no server id gives its number
    pub unsourced : prefix_is is_server_id c.prefix ≡ false → bad_source ≡ first_of (source_rules c)
    unsourced e = sym (skip _ _ (ap not n) ∙ stop _ _ (ap not e))

    -- with a good count and a server id as source neither rule applies
    pub sourced : prefix_is is_server_id c.prefix ≡ true → accepted ≡ first_of (source_rules c)
    sourced e = sym (skip _ _ (ap not n) ∙ skip _ _ (ap not e) ∙ first-nil)

  -- where neither rule applies, the count is good
  pub source-counts : first_of (source_rules c) ≡ accepted → good_count c ≡ true
  source-counts e = not-false _ (first-none _ _ (λ z. omega arith) e).0

-- ---- those of time and name
module _ (c : Content) where
  -- a bad time gives its number
  pub untimed : is_time (time_in c) ≡ false → bad_time ≡ first_of (head_rules c)
  untimed e = sym (stop _ _ (ap not e))

  module _ (t : is_time (time_in c) ≡ true) where
    -- a time that is 0 gives its number
    pub zero-time : value_of (time_in c) ≡ 0 → zero_time ≡ first_of (head_rules c)
    zero-time e = sym (skip _ _ (ap not t) ∙ stop _ _ (time_zero (time_in c) t ∙ eq-eqb (value_of (time_in c)) 0 e))

    module _ (z : value_of (time_in c) ≡ 0 → ⊥) where
      later : same (time_in c) (zero_digit ∷ []) ≡ false
      later = time_zero (time_in c) t ∙ ne_eqb (value_of (time_in c)) 0 z

      -- behind a good time a bad name gives its number
      pub unnamed : is_channel (name_in c) ≡ false → bad_name ≡ first_of (head_rules c)
      unnamed e = sym (skip _ _ (ap not t) ∙ skip _ _ later ∙ stop _ _ (ap not e))

      -- where time and name are good, no rule of theirs applies
      pub headed : is_channel (name_in c) ≡ true → accepted ≡ first_of (head_rules c)
      headed e = sym (skip _ _ (ap not t) ∙ skip _ _ later ∙ skip _ _ (ap not e) ∙ first-nil)

-- What the rules of time and name test, each passed.
pub record Heads (c : Content) : Type 0 where
  pub time : is_time (time_in c) ≡ true
  pub after : same (time_in c) (zero_digit ∷ []) ≡ false
  pub name : is_channel (name_in c) ≡ true

-- A line that none of them refuses passes each test.
pub heads : (c : Content) → first_of (head_rules c) ≡ accepted → Heads c
heads c e =
    let a = first-none _ _ (λ z. omega arith) e in
    let b = first-none _ _ (λ z. omega arith) a.1 in
    let d = first-none _ _ (λ z. omega arith) b.1 in
    record { time = not-false _ a.0; after = b.0; name = not-false _ d.0 }

-- ---- those of time, name and modes
-- no number of modes is `accepted`
pub modes-numbered : (c : Content) → numbered (mode_rules c) ≡ true
unfolding mode_rules
modes-numbered c = refl

module _ (c : Content) where
  -- a rule of time and name that applies decides
  pub head-decides : (first_of (head_rules c) ≡ accepted → ⊥) → first_of (lead_rules c) ≡ first_of (head_rules c)
  head-decides = append-some _ (head_rules c)

  -- behind a good time and a good name those of the modes do
  pub modes-decide : first_of (head_rules c) ≡ accepted → first_of (lead_rules c) ≡ first_of (mode_rules c)
  modes-decide = append-none (mode_rules c) (head_rules c) refl

  -- where all are good, no rule of theirs applies
  pub led : first_of (head_rules c) ≡ accepted → is_modes (modes_in c) (arguments_in c) ≡ true → accepted ≡ first_of (lead_rules c)
  led h e = sym (modes-decide h ∙ mode-number c ∙ ap number_of (modes-good c e))

  -- none of them is `accepted`
  pub lead-numbered : numbered (lead_rules c) ≡ true
  unfolding mode_rules
  lead-numbered = refl

-- ---- and all of them, one after the other
module _ (c : Content) where
  -- a rule of count and source that applies decides
  pub source-decides : (first_of (source_rules c) ≡ accepted → ⊥) → first_of (join_rules c) ≡ first_of (source_rules c)
  unfolding join_rules
  source-decides = append-some (telling_rules c) (source_rules c)

  module _ (s : first_of (source_rules c) ≡ accepted) where
    telling-decides : first_of (join_rules c) ≡ first_of (telling_rules c)
    unfolding join_rules
    telling-decides = append-none (telling_rules c) (source_rules c) refl s

    -- behind them a rule of time, name and modes that applies decides
    pub lead-decides : (first_of (lead_rules c) ≡ accepted → ⊥) → first_of (join_rules c) ≡ first_of (lead_rules c)
    lead-decides ne = telling-decides ∙ append-some _ (lead_rules c) ne

    module _ (t : first_of (lead_rules c) ≡ accepted) where
      -- behind all of these a bad list gives its number
      pub unlisted : good_entries (list_in c) ≡ false → first_of (join_rules c) ≡ bad_members
      unlisted e = telling-decides ∙ append-none _ (lead_rules c) (lead-numbered c) t ∙ stop _ _ (ap not e)

      -- where the list is good too, no rule refuses the message
      pub listed : good_entries (list_in c) ≡ true → first_of (join_rules c) ≡ accepted
      listed e = telling-decides ∙ append-none _ (lead_rules c) (lead-numbered c) t ∙ skip _ _ (ap not e) ∙ first-nil

-- ---- of spans
module _ (text : List ℕ) (m : Message) where
  -- The rules of spans stand in the order of their numbers.
  pub span-rules-ascend : ascend (span_rules text m) ≡ true
  unfolding ascend_from span_rules join_rules mode_rules place_in
  span-rules-ascend = refl

  -- a text longer than a line gives the number of a long line
  pub span-long : line_limit < length text → line_too_long ≡ first_of (span_rules text m)
  unfolding span_rules
  span-long h = sym (stop _ _ (lt-ltb line_limit (length text) h))

  -- of a text no longer than a line the rules of its content decide
  pub span-rules : length text ≤ line_limit → first_of (span_rules text m) ≡ first_of (join_rules (content_by text m))
  unfolding span_rules
  span-rules h = skip _ _ (le-ltb line_limit (length text) h)

-- ---- a number of modes
-- What holds where one is given: the count is good, and the modes have a fault of that number.
pub record Faulty (c : Content) : Type 0 where
  pub count : good_count c ≡ true
  pub fault : Fault Site
  pub given : fault_in c ≡ some fault
  pub number : first_of (join_rules c) ≡ fault.number

pub faulty : (c : Content) → is_mode_number (first_of (join_rules c)) ≡ true → Faulty c
faulty c is = go (eqb (first_of (source_rules c)) accepted) refl (eqb (first_of (head_rules c)) accepted) refl (fault_in c) refl
  where
    -- another number isn't one
    other : {A : Type 0} (n : ℕ) → first_of (join_rules c) ≡ n → is_mode_number n ≡ false → A
    other n e p = absurd (true≢false (sym is ∙ ap is_mode_number e ∙ p))

    go : (t : Bool) → eqb (first_of (source_rules c)) accepted ≡ t → (u : Bool) → eqb (first_of (head_rules c)) accepted ≡ u → (o : Option (Fault Site)) → fault_in c ≡ o → Faulty c
    go false e u f o g = other (first_of (source_rules c)) (source-decides c (eqb-false (first_of (source_rules c)) accepted e)) (first_plain (source_rules c) refl)
    go true e false f o g =
        let s = eqb-true (first_of (source_rules c)) accepted e in
        let ne = eqb-false (first_of (head_rules c)) accepted f in
        let h = head-decides c ne in
        other (first_of (head_rules c)) (lead-decides c s (λ z. ne (sym h ∙ z)) ∙ h) (first_plain (head_rules c) refl)
    go true e true f none g =
        let s = eqb-true (first_of (source_rules c)) accepted e in
        let h = eqb-true (first_of (head_rules c)) accepted f in
        let l = modes-decide c h ∙ mode-number c ∙ ap number_of g in
        let rest = bad_members when not (good_entries (list_in c)) ∷ [] in
        other (first_of rest) (telling-decides c s ∙ append-none rest (lead_rules c) (lead-numbered c) l) (first_plain rest refl)
    go true e true f (some x) g =
        let s = eqb-true (first_of (source_rules c)) accepted e in
        let h = eqb-true (first_of (head_rules c)) accepted f in
        let l : first_of (lead_rules c) ≡ x.number = modes-decide c h ∙ mode-number c ∙ ap number_of g in
        let ne : first_of (lead_rules c) ≡ accepted → ⊥ = λ z. mode-some x.number (fault-numbered (modes_in c) (arguments_in c) x g) (sym l ∙ z) in
        record { count = source-counts c s; fault = x; given = g; number = lead-decides c s ne ∙ l }
