-- The answer to a line: what `record_of` puts together is the record of its channel, and each answer is the number and the record that the rules give.
-- Assumes nothing.
use Prim.Native.Nat.{ℕ, ◌+◌, ◌-◌, ◌≤◌, ◌<◌}
use mathlib.Core.Path.{◌≡◌, refl, sym, ap, ◌∙◌}
use mathlib.Core.Bool.{true, false}
use mathlib.Core.List.{List, []}
use mathlib.Core.Option
use mathlib.Core.Option.{Option, some, none}
use native.Mathlib.Omega.{arith}
use lib.ListN.{length, take, drop, get_or, length-map, length-take, length-drop}
use lib.Dec.{leb}
use borrow.Author.Tests.{ne_eqb, leb-true, not-false}
use Rattle.std.specs.Prelude.{Some, None, Ok, Err}
use Rattle.refusal.specs.declared.Fault.{Fault as Refused}
use Rattle.refusal.specs.declared.Refusal.{Refusal}
use Rattle.refusal.specs.declared.Refusal.TheVariants.{LineTooLong, BadMembers}
use Rattle.refusal.specs.Numbers.{accepted, is_mode_number}
use Rattle.refusal.specs.Rules.{first_of}
use Rattle.refusal.specs.Refusals.{number_of, unplaced}
use Rattle.refusal.specs.Faults as specs
use Rattle.refusal.specs.Faults.{Fault, fault}
use Rattle.refusal.proofs.Refusals.{number-given}
use Rattle.refusal.proofs.Rules.{first_plain, first-none, append-some, append-none}
use Rattle.refusal.proofs.Faults.{given-some}
use Rattle.laws.specs.Lists.{padded}
use Rattle.octets.specs.Decimals.{value_of}
use Rattle.octets.specs.Room.{part}
use Rattle.laws.proofs.Bools.{and_left, and_right}
use Rattle.laws.proofs.Lists.{take-padded}
use Rattle.names.specs.Names.{name_limit, is_server_id}
use Rattle.names.proofs.UserIds.{server-length}
use Rattle.channel.specs.declared.Member.{Member}
use Rattle.channel.specs.declared.Record.{Record}
use Rattle.channel.specs.declared.Roster.{Roster}
use Rattle.channel.specs.Limits.{key_limit, member_limit}
use Rattle.channel.specs.Record.{nobody, encode}
use Rattle.channel.specs.Members.{roster, ordered}
use Rattle.message.specs.declared.Message.{Message}
use Rattle.message.specs.Content.{Content}
use Rattle.message.specs.Grammar.{line_limit, param_limit}
use Rattle.message.specs.Parts.{content_by, prefix_span, param_span}
use Rattle.message.specs.Reading.{body_rules, line_rules, number_for, is_read, content_of, message_of}
use Rattle.message.specs.Words.{words_of}
use Rattle.message.proofs.Readings.{rules-numbered, number-none, read_small, refused-number}
use Rattle.message.proofs.SpanContents.{params-count, prefix-held, param-held, message-holds}
use Rattle.message.proofs.Prefixes.{prefix-there}
use Rattle.sjoin.specs.Modes.{key_letter, limit_letter, modes_byte, argument_of}
use Rattle.sjoin.specs.Entries.{member_of, named}
use Rattle.sjoin.specs.Faults.{Site, site_at, fault_at}
use Rattle.sjoin.specs.Join.{time_in, name_in, modes_in, list_in, arguments_in, fewest, most, good_count, source_rules, head_rules, fault_in, lead_rules, join_rules, channel_in, span_place, line_place, as_told, told, span_rules, told_in, line_join_rules, told_by}
use Rattle.sjoin.specs.Private.Scanning.{placed, Parted, Tells}
use Rattle.sjoin.specs.Private.Parts.{entries_in}
use Rattle.sjoin.proofs.Faults.{fault-numbered, mode-number}
use Rattle.sjoin.proofs.Listed.{list-room, entries-odd, entries-named}
use Rattle.sjoin.proofs.Judged.{span-rules, span-long, source-counts, source-decides, head-decides, modes-decide, lead-decides, unlisted, listed}

-- ---- the count of parameters
-- a good count is neither too few nor too many
pub bounds : (c : Content) → good_count c ≡ true → (fewest ≤ length c.params) × (length c.params ≤ most)
unfolding good_count
bounds c h =
    let n = length c.params in
    (leb-true fewest n (and_left (leb fewest n) (leb n most) h), leb-true n most (and_right (leb fewest n) (leb n most) h))

-- ---- the list
-- the list is the parameter at `last`
pub list_at : (c : Content) (last : ℕ) → Parted c last → get_or c.params last [] ≡ list_in c
list_at c last p = ap (λ (n : ℕ). get_or c.params n []) (omega (arith, p.count))

-- with a good count the list stands behind time, name and modes
pub parted : (c : Content) (last : ℕ) → good_count c ≡ true → length c.params ≡ last + 1 → Parted c last
parted c last good count = record { behind = omega (arith, (bounds c good).0, count); few = omega (arith, (bounds c good).1, count); count = count }

-- a part is no longer than the text
pub list-small : (text : List ℕ) (m : Message) → length (list_in (content_by text m)) ≤ length text
unfolding part
list-small text m =
    let k = length (content_by text m).params - 1 in
    let s = param_span (length text) m k in
    omega (arith, ap (λ (l : List ℕ). length l) (param-held text m k), length-take (s.end - s.start) (drop s.start text), length-drop s.start text)

-- a text whose source is a server id has its bytes
pub source-long : (text : List ℕ) (m : Message) → first_of (source_rules (content_by text m)) ≡ accepted → 2 ≤ length text
unfolding part
source-long text m e =
    let none = first-none _ _ (λ z. omega arith) (first-none _ _ (λ z. omega arith) e).1 in
    let is = (prefix-there is_server_id (content_by text m).prefix (not-false _ none.0)).1 in
    let s = prefix_span (length text) m in
    omega (
      arith,
      server-length (Option.get_or (content_by text m).prefix []) is,
      ap (λ (l : List ℕ). length l) (prefix-held text m),
      length-take (s.end - s.start) (drop s.start text),
      length-drop s.start text,
    )

-- ---- its members in order
-- The members of the gathered roster, put in order, are the list's in order.
pub ordered-is : (s r : Roster) (list : List ℕ) → s ≡ roster (named list) → length (words_of list) ≤ member_limit → r ≡ roster (ordered (take s.count s.list)) → r ≡ roster (ordered (named list))
unfolding roster
ordered-is s r list e h f =
    f ∙ ap (λ (l : List Member). roster (ordered l)) (ap (λ (x : Roster). take x.count x.list) e ∙ take-padded nobody member_limit (named list) (omega (arith, h, length-map (words_of list) member_of)))

-- ---- the parts put together
-- A record whose fields are those that the parameters say is the record of the channel.
pub made : (c : Content) (n held k kept : List ℕ) (time modes limit : ℕ) (r : Roster) → n ≡ name_in c → held ≡ padded name_limit 0 n → time ≡ value_of (time_in c) → modes ≡ modes_byte (modes_in c)
    → k ≡ argument_of key_letter (modes_in c) (arguments_in c) → kept ≡ padded key_limit 0 k → limit ≡ value_of (argument_of limit_letter (modes_in c) (arguments_in c)) → r ≡ roster (ordered (named (list_in c)))
    → ◌≡◌ {A = Record} (record { name = held; name_len = length n; time = time; modes = modes; key = kept; key_len = length k; limit = limit; members = r.list; count = r.count }) (encode (channel_in c))
unfolding encode channel_in roster
made c n held k kept time modes limit r e f g h i j l m = rw (f, e, g, h, j, i, l, m)

-- ---- the place
-- a number that isn't one of modes has the place 0
pub place_none : (k : ℕ) (text : List ℕ) (m : Message) → is_mode_number k ≡ false → span_place k text m ≡ 0
unfolding span_place
place_none k text m e = rw e

-- one that is has the place of their fault
pub place-some : (k : ℕ) (text : List ℕ) (m : Message) → is_mode_number k ≡ true → span_place k text m ≡ fault_at (length text) m (fault_in (content_by text m))
unfolding span_place
place-some k text m e = rw e

-- the number of a fault has the fault's place
pub place-fault : (text : List ℕ) (m : Message) → span_place (specs.number_of (fault_in (content_by text m))) text m ≡ fault_at (length text) m (fault_in (content_by text m))
place-fault text m = go (fault_in (content_by text m)) refl
  where
    go : (o : Option (Fault Site)) → fault_in (content_by text m) ≡ o → span_place (specs.number_of o) text m ≡ fault_at (length text) m o
    go none e = place_none accepted text m refl
    go (some f) e = place-some f.number text m (fault-numbered (modes_in (content_by text m)) (arguments_in (content_by text m)) f e) ∙ ap (fault_at (length text) m) e

-- ---- the answer
-- an answer that refuses tells the number of its rule and its place, with the empty record
told-refused : (f : Refused) (k place : ℕ) (c : Content) → number_of f.refusal ≡ k → f.place ≡ place → as_told (Err f) ≡ told k place c
told-refused f k place c e p = rw (← e, ← p, ne_eqb (number_of f.refusal) accepted (number-given f.refusal))

module _ (text : List ℕ) (m : Message) where
  abbrev content : Content
  content = content_by text m

  -- the number of the first rule that applies is the answer to spans, with its place
  refused-in : (f : Refused) → number_of f.refusal ≡ first_of (span_rules text m) → f.place ≡ span_place (number_of f.refusal) text m → as_told (Err f) ≡ told_in text m
  unfolding told_in
  refused-in f e p = told-refused f (first_of (span_rules text m)) (span_place (first_of (span_rules text m)) text m) content e (p ∙ ap (λ (n : ℕ). span_place n text m) e)

  -- so is one that has no place
  plain-in : (e : Refusal) → number_of e ≡ first_of (span_rules text m) → is_mode_number (number_of e) ≡ false → as_told (Err (unplaced e)) ≡ told_in text m
  plain-in e is p = refused-in (unplaced e) is (sym (place_none (number_of e) text m p))

  -- a text that is too long
  pub long-told : line_limit < length text → as_told (Err (unplaced LineTooLong)) ≡ told_in text m
  long-told h = plain-in LineTooLong (span-long text m h) refl

  module _ (short : length text ≤ line_limit) where
    ruled : first_of (span_rules text m) ≡ first_of (join_rules content)
    ruled = span-rules text m short

    -- count or source
    pub source-told : (e : Refusal) → number_of e ≡ first_of (source_rules content) → as_told (Err (unplaced e)) ≡ told_in text m
    source-told e is =
        plain-in e (is ∙ sym (ruled ∙ source-decides content (λ z. number-given e (is ∙ z)))) (ap is_mode_number is ∙ first_plain (source_rules content) refl)

    module _ (s : first_of (source_rules content) ≡ accepted) where
      -- the count is good, so that there is a list behind time, name and modes
      counted : length m.params ≡ param_limit → (1 ≤ m.count) × (length content.params ≡ m.count - 1 + 1)
      counted full = omega (arith, params-count text m full, bounds content (source-counts content s))

      pub some-params : length m.params ≡ param_limit → 1 ≤ m.count
      some-params full = (counted full).0

      pub list-parted : length m.params ≡ param_limit → Parted content (m.count - 1)
      list-parted full = parted content (m.count - 1) (source-counts content s) (counted full).1

      -- time or name
      pub head-told : (e : Refusal) → number_of e ≡ first_of (head_rules content) → as_told (Err (unplaced e)) ≡ told_in text m
      head-told e is =
          let ne : first_of (head_rules content) ≡ accepted → ⊥ = λ z. number-given e (is ∙ z) in
          let l = head-decides content ne in
          plain-in e (is ∙ sym (ruled ∙ lead-decides content s (λ z. ne (sym l ∙ z)) ∙ l)) (ap is_mode_number is ∙ first_plain (head_rules content) refl)

      module _ (h : first_of (head_rules content) ≡ accepted) where
        -- the modes
        pub modes-told : (f : Refused) → some (fault (number_of f.refusal) f.place) ≡ placed (site_at (length text) m) (fault_in content) → as_told (Err f) ≡ told_in text m
        unfolding placed
        modes-told f is = go (fault_in content) refl is
          where
            go : (o : Option (Fault Site)) → fault_in content ≡ o → some (fault (number_of f.refusal) f.place) ≡ placed (site_at (length text) m) o → as_told (Err f) ≡ told_in text m
            go none g e = given-some e
            go (some x) g e =
                let same : fault (number_of f.refusal) f.place ≡ fault x.number (site_at (length text) m x.place) = cc in
                let number : number_of f.refusal ≡ x.number = ap (λ (y : Fault ℕ). y.number) same in
                let l : first_of (lead_rules content) ≡ x.number = modes-decide content h ∙ mode-number content ∙ ap specs.number_of g in
                refused-in f (number ∙ sym (ruled ∙ lead-decides content s (λ z. number-given f.refusal (number ∙ sym l ∙ z)) ∙ l))
                (ap (λ (y : Fault ℕ). y.place) same ∙ sym (ap (λ (n : ℕ). span_place n text m) (number ∙ sym (ap specs.number_of g)) ∙ place-fault text m ∙ ap (fault_at (length text) m) g))

        module _ (sound : none ≡ placed (site_at (length text) m) (fault_in content)) where
          led-by : first_of (lead_rules content) ≡ accepted
          unfolding placed
          led-by = go (fault_in content) refl sound
            where
              go : (o : Option (Fault Site)) → fault_in content ≡ o → none ≡ placed (site_at (length text) m) o → first_of (lead_rules content) ≡ accepted
              go none g e = modes-decide content h ∙ mode-number content ∙ ap specs.number_of g
              go (some x) g e = given-some (sym e)

          -- the list
          pub list-told : None ≡ entries_in (list_in content) → as_told (Err (unplaced BadMembers)) ≡ told_in text m
          list-told e = plain-in BadMembers (sym (ruled ∙ unlisted content s led-by (entries-odd (list_in content) e))) refl

          -- or the record of the channel
          module _ (entries : Roster) (full : length m.params ≡ param_limit) (e : Some entries ≡ entries_in (list_in content)) where
            accepts : first_of (join_rules content) ≡ accepted
            accepts = listed content s led-by (entries-named (list_in content) entries e).0

            pub telling : (time : ℕ) → time ≡ value_of (time_in content) → Tells content (m.count - 1) time entries
            telling time is =
                let good = (entries-named (list_in content) entries e).0 in record {
                  parted = list-parted full;
                  passes = accepts;
                  time = is;
                  few = list-room (list_in content) good (omega (arith, list-small text m));
                  named = (entries-named (list_in content) entries e).1;
                }

            pub record-told : (r : Record) → r ≡ encode (channel_in content) → as_told (Ok r) ≡ told_in text m
            unfolding told_in span_place
            record-told r is = rw (ruled ∙ accepts, is)

-- no number of the reader is one of modes
pub reader-plain : (line : List ℕ) → is_mode_number (number_for line) ≡ false
unfolding number_for line_rules body_rules
reader-plain line = first_plain (line_rules line) refl

module _ (line : List ℕ) where
  -- a line that isn't read is answered by the reader's number
  pub unread-number : is_read line ≡ false → first_of (line_join_rules line) ≡ number_for line
  unfolding line_join_rules number_for
  unread-number h = append-some (join_rules (content_of line)) (line_rules line) (refused-number line h)

  pub told-unread : (e : Refusal) → is_read line ≡ false → number_of e ≡ number_for line → as_told (Err (unplaced e)) ≡ told_by line
  unfolding told_by
  told-unread e h is =
      let k : number_of e ≡ first_of (line_join_rules line) = is ∙ sym (unread-number h) in
      told-refused (unplaced e) (first_of (line_join_rules line)) (line_place (first_of (line_join_rules line)) line) (content_of line) k
      (sym (place_none (first_of (line_join_rules line)) line (message_of line) (ap is_mode_number (unread-number h) ∙ reader-plain line)))

  module _ (h : is_read line ≡ true) where
    -- the reader's own rules don't apply to a line that is read
    pub told-number : (told_by line).number ≡ first_of (join_rules (content_of line))
    unfolding told_by line_join_rules number_for
    told-number = append-none (join_rules (content_of line)) (line_rules line) (rules-numbered line) (number-none line h)

    -- what its spans say is what it says
    pub told_same : told_in line (message_of line) ≡ told_by line
    unfolding told_in told_by
    told_same =
        let e : first_of (span_rules line (message_of line)) ≡ first_of (join_rules (content_of line)) = span-rules line (message_of line) (read_small line h) ∙ ap (λ (c : Content). first_of (join_rules c)) (message-holds line) in
        rw (e ∙ sym told-number, message-holds line)

    -- the answer to a line that no rule refuses has the record of its channel
    pub told-says : (told_by line).number ≡ accepted → (told_by line).«record» ≡ encode (channel_in (content_of line))
    unfolding told_by
    told-says a = rw a
