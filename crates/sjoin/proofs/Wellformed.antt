-- The record of a line that no rule refuses is well formed. Assumes nothing.
use Prim.Native.Nat.{ℕ, ◌+◌, ◌^◌, ◌≤◌, ◌<◌}
use mathlib.Core.Path.{◌≡◌, refl, sym, ap, ap₂, ◌∙◌}
use mathlib.Core.Bool.{Bool, true, false, not, cond, ◌||◌}
use mathlib.Core.Logic.{inl, inr}
use mathlib.Core.List.{List, [], ◌∷◌, map}
use native.Mathlib.Omega.{arith}
use lib.Bits.{or_lt}
use lib.ListN.{length, length-map}
use lib.Dec.{eqb, ltb}
use borrow.Author.Tests.{not-true, ltb-true, lt-ltb}
use Rattle.refusal.specs.Numbers.{accepted}
use Rattle.refusal.specs.Rules.{first_of}
use Rattle.laws.specs.Lists.{all, is_nil, starts_with}
use Rattle.octets.specs.Decimals.{value_from, value_of}
use Rattle.laws.proofs.Bools.{and_left, and_right, or-not, eqb_swap}
use Rattle.laws.proofs.Lists.{all_head, all_tail, all-imp-map, nil-map}
use Rattle.ascending.proofs.Ascends.{unite-some, unite-few, all-unite, ascending-unite}
use Rattle.channel.specs.Limits.{time_limit, limit_limit}
use Rattle.channel.specs.Modes.{mode_count, has_mode, with_mode, place_among, mode_place, plus}
use Rattle.channel.specs.Key.{is_key}
use Rattle.channel.specs.Channel.{voice, operator, by_id, at_sign}
use Rattle.channel.specs.Record.{encode}
use Rattle.channel.specs.WellFormed.{both_statuses, good_member, well_formed}
use Rattle.channel.proofs.Keys.{key-some}
use Rattle.channel.proofs.Letters.{has-no-mode, has_either, has-with, one-small}
use Rattle.channel.proofs.Statuses.{stays-by_id}
use Rattle.channel.proofs.Proper.{Proper, member-passes, both-statuses, encode-well}
use Rattle.message.specs.Grammar.{line_limit}
use Rattle.message.specs.Content.{Content}
use Rattle.message.specs.Reading.{is_read, content_of, message_of}
use Rattle.message.proofs.Readings.{read_small, refused-number}
use Rattle.message.proofs.SpanContents.{message-holds}
use Rattle.message.specs.Words.{words_of}
use Rattle.sjoin.specs.Modes.{key_letter, limit_letter, letters_of, is_mode, lacks, good_letters, good_argument, is_modes, modes_byte}
use Rattle.sjoin.specs.Entries.{past, status_of, is_entry, member_of, good_entries, named}
use Rattle.sjoin.specs.Join.{time_in, modes_in, list_in, arguments_in, join_rules, channel_in, told_by}
use Rattle.sjoin.proofs.Modes.{bits, same_place}
use Rattle.sjoin.proofs.Answers.{list-small, unread-number, told-number, told-says}
use Rattle.sjoin.proofs.Limits.{limit-bounds}
use Rattle.sjoin.proofs.Listed.{list-entries, list-room}
use Rattle.sjoin.proofs.Judged.{time-bounds}
use Rattle.sjoin.proofs.Joined.{Passes, passes, Suits, argument-suits}

-- ---- the modes' byte
bits_small : (s : List ℕ) → bits s < 2 ^ mode_count
bits_small [] = omega arith
bits_small (x ∷ s) = or_lt mode_count (with_mode 0 (mode_place x)) (bits s) (one-small (mode_place x)) (bits_small s)

-- it has the modes of its letters
bits-have : (letter : ℕ) (s : List ℕ) → all is_mode s ≡ true → has_mode (bits s) (mode_place letter) ≡ not (lacks letter s)
unfolding all
bits-have letter [] h = has-no-mode (mode_place letter)
bits-have letter (x ∷ s) h =
    let m = all_head is_mode x s h in
    let first : has_mode (with_mode 0 (mode_place x)) (mode_place letter) ≡ eqb x letter =
    has-with 0 (mode_place x) (mode_place letter) (ltb-true (mode_place x) mode_count m) ∙ rw (has-no-mode (mode_place letter), same_place x letter m) (eqb_swap letter x) in
    has_either (with_mode 0 (mode_place x)) (bits s) (mode_place letter) ∙ ap₂ ◌||◌ first (bits-have letter s (all_tail is_mode x s h)) ∙ or-not (eqb x letter) (lacks letter s)

-- ---- key and limit, present exactly with their letters
key-says : (s a : List ℕ) → Suits key_letter s a → (not (lacks key_letter s) ≡ not (is_nil a)) × ((is_nil a || is_key a) ≡ true)
unfolding good_argument
key-says s a (inl g) = (rw (g.0, g.1), rw g.1)
key-says s a (inr g) = (rw (g.0, key-some a g.1), rw (key-some a g.1) g.1)

limit-says : (s a : List ℕ) → Suits limit_letter s a → (not (lacks limit_letter s) ≡ ltb 0 (value_of a)) × (value_of a ≤ limit_limit)
unfolding good_argument value_from
limit-says s a (inl g) = (rw (g.0, g.1), rw g.1 (omega arith))
limit-says s a (inr g) = let b = limit-bounds a g.1 in (rw g.0 (sym (lt-ltb 0 (value_of a) b.0)), b.1)

-- ---- the members
status-few : (e : List ℕ) → status_of e ≤ both_statuses
unfolding status_of
status-few e = go (starts_with at_sign e) (starts_with plus (past at_sign e))
  where
    go : (t u : Bool) → cond t operator 0 + cond u voice 0 ≤ both_statuses
    go true true = omega arith
    go true false = omega arith
    go false true = omega arith
    go false false = omega arith

entry-good : (e : List ℕ) → is_entry e ≡ true → good_member (member_of e) ≡ true
unfolding is_entry member_of
entry-good e h = member-passes (member_of e) h (status-few e)

named-good : (l : List (List ℕ)) → all is_entry l ≡ true → all good_member (map member_of l) ≡ true
named-good l h = all-imp-map is_entry good_member member_of entry-good l h

-- ---- all together
module _ (c : Content) (none : first_of (join_rules c) ≡ accepted) (small : length (list_in c) ≤ line_limit) where
  good : Passes c
  good = passes c none

  letters-good : all is_mode (letters_of (modes_in c)) ≡ true
  unfolding is_modes good_letters
  letters-good = and_left _ _ (and_right (starts_with plus (modes_in c)) _ (and_left (good_letters (modes_in c)) _ good.modes))

  time-in : (1 ≤ value_of (time_in c)) × (value_of (time_in c) ≤ time_limit)
  time-in = time-bounds (time_in c) good.time good.after

  words-some : is_nil (words_of (list_in c)) ≡ false
  unfolding good_entries
  words-some = not-true _ (and_left (not (is_nil (words_of (list_in c)))) _ good.list)

  told-proper : Proper (channel_in c)
  unfolding channel_in modes_byte place_among all
  told-proper =
      let s = letters_of (modes_in c) in
      let k = key-says s _ (argument-suits (modes_in c) (arguments_in c) key_letter refl good.modes) in
      let l = limit-says s _ (argument-suits (modes_in c) (arguments_in c) limit_letter refl good.modes) in
      let n = named (list_in c) in
      record {
        name = good.name;
        from = time-in.0;
        until = time-in.1;
        settings = record {
          modes = bits_small s;
          keyed = bits-have key_letter s letters-good ∙ k.0;
          key = k.1;
          limited = bits-have limit_letter s letters-good ∙ l.0;
          limit = l.1;
        };
        some = unite-some by_id [] n (nil-map member_of (words_of (list_in c)) ∙ words-some);
        few = omega (arith, unite-few by_id [] n, length-map (words_of (list_in c)) member_of, list-room (list_in c) good.list small);
        listed = all-unite by_id good_member both-statuses [] n refl (named-good (words_of (list_in c)) (list-entries (list_in c) good.list));
        ascending = ascending-unite by_id stays-by_id [] n tt;
      }

-- ---- of a line
-- The channel of a line that is read and that no rule refuses is proper.
pub read-proper : (line : List ℕ) → is_read line ≡ true → first_of (join_rules (content_of line)) ≡ accepted → Proper (channel_in (content_of line))
read-proper line h none =
    told-proper (content_of line) none (omega (arith, list-small line (message_of line), ap (λ (c : Content). length (list_in c)) (message-holds line), read_small line h))

-- its record is well formed
pub read-well : (line : List ℕ) → is_read line ≡ true → first_of (join_rules (content_of line)) ≡ accepted → well_formed (encode (channel_in (content_of line))) ≡ true
read-well line h none = encode-well (channel_in (content_of line)) (read-proper line h none)

-- So the record told of a line that is accepted is well formed.
pub line-well : (line : List ℕ) → (told_by line).number ≡ accepted → well_formed (told_by line).«record» ≡ true
unfolding told_by
line-well line e = go (is_read line) refl
  where
    go : (t : Bool) → is_read line ≡ t → well_formed (told_by line).«record» ≡ true
    go true h = rw (told-says line h e) (read-well line h (sym (told-number line h) ∙ e))
    go false h = absurd (refused-number line h (sym (unread-number line h) ∙ e))
