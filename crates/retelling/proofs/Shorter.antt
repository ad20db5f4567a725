-- What is told of a channel that a line told of is no longer than the line's own message: every letter, argument and id stands in the line at least once, an id that
-- the line names twice takes up the room of both entries there, and where entries are parted here they were parted there. Assumes nothing.
use Prim.Native.Nat.{ℕ, suc, ◌+◌, ◌≤◌}
use mathlib.Core.Path.{◌≡◌, refl, sym, ap, ◌∙◌}
use mathlib.Core.Bool.{Bool, true, false, not, cond, ◌&&◌, true≢false}
use mathlib.Core.Logic.{inl, inr}
use mathlib.Core.List.{List, [], ◌∷◌, ◌++◌, map, append_assoc}
use mathlib.Core.Option.{some}
use native.Mathlib.Omega.{arith}
use lib.ListN.{length, length-append, length-map}
use lib.Dec.{eqb, leb, ltb}
use borrow.Author.Tests.{eqb-true}
use Rattle.refusal.specs.Numbers.{accepted}
use Rattle.refusal.specs.Rules.{first_of}
use Rattle.laws.specs.Lists.{is_nil, starts_with}
use Rattle.laws.specs.Bits.{has_bit}
use Rattle.octets.specs.Decimals.{is_decimal, value_from, value_of, digits_of}
use Rattle.laws.proofs.Bools.{and_left, and_right}
use Rattle.octets.proofs.Digits.{digits_value}
use Rattle.octets.proofs.Fewer.{digits-fewer}
use Rattle.ascending.proofs.Ascends.{unite-few}
use Rattle.ascending.proofs.Weights.{weight, weight-unite}
use Rattle.names.specs.Names.{is_channel}
use Rattle.channel.specs.declared.Member.{Member}
use Rattle.channel.specs.Limits.{limit_limit}
use Rattle.channel.specs.Modes.{letters, key_mode, limit_mode, has_mode, with_mode, mode_place, plus}
use Rattle.channel.specs.Settings.{Settings, no_settings}
use Rattle.channel.specs.Channel.{Channel, voice_place, operator_place, voice, operator, by_id, at_sign}
use Rattle.channel.specs.Members.{ordered}
use Rattle.channel.specs.Standing.{counts, settings_at, bare, standing, channel_at}
use Rattle.channel.proofs.Letters.{has-no-mode}
use Rattle.channel.proofs.Standing.{length-standing, proper-at}
use Rattle.channel.proofs.Proper.{Proper}
use Rattle.message.specs.Grammar.{is_middle}
use Rattle.message.specs.Content.{Content}
use Rattle.message.specs.Words.{words_of}
use Rattle.message.proofs.Sizes.{room, words-room, words-unparted}
use Rattle.writer.specs.Form.{written}
use Rattle.writer.proofs.Words.{middle-clear}
use Rattle.writer.proofs.Shorter.{written-shorter}
use Rattle.sjoin.specs.Modes.{key_letter, limit_letter, letters_of, parametered, is_limit, good_letters, good_argument, argument_of, is_modes, modes_byte}
use Rattle.sjoin.specs.Entries.{past, id_of, status_of, member_of, named}
use Rattle.sjoin.specs.Join.{time_in, name_in, modes_in, list_in, arguments_in, is_time, join_rules, channel_in}
use Rattle.telling.specs.Telling.{modes_text, entry_of, list_text, params_of, sjoin, join_message}
use Rattle.sjoin.proofs.Modes.{bits}
use Rattle.sjoin.proofs.Joined.{Passes, passes, Suits, argument-suits}
use Rattle.sjoin.proofs.Answers.{bounds}
use Rattle.sjoin.proofs.Sizes.{taken, arguments-room, parts}
use Rattle.telling.proofs.Lengths.{letters_count, letters-either, letters-none, letters-single, takes, takes-joined, takes-unmarked, list_length}
use Rattle.telling.proofs.Writable.{entry-alone}

-- ---- modes: each letter that is told comes of one that was given
bits-few : (s : List ℕ) → letters_count 0 letters (bits s) ≤ length s
bits-few [] = omega (arith, letters-none 0 letters)
bits-few (x ∷ s) = omega (arith, letters-either 0 letters (with_mode 0 (mode_place x)) (bits s), letters-single (mode_place x), bits-few s)

modes-shorter : (modes : List ℕ) → starts_with plus modes ≡ true → length (modes_text (modes_byte modes)) ≤ length modes
unfolding starts_with modes_byte
modes-shorter [] h = absurd (true≢false (sym h))
modes-shorter (b ∷ s) h = omega (arith, bits-few s)

modes-least : (modes : List ℕ) → starts_with plus modes ≡ true → length (modes_text 0) ≤ length modes
unfolding starts_with
modes-least [] h = absurd (true≢false (sym h))
modes-least (b ∷ s) h = omega (arith, letters-none 0 letters)

-- ---- arguments: a key and a limit that are told stand among those of the line
key-takes : (modes : ℕ) (key : List ℕ) → has_mode modes key_mode ≡ not (is_nil key) → cond (has_mode modes key_mode) (suc (length key)) 0 ≡ taken key
key-takes modes [] h = rw h
key-takes modes (b ∷ key) h = rw h

limit-takes : (modes : ℕ) (s a : List ℕ) → has_mode modes limit_mode ≡ ltb 0 (value_of a) → Suits limit_letter s a
    → cond (has_mode modes limit_mode) (suc (length (digits_of (value_of a)))) 0 ≤ taken a
unfolding good_argument is_limit value_from is_decimal
limit-takes modes s a h (inl g) = rw (h, g.1) (omega arith)
limit-takes modes s [] h (inr g) = absurd (true≢false (sym g.1))
limit-takes modes s (b ∷ a) h (inr g) =
    rw (digits_value (b ∷ a) (and_left (is_decimal (b ∷ a)) (leb 1 (value_of (b ∷ a)) && leb (value_of (b ∷ a)) limit_limit) g.1)) (most (has_mode modes limit_mode))
  where
    most : (t : Bool) → cond t (suc (suc (length a))) 0 ≤ suc (suc (length a))
    most true = omega arith
    most false = omega arith

-- ---- entries: each is told as it was given
abbrev marked : ℕ → Bool → List ℕ
marked mark t = cond t (mark ∷ []) []

past_back : (mark : ℕ) (s : List ℕ) → marked mark (starts_with mark s) ++ past mark s ≡ s
unfolding past starts_with
past_back mark [] = refl
past_back mark (b ∷ s) = go (eqb b mark) refl
  where
    go : (t : Bool) → eqb b mark ≡ t → marked mark t ++ cond t s (b ∷ s) ≡ b ∷ s
    go true e = rw (eqb-true b mark e)
    go false e = refl

marks-back : (o v : Bool) → (has_mode (cond o operator 0 + cond v voice 0) operator_place ≡ o) × (has_mode (cond o operator 0 + cond v voice 0) voice_place ≡ v)
unfolding has_bit
marks-back true true = (refl, refl)
marks-back true false = (refl, refl)
marks-back false true = (refl, refl)
marks-back false false = (refl, refl)

entry-tells : (w : List ℕ) → entry_of (member_of w) ≡ w
unfolding entry_of member_of id_of status_of
entry-tells w =
    let o = starts_with at_sign w in
    let v = starts_with plus (past at_sign w) in
    rw ((marks-back o v).0, (marks-back o v).1) (append_assoc (marked at_sign o) (marked plus v) (past plus (past at_sign w)) ∙ ap (◌++◌ (marked at_sign o)) (past_back plus (past at_sign w)) ∙ past_back at_sign w)

-- without status they take up no more than with it
takes-bare : (l : List Member) → weight takes (bare l) ≤ weight takes l
unfolding bare
takes-bare [] = omega arith
takes-bare (m ∷ l) = omega (arith, takes-unmarked m, takes-bare l)

named-takes : (l : List (List ℕ)) → weight takes (map member_of l) ≡ room l
named-takes [] = refl
named-takes (w ∷ l) = omega (arith, ap (λ (e : List ℕ). length e) (entry-tells w), named-takes l)

listed-takes : (list : List ℕ) → weight takes (ordered (named list)) ≤ suc (length list)
listed-takes list = omega (arith, weight-unite by_id takes takes-joined [] (named list), named-takes (words_of list), words-room list)

-- ---- the list
module _ (c : Channel) (list : List ℕ) (is : c.members ≡ ordered (named list)) (time : ℕ) where
  standing-takes : weight takes (standing time c) ≤ suc (length list)
  unfolding standing
  standing-takes = go (counts time c)
    where
      go : (t : Bool) → weight takes (cond t c.members (bare c.members)) ≤ suc (length list)
      go true = rw is (listed-takes list)
      go false = omega (arith, takes-bare c.members, ap (weight takes) is, listed-takes list)

  list-shorter : 1 ≤ length c.members → length (list_text (standing time c)) ≤ length list
  list-shorter h = omega (arith, list_length (standing time c) (omega (arith, length-standing time c)), standing-takes)

  -- where the line's list is one word, one entry is told
  standing-one : is_middle list ≡ true → length (standing time c) ≤ 1
  standing-one h =
      omega (arith, length-standing time c, ap (λ (l : List Member). length l) is, unite-few by_id [] (named list), length-map (words_of list) member_of, words-unparted list (middle-clear list h))

-- ---- the parameters that are told before the list
abbrev before : Bool → Bool → List ℕ → List ℕ → List ℕ → List ℕ → List ℕ → List (List ℕ)
before a b t n m k l = (t ∷ n ∷ m ∷ []) ++ cond a (k ∷ []) [] ++ cond b (l ∷ []) []

before-room : (a b : Bool) (t n m k l : List ℕ) → room (before a b t n m k l) ≡ length t + length n + length m + 3 + cond a (suc (length k)) 0 + cond b (suc (length l)) 0
before-room true true t n m k l = omega arith
before-room true false t n m k l = omega arith
before-room false true t n m k l = omega arith
before-room false false t n m k l = omega arith

module _ (c : Content) (none : first_of (join_rules c) ≡ accepted) (p : Proper (channel_in c)) where
  good : Passes c
  good = passes c none

  sign : starts_with plus (modes_in c) ≡ true
  unfolding is_modes good_letters
  sign = and_left (starts_with plus (modes_in c)) _ (and_left (good_letters (modes_in c)) _ good.modes)

  time-shorter : (time : ℕ) → time ≤ (channel_in c).time → length (digits_of time) ≤ length (time_in c)
  unfolding channel_in is_time
  time-shorter time h =
      omega (arith, digits-fewer (value_of (time_in c)) time h, ap (λ (s : List ℕ). length s) (digits_value (time_in c) (and_left (is_decimal (time_in c)) _ good.time)))

  -- the settings of a side that counts, or doesn't
  abbrev settings : Bool → Settings
  settings t = cond t (channel_in c).settings no_settings

  letters-shorter : (t : Bool) → length (modes_text (settings t).modes) ≤ length (modes_in c)
  unfolding channel_in
  letters-shorter true = modes-shorter (modes_in c) sign
  letters-shorter false = modes-least (modes_in c) sign

  arguments-shorter : (t : Bool) → cond (has_mode (settings t).modes key_mode) (suc (length (settings t).key)) 0
      + cond (has_mode (settings t).modes limit_mode) (suc (length (digits_of (settings t).limit))) 0 ≤ room (arguments_in c)
  unfolding channel_in argument_of is_modes
  arguments-shorter true =
      let s = parametered (letters_of (modes_in c)) in
      let k = argument_of key_letter (modes_in c) (arguments_in c) in
      let l = argument_of limit_letter (modes_in c) (arguments_in c) in
      let limit = limit-takes (settings true).modes (letters_of (modes_in c)) l p.settings.limited (argument-suits (modes_in c) (arguments_in c) limit_letter refl good.modes) in
      let both = arguments-room key_letter limit_letter refl s (arguments_in c) (and_right (good_letters (modes_in c)) _ good.modes) in
      omega (arith, key-takes (settings true).modes k p.settings.keyed, limit, both)
  arguments-shorter false = rw (has-no-mode key_mode, has-no-mode limit_mode) (omega arith)

  -- What a side tells at a time that is no later, under a name as long, is no longer than what was told of it.
  pub told-shorter : (sid name : List ℕ) (time : ℕ) → c.prefix ≡ some sid → length c.command ≡ length sjoin → is_channel name ≡ true → length name ≡ length (name_in c)
      → 1 ≤ time → time ≤ (channel_in c).time
      → length (written (join_message sid (channel_at name time (channel_in c)))) ≤ length (written c)
  unfolding params_of arguments_in channel_in settings_at
  told-shorter sid name time source command named same from until =
      let ch = channel_in c in
      let o = channel_at name time ch in
      let q = proper-at name time ch named from (omega (arith, p.until)) p in
      let s = o.settings in
      let a = has_mode s.modes key_mode in
      let b = has_mode s.modes limit_mode in
      let given = time_in c ∷ name_in c ∷ modes_in c ∷ arguments_in c in
      let whole : c.params ≡ given ++ (list_in c ∷ []) = parts c.params (bounds c good.count).0 (bounds c good.count).1 in
      written-shorter (join_message sid o) c
      (before a b (digits_of time) name (modes_text s.modes) s.key (digits_of s.limit))
      given
      (list_text o.members)
      (list_in c)
      refl
      whole
      (sym source)
      (omega (arith, command))
      (omega (arith, (bounds c good.count).1, length-append given (list_in c ∷ []), ap (λ (ps : List (List ℕ)). length ps) whole))
      (omega (arith, before-room a b (digits_of time) name (modes_text s.modes) s.key (digits_of s.limit), time-shorter time until, letters-shorter (counts time ch), arguments-shorter (counts time ch)))
      (list-shorter ch (list_in c) refl time p.some)
      (λ m. entry-alone o.members q.some (standing-one ch (list_in c) refl time m) q.listed)
