-- What is told of a channel reads back as that channel: no rule refuses it, and its parts are those of the channel. Assumes nothing.
use Prim.Native.Nat.{ℕ, ◌<◌}
use mathlib.Core.Path.{◌≡◌, refl, sym, ap, ◌∙◌}
use mathlib.Core.Bool.{Bool, true, false, not, cond, true≢false}
use mathlib.Core.List.{List, [], ◌∷◌, ◌++◌}
use mathlib.Core.Option.{some}
use native.Mathlib.Omega.{arith}
use lib.ListN.{length, get_or}
use borrow.Author.Tests.{ne_eqb, le-leb, ltb-true, ltb-false}
use Rattle.refusal.specs.Numbers.{accepted}
use Rattle.refusal.specs.Rules.{first_of}
use Rattle.laws.specs.Lists.{is_nil}
use Rattle.octets.specs.Decimals.{value_from, value_of, digits_of}
use Rattle.laws.proofs.Lists.{nil-length}
use Rattle.octets.proofs.Digits.{value-digits, decimal-digits}
use Rattle.ascending.proofs.Ascends.{unite-nil-left}
use Rattle.names.specs.Names.{is_server_id}
use Rattle.channel.specs.Limits.{time_limit, limit_limit}
use Rattle.channel.specs.Modes.{key_mode, limit_mode, has_mode, place_among}
use Rattle.channel.specs.Key.{is_key}
use Rattle.channel.specs.Settings.{Settings}
use Rattle.channel.specs.Channel.{Channel, by_id}
use Rattle.channel.specs.Members.{ordered}
use Rattle.channel.proofs.Proper.{ProperSettings, Proper}
use Rattle.message.specs.Content.{Content, prefix_is}
use Rattle.sjoin.specs.Modes.{key_letter, limit_letter, is_limit, good_argument, good_arguments, argument_of, is_modes}
use Rattle.sjoin.specs.Entries.{good_entries, named}
use Rattle.sjoin.specs.Join.{list_in, arguments_in, good_count, is_time, join_rules, channel_in}
use Rattle.telling.specs.Telling.{modes_text, list_text, params_of, sjoin}
use Rattle.retelling.specs.Retelling.{TellsBack}
use Rattle.retelling.proofs.Entered.{members-back, list-good}
use Rattle.sjoin.proofs.Judged.{sourced, headed, led, listed}
use Rattle.retelling.proofs.Lettered.{modes-back}

-- ---- key and limit, each there or not
abbrev both : {A : Type 0} → Bool → Bool → A → A → List A
both a b x y = cond a (x ∷ []) [] ++ cond b (y ∷ []) []

fits : (a b : Bool) (k l : List ℕ) → (a ≡ true → is_key k ≡ true) → (b ≡ true → is_limit l ≡ true) → good_arguments (both a b key_letter limit_letter) (both a b k l) ≡ true
unfolding good_arguments good_argument
fits true true k l f g = rw (f refl, g refl)
fits true false k l f g = rw (f refl)
fits false true k l f g = rw (g refl)
fits false false k l f g = refl

key-at : (a b : Bool) (k l : List ℕ) → (a ≡ false → k ≡ []) → get_or (both a b k l) (place_among (both a b key_letter limit_letter) key_letter) [] ≡ k
unfolding place_among
key-at true true k l f = refl
key-at true false k l f = refl
key-at false true k l f = sym (f refl)
key-at false false k l f = sym (f refl)

limit-at : (a b : Bool) (k l : List ℕ) → get_or (both a b k l) (place_among (both a b key_letter limit_letter) limit_letter) [] ≡ cond b l []
unfolding place_among
limit-at true true k l = refl
limit-at true false k l = refl
limit-at false true k l = refl
limit-at false false k l = refl

module _ (c : Channel) (p : Proper c) where
  -- A time that is told is a good one, and read as it was.
  time-back : (is_time (digits_of c.time) ≡ true) × (value_of (digits_of c.time) ≡ c.time)
  unfolding is_time
  time-back = (rw (decimal-digits c.time, value-digits c.time, le-leb c.time time_limit p.until), value-digits c.time)

  -- The members that are told are read as they were, in their order.
  list_back : ordered (named (list_text c.members)) ≡ c.members
  list_back = ap ordered (members-back c.members p.listed) ∙ unite-nil-left by_id c.members p.ascending

module _ (s : Settings) (p : ProperSettings s) where
  key-good : has_mode s.modes key_mode ≡ true → is_key s.key ≡ true
  key-good e = go (is_nil s.key) refl
    where
      go : (t : Bool) → is_nil s.key ≡ t → is_key s.key ≡ true
      go true f = absurd (true≢false (sym e ∙ p.keyed ∙ ap not f))
      go false f = rw f at p.key

  key-none : has_mode s.modes key_mode ≡ false → s.key ≡ []
  key-none e = nil s.key (sym e ∙ p.keyed)
    where
      nil : (k : List ℕ) → false ≡ not (is_nil k) → k ≡ []
      nil [] h = refl
      nil (x ∷ k) h = absurd (true≢false (sym h))

  limit-good : has_mode s.modes limit_mode ≡ true → is_limit (digits_of s.limit) ≡ true
  unfolding is_limit
  limit-good e =
      let h : 0 < s.limit = ltb-true 0 s.limit (sym p.limited ∙ e) in
      rw (decimal-digits s.limit, value-digits s.limit, le-leb 1 s.limit h, le-leb s.limit limit_limit p.limit)

  limit-value : (b : Bool) → has_mode s.modes limit_mode ≡ b → value_of (cond b (digits_of s.limit) []) ≡ s.limit
  unfolding value_from
  limit-value true e = value-digits s.limit
  limit-value false e = let h = ltb-false 0 s.limit (sym p.limited ∙ e) in omega (arith, h)

-- ---- the parameters told, by whether key and limit are there
abbrev content : List ℕ → List ℕ → List (List ℕ) → Content
content sid command params = record { prefix = some sid; command = command; params = params }

shape : (a b : Bool) (sid command t n m k l s : List ℕ) → (good_count (content sid command ((t ∷ n ∷ m ∷ []) ++ cond a (k ∷ []) [] ++ cond b (l ∷ []) [] ++ (s ∷ []))) ≡ true)
    × (arguments_in (content sid command ((t ∷ n ∷ m ∷ []) ++ cond a (k ∷ []) [] ++ cond b (l ∷ []) [] ++ (s ∷ []))) ≡ both a b k l)
    × (list_in (content sid command ((t ∷ n ∷ m ∷ []) ++ cond a (k ∷ []) [] ++ cond b (l ∷ []) [] ++ (s ∷ []))) ≡ s)
unfolding good_count arguments_in
shape true true sid command t n m k l s = (refl, refl, refl)
shape true false sid command t n m k l s = (refl, refl, refl)
shape false true sid command t n m k l s = (refl, refl, refl)
shape false false sid command t n m k l s = (refl, refl, refl)

-- ---- the channel told is the channel
-- The channel that is read of what is told is the channel.
channel-back : (c : Channel) → Proper c → (sid command : List ℕ) → channel_in (content sid command (params_of c)) ≡ c
unfolding channel_in params_of argument_of
channel-back c p sid command =
    let s = c.settings in
    let a = has_mode s.modes key_mode in
    let b = has_mode s.modes limit_mode in
    let sh = shape a b sid command (digits_of c.time) c.name (modes_text s.modes) s.key (digits_of s.limit) (list_text c.members) in
    let mb = modes-back s.modes p.settings.modes in
    rw (sh.1, sh.2, mb.1, mb.2, value-digits c.time, key-at a b s.key (digits_of s.limit) (key-none s p.settings), limit-at a b s.key (digits_of s.limit), limit-value s p.settings b refl, list_back c p)

-- ---- and no rule refuses it
-- No rule refuses what a server tells of a channel.
rules-back : (c : Channel) → Proper c → (sid command : List ℕ) → is_server_id sid ≡ true → accepted ≡ first_of (join_rules (content sid command (params_of c)))
unfolding params_of is_modes prefix_is
rules-back c p sid command h =
    let s = c.settings in
    let a = has_mode s.modes key_mode in
    let b = has_mode s.modes limit_mode in
    let sh = shape a b sid command (digits_of c.time) c.name (modes_text s.modes) s.key (digits_of s.limit) (list_text c.members) in
    let mb = modes-back s.modes p.settings.modes in
    let d = content sid command (params_of c) in
    sym
    (listed d (sym (sourced d sh.0 h))
    (sym
    (led d (sym (headed d (time-back c p).0 (λ e. omega (arith, (time-back c p).1, e, p.from)) p.name))
    (rw (sh.1, mb.0, mb.2) (fits a b s.key (digits_of s.limit) (key-good s p.settings) (limit-good s p.settings)))))
    (ap good_entries sh.2 ∙ list-good c.members (nil-length c.members ∙ ne_eqb (length c.members) 0 (λ e. omega (arith, p.some, e))) p.listed))

-- What a server tells of a channel as document 01 has it reads back as that channel.
pub told_back : (c : Channel) → Proper c → (sid : List ℕ) → is_server_id sid ≡ true → TellsBack sid c
told_back c p sid h = record { rules = sym (rules-back c p sid sjoin h); channel = channel-back c p sid sjoin }
