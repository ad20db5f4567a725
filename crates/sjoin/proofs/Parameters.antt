-- Laws of the parameters of k and l: the letters that have one and the parameters up to the list, each at a place. Assumes nothing.
use Prim.Native.Nat.{ℕ, suc, ◌+◌, ◌-◌, ◌≤◌, ◌<◌}
use mathlib.Core.Path.{◌≡◌, refl, sym, ap, ◌∙◌}
use mathlib.Core.Bool.{Bool, true, false, cond}
use mathlib.Core.List.{List, [], ◌∷◌}
use mathlib.Core.Option as math
use mathlib.Core.Option.{some, none}
use native.Mathlib.Omega.{arith}
use Rattle.std.proofs.Common.{one-add}
use lib.ListN.{length, take, drop, get_or, drop_of_length-le, length-take, length-drop, get_or-eq_default}
use lib.Seq.{get_or-take, get_or-drop}
use lib.Dec.{eqb, ltb}
use borrow.Author.Tests.{eq-eqb, lt-ltb, le-ltb, ltb-true, ltb-false}
use Rattle.std.specs.Prelude.{Option, Some, None}
use Rattle.std.specs.List.{filter, position_or_len}
use Rattle.std.proofs.lemmas.List.Recursion.{is_position_or_len}
use Rattle.refusal.specs.Numbers.{accepted, wrong_mode_params, bad_key, bad_limit}
use Rattle.refusal.specs.declared.Refusal.{Refusal}
use Rattle.refusal.specs.Refusals.{number_of}
use Rattle.refusal.specs.Faults as faults
use Rattle.refusal.specs.Faults.{fault, first_fault}
use Rattle.refusal.proofs.Refusals.{number-given}
use Rattle.laws.proofs.Lists.{drop-step}
use Rattle.channel.specs.Modes.{place_among}
use Rattle.message.specs.declared.Span.{Span}
use Rattle.message.specs.declared.Message.{Message}
use Rattle.message.specs.Grammar.{param_limit}
use Rattle.message.specs.Content.{Content}
use Rattle.message.specs.Parts.{content_by}
use Rattle.message.proofs.SpanContents.{params-count, param-span-some}
use Rattle.sjoin.specs.Modes.{key_letter, letters_of, has_parameter, parametered, good_argument, argument_of}
use Rattle.sjoin.specs.Faults.{Site, Param, End, arguments_at, argument_number, argument_checks, count_checks, site_at}
use Rattle.sjoin.specs.Join.{modes_in, arguments_in}
use Rattle.sjoin.specs.Private.Scanning.{placed, Parted, Matched, up_to}
use Rattle.sjoin.specs.Private.Parts.{found_among}

-- ---- letters that have a parameter, at a place
-- they are those that pass the test
filtered : (s : List ℕ) → filter has_parameter s ≡ parametered s
unfolding parametered
filtered [] = refl
filtered (x ∷ s) = ap (λ (l : List ℕ). cond (has_parameter x) (x ∷ l) l) (filtered s)

pub parametered-are : (modes s : List ℕ) → s ≡ letters_of modes → filter has_parameter s ≡ parametered (letters_of modes)
parametered-are modes s is = rw is (filtered (letters_of modes))

module _ (s : List ℕ) (i : ℕ) where
  -- past the end no letter has a parameter
  pub parametered-past : length s ≤ i → parametered (drop i s) ≡ []
  unfolding parametered
  parametered-past h = rw (drop_of_length-le s {i = i} h)

  module _ (h : i < length s) where
    -- a letter without a parameter is passed over
    pub parametered-skip : has_parameter (get_or s i 0) ≡ false → parametered (drop i s) ≡ parametered (drop (i + 1) s)
    unfolding parametered
    parametered-skip e = rw (drop-step s i 0 h, e)

    -- a letter with a parameter is the first of them
    pub parametered-one : has_parameter (get_or s i 0) ≡ true → parametered (drop i s) ≡ get_or s i 0 ∷ parametered (drop (i + 1) s)
    unfolding parametered
    parametered-one e = rw (drop-step s i 0 h, e)

-- ---- parameters up to the last
module _ (params : List (List ℕ)) (last at : ℕ) where
  -- before the last there is the one at the place, and then those behind it
  pub up_one : at < last → last < length params → up_to last at params ≡ get_or params at [] ∷ up_to last (at + 1) params
  unfolding up_to
  up_one h k = let n : last - at ≡ suc (last - (at + 1)) = omega arith in rw (drop-step params at [] (omega arith), n)

-- those between modes and list
pub arguments-are : (c : Content) (last : ℕ) → length c.params ≡ last + 1 → arguments_in c ≡ up_to last 3 c.params
unfolding arguments_in up_to
arguments-are c last e = let n : length c.params - 4 ≡ last - 3 = omega arith in rw n

-- and how many they are
pub arguments-count : (c : Content) (last : ℕ) → length c.params ≡ last + 1 → length (arguments_in c) ≡ last - 3
unfolding arguments_in
arguments-count c last e = omega (arith, length-take (length c.params - 4) (drop 3 c.params), length-drop 3 c.params, e)

-- ---- how many they are, by the letters that have one
module _ (letters : List ℕ) (args : List (List ℕ)) where
  -- too many: the first surplus one is at fault
  pub count-many : length letters < length args → first_fault (count_checks letters args) ≡ some (fault wrong_mode_params (Param (arguments_at + length letters)))
  unfolding count_checks first_fault
  count-many h = rw (lt-ltb (length letters) (length args) h)

  -- too few: the line's end is at fault
  pub count-few : length args < length letters → first_fault (count_checks letters args) ≡ some (fault wrong_mode_params End)
  unfolding count_checks first_fault
  count-few h = rw (le-ltb (length letters) (length args) (omega (arith, h)), lt-ltb (length args) (length letters) h)

  -- as many: each is judged
  pub count-right : length letters ≡ length args → first_fault (count_checks letters args) ≡ first_fault (argument_checks arguments_at letters args)
  unfolding count_checks first_fault
  count-right h =
      rw (le-ltb (length letters) (length args) (omega (arith, h)), le-ltb (length args) (length letters) (omega (arith, h)), eq-eqb (length letters) (length args) h)

-- and so of a message's own, by the places in its text
module _ (text : List ℕ) (m : Message) (last : ℕ) (modes : List ℕ) (needed : ℕ) (p : Parted (content_by text m) last) (n : needed ≡ length (parametered (letters_of modes))) where
  abbrev pub letters : List ℕ
  letters = parametered (letters_of modes)

  abbrev pub args : List (List ℕ)
  args = arguments_in (content_by text m)

  given : length args ≡ last - 3
  given = arguments-count (content_by text m) last p.count

  -- too many: the first surplus one is at fault
  pub surplus : needed < last - 3 → length m.params ≡ param_limit → (d : Span)
      → some (fault wrong_mode_params (get_or m.params (3 + needed) d).start) ≡ placed (site_at (length text) m) (first_fault (count_checks letters args))
  unfolding placed
  surplus h full d =
      let k = params-count text m full in
      rw (count-many letters args (omega (arith, h, n, given)), ← n)
      (ap (λ (s : Span). some (fault wrong_mode_params s.start)) (param-span-some text m (3 + needed) d (omega (arith, h, p.count, k)) (omega (arith, h, p.few, full))))

  -- too few: the line's end is at fault
  pub missing : last - 3 < needed → some (fault wrong_mode_params (length text - 2)) ≡ placed (site_at (length text) m) (first_fault (count_checks letters args))
  unfolding placed
  missing h = rw (count-few letters args (omega (arith, h, n, given)))

  module _ (h : needed ≡ last - 3) where
    -- as many: each is judged
    pub matched : Matched (content_by text m) modes last
    matched = record { parted = p; exact = omega (arith, h, n, given) }

    pub each : first_fault (argument_checks arguments_at letters args) ≡ first_fault (count_checks letters args)
    each = sym (count-right letters args (omega (arith, h, n, given)))

-- all that a counter of the parameters needs
pub ruleset counting = (surplus, missing, matched, each)

-- ---- each of them, letter by letter
-- What is known before the letter in place i is looked at, where the next parameter is in place `at`: there are as many parameters left as letters that have one, and of these
-- the first fault is that of all.
pub record Weighed (c : Content) (last : ℕ) (letters : List ℕ) (i at : ℕ) (given : math.Option (faults.Fault Site)) : Type 0 where
  pub wants : at + length (parametered (drop i letters)) ≡ last
  pub few : last < param_limit
  pub count : length c.params ≡ last + 1
  pub is : first_fault (argument_checks at (parametered (drop i letters)) (up_to last at c.params)) ≡ given

-- before the first
pub weighed-first : (c : Content) (last : ℕ) (modes letters : List ℕ) → Matched c modes last → letters ≡ letters_of modes
    → Weighed c last letters 0 3 (first_fault (argument_checks arguments_at (parametered (letters_of modes)) (arguments_in c)))
weighed-first c last modes letters h e =
    let p = h.parted in record {
      wants = omega (arith, ap (λ (l : List ℕ). length (parametered l)) e, h.exact, p.behind, arguments-count c last p.count);
      few = p.few;
      count = p.count;
      is = rw (e, arguments-are c last p.count);
    }

-- what a test of a parameter tells
told-bad : (e : Refusal) (t : Bool) (n : ℕ) → number_of e ≡ cond t accepted n → (t ≡ false) × (number_of e ≡ n)
told-bad e true n h = absurd (number-given e h)
told-bad e false n h = (refl, h)

told-good : (t : Bool) (x : ℕ) → accepted ≡ cond t accepted (argument_number x) → t ≡ true
told-good true x h = refl
told-good false x h = go (eqb x key_letter) h
  where
    go : (u : Bool) → accepted ≡ cond u bad_key bad_limit → false ≡ true
    go true z = absurd (omega (arith, z))
    go false z = absurd (omega (arith, z))

module _ (c : Content) (last : ℕ) (letters : List ℕ) (i at : ℕ) (given : math.Option (faults.Fault Site)) (w : Weighed c last letters i at given) where
  -- past the last letter there is no fault
  pub weighed-over : (f : Site → ℕ) → length letters ≤ i → none ≡ placed f given
  unfolding argument_checks first_fault placed
  weighed-over f h = rw (← w.is, parametered-past letters i h)

  module _ (h : i < length letters) where
    -- a letter without a parameter changes nothing
    pub weighed-skip : has_parameter (get_or letters i 0) ≡ false → Weighed c last letters (i + 1) at given
    weighed-skip e = let s = parametered-skip letters i h e in record { wants = rw (← s) w.wants; few = w.few; count = w.count; is = rw (← s) w.is }

    -- a letter with a parameter takes the one at `at`, which is there
    module _ (e : has_parameter (get_or letters i 0) ≡ true) where
      wants : at + suc (length (parametered (drop (i + 1) letters))) ≡ last
      wants = omega (arith, w.wants, ap (λ (l : List ℕ). length l) (parametered-one letters i h e))

      pub weighed-there : at < param_limit
      weighed-there = omega (arith, wants, w.few)

      here : up_to last at c.params ≡ get_or c.params at [] ∷ up_to last (at + 1) c.params
      here = up_one c.params last at (omega (arith, wants)) (omega (arith, w.count))

      -- it is bad
      bad : (k : ℕ) → (good_argument (get_or letters i 0) (get_or c.params at []) ≡ false) × (k ≡ argument_number (get_or letters i 0)) → given ≡ some (fault k (Param at))
      unfolding argument_checks first_fault
      bad k b = sym w.is ∙ rw (parametered-one letters i h e, here, b.0, b.1)

      -- or good, and the others take those behind it
      pub weighed-good : (a : List ℕ) → a ≡ get_or c.params at [] → accepted ≡ cond (good_argument (get_or letters i 0) a) accepted (argument_number (get_or letters i 0))
          → Weighed c last letters (i + 1) (at + 1) given
      unfolding argument_checks first_fault
      weighed-good a is g =
          let t = told-good (good_argument (get_or letters i 0) a) (get_or letters i 0) g in record {
            wants = omega (arith, wants);
            few = w.few;
            count = w.count;
            is = sym (sym w.is ∙ rw (parametered-one letters i h e, here, ← is, t));
          }

-- where one is bad its place is where its span begins
pub weighed-bad : (text : List ℕ) (m : Message) (last : ℕ) (letters : List ℕ) (i at : ℕ) (given : math.Option (faults.Fault Site)) → Weighed (content_by text m) last letters i at given → i < length letters
    → has_parameter (get_or letters i 0) ≡ true → (a : List ℕ) → a ≡ get_or (content_by text m).params at []
    → (r : Refusal) → number_of r ≡ cond (good_argument (get_or letters i 0) a) accepted (argument_number (get_or letters i 0)) → length m.params ≡ param_limit → (d : Span)
    → some (fault (number_of r) (get_or m.params at d).start) ≡ placed (site_at (length text) m) given
unfolding placed
weighed-bad text m last letters i at given w h e a is r b full d =
    let n = params-count text m full in
    let there = weighed-there (content_by text m) last letters i at given w h e in
    let t = told-bad r (good_argument (get_or letters i 0) a) (argument_number (get_or letters i 0)) b in
    rw (bad (content_by text m) last letters i at given w h e (number_of r) (sym (ap (good_argument (get_or letters i 0)) is) ∙ t.0, t.1))
    (ap (λ (s : Span). some (fault (number_of r) s.start)) (param-span-some text m at d (omega (arith, wants (content_by text m) last letters i at given w h e, w.count, n)) (omega (arith, there, full))))

-- all that a reader of the parameters needs
pub ruleset weighing = (weighed-over, weighed-there, weighed-bad)

-- ---- a letter's parameter
-- a place among some letters is the one that is looked for
place-is : (letter : ℕ) (s : List ℕ) → place_among s letter ≡ position_or_len (λ x. eqb x letter) s
unfolding place_among
place-is letter s = is_position_or_len (λ l. place_among l letter) (λ x. eqb x letter) refl (λ x l. rw one-add) s

-- within the part up to the last, a parameter is the one so many places on
pub up_at : (params : List (List ℕ)) (last at k : ℕ) → k < last - at → get_or (up_to last at params) k [] ≡ get_or params (at + k) []
unfolding up_to
up_at params last at k h = get_or-take (last - at) (drop at params) k [] h ∙ get_or-drop at params k []

-- the letters' places and their parameters
module _ (c : Content) (last letter : ℕ) (modes : List ℕ) (h : Matched c (modes_in c) last) (reads : modes ≡ modes_in c) where
  among : List ℕ
  among = parametered (letters_of (modes_in c))

  argument-at : (place : ℕ) → place_among among letter ≡ place → argument_of letter (modes_in c) (arguments_in c) ≡ get_or (up_to last 3 c.params) place []
  unfolding argument_of among
  argument-at place e = rw (arguments-are c last h.parted.count, e)

  cases : (p : ℕ) → place_among among letter ≡ p → found_among letter among ≡ cond (ltb p (length among)) (Some p) None
  unfolding found_among
  cases p e = let q = sym (place-is letter among) ∙ e in rw q

  found : (place : ℕ) → found_among letter (parametered (letters_of modes)) ≡ Some place → (place_among among letter ≡ place) × (place < length among)
  unfolding among
  found place e = go (ltb (place_among among letter) (length among)) refl
    where
      go : (t : Bool) → ltb (place_among among letter) (length among) ≡ t → (place_among among letter ≡ place) × (place < length among)
      go true f =
          let q : Some (place_among among letter) ≡ Some place = sym (cases _ refl ∙ rw f) ∙ rw reads at e in
          let is : place_among among letter ≡ place = cc in (is, omega (arith, ltb-true (place_among among letter) (length among) f, is))
      go false f = let q : ◌≡◌ {A = Option ℕ} None (Some place) = sym (cases _ refl ∙ rw f) ∙ rw reads at e in let z : ◌≡◌ {A = ℕ} 0 1 = cc in absurd (omega arith)

  -- where a letter has one, it is the parameter in the letter's place, before the list
  pub argument_before : (place : ℕ) → found_among letter (parametered (letters_of modes)) ≡ Some place → 3 + place < last
  unfolding among
  argument_before place e = omega (arith, (found place e).1, h.exact, arguments-count c last h.parted.count)

  pub argument_there : (place : ℕ) → found_among letter (parametered (letters_of modes)) ≡ Some place → get_or c.params (3 + place) [] ≡ argument_of letter (modes_in c) (arguments_in c)
  argument_there place e = sym (argument-at place (found place e).0 ∙ up_at c.params last 3 place (omega (arith, argument_before place e)))

  -- where it has none, there is none
  pub argument_none : found_among letter (parametered (letters_of modes)) ≡ None → [] ≡ argument_of letter (modes_in c) (arguments_in c)
  unfolding among up_to
  argument_none e = go (ltb (place_among among letter) (length among)) refl
    where
      go : (t : Bool) → ltb (place_among among letter) (length among) ≡ t → [] ≡ argument_of letter (modes_in c) (arguments_in c)
      go true f = let q : ◌≡◌ {A = Option ℕ} (Some (place_among among letter)) None = sym (cases _ refl ∙ rw f) ∙ rw reads at e in let z : ◌≡◌ {A = ℕ} 0 1 = cc in absurd (omega arith)
      go false f =
          sym (argument-at _ refl
          ∙ get_or-eq_default (take (last - 3) (drop 3 c.params)) [] {n = place_among among letter} (omega (arith, ltb-false (place_among among letter) (length among) f, h.exact, arguments-count c last h.parted.count, length-take (last - 3) (drop 3 c.params))))
