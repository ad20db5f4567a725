-- Laws of what is wrong with modes: there is no fault exactly if the modes are good by document 01's words, and the number of a fault is one of theirs. Assumes nothing.
use Prim.Native.Nat.{ℕ, suc, ◌+◌, ◌-◌, ◌≤◌, ◌<◌}
use mathlib.Core.Path.{◌≡◌, refl, sym, ap, ◌∙◌}
use mathlib.Core.Bool.{Bool, true, false, not, cond, ◌&&◌, and-false, and-true, and_assoc, and_comm}
use mathlib.Core.List.{List, [], ◌∷◌, map}
use mathlib.Core.Option.{Option, some, none}
use native.Mathlib.Omega.{arith}
use lib.ListN.{length, drop, get_or, length-take, length-drop}
use lib.Dec.{eqb, leb, ltb}
use borrow.Author.Tests.{eq-eqb, eqb-true, eqb-false, lt-ltb, le-ltb, leb-true, ltb-false}
use Rattle.refusal.specs.Numbers.{accepted, unknown_mode, bad_key, bad_limit, mode_numbers, is_mode_number}
use Rattle.refusal.specs.Rules.{◌when◌, first_of}
use Rattle.refusal.specs.Faults.{Fault, fault, number_of, first_fault}
use Rattle.refusal.proofs.Faults.{absent, absent-append, absent_none, none-absent, given-some, append-given, append-passed, Every, every_append, every_given}
use Rattle.laws.specs.Lists.{all, starts_with}
use Rattle.laws.proofs.Bools.{and_left, and_right, and-swap, eqb_swap}
use Rattle.octets.specs.Room.{part}
use Rattle.message.specs.declared.Span.{Span}
use Rattle.message.specs.declared.Message.{Message}
use Rattle.message.specs.Grammar.{param_limit}
use Rattle.message.specs.Content.{Content}
use Rattle.message.specs.Parts.{content_by, param_span}
use Rattle.message.proofs.SpanContents.{params-count, param-held, param-span-some}
use Rattle.channel.specs.Modes.{plus}
use Rattle.sjoin.specs.Modes.{key_letter, letters_of, is_mode, lacks, once, good_letters, parametered, good_argument, good_arguments, is_modes}
use Rattle.sjoin.specs.Faults.{Site, Letter, Param, End, modes_at, arguments_at, site_at, letter_checks, own_checks, argument_number, argument_checks, count_checks, modes_checks, modes_fault}
use Rattle.sjoin.specs.Join.{modes_in, arguments_in, fault_in, mode_rules}
use Rattle.sjoin.specs.Private.Scanning.{letter_place, placed, Parted}

-- ---- the letters
-- none of some letters is one of others
abbrev apart : List ℕ → List ℕ → Bool
apart before s = all (λ x. lacks x before) s

apart_more : (x : ℕ) (before s : List ℕ) → apart (x ∷ before) s ≡ apart before s && lacks x s
unfolding all
apart_more x before [] = refl
apart_more x before (y ∷ s) =
    rw (apart_more x before s, eqb_swap x y) (ap (λ (t : Bool). t && (apart before s && lacks x s)) (and_comm (not (eqb y x)) (lacks y before)) ∙ and-swap (lacks y before) (not (eqb y x)) (apart before s) (lacks x s))

apart_none : (s : List ℕ) → apart [] s ≡ true
unfolding all
apart_none [] = refl
apart_none (x ∷ s) = apart_none s

shuffle : (n a o u k : Bool) → n && (a && (o && (u && k))) ≡ a && ((k && o) && (n && u))
shuffle true a o u k = ap (λ (t : Bool). a && t) (sym (and_assoc o u k) ∙ and_comm (o && u) k ∙ sym (and_assoc k o u))
shuffle false a o u k = sym (rw (and-false (k && o), and-false a))

twice-not : (t : Bool) → not (not t) ≡ t
twice-not true = refl
twice-not false = refl

letters-absent : (s before : List ℕ) (i : ℕ) → absent (letter_checks before i s) ≡ all is_mode s && (once s && apart before s)
unfolding letter_checks all once
letters-absent [] before i = refl
letters-absent (x ∷ s) before i = go (is_mode x) refl (letters-absent s (x ∷ before) (i + 1))
  where
    go : (t : Bool) → is_mode x ≡ t → absent (letter_checks (x ∷ before) (i + 1) s) ≡ all is_mode s && (once s && apart (x ∷ before) s)
        → absent (letter_checks before i (x ∷ s)) ≡ all is_mode (x ∷ s) && (once (x ∷ s) && apart before (x ∷ s))
    go true e ih =
        rw (e, twice-not (lacks x before))
        (ap (λ (t : Bool). lacks x before && t) (ih ∙ ap (λ (t : Bool). all is_mode s && (once s && t)) (apart_more x before s))
        ∙ shuffle (lacks x before) (all is_mode s) (once s) (apart before s) (lacks x s))
    go false e ih = rw e

-- no letter is at fault exactly if all are good
sign-absent : (modes : List ℕ) → absent (own_checks modes) ≡ good_letters modes
unfolding own_checks good_letters
sign-absent modes = rw (twice-not (starts_with plus modes), letters-absent (letters_of modes) [] 1, apart_none (letters_of modes), and-true (once (letters_of modes)))

-- ---- their parameters
arguments-absent : (letters : List ℕ) (args : List (List ℕ)) (k : ℕ) → length letters ≡ length args → absent (argument_checks k letters args) ≡ good_arguments letters args
unfolding argument_checks good_arguments
arguments-absent [] [] k e = refl
arguments-absent [] (a ∷ args) k e = absurd (omega (arith, e))
arguments-absent (x ∷ s) [] k e = absurd (omega (arith, e))
arguments-absent (x ∷ s) (a ∷ args) k e = rw (twice-not (good_argument x a), arguments-absent s args (k + 1) (omega (arith, e)))

-- too few and too many are bad
arguments-uneven : (letters : List ℕ) (args : List (List ℕ)) → (length letters ≡ length args → ⊥) → good_arguments letters args ≡ false
unfolding good_arguments
arguments-uneven [] [] ne = absurd (ne refl)
arguments-uneven [] (a ∷ args) ne = refl
arguments-uneven (x ∷ s) [] ne = refl
arguments-uneven (x ∷ s) (a ∷ args) ne = rw (arguments-uneven s args (λ e. ne (ap suc e))) (and-false (good_argument x a))

-- no parameter is at fault exactly if there are as many as letters that have one, each good for its letter
count-absent : (letters : List ℕ) (args : List (List ℕ)) → absent (count_checks letters args) ≡ good_arguments letters args
unfolding count_checks
count-absent letters args = go (eqb (length letters) (length args)) refl (ltb (length letters) (length args)) refl
  where
    go : (t : Bool) → eqb (length letters) (length args) ≡ t → (u : Bool) → ltb (length letters) (length args) ≡ u → absent (count_checks letters args) ≡ good_arguments letters args
    go true e u f =
        let n : length letters ≡ length args = eqb-true (length letters) (length args) e in
        rw (e, le-ltb (length letters) (length args) (omega (arith, n)), le-ltb (length args) (length letters) (omega (arith, n))) (arguments-absent letters args arguments_at n)
    go false e true f = rw f (sym (arguments-uneven letters args (eqb-false (length letters) (length args) e)))
    go false e false f =
        let ne : length letters ≡ length args → ⊥ = eqb-false (length letters) (length args) e in
        rw (f, lt-ltb (length args) (length letters) (omega (arith, ltb-false (length letters) (length args) f, ne))) (sym (arguments-uneven letters args ne))

-- ---- all of them
-- There is no fault exactly if the modes are good, and so are their parameters.
pub modes-absent : (modes : List ℕ) (args : List (List ℕ)) → absent (modes_checks modes args) ≡ is_modes modes args
unfolding modes_checks is_modes
modes-absent modes args =
    absent-append (own_checks modes) (count_checks (parametered (letters_of modes)) args)
    ∙ rw (sign-absent modes, count-absent (parametered (letters_of modes)) args)

-- so a fault is given exactly if they aren't
pub modes-good : (c : Content) → is_modes (modes_in c) (arguments_in c) ≡ true → fault_in c ≡ none
modes-good c e = absent_none (modes_checks (modes_in c) (arguments_in c)) (modes-absent (modes_in c) (arguments_in c) ∙ e)

pub good-modes : (c : Content) → fault_in c ≡ none → is_modes (modes_in c) (arguments_in c) ≡ true
good-modes c e = sym (modes-absent (modes_in c) (arguments_in c)) ∙ none-absent (modes_checks (modes_in c) (arguments_in c)) e

-- ---- the number of a fault
-- it is one of theirs
abbrev Numbered : Fault Site → Type 0
Numbered f = is_mode_number f.number ≡ true

letters-numbered : (s before : List ℕ) (i : ℕ) → Every Numbered (letter_checks before i s)
unfolding letter_checks
letters-numbered [] before i = tt
letters-numbered (x ∷ s) before i = (λ _. refl, (λ _. refl, letters-numbered s (x ∷ before) (i + 1)))

sign-numbered : (modes : List ℕ) → Every Numbered (own_checks modes)
unfolding own_checks
sign-numbered modes = (λ _. refl, letters-numbered (letters_of modes) [] 1)

argument-numbered : (x : ℕ) → is_mode_number (argument_number x) ≡ true
argument-numbered x = go (eqb x key_letter)
  where
    go : (t : Bool) → is_mode_number (cond t bad_key bad_limit) ≡ true
    go true = refl
    go false = refl

arguments-numbered : (letters : List ℕ) (args : List (List ℕ)) (k : ℕ) → Every Numbered (argument_checks k letters args)
unfolding argument_checks
arguments-numbered [] args k = tt
arguments-numbered (x ∷ s) [] k = tt
arguments-numbered (x ∷ s) (a ∷ args) k = (λ _. argument-numbered x, arguments-numbered s args (k + 1))

count-numbered : (letters : List ℕ) (args : List (List ℕ)) → Every Numbered (count_checks letters args)
unfolding count_checks
count-numbered letters args = (λ _. refl, (λ _. refl, go (eqb (length letters) (length args))))
  where
    go : (t : Bool) → Every Numbered (cond t (argument_checks arguments_at letters args) [])
    go true = arguments-numbered letters args arguments_at
    go false = tt

pub fault-numbered : (modes : List ℕ) (args : List (List ℕ)) (f : Fault Site) → modes_fault modes args ≡ some f → is_mode_number f.number ≡ true
unfolding modes_checks
fault-numbered modes args f e =
    let letters = parametered (letters_of modes) in
    every_given Numbered (modes_checks modes args) f (every_append Numbered (own_checks modes) (count_checks letters args) (sign-numbered modes) (count-numbered letters args)) e

pub letter-numbered : (modes : List ℕ) (f : Fault Site) → first_fault (own_checks modes) ≡ some f → is_mode_number f.number ≡ true
letter-numbered modes f e = every_given Numbered (own_checks modes) f (sign-numbered modes) e

-- one of theirs is no other number
mode-bounds : (n : ℕ) → is_mode_number n ≡ true → (unknown_mode ≤ n) × (n ≤ bad_limit)
mode-bounds n e = (leb-true unknown_mode n (and_left (leb unknown_mode n) (leb n bad_limit) e), leb-true n bad_limit (and_right (leb unknown_mode n) (leb n bad_limit) e))

pub mode-some : (n : ℕ) → is_mode_number n ≡ true → n ≡ accepted → ⊥
mode-some n e z = omega (arith, (mode-bounds n e).0, z)

-- The rules of modes give the number of their fault.
rules-given : (n : ℕ) → is_mode_number n ≡ true → first_of (map (λ (k : ℕ). k when eqb k n) mode_numbers) ≡ n
unfolding first_of
rules-given n e = go (eqb 32 n) refl (eqb 33 n) refl (eqb 34 n) refl (eqb 35 n) refl
  where
    go : (a : Bool) → eqb 32 n ≡ a → (b : Bool) → eqb 33 n ≡ b → (c : Bool) → eqb 34 n ≡ c → (d : Bool) → eqb 35 n ≡ d → first_of (map (λ (k : ℕ). k when eqb k n) mode_numbers) ≡ n
    go true f b g c h d i = rw f (eqb-true 32 n f)
    go false f true g c h d i = rw (f, g) (eqb-true 33 n g)
    go false f false g true h d i = rw (f, g, h) (eqb-true 34 n h)
    go false f false g false h true i = rw (f, g, h, i) (eqb-true 35 n i)
    go false f false g false h false i =
        let is : 36 ≡ n = omega (arith, mode-bounds n e, eqb-false 32 n f, eqb-false 33 n g, eqb-false 34 n h, eqb-false 35 n i) in
        rw (f, g, h, i, eq-eqb 36 n is) is

pub mode-number : (c : Content) → first_of (mode_rules c) ≡ number_of (fault_in c)
unfolding mode_rules first_of
mode-number c = go (fault_in c) refl
  where
    go : (o : Option (Fault Site)) → fault_in c ≡ o → first_of (map (λ (k : ℕ). k when eqb k (number_of o)) mode_numbers) ≡ number_of o
    go none e = refl
    go (some f) e = rules-given f.number (fault-numbered (modes_in c) (arguments_in c) f e)

-- Where none of them applies there is no fault, and else its number is one of theirs.
pub mode-none : (c : Content) → first_of (mode_rules c) ≡ accepted → fault_in c ≡ none
mode-none c e = go (fault_in c) refl
  where
    go : (o : Option (Fault Site)) → fault_in c ≡ o → fault_in c ≡ none
    go none f = f
    go (some x) f = absurd (mode-some x.number (fault-numbered (modes_in c) (arguments_in c) x f) (ap number_of (sym f) ∙ sym (mode-number c) ∙ e))

pub mode-given : (c : Content) → (first_of (mode_rules c) ≡ accepted → ⊥) → is_mode_number (first_of (mode_rules c)) ≡ true
mode-given c ne = go (fault_in c) refl
  where
    go : (o : Option (Fault Site)) → fault_in c ≡ o → is_mode_number (first_of (mode_rules c)) ≡ true
    go none f = absurd (ne (mode-number c ∙ ap number_of f))
    go (some x) f = rw (mode-number c ∙ ap number_of f) (fault-numbered (modes_in c) (arguments_in c) x f)

-- ---- the letter of a fault
-- the site is a letter, before place n of the modes
abbrev pub LetterBefore : ℕ → Site → Type 0
LetterBefore n (Letter i) = i < n
LetterBefore n (Param k) = ⊥
LetterBefore n End = ⊥

letters-within : (s before : List ℕ) (i n : ℕ) → i + length s ≤ n → Every (λ f. LetterBefore n f.place) (letter_checks before i s)
unfolding letter_checks
letters-within [] before i n h = tt
letters-within (x ∷ s) before i n h = (λ _. omega (arith, h), (λ _. omega (arith, h), letters-within s (x ∷ before) (i + 1) n (omega (arith, h))))

-- Every fault of the letters is in one of them, or in the first byte.
pub sign-within : (modes : List ℕ) → Every (λ f. LetterBefore (suc (length (letters_of modes))) f.place) (own_checks modes)
unfolding own_checks
sign-within modes = (λ _. omega arith, letters-within (letters_of modes) [] 1 (suc (length (letters_of modes))) (omega arith))

pub letter-found : (modes : List ℕ) (f : Fault Site) → first_fault (own_checks modes) ≡ some f → (f.place ≡ Letter (letter_place f.place)) × (letter_place f.place < suc (length (letters_of modes)))
letter-found modes f e = go f.place (every_given _ (own_checks modes) f (sign-within modes) e)
  where
    go : (p : Site) → LetterBefore (suc (length (letters_of modes))) p → (p ≡ Letter (letter_place p)) × (letter_place p < suc (length (letters_of modes)))
    go (Letter i) h = (refl, h)
    go (Param k) h = absurd h
    go End h = absurd h

-- ---- the letters' faults, in a text
-- where one is told it stands in the modes, or they are empty
placed-within : (modes : List ℕ) (f : Fault ℕ) → some f ≡ placed letter_place (first_fault (own_checks modes)) → f.place < suc (length (letters_of modes))
unfolding placed
placed-within modes f e = go (first_fault (own_checks modes)) refl e
  where
    go : (o : Option (Fault Site)) → first_fault (own_checks modes) ≡ o → some f ≡ placed letter_place o → f.place < suc (length (letters_of modes))
    go none g h = given-some h
    go (some x) g h = let same : f ≡ fault x.number (letter_place x.place) = cc in omega (arith, ap (λ (y : Fault ℕ). y.place) same, (letter-found modes x g).1)

module _ (text : List ℕ) (m : Message) (last : ℕ) (p : Parted (content_by text m) last) (full : length m.params ≡ param_limit) (d : Span) (modes : List ℕ) (is : modes ≡ modes_in (content_by text m)) where
  abbrev start : ℕ
  start = (get_or m.params modes_at d).start

  begins : get_or m.params modes_at d ≡ param_span (length text) m modes_at
  begins = let n = params-count text m full in param-span-some text m modes_at d (omega (arith, n, p.count, p.behind)) (omega (arith, full))

  -- a fault of the letters stands within it
  pub letters-inside : (f : Fault ℕ) → some f ≡ placed letter_place (first_fault (own_checks modes)) → (limit : ℕ) → start < limit → length text < limit → start + f.place < limit
  unfolding placed part
  letters-inside f e limit h g =
      let s = get_or m.params modes_at d in
      let held = ap (λ (l : List ℕ). length l) (is ∙ sym (ap (λ (x : Span). part text x.start x.end) begins ∙ param-held text m modes_at)) in
      let at = placed-within modes f e in
      omega (arith, h, g, held, at, length-take (s.end - s.start) (drop s.start text), length-drop s.start text, length-drop 1 modes)

  -- a fault of the letters is that of the modes
  pub letters-decide : (f : Fault ℕ) → some f ≡ placed letter_place (first_fault (own_checks modes)) → some (fault f.number (start + f.place)) ≡ placed (site_at (length text) m) (fault_in (content_by text m))
  unfolding placed modes_checks
  letters-decide f e = go (first_fault (own_checks modes)) refl e
    where
      go : (o : Option (Fault Site)) → first_fault (own_checks modes) ≡ o → some f ≡ placed letter_place o → some (fault f.number (start + f.place)) ≡ placed (site_at (length text) m) (fault_in (content_by text m))
      go none g h = given-some h
      go (some x) g h =
          let c = content_by text m in
          let found = (letter-found modes x g).0 in
          let at : start + letter_place x.place ≡ site_at (length text) m x.place =
          ap (λ (s : Span). s.start + letter_place x.place) begins ∙ ap (site_at (length text) m) (sym found) in
          let same : f ≡ fault x.number (letter_place x.place) = cc in
          ap (λ (g : Fault ℕ). some (fault g.number (start + g.place))) same ∙ rw (append-given (own_checks (modes_in c)) (count_checks (parametered (letters_of (modes_in c))) (arguments_in c)) x (ap (λ (l : List ℕ). first_fault (own_checks l)) (sym is) ∙ g), at)

  -- and where they have none, what follows decides
  pub letters-pass : none ≡ placed letter_place (first_fault (own_checks modes))
      → placed (site_at (length text) m) (first_fault (count_checks (parametered (letters_of modes)) (arguments_in (content_by text m)))) ≡ placed (site_at (length text) m) (fault_in (content_by text m))
  unfolding placed modes_checks
  letters-pass e = go (first_fault (own_checks modes)) refl e
    where
      go : (o : Option (Fault Site)) → first_fault (own_checks modes) ≡ o → none ≡ placed letter_place o
          → placed (site_at (length text) m) (first_fault (count_checks (parametered (letters_of modes)) (arguments_in (content_by text m)))) ≡ placed (site_at (length text) m) (fault_in (content_by text m))
      go none g h =
          let c = content_by text m in
          ap (placed (site_at (length text) m))
          (ap (λ (l : List ℕ). first_fault (count_checks (parametered (letters_of l)) (arguments_in c))) is
          ∙ sym (append-passed (own_checks (modes_in c)) (count_checks (parametered (letters_of (modes_in c))) (arguments_in c)) (ap (λ (l : List ℕ). first_fault (own_checks l)) (sym is) ∙ g)))
      go (some x) g h = given-some (sym h)
