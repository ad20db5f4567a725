-- Laws of mode letters: a byte of the modes seen so far tells whether a letter comes again, and their bits united are the modes' byte. Assumes nothing.
use Prim.Native.Nat.{ℕ, ◌+◌, ◌≤◌, ◌<◌}
use mathlib.Core.Path.{◌≡◌, refl, sym, ap, ◌∙◌}
use mathlib.Core.Bool.{Bool, true, false, not, cond, or_comm, and-true}
use mathlib.Core.List.{List, [], ◌∷◌}
use mathlib.Core.Option.{Option, some, none}
use native.Mathlib.Omega.{arith}
use lib.Bits.{bit_or, or_zero_l, or_zero_r}
use lib.ListN.{length, take, drop, get_or, drop_of_length-le}
use lib.Dec.{eqb}
use borrow.Author.Tests.{eq-eqb, eqb-true, ltb-true}
use Rattle.std.specs.Prelude.{Some, None}
use Rattle.std.specs.List.{fold}
use Rattle.std.specs.Cmp.Lexicographic.{pointwise}
use Rattle.refusal.specs.Numbers.{unknown_mode, mode_twice}
use Rattle.refusal.specs.Faults.{Fault, fault, first_fault}
use Rattle.laws.specs.Lists.{all, starts_with}
use Rattle.laws.specs.Joins.{total}
use Rattle.laws.proofs.Bools.{both_ways, or-not, eqb_swap}
use Rattle.laws.proofs.Lists.{drop-step}
use Rattle.laws.proofs.Joins.{joining-bits}
use Rattle.channel.specs.Modes.{letters, mode_count, has_mode, with_mode, mode_place, place_of, plus}
use Rattle.channel.proofs.Letters.{has-no-mode, has-with, with-union, place_found}
use Rattle.sjoin.specs.Modes.{letters_of, is_mode, lacks, modes_byte}
use Rattle.sjoin.specs.Faults.{Site, Letter, letter_checks, own_checks}
use Rattle.sjoin.specs.Private.Scanning.{seen_checks, letter_place, placed}

-- ---- a letter's place
-- a mode's place is no other letter's
pub same_place : (x y : ℕ) → is_mode x ≡ true → eqb (mode_place y) (mode_place x) ≡ eqb y x
same_place x y m =
    both_ways (eqb (mode_place y) (mode_place x)) (eqb y x)
    (λ e.
    let p : mode_place y ≡ mode_place x = eqb-true (mode_place y) (mode_place x) e in
    let h : mode_place x < 8 = ltb-true (mode_place x) mode_count m in
    eq-eqb y x (sym (place_found letters y (omega arith)) ∙ ap (λ (k : ℕ). get_or letters k 0) p ∙ place_found letters x h))
    (λ e. eq-eqb (mode_place y) (mode_place x) (ap mode_place (eqb-true y x e)))

-- what is said of a letter's place
place-some : (x mode : ℕ) → Some mode ≡ place_of x → (is_mode x ≡ true) × (mode ≡ mode_place x)
place-some x mode e = go (is_mode x) refl
  where
    go : (t : Bool) → is_mode x ≡ t → (is_mode x ≡ true) × (mode ≡ mode_place x)
    go true h = let f : Some mode ≡ Some (mode_place x) = e ∙ rw h in (h, cc)
    go false h = let f : Some mode ≡ None = e ∙ rw h in let z : ◌≡◌ {A = ℕ} 0 1 = cc in absurd (omega arith)

place-none : (x : ℕ) → None ≡ place_of x → is_mode x ≡ false
place-none x e = go (is_mode x) refl
  where
    go : (t : Bool) → is_mode x ≡ t → is_mode x ≡ false
    go true h = let f : None ≡ Some (mode_place x) = e ∙ rw h in let z : ◌≡◌ {A = ℕ} 0 1 = cc in absurd (omega arith)
    go false h = h

-- ---- letters that a byte has
-- of the modes the byte has those of some letters, and no other
abbrev Sees : ℕ → List ℕ → Type 0
Sees seen before = (y : ℕ) → is_mode y ≡ true → has_mode seen (mode_place y) ≡ not (lacks y before)

sees-none : Sees 0 []
unfolding all
sees-none y m = has-no-mode (mode_place y)

sees_more : (seen : ℕ) (before : List ℕ) (x : ℕ) → is_mode x ≡ true → Sees seen before → Sees (with_mode seen (mode_place x)) (x ∷ before)
unfolding all
sees_more seen before x m h y n =
    has-with seen (mode_place x) (mode_place y) (ltb-true (mode_place x) mode_count m)
    ∙ rw (h y n, same_place x y m, eqb_swap y x) (or_comm (not (lacks y before)) (eqb x y) ∙ or-not (eqb x y) (lacks y before))

-- so it tells which letter stands there before
seen-letters : (s : List ℕ) (seen i : ℕ) (before : List ℕ) → Sees seen before → first_fault (seen_checks seen i s) ≡ first_fault (letter_checks before i s)
unfolding seen_checks letter_checks first_fault
seen-letters [] seen i before h = refl
seen-letters (x ∷ s) seen i before h = go (is_mode x) refl (λ m. seen-letters s (with_mode seen (mode_place x)) (i + 1) (x ∷ before) (sees_more seen before x m h))
  where
    go : (t : Bool) → is_mode x ≡ t
        → (is_mode x ≡ true → first_fault (seen_checks (with_mode seen (mode_place x)) (i + 1) s) ≡ first_fault (letter_checks (x ∷ before) (i + 1) s))
        → first_fault (seen_checks seen i (x ∷ s)) ≡ first_fault (letter_checks before i (x ∷ s))
    go true e ih = rw (e, h x e) (ap (λ (o : Option (Fault Site)). cond (not (lacks x before)) (some (fault mode_twice (Letter i))) o) (ih e))
    go false e ih = rw e

-- ---- the first letter at fault
-- whether a mark stands in front, as the code tests it
pub begins : (mark : ℕ) (s : List ℕ) → pointwise eqb (take 1 s) (mark ∷ []) ≡ starts_with mark s
unfolding starts_with
begins mark [] = refl
begins mark (x ∷ s) = and-true (eqb x mark)

-- without it that is the first byte
pub sign-missing : (s : List ℕ) → starts_with plus s ≡ false → first_fault (own_checks s) ≡ some (fault unknown_mode (Letter 0))
unfolding own_checks first_fault
sign-missing s e = rw e

-- behind it the first that is no mode, or a mode that was seen
pub sign-seen : (s : List ℕ) → starts_with plus s ≡ true → first_fault (own_checks s) ≡ first_fault (seen_checks 0 1 (drop 1 s))
unfolding own_checks first_fault
sign-seen s e = rw e (sym (seen-letters (drop 1 s) 0 1 [] sees-none))

-- the first fault of the letters from place i on, behind those seen; they stand behind '+'
abbrev pub left : List ℕ → ℕ → ℕ → Option (Fault Site)
left letters i seen = first_fault (seen_checks seen (i + 1) (drop i letters))

module _ (modes : List ℕ) where
  -- where the modes begin with another byte it is at fault
  pub unsigned : pointwise eqb (take 1 modes) (plus ∷ []) ≡ false → some (fault unknown_mode 0) ≡ placed letter_place (first_fault (own_checks modes))
  unfolding placed
  unsigned e = rw (sign-missing modes (sym (begins plus modes) ∙ e))

  -- and else a letter behind '+' may be
  pub begun : (letters : List ℕ) → pointwise eqb (take 1 modes) (plus ∷ []) ≡ true → letters ≡ drop 1 modes → left letters 0 0 ≡ first_fault (own_checks modes)
  begun letters e is = rw is (sym (sign-seen modes (sym (begins plus modes) ∙ e)))

module _ (letters : List ℕ) (i seen : ℕ) (given : Option (Fault Site)) (is : left letters i seen ≡ given) where
  -- past the end none is left that could be at fault
  pub over : length letters ≤ i → none ≡ placed letter_place given
  unfolding seen_checks first_fault placed
  over h = rw (← is, drop_of_length-le letters h)

  module _ (h : i < length letters) where
    -- a byte that is no mode is unknown
    pub unknown : None ≡ place_of (get_or letters i 0) → some (fault unknown_mode (i + 1)) ≡ placed letter_place given
    unfolding seen_checks first_fault placed
    unknown k = rw (← is, drop-step letters i 0 h, place-none (get_or letters i 0) k)

    module _ (mode : ℕ) (stands : Some mode ≡ place_of (get_or letters i 0)) where
      -- a mode that was seen stands there twice
      pub twice : has_mode seen mode ≡ true → some (fault mode_twice (i + 1)) ≡ placed letter_place given
      unfolding seen_checks first_fault placed
      twice e = let p = place-some (get_or letters i 0) mode stands in rw (← is, drop-step letters i 0 h, p.0, ← p.1, e)

      -- behind a mode that wasn't seen the others decide, with that one seen
      pub goes : has_mode seen mode ≡ false → left letters (i + 1) (with_mode seen mode) ≡ given
      unfolding seen_checks first_fault
      goes e = let p = place-some (get_or letters i 0) mode stands in sym (sym is ∙ rw (drop-step letters i 0 h, p.0, ← p.1, e))

-- all that a reader of the letters needs
pub ruleset judging = (unsigned, begun, over, unknown, twice, goes)

-- ---- the modes' byte
-- the bits of letters, united
abbrev pub bits : List ℕ → ℕ
bits s = total bit_or 0 (λ x. with_mode 0 (mode_place x)) s

-- added one after the other to some bits, they are those of all
pub bits-folded : (s : List ℕ) (m : ℕ) → fold (λ b x. with_mode b (mode_place x)) m s ≡ bit_or m (bits s)
bits-folded [] m = sym (or_zero_r m)
bits-folded (x ∷ s) m = bits-folded s (with_mode m (mode_place x)) ∙ rw (with-union m (mode_place x)) (joining-bits.assoc m (with_mode 0 (mode_place x)) (bits s))

-- and those of the letters after '+' are the modes' byte
pub bits_all : (modes letters : List ℕ) → letters ≡ letters_of modes → fold (λ b x. with_mode b (mode_place x)) 0 letters ≡ modes_byte modes
unfolding modes_byte
bits_all modes letters is = rw is (bits-folded (letters_of modes) 0 ∙ or_zero_l (bits (letters_of modes)))
