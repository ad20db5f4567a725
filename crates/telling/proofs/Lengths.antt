-- How long what is told is. A union of two bytes of modes tells no more letters than both do, and one mode a single letter. An entry has its marks and its id, so one
-- with the statuses of two takes up no more than both; and the list has a SPACE less than its entries. Assumes nothing.
use Prim.Native.Nat.{ℕ, suc, ◌+◌, ◌≤◌, ◌<◌}
use mathlib.Core.Path.{◌≡◌, refl, ap, ◌∙◌}
use mathlib.Core.Bool.{Bool, true, false, cond, ◌||◌}
use mathlib.Core.List.{List, [], ◌∷◌, ◌++◌, map}
use native.Mathlib.Omega.{arith}
use lib.Bits.{bit_or}
use lib.ListN.{length}
use lib.Dec.{eqb, ltb}
use borrow.Author.Tests.{ne_eqb, eqb-true, ltb-true}
use Rattle.laws.proofs.Joins.{total-map}
use Rattle.laws.proofs.Texts.{length-separated}
use Rattle.octets.specs.Bytes.{space}
use Rattle.ascending.proofs.Ascends.{joined}
use Rattle.ascending.proofs.Weights.{weight}
use Rattle.channel.specs.declared.Member.{Member}
use Rattle.channel.specs.Modes.{letters, mode_count, plus, has_mode, with_mode}
use Rattle.channel.specs.Channel.{voice_place, operator_place, at_sign, member, by_id}
use Rattle.channel.proofs.Letters.{has-no-mode, has_either, has-with}
use Rattle.telling.specs.Telling.{letters_from, entry_of, list_text}

-- ---- modes: how many letters are told
-- how many of some letters, the first in the place k, a byte of modes tells
abbrev pub letters_count : ℕ → List ℕ → ℕ → ℕ
letters_count k s modes = length (letters_from k s modes)

-- A union of two bytes tells no more letters than both.
pub letters-either : (k : ℕ) (s : List ℕ) (a b : ℕ) → letters_count k s (bit_or a b) ≤ letters_count k s a + letters_count k s b
unfolding letters_from
letters-either k [] a b = omega arith
letters-either k (x ∷ s) a b = rw (has_either a b k) (go (has_mode a k) (has_mode b k) (letters-either (suc k) s a b))
  where
    go : (t u : Bool) → letters_count (suc k) s (bit_or a b) ≤ letters_count (suc k) s a + letters_count (suc k) s b
        → length (cond (t || u) (x ∷ letters_from (suc k) s (bit_or a b)) (letters_from (suc k) s (bit_or a b)))
        ≤ length (cond t (x ∷ letters_from (suc k) s a) (letters_from (suc k) s a)) + length (cond u (x ∷ letters_from (suc k) s b) (letters_from (suc k) s b))
    go true true h = omega arith
    go true false h = omega arith
    go false true h = omega arith
    go false false h = omega arith

-- A byte without modes tells no letter.
pub letters-none : (k : ℕ) (s : List ℕ) → letters_count k s 0 ≡ 0
unfolding letters_from
letters-none k [] = refl
letters-none k (x ∷ s) = rw (has-no-mode k) (letters-none (suc k) s)

-- a byte with the mode p alone
module _ (m p : ℕ) (only : (j : ℕ) → has_mode m j ≡ eqb j p) where
  letters-beyond : (k : ℕ) (s : List ℕ) → p < k → letters_count k s m ≡ 0
  unfolding letters_from
  letters-beyond k [] h = refl
  letters-beyond k (x ∷ s) h = rw (only k, ne_eqb k p (λ e. omega arith)) (letters-beyond (suc k) s (omega arith))

  letters-one : (k : ℕ) (s : List ℕ) → letters_count k s m ≤ 1
  unfolding letters_from
  letters-one k [] = omega arith
  letters-one k (x ∷ s) = rw (only k) (go (eqb k p) refl (letters-one (suc k) s))
    where
      go : (t : Bool) → eqb k p ≡ t → letters_count (suc k) s m ≤ 1 → length (cond t (x ∷ letters_from (suc k) s m) (letters_from (suc k) s m)) ≤ 1
      go true e h = omega (arith, letters-beyond (suc k) s (omega (arith, eqb-true k p e)))
      go false e h = h

-- A byte with one mode tells one letter at most.
pub letters-single : (p : ℕ) → letters_count 0 letters (with_mode 0 p) ≤ 1
unfolding with_mode
letters-single p = go (ltb p mode_count) refl
  where
    go : (t : Bool) → ltb p mode_count ≡ t → letters_count 0 letters (with_mode 0 p) ≤ 1
    go true e = letters-one (with_mode 0 p) p (λ j. has-with 0 p j (ltb-true p mode_count e) ∙ rw (has-no-mode j)) 0 letters
    go false e = rw e (omega (arith, letters-none 0 letters))

-- ---- entries
-- an entry and a SPACE
abbrev pub takes : Member → ℕ
takes m = suc (length (entry_of m))

abbrev marks : Bool → ℕ
marks t = cond t 1 0

entry_length : (m : Member) → length (entry_of m) ≡ marks (has_mode m.status operator_place) + marks (has_mode m.status voice_place) + length m.id
unfolding entry_of
entry_length m = go (has_mode m.status operator_place) (has_mode m.status voice_place)
  where
    go : (o v : Bool) → length (cond o (at_sign ∷ []) [] ++ cond v (plus ∷ []) [] ++ m.id) ≡ marks o + marks v + length m.id
    go true true = omega arith
    go true false = omega arith
    go false true = omega arith
    go false false = omega arith

marks-few : (t : Bool) → marks t ≤ 1
marks-few true = omega arith
marks-few false = omega arith

-- An entry has two marks at most before its id.
pub entry-few : (m : Member) → length (entry_of m) ≤ 2 + length m.id
entry-few m = omega (arith, entry_length m, marks-few (has_mode m.status operator_place), marks-few (has_mode m.status voice_place))

marks-either : (t u : Bool) → marks (t || u) ≤ marks t + marks u
marks-either true u = omega arith
marks-either false u = omega arith

-- One with the statuses of two takes up no more than both.
pub takes-joined : (e d : Member) → takes (joined by_id e d) ≤ takes e + takes d
takes-joined e d =
    let o = marks-either (has_mode e.status 1) (has_mode d.status 1) in
    let v = marks-either (has_mode e.status 0) (has_mode d.status 0) in
    omega (arith, entry_length e, entry_length d, entry_length (joined by_id e d), ap marks (has_either e.status d.status 1), ap marks (has_either e.status d.status 0), o, v)

-- An entry without marks takes up no more than with them.
pub takes-unmarked : (m : Member) → takes (member m.id 0) ≤ takes m
takes-unmarked m = omega (arith, entry_length m, entry_length (member m.id 0), ap marks (has-no-mode 1), ap marks (has-no-mode 0))

-- ---- the list
-- Each entry has a SPACE but the first.
pub list_length : (l : List Member) → 1 ≤ length l → suc (length (list_text l)) ≡ weight takes l
list_length [] = λ h. absurd (omega arith)
list_length (m ∷ l) = λ h. length-separated space (entry_of m) (map entry_of l) ∙ total-map ◌+◌ 0 (λ s. suc (length s)) entry_of (m ∷ l)
