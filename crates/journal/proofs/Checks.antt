-- Laws of a record's faults: which check decides, and what holds where none does. The fault that is given is that of the earliest byte at fault, and its number
-- is one of the log reader's. Assumes nothing.
use Prim.Native.Nat.{ℕ, ◌+◌, ◌≤◌, ◌<◌}
use mathlib.Core.Path.{◌≡◌, refl, sym, ap, ◌∙◌}
use mathlib.Core.Bool.{Bool, true, false, true≢false, ◌&&◌}
use mathlib.Core.List.Memᴰ
use mathlib.Core.List.{List, Memᴰ}
use mathlib.Core.Option.{Option, some, none}
use native.Mathlib.Omega.{arith}
use lib.ListN.{length, get_or}
use lib.Dec.{ltb}
use borrow.Author.Tests.{eqb-true, ltb-true, ltb-false, lt-ltb, le-ltb, eq-eqb, not-false}
use Rattle.refusal.specs.Numbers.{accepted, no_mark, bad_log_link, bad_log_length, log_cut, log_order}
use Rattle.laws.proofs.Bools.{and_left}
use Rattle.links.specs.Links.{is_link}
use Rattle.message.specs.Grammar.{line_limit}
use Rattle.journal.specs.Journal.{head_length, first_mark, second_mark, link_in, length_in}
use Rattle.refusal.specs.Faults.{fault, Check, first_fault}
use Rattle.journal.specs.Reading.{Fault, is_other, is_link_above, is_length_over, is_cut, checks_of}

-- ---- which check decides
-- The first that applies, those before it not applying, and so which fault is given, or none.
pub data Decided (s : List ℕ) (given : Option Fault) : Type 0 where
  NoFirst : is_other s 0 first_mark ≡ true → given ≡ some (fault no_mark 0) → Decided s given
  NoSecond : is_other s 0 first_mark ≡ false → is_other s 1 second_mark ≡ true → given ≡ some (fault no_mark 1) → Decided s given
  Above : is_other s 0 first_mark ≡ false → is_other s 1 second_mark ≡ false → is_link_above s ≡ true → given ≡ some (fault bad_log_link 2) → Decided s given
  Over : is_other s 0 first_mark ≡ false → is_other s 1 second_mark ≡ false → is_link_above s ≡ false → is_length_over s ≡ true → given ≡ some (fault bad_log_length 3)
      → Decided s given
  Short : is_other s 0 first_mark ≡ false → is_other s 1 second_mark ≡ false → is_link_above s ≡ false → is_length_over s ≡ false → is_cut s ≡ true
      → given ≡ some (fault log_cut (length s)) → Decided s given
  Sound : is_other s 0 first_mark ≡ false → is_other s 1 second_mark ≡ false → is_link_above s ≡ false → is_length_over s ≡ false → is_cut s ≡ false → given ≡ none
      → Decided s given

pub decided : (s : List ℕ) → Decided s (first_fault (checks_of s))
unfolding checks_of first_fault
decided s = go (is_other s 0 first_mark) refl (is_other s 1 second_mark) refl (is_link_above s) refl (is_length_over s) refl (is_cut s) refl
  where
    go : (a : Bool) → is_other s 0 first_mark ≡ a → (b : Bool) → is_other s 1 second_mark ≡ b → (c : Bool) → is_link_above s ≡ c → (d : Bool) → is_length_over s ≡ d
        → (e : Bool) → is_cut s ≡ e → Decided s (first_fault (checks_of s))
    go true f b g c h d i e j = NoFirst f (rw f)
    go false f true g c h d i e j = NoSecond f g (rw (f, g))
    go false f false g true h d i e j = Above f g h (rw (f, g, h))
    go false f false g false h true i e j = Over f g h i (rw (f, g, h, i))
    go false f false g false h false i true j = Short f g h i j (rw (f, g, h, i, j))
    go false f false g false h false i false j = Sound f g h i j (rw (f, g, h, i, j))

-- the same of other bytes: there the checks come out as told, and so the fault is the one that is told
pub decides : (s : List ℕ) (given : Option Fault) → Decided s given → first_fault (checks_of s) ≡ given
unfolding checks_of first_fault
decides s given (NoFirst f is) = rw f (sym is)
decides s given (NoSecond f g is) = rw (f, g) (sym is)
decides s given (Above f g h is) = rw (f, g, h) (sym is)
decides s given (Over f g h i is) = rw (f, g, h, i) (sym is)
decides s given (Short f g h i j is) = rw (f, g, h, i, j) (sym is)
decides s given (Sound f g h i j is) = rw (f, g, h, i, j) (sym is)

-- ---- bytes that begin with a record
-- The mark, a link, a length that a line may have, and as many bytes behind the head.
pub record Clean (s : List ℕ) : Type 0 where
  pub first : get_or s 0 0 ≡ first_mark
  pub second : get_or s 1 0 ≡ second_mark
  pub link : is_link (link_in s) ≡ true
  pub short : length_in s ≤ line_limit
  pub fits : head_length + length_in s ≤ length s

pub some-none : {A : Type 0} {f : Fault} → ◌≡◌ {A = Option Fault} (some f) none → A
some-none e = let z : ◌≡◌ {A = ℕ} 0 1 = cc in absurd (omega (arith, z))

-- the byte in a place is this one, or isn't there
isn't-other : (s : List ℕ) (k b : ℕ) → k < length s → is_other s k b ≡ false → get_or s k 0 ≡ b
isn't-other s k b h e = eqb-true (get_or s k 0) b (not-false _ (rw (lt-ltb k (length s) h) at e))

pub clean : (s : List ℕ) → first_fault (checks_of s) ≡ none → Clean s
clean s sound = go (decided s)
  where
    go : Decided s (first_fault (checks_of s)) → Clean s
    go (NoFirst f is) = some-none (sym is ∙ sound)
    go (NoSecond f g is) = some-none (sym is ∙ sound)
    go (Above f g h is) = some-none (sym is ∙ sound)
    go (Over f g h i is) = some-none (sym is ∙ sound)
    go (Short f g h i j is) = some-none (sym is ∙ sound)
    go (Sound f g h i j is) =
        let k : head_length + length_in s ≤ length s = ltb-false (length s) (head_length + length_in s) j in
        record {
          first = isn't-other s 0 first_mark (omega arith) f;
          second = isn't-other s 1 second_mark (omega arith) g;
          link = not-false _ (rw (lt-ltb 2 (length s) (omega arith)) at h);
          short = ltb-false line_limit (length_in s) (rw (lt-ltb 4 (length s) (omega arith)) at i);
          fits = k;
        }

-- and where that holds there is no fault
pub faultless : (s : List ℕ) → Clean s → first_fault (checks_of s) ≡ none
faultless s h =
    decides s none
    (Sound
    (rw (lt-ltb 0 (length s) (omega (arith, h.fits)), eq-eqb (get_or s 0 0) first_mark h.first))
    (rw (lt-ltb 1 (length s) (omega (arith, h.fits)), eq-eqb (get_or s 1 0) second_mark h.second))
    (rw (lt-ltb 2 (length s) (omega (arith, h.fits)), h.link))
    (rw (lt-ltb 4 (length s) (omega (arith, h.fits))) (le-ltb line_limit (length_in s) h.short))
    (le-ltb (length s) (head_length + length_in s) h.fits)
    refl)

-- ---- the fault that is given
-- Its number is one of the log reader's.
pub fault-listed : (s : List ℕ) (f : Fault) → first_fault (checks_of s) ≡ some f → Memᴰ f.number log_order
fault-listed s f given = go (decided s)
  where
    number_is : (k p : ℕ) → first_fault (checks_of s) ≡ some (fault k p) → f.number ≡ k
    number_is k p is = cc

    go : Decided s (first_fault (checks_of s)) → Memᴰ f.number log_order
    go (NoFirst a is) = Memᴰ.head (number_is _ _ is)
    go (NoSecond a b is) = Memᴰ.head (number_is _ _ is)
    go (Above a b c is) = Memᴰ.tail (Memᴰ.head (number_is _ _ is))
    go (Over a b c d is) = Memᴰ.tail (Memᴰ.tail (Memᴰ.head (number_is _ _ is)))
    go (Short a b c d e is) = Memᴰ.tail (Memᴰ.tail (Memᴰ.tail (Memᴰ.head (number_is _ _ is))))
    go (Sound a b c d e is) = some-none (sym given ∙ is)

-- and so it is one
pub listed-number : (n : ℕ) → Memᴰ n log_order → n ≡ accepted → ⊥
listed-number n (Memᴰ.head e) z = omega (arith, e, z)
listed-number n (Memᴰ.tail (Memᴰ.head e)) z = omega (arith, e, z)
listed-number n (Memᴰ.tail (Memᴰ.tail (Memᴰ.head e))) z = omega (arith, e, z)
listed-number n (Memᴰ.tail (Memᴰ.tail (Memᴰ.tail (Memᴰ.head e)))) z = omega (arith, e, z)
listed-number n (Memᴰ.tail (Memᴰ.tail (Memᴰ.tail (Memᴰ.tail m)))) z = Memᴰ.not-nil m

-- what a test looks at is there where it holds
pub there : (s : List ℕ) (k : ℕ) (b : Bool) → ltb k (length s) && b ≡ true → k < length s
there s k b e = ltb-true k (length s) (and_left _ b e)

module _ (s : List ℕ) (f : Fault) (given : first_fault (checks_of s) ≡ some f) where
  place : (k p : ℕ) → first_fault (checks_of s) ≡ some (fault k p) → f.place ≡ p
  place k p is = cc

  -- Its place is that of a byte that is there, or the end of the bytes.
  pub fault-place : f.place ≤ length s
  fault-place = go (decided s)
    where
      go : Decided s (first_fault (checks_of s)) → f.place ≤ length s
      go (NoFirst a is) = omega (arith, place _ _ is, there s 0 _ a)
      go (NoSecond a b is) = omega (arith, place _ _ is, there s 1 _ b)
      go (Above a b c is) = omega (arith, place _ _ is, there s 2 _ c)
      go (Over a b c d is) = omega (arith, place _ _ is, there s 4 _ d)
      go (Short a b c d e is) = omega (arith, place _ _ is)
      go (Sound a b c d e is) = some-none (sym given ∙ is)

  other : {A : Type 0} (b : Bool) → b ≡ true → b ≡ false → A
  other b e n = absurd (true≢false (sym e ∙ n))

  -- by each of the first four checks
  by_first : is_other s 0 first_mark ≡ true → Decided s (first_fault (checks_of s)) → f.place ≤ 0
  by_first e (NoFirst a is) = omega (arith, place _ _ is)
  by_first e (NoSecond a b is) = other _ e a
  by_first e (Above a b c is) = other _ e a
  by_first e (Over a b c d is) = other _ e a
  by_first e (Short a b c d g is) = other _ e a
  by_first e (Sound a b c d g is) = other _ e a

  by-second : is_other s 1 second_mark ≡ true → Decided s (first_fault (checks_of s)) → f.place ≤ 1
  by-second e (NoFirst a is) = omega (arith, place _ _ is)
  by-second e (NoSecond a b is) = omega (arith, place _ _ is)
  by-second e (Above a b c is) = other _ e b
  by-second e (Over a b c d is) = other _ e b
  by-second e (Short a b c d g is) = other _ e b
  by-second e (Sound a b c d g is) = other _ e b

  by-link : is_link_above s ≡ true → Decided s (first_fault (checks_of s)) → f.place ≤ 2
  by-link e (NoFirst a is) = omega (arith, place _ _ is)
  by-link e (NoSecond a b is) = omega (arith, place _ _ is)
  by-link e (Above a b c is) = omega (arith, place _ _ is)
  by-link e (Over a b c d is) = other _ e c
  by-link e (Short a b c d g is) = other _ e c
  by-link e (Sound a b c d g is) = other _ e c

  by_length : is_length_over s ≡ true → Decided s (first_fault (checks_of s)) → f.place ≤ 3
  by_length e (NoFirst a is) = omega (arith, place _ _ is)
  by_length e (NoSecond a b is) = omega (arith, place _ _ is)
  by_length e (Above a b c is) = omega (arith, place _ _ is)
  by_length e (Over a b c d is) = omega (arith, place _ _ is)
  by_length e (Short a b c d g is) = other _ e d
  by_length e (Sound a b c d g is) = other _ e d

  -- No check that applies has an earlier place: the fault that is given is that of the first byte at fault.
  pub fault-first : (c : Check ℕ) → Memᴰ c (checks_of s) → c.applies ≡ true → f.place ≤ c.fault.place
  unfolding checks_of
  fault-first c (Memᴰ.head e) a = rw (ap (λ (x : Check ℕ). x.fault.place) e) (by_first (sym (ap (λ (x : Check ℕ). x.applies) e) ∙ a) (decided s))
  fault-first c (Memᴰ.tail (Memᴰ.head e)) a = rw (ap (λ (x : Check ℕ). x.fault.place) e) (by-second (sym (ap (λ (x : Check ℕ). x.applies) e) ∙ a) (decided s))
  fault-first c (Memᴰ.tail (Memᴰ.tail (Memᴰ.head e))) a = rw (ap (λ (x : Check ℕ). x.fault.place) e) (by-link (sym (ap (λ (x : Check ℕ). x.applies) e) ∙ a) (decided s))
  fault-first c (Memᴰ.tail (Memᴰ.tail (Memᴰ.tail (Memᴰ.head e)))) a =
      rw (ap (λ (x : Check ℕ). x.fault.place) e) (by_length (sym (ap (λ (x : Check ℕ). x.applies) e) ∙ a) (decided s))
  fault-first c (Memᴰ.tail (Memᴰ.tail (Memᴰ.tail (Memᴰ.tail (Memᴰ.head e))))) a = rw (ap (λ (x : Check ℕ). x.fault.place) e) fault-place
  fault-first c (Memᴰ.tail (Memᴰ.tail (Memᴰ.tail (Memᴰ.tail (Memᴰ.tail m))))) a = absurd (Memᴰ.not-nil m)
