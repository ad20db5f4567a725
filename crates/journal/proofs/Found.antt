-- Laws of what stands first in some bytes of a log: a record that was written there, and what is known where one is found; and that bytes behind a piece change
-- nothing, but for what is cut where it ends. So no more than the most bytes of a record are looked at. Assumes nothing.
use Prim.Native.Nat.{ℕ, suc, ◌+◌, ◌*◌, ◌/◌, ◌%◌, ◌≤◌, ◌<◌}
use mathlib.Core.Path.{◌≡◌, refl, sym, ap, ◌∙◌}
use mathlib.Core.Bool.{Bool, true, false}
use mathlib.Core.List.{List, [], ◌∷◌, ◌++◌}
use mathlib.Core.Option.{Option, some, none}
use native.Mathlib.Omega.{arith}
use lib.ListN.{length, take, drop, get_or, length-append, length-drop, take-append-drop, get_or-append}
use lib.Seq.{take-append-le, drop-append-le, take_all, length-take-le, drop-drop}
use lib.Dec.{ltb}
use borrow.Author.Tests.{lt-ltb, ltb-true, ltb-false}
use Rattle.refusal.specs.Numbers.{no_mark, bad_log_link, bad_log_length, log_cut}
use Rattle.links.specs.Links.{is_link}
use Rattle.message.specs.Grammar.{line_limit}
use Rattle.laws.specs.Lists.{all}
use Rattle.laws.proofs.Lists.{all-at}
use Rattle.journal.specs.Journal.{head_length, first_mark, second_mark, head_of, record_of, link_in, length_in, line_in}
use Rattle.refusal.specs.Faults.{fault, first_fault}
use Rattle.journal.specs.Reading.{Entry, entry, bytes_of, size_of, Fault, is_other, is_link_above, is_length_over, checks_of, Found, End, Whole, Faulty, found_by, found, record_limit}
use Rattle.journal.specs.Division.{is_byte}
use Rattle.journal.proofs.Checks.{Decided, NoFirst, NoSecond, Above, Over, Short, Sound, decided, decides, Clean, some-none, clean, faultless, there}
use Rattle.journal.proofs.Records.{link-back, line-back}

-- ---- by its faults
-- where there are bytes, their first fault decides
pub found-by : (s : List ℕ) → 0 < length s → found s ≡ found_by s (first_fault (checks_of s))
unfolding found
found-by [] h = absurd (omega arith)
found-by (b ∷ s) h = refl

-- bytes that begin with a record
pub found-clean : (s : List ℕ) → Clean s → found s ≡ Whole (entry (link_in s) (line_in s))
found-clean s c = found-by s (omega (arith, c.fits)) ∙ rw (faultless s c)

-- a record that is found
module _ (s : List ℕ) (e : Entry) (is : found s ≡ Whole e) where
  by-fault : (o : Option Fault) → first_fault (checks_of s) ≡ o → found_by s o ≡ Whole e → Clean s × (entry (link_in s) (line_in s) ≡ e)
  by-fault none f w = (clean s f, cc)
  by-fault (some g) f w = let z : ◌≡◌ {A = ℕ} 0 1 = cc in absurd (omega (arith, z))

  opened : Clean s × (entry (link_in s) (line_in s) ≡ e)
  unfolding found
  opened = go s is by-fault
    where
      go : (t : List ℕ) → found t ≡ Whole e
          → ((o : Option Fault) → first_fault (checks_of t) ≡ o → found_by t o ≡ Whole e → Clean t × (entry (link_in t) (line_in t) ≡ e))
          → Clean t × (entry (link_in t) (line_in t) ≡ e)
      go [] w by = let z : ◌≡◌ {A = ℕ} 0 1 = cc in absurd (omega (arith, z))
      go (b ∷ t) w by = by (first_fault (checks_of (b ∷ t))) refl w

  -- it is clean, and its link and line are those of the bytes
  pub whole-clean : Clean s
  whole-clean = opened.0

  whole-link-is : link_in s ≡ e.link
  whole-link-is = ap (λ (x : Entry). x.link) opened.1

  pub whole-line : line_in s ≡ e.line
  whole-line = ap (λ (x : Entry). x.line) opened.1

  line-length : length (line_in s) ≡ length_in s
  unfolding line_in
  line-length = length-take-le (length_in s) (drop head_length s) (omega (arith, length-drop head_length s, whole-clean.fits))

  -- its line is as long as the head tells
  pub whole_length : length e.line ≡ length_in s
  whole_length = sym (ap (λ (l : List ℕ). length l) whole-line) ∙ line-length

  -- it can be logged, and takes some of the bytes
  pub whole-link : is_link e.link ≡ true
  whole-link = sym (ap (λ (x : Entry). is_link x.link) opened.1) ∙ whole-clean.link

  pub whole-short : length e.line ≤ line_limit
  whole-short = omega (arith, whole_length, whole-clean.short)

  pub whole-fits : size_of e ≤ length s
  whole-fits = omega (arith, whole_length, whole-clean.fits)

-- the end is where there is no byte
pub found-nil : found [] ≡ End
unfolding found
found-nil = refl

pub end-length : (s : List ℕ) → found s ≡ End → length s ≡ 0
unfolding found
end-length [] is = refl
end-length (b ∷ s) is = go (first_fault (checks_of (b ∷ s))) is
  where
    go : (o : Option Fault) → found_by (b ∷ s) o ≡ End → suc (length s) ≡ 0
    go none w = let z : ◌≡◌ {A = ℕ} 0 1 = cc in absurd (omega (arith, z))
    go (some f) w = let z : ◌≡◌ {A = ℕ} 0 1 = cc in absurd (omega (arith, z))

pub end-nil : (s : List ℕ) → found s ≡ End → s ≡ []
end-nil [] is = refl
end-nil (b ∷ s) is = absurd (omega (arith, end-length (b ∷ s) is))

-- a fault that is found is the first one
pub faulty-first : (s : List ℕ) (f : Fault) → found s ≡ Faulty f → (0 < length s) × (first_fault (checks_of s) ≡ some f)
unfolding found
faulty-first [] f is = let z : ◌≡◌ {A = ℕ} 0 1 = cc in absurd (omega (arith, z))
faulty-first (b ∷ s) f is = (omega arith, go (first_fault (checks_of (b ∷ s))) refl is)
  where
    go : (o : Option Fault) → first_fault (checks_of (b ∷ s)) ≡ o → found_by (b ∷ s) o ≡ Faulty f → first_fault (checks_of (b ∷ s)) ≡ some f
    go none e w = let z : ◌≡◌ {A = ℕ} 0 1 = cc in absurd (omega (arith, z))
    go (some g) e w = e ∙ ap some (cc w)

-- ---- a record that was written
record-clean : (link : ℕ) (line more : List ℕ) → is_link link ≡ true → length line ≤ line_limit → Clean (record_of link line ++ more)
unfolding record_of head_of
record-clean link line more h k = record {
  first = refl;
  second = refl;
  link = h;
  short = omega arith;
  fits = omega (arith, length-append line more);
}

pub found-record : (link : ℕ) (line more : List ℕ) → is_link link ≡ true → length line ≤ line_limit → found (record_of link line ++ more) ≡ Whole (entry link line)
found-record link line more h k =
    found-clean (record_of link line ++ more) (record-clean link line more h k) ∙ rw (link-back link line more, line-back link line more)

-- of bytes, one that is found stands there as it is written
pub whole-bytes : (s : List ℕ) (e : Entry) → found s ≡ Whole e → all is_byte s ≡ true → s ≡ bytes_of e ++ drop (size_of e) s
unfolding record_of head_of line_in
whole-bytes s e is bytes = go s is bytes
  where
    short : (t : List ℕ) {A : Type 0} → found t ≡ Whole e → length t < head_length → A
    short t w h = absurd (omega (arith, whole-fits t e w))

    go : (t : List ℕ) → found t ≡ Whole e → all is_byte t ≡ true → t ≡ bytes_of e ++ drop (size_of e) t
    go [] w m = short [] w (omega arith)
    go (a ∷ []) w m = short (a ∷ []) w (omega arith)
    go (a ∷ b ∷ []) w m = short (a ∷ b ∷ []) w (omega arith)
    go (a ∷ b ∷ c ∷ []) w m = short (a ∷ b ∷ c ∷ []) w (omega arith)
    go (a ∷ b ∷ c ∷ d ∷ []) w m = short (a ∷ b ∷ c ∷ d ∷ []) w (omega arith)
    go (a ∷ b ∷ c ∷ d ∷ l ∷ r) w m =
        let t : List ℕ = a ∷ b ∷ c ∷ d ∷ l ∷ r in
        let n : ℕ = length e.line in
        let small = ltb-true l 256 (all-at is_byte t 4 0 m (omega arith)) in
        let size : n ≡ d * 256 + l = whole_length t e w in
        let high : d ≡ n / 256 = omega arith in
        let low : l ≡ n % 256 = omega arith in
        let line : take n r ≡ e.line = ap (λ (k : ℕ). take k r) size ∙ whole-line t e w in
        let rest : r ≡ e.line ++ drop n r = sym (take-append-drop n r) ∙ ap (λ (x : List ℕ). x ++ drop n r) line in
        let behind : drop n r ≡ drop (size_of e) t = drop-drop n head_length t in
        cc ((whole-clean t e w).first, (whole-clean t e w).second, whole-link-is t e w, high, low, rest, behind)

-- ---- more bytes behind a piece
module _ (s t : List ℕ) where
  -- a byte of the piece is the one that it was
  at_front : (k : ℕ) → k < length s → get_or (s ++ t) k 0 ≡ get_or s k 0
  at_front k h = get_or-append s t 0 k h

  further : (k : ℕ) → k < length s → ltb k (length (s ++ t)) ≡ true
  further k h = lt-ltb k (length (s ++ t)) (omega (arith, length-append s t))

  other-append : (k b : ℕ) → k < length s → is_other (s ++ t) k b ≡ is_other s k b
  other-append k b h = rw (further k h, lt-ltb k (length s) h, at_front k h)

  length_front : 4 < length s → length_in (s ++ t) ≡ length_in s
  length_front h = rw (at_front 3 (omega arith), at_front 4 h)

  -- a record stays
  clean-append : Clean s → Clean (s ++ t)
  clean-append c = record {
    first = at_front 0 (omega (arith, c.fits)) ∙ c.first;
    second = at_front 1 (omega (arith, c.fits)) ∙ c.second;
    link = ap is_link (at_front 2 (omega (arith, c.fits))) ∙ c.link;
    short = omega (arith, length_front (omega (arith, c.fits)), c.short);
    fits = omega (arith, length_front (omega (arith, c.fits)), c.fits, length-append s t);
  }

  line-front : Clean s → line_in (s ++ t) ≡ line_in s
  unfolding line_in
  line-front c =
      ap (λ (n : ℕ). take n (drop head_length (s ++ t))) (length_front (omega (arith, c.fits)))
      ∙ ap (take (length_in s)) (drop-append-le head_length s t (omega (arith, c.fits)))
      ∙ take-append-le (length_in s) (drop head_length s) t (omega (arith, c.fits, length-drop head_length s))

  pub whole_append : (e : Entry) → found s ≡ Whole e → found (s ++ t) ≡ Whole e
  whole_append e is =
      let c = whole-clean s e is in
      found-clean (s ++ t) (clean-append c) ∙ rw (at_front 2 (omega (arith, c.fits)), line-front c) (sym (found-clean s c) ∙ is)

  -- so do the tests of link and length
  above-append : 2 < length s → is_link_above (s ++ t) ≡ is_link_above s
  above-append h = rw (further 2 h, lt-ltb 2 (length s) h, at_front 2 h)

  over-append : 4 < length s → is_length_over (s ++ t) ≡ is_length_over s
  over-append h = rw (further 4 h, lt-ltb 4 (length s) h, at_front 3 (omega arith), at_front 4 h)

  -- a fault stays, unless it is that the record is cut
  fault-stays : (f : Fault) → first_fault (checks_of s) ≡ some f → (f.number ≡ log_cut → ⊥) → first_fault (checks_of (s ++ t)) ≡ some f
  fault-stays f given ne = decides (s ++ t) (some f) (go (decided s))
    where
      go : Decided s (first_fault (checks_of s)) → Decided (s ++ t) (some f)
      go (NoFirst a is) = NoFirst (other-append 0 first_mark (there s 0 _ a) ∙ a) (sym given ∙ is)
      go (NoSecond a b is) =
          let h = there s 1 _ b in
          NoSecond (other-append 0 first_mark (omega (arith, h)) ∙ a) (other-append 1 second_mark h ∙ b) (sym given ∙ is)
      go (Above a b c is) =
          let h = there s 2 _ c in
          Above (other-append 0 first_mark (omega (arith, h)) ∙ a) (other-append 1 second_mark (omega (arith, h)) ∙ b) (above-append h ∙ c) (sym given ∙ is)
      go (Over a b c d is) =
          let h = there s 4 _ d in
          Over (other-append 0 first_mark (omega (arith, h)) ∙ a) (other-append 1 second_mark (omega (arith, h)) ∙ b) (above-append (omega (arith, h)) ∙ c) (over-append h ∙ d) (sym given ∙ is)
      go (Short a b c d e is) = let q : some f ≡ some (fault log_cut (length s)) = sym given ∙ is in absurd (ne (cc q))
      go (Sound a b c d e is) = some-none (sym given ∙ is)

  pub fault-append : (f : Fault) → found s ≡ Faulty f → (f.number ≡ log_cut → ⊥) → found (s ++ t) ≡ Faulty f
  fault-append f is ne =
      let (h, g) = faulty-first s f is in
      found-by (s ++ t) (omega (arith, length-append s t)) ∙ ap (found_by (s ++ t)) (fault-stays f g ne)

-- ---- where a piece ends inside a record
-- it has fewer bytes than the longest record, and the place is where it ends
pub cut_short : (s : List ℕ) (f : Fault) → found s ≡ Faulty f → f.number ≡ log_cut → (length s < record_limit) × (f.place ≡ length s)
cut_short s f is e = go (decided s)
  where
    given : first_fault (checks_of s) ≡ some f
    given = (faulty-first s f is).1

    other : {A : Type 0} (k p : ℕ) → (k ≡ log_cut → ⊥) → first_fault (checks_of s) ≡ some (fault k p) → A
    other k p ne q = let r : k ≡ f.number = cc (sym q ∙ given) in absurd (ne (r ∙ e))

    go : Decided s (first_fault (checks_of s)) → (length s < record_limit) × (f.place ≡ length s)
    go (NoFirst a q) = other no_mark 0 (λ z. omega (arith, z)) q
    go (NoSecond a b q) = other no_mark 1 (λ z. omega (arith, z)) q
    go (Above a b c q) = other bad_log_link 2 (λ z. omega (arith, z)) q
    go (Over a b c d q) = other bad_log_length 3 (λ z. omega (arith, z)) q
    go (Short a b c d g q) =
        let r : some (fault log_cut (length s)) ≡ some f = sym q ∙ given in
        let p : f.place ≡ length s = cc r in
        (bound (ltb 4 (length s)) refl d (ltb-true (length s) (head_length + length_in s) g), p)
      where
        bound : (t : Bool) → ltb 4 (length s) ≡ t → is_length_over s ≡ false → length s < head_length + length_in s → length s < record_limit
        bound true u d l = omega (arith, ltb-false line_limit (length_in s) (rw u at d), l)
        bound false u d l = omega (arith, ltb-false 4 (length s) u)
    go (Sound a b c d g q) = some-none (sym given ∙ q)

-- So what stands first depends on no more bytes than the longest record has.
pub found-near : (s : List ℕ) → found (take record_limit s) ≡ found s
found-near s = go (ltb (length s) record_limit) refl
  where
    near : List ℕ
    near = take record_limit s

    size : record_limit ≤ length s → length near ≡ record_limit
    size h = length-take-le record_limit s h

    long : record_limit ≤ length s → (f : Found) → found near ≡ f → found near ≡ found s
    long h End is = absurd (omega (arith, end-length near is, size h))
    long h (Whole e) is = is ∙ sym (whole_append near (drop record_limit s) e is) ∙ ap found (take-append-drop record_limit s)
    long h (Faulty f) is =
        is
        ∙ sym (fault-append near (drop record_limit s) f is (λ e. omega (arith, (cut_short near f is e).0, size h)))
        ∙ ap found (take-append-drop record_limit s)

    go : (t : Bool) → ltb (length s) record_limit ≡ t → found near ≡ found s
    go true e = ap found (take_all record_limit s (omega (arith, ltb-true (length s) record_limit e)))
    go false e = long (ltb-false (length s) record_limit e) (found near) refl
