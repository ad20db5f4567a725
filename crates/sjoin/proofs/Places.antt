-- Where the faults of a line's modes are: their places rise, so that no two share one and the fault that is given is the earliest; each is in the line; and what stands
-- there is the letter at fault, or the first byte of the parameter, or CR LF where one is missing. True since the parameters of a line stand one behind the other. Assumes
-- nothing.
use Prim.Native.Nat.{ℕ, zero, suc, ◌+◌, ◌-◌, ◌≤◌, ◌<◌}
use mathlib.Core.Path.{◌≡◌, refl, sym, ap, ◌∙◌}
use mathlib.Core.Bool.{Bool, true, false, cond}
use mathlib.Core.List.{List, [], ◌∷◌, ◌++◌}
use mathlib.Core.Option.{some}
use native.Mathlib.Omega.{arith}
use lib.ListN.{length, get_or, length-drop}
use lib.Dec.{eqb, ltb}
use borrow.Author.Tests.{eqb-true, eqb-false, lt-ltb, le-ltb, ltb-true, ltb-false}
use Rattle.refusal.specs.Faults.{Fault, faults_of}
use Rattle.refusal.proofs.Faults.{faults-append, Every, every_append, every_given, every-imp, Rises, rises-earlier, rises-later, rises-append, rises-within, rises-apart, given-earliest}
use Rattle.laws.specs.Lists.{starts_with}
use Rattle.message.specs.declared.Message.{Message}
use Rattle.message.specs.Content.{Content}
use Rattle.message.specs.Reading.{is_read, content_of, message_of}
use Rattle.message.proofs.Readings.{read-ends}
use Rattle.message.proofs.Sequence.{span_in, span-size, span-inside, span-next, span-byte}
use Rattle.channel.specs.Modes.{plus}
use Rattle.sjoin.specs.Modes.{letters_of, is_mode, lacks, parametered, good_argument}
use Rattle.sjoin.specs.Faults.{Site, Letter, Param, End, modes_at, arguments_at, letter_checks, own_checks, argument_checks, count_checks, modes_checks, site_at}
use Rattle.sjoin.specs.Join.{modes_in, arguments_in, good_count, fault_in}
use Rattle.sjoin.specs.Places.{faults_in, line_at, Stands, Located}
use Rattle.sjoin.proofs.Faults.{LetterBefore, sign-within}
use Rattle.sjoin.proofs.Parameters.{arguments-count}
use Rattle.sjoin.proofs.Answers.{bounds}

-- ---- the places rise
-- of letters, in a line of n bytes
letters-rise : (n : ℕ) (m : Message) (s before : List ℕ) (i : ℕ) → Rises (site_at n m) (site_at n m (Letter i)) (faults_of (letter_checks before i s)) (site_at n m (Letter i) + length s)
unfolding letter_checks faults_of
letters-rise n m [] before i = omega arith
letters-rise n m (x ∷ s) before i = go (is_mode x) refl (lacks x before) refl (others (letters-rise n m s (x ∷ before) (i + 1)))
  where
    at : ℕ
    at = site_at n m (Letter i)

    to : ℕ
    to = at + suc (length s)

    behind : List (Fault Site)
    behind = faults_of (letter_checks (x ∷ before) (i + 1) s)

    Others : Type 0
    Others = Rises (site_at n m) (suc at) behind to

    others : Rises (site_at n m) (site_at n m (Letter (i + 1))) behind (site_at n m (Letter (i + 1)) + length s) → Others
    others r =
        rises-earlier (site_at n m) (site_at n m (Letter (i + 1))) (suc at) to behind (omega arith)
        (rises-later (site_at n m) (site_at n m (Letter (i + 1))) (site_at n m (Letter (i + 1)) + length s) to behind (omega arith) r)

    go : (t : Bool) → is_mode x ≡ t → (u : Bool) → lacks x before ≡ u → Others → Rises (site_at n m) at (faults_of (letter_checks before i (x ∷ s))) to
    go false e u f r = rw e (omega arith, r)
    go true e false f r = rw (e, f) (omega arith, r)
    go true e true f r = rw (e, f) (rises-earlier (site_at n m) (suc at) at to behind (omega arith) r)

sign-rise : (n : ℕ) (m : Message) (modes : List ℕ) → Rises (site_at n m) (site_at n m (Letter 0)) (faults_of (own_checks modes)) (site_at n m (Letter 0) + suc (length (letters_of modes)))
unfolding own_checks faults_of
sign-rise n m modes = go (starts_with plus modes) refl
  where
    at : ℕ
    at = site_at n m (Letter 0)

    to : ℕ
    to = at + suc (length (letters_of modes))

    behind : List (Fault Site)
    behind = faults_of (letter_checks [] 1 (letters_of modes))

    others : Rises (site_at n m) (suc at) behind to
    others =
        rises-earlier (site_at n m) (site_at n m (Letter 1)) (suc at) to behind (omega arith)
        (rises-later (site_at n m) (site_at n m (Letter 1)) (site_at n m (Letter 1) + length (letters_of modes)) to behind (omega arith) (letters-rise n m (letters_of modes) [] 1))

    go : (t : Bool) → starts_with plus modes ≡ t → Rises (site_at n m) at (faults_of (own_checks modes)) to
    go false e = rw e (omega arith, others)
    go true e = rw e (rises-earlier (site_at n m) (suc at) at to behind (omega arith) others)

-- ---- of a line that is read, with as many parameters as an SJOIN has
module _ (line : List ℕ) (read : is_read line ≡ true) (good : good_count (content_of line) ≡ true) where
  abbrev said : Content
  said = content_of line

  -- how many parameters it has, and where each begins
  abbrev count : ℕ
  count = length said.params

  abbrev begins : ℕ → ℕ
  begins k = (span_in line read k).start

  -- where a site is
  abbrev at : Site → ℕ
  at = line_at line

  begins-rise : (k j : ℕ) → k + j < count → begins k + j ≤ begins (k + j)
  begins-rise k zero h = ap-le (omega arith)
    where
      ap-le : k ≡ k + 0 → begins k + 0 ≤ begins (k + 0)
      ap-le e = omega (arith, ap begins e)
  begins-rise k (suc j) h =
      let s = span-next line read (k + j) (omega (arith, h)) in
      let e : suc (k + j) ≡ k + suc j = omega arith in
      omega (arith, begins-rise k j (omega (arith, h)), s.0, s.1, ap begins e)

  -- those of the parameters, each judged
  arguments-rise : (letters : List ℕ) (args : List (List ℕ)) (k : ℕ) → k + length args < count → Rises at (begins k) (faults_of (argument_checks k letters args)) (begins (k + length args))
  unfolding argument_checks faults_of
  arguments-rise [] args k h = omega (arith, begins-rise k (length args) h)
  arguments-rise (x ∷ s) [] k h = omega (arith, begins-rise k 0 h)
  arguments-rise (x ∷ s) (a ∷ args) k h = go (good_argument x a) refl (others (arguments-rise s args (k + 1) (omega (arith, h))))
    where
      to : ℕ
      to = begins (k + suc (length args))

      next : begins k < begins (k + 1)
      next = omega (arith, begins-rise k 1 (omega (arith, h)))

      behind : List (Fault Site)
      behind = faults_of (argument_checks (k + 1) s args)

      Others : Type 0
      Others = Rises at (begins (k + 1)) behind to

      others : Rises at (begins (k + 1)) behind (begins (k + 1 + length args)) → Others
      others r =
          let e : k + 1 + length args ≡ k + suc (length args) = omega arith in
          rises-later at (begins (k + 1)) (begins (k + 1 + length args)) to behind (omega (arith, ap begins e)) r

      go : (t : Bool) → good_argument x a ≡ t → Others → Rises at (begins k) (faults_of (argument_checks k (x ∷ s) (a ∷ args))) to
      go false e r = rw e (omega arith, rises-earlier at (begins (k + 1)) (suc (begins k)) to behind next r)
      go true e r = rw e (rises-earlier at (begins (k + 1)) (begins k) to behind (omega (arith, next)) r)

  -- the parameters of an SJOIN: how many stand between modes and list, and the end of the line
  between : (length (arguments_in said) + 4 ≡ count) × (arguments_at < count)
  between =
      let b = bounds said good in
      let n : count ≡ count - 1 + 1 = omega (arith, b) in
      (omega (arith, b, arguments-count said (count - 1) n), omega (arith, b))

  ends : (k : ℕ) → k < count → begins k + 2 ≤ length line
  ends k h = let i = span-inside line read k h in omega (arith, i.1, i.2)

  -- those of the parameters, counted
  count-rise : (letters : List ℕ) → Rises at (begins arguments_at) (faults_of (count_checks letters (arguments_in said))) (length line - 1)
  unfolding count_checks faults_of
  count-rise letters = go (eqb n k) refl (ltb n k) refl
    where
      n : ℕ
      n = length letters

      k : ℕ
      k = length (arguments_in said)

      go : (t : Bool) → eqb (length letters) (length (arguments_in said)) ≡ t → (u : Bool) → ltb (length letters) (length (arguments_in said)) ≡ u
          → Rises at (begins arguments_at) (faults_of (count_checks letters (arguments_in said))) (length line - 1)
      go true e u f =
          let same : n ≡ k = eqb-true n k e in
          let last = arguments_at + k in
          rw (e, le-ltb n k (omega (arith, same)), le-ltb k n (omega (arith, same)))
          (rises-later at (begins arguments_at) (begins last) (length line - 1) (faults_of (argument_checks arguments_at letters (arguments_in said))) (omega (arith, ends last (omega (arith, between))))
          (arguments-rise letters (arguments_in said) arguments_at (omega (arith, between))))
      go false e true f =
          let less : n < k = ltb-true n k f in
          rw (e, f, le-ltb k n (omega (arith, less)))
          (omega (arith, begins-rise arguments_at n (omega (arith, less, between))), omega (arith, ends (arguments_at + n) (omega (arith, less, between))))
      go false e false f =
          let more : k < n = omega (arith, eqb-false n k e, ltb-false n k f) in
          let i = ends arguments_at between.1 in
          rw (e, f, lt-ltb k n more) (omega (arith, i), omega (arith, i))

  -- the modes have a byte, and end before what follows them
  modes-end : (1 ≤ length (modes_in said)) × (1 ≤ begins modes_at) × (begins modes_at + length (modes_in said) < begins arguments_at)
  modes-end =
      let s = span-next line read modes_at between.1 in
      let size = span-size line read modes_at (omega (arith, between.1)) in
      let i = span-inside line read modes_at (omega (arith, between.1)) in
      (omega (arith, s.0, size), i.0, omega (arith, s.1, size))

  modes-rise : Rises at 1 (faults_in said) (length line - 1)
  unfolding modes_checks
  modes-rise =
      let letters = parametered (letters_of (modes_in said)) in
      let sign = faults_of (own_checks (modes_in said)) in
      let rest = faults_of (count_checks letters (arguments_in said)) in
      let top = begins modes_at + 0 + suc (length (letters_of (modes_in said))) in
      let h : top ≤ begins arguments_at = omega (arith, modes-end, length-drop 1 (modes_in said)) in
      let low : 1 ≤ begins modes_at + 0 = omega (arith, modes-end) in
      rw (faults-append (own_checks (modes_in said)) (count_checks letters (arguments_in said)))
      (rises-earlier at (begins modes_at + 0) 1 (length line - 1) (sign ++ rest) low
      (rises-append at (begins modes_at + 0) top (length line - 1) sign rest (sign-rise (length line) (message_of line) (modes_in said))
      (rises-earlier at (begins arguments_at) top (length line - 1) rest h (count-rise letters))))

  -- ---- what stands there
  letter-stands : (p : Site) → LetterBefore (suc (length (letters_of (modes_in said)))) p → Stands line p
  letter-stands (Letter i) h =
      let inside : i < length (modes_in said) = omega (arith, h, modes-end, length-drop 1 (modes_in said)) in
      (inside, span-byte line read modes_at i (omega (arith, inside, span-size line read modes_at (omega (arith, between.1)))))
  letter-stands (Param k) h = absurd h
  letter-stands End h = absurd h

  -- a parameter before the list
  param-stands : (k : ℕ) → suc k < count → Stands line (Param k)
  param-stands k h =
      let s = span-next line read k h in
      let z : begins k + 0 ≡ begins k = omega arith in (
        omega (arith, s.0, span-size line read k (omega (arith, h))),
        ap (λ (i : ℕ). get_or line i 0) (sym z) ∙ span-byte line read k 0 (omega (arith, s.0)),
      )

  arguments-stand : (letters : List ℕ) (args : List (List ℕ)) (k : ℕ) → k + length args < count → Every (λ f. Stands line f.place) (argument_checks k letters args)
  unfolding argument_checks
  arguments-stand [] args k h = tt
  arguments-stand (x ∷ s) [] k h = tt
  arguments-stand (x ∷ s) (a ∷ args) k h = (λ _. param-stands k (omega (arith, h)), arguments-stand s args (k + 1) (omega (arith, h)))

  count-stand : (letters : List ℕ) → Every (λ f. Stands line f.place) (count_checks letters (arguments_in said))
  unfolding count_checks
  count-stand letters = (many, (λ _. read-ends line read, go (eqb (length letters) (length (arguments_in said)))))
    where
      many : ltb (length letters) (length (arguments_in said)) ≡ true → Stands line (Param (arguments_at + length letters))
      many e = param-stands (arguments_at + length letters) (omega (arith, ltb-true (length letters) (length (arguments_in said)) e, between))

      go : (t : Bool) → Every (λ f. Stands line f.place) (cond t (argument_checks arguments_at letters (arguments_in said)) [])
      go true = arguments-stand letters (arguments_in said) arguments_at (omega (arith, between))
      go false = tt

  given-stands : (f : Fault Site) → fault_in said ≡ some f → Stands line f.place
  unfolding modes_checks
  given-stands f e =
      let letters = parametered (letters_of (modes_in said)) in
      let Q : Fault Site → Type 0 = λ g. Stands line g.place in
      let sign = every-imp (λ g. LetterBefore (suc (length (letters_of (modes_in said)))) g.place) Q (λ g. letter-stands g.place) (own_checks (modes_in said)) (sign-within (modes_in said)) in
      every_given Q (modes_checks (modes_in said) (arguments_in said)) f (every_append Q (own_checks (modes_in said)) (count_checks letters (arguments_in said)) sign (count-stand letters)) e

  -- ---- all of it
  -- Where the faults of its modes are is as claimed.
  pub located : Located line
  located = record {
    apart = λ f g m k e. rises-apart at 1 (length line - 1) (faults_in said) modes-rise f g m k e;
    inside = λ f m. let w = rises-within at 1 (length line - 1) (faults_in said) modes-rise f m in (w.0, omega (arith, w.1));
    earliest = λ f e g m. given-earliest at 1 (length line - 1) (modes_checks (modes_in said) (arguments_in said)) modes-rise f e g m;
    stands = given-stands;
  }
