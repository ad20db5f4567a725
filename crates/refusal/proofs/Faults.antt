-- Laws of faults that are checked one after the other: which is given, and that of faults whose places rise the one that is given is the earliest, and no two share a
-- place. Assumes nothing.
use Prim.Native.Nat.{ℕ, suc, ◌≤◌, ◌<◌}
use mathlib.Core.Path.{◌≡◌, refl, sym, ap, ◌∙◌}
use mathlib.Core.Bool.{Bool, true, false, true≢false, not, ◌&&◌, and_assoc}
use mathlib.Core.Logic.{◌⊎◌, inl, inr}
use mathlib.Core.List.Memᴰ
use mathlib.Core.List.{List, [], ◌∷◌, ◌++◌, Memᴰ}
use mathlib.Core.Option.{Option, some, none}
use native.Mathlib.Omega.{arith}
use Rattle.refusal.specs.Faults.{Fault, Check, faults_of, first_fault}

module _ {P : Type 0} where
  -- a fault that is given isn't none
  pub given-some : {A : Type 0} {f : Fault P} → ◌≡◌ {A = Option (Fault P)} (some f) none → A
  given-some e = let z : ◌≡◌ {A = ℕ} 0 1 = cc in absurd (omega (arith, z))

  -- ---- one check
  -- one that doesn't apply is passed over
  pub pass : (c : Check P) (cs : List (Check P)) → c.applies ≡ false → first_fault (c ∷ cs) ≡ first_fault cs
  unfolding first_fault
  pass c cs e = rw e

  -- one that applies is given
  pub give : (c : Check P) (cs : List (Check P)) → c.applies ≡ true → first_fault (c ∷ cs) ≡ some c.fault
  unfolding first_fault
  give c cs e = rw e

  -- and so with all that are there
  pub faults-pass : (c : Check P) (cs : List (Check P)) → c.applies ≡ false → faults_of (c ∷ cs) ≡ faults_of cs
  unfolding faults_of
  faults-pass c cs e = rw e

  pub faults-give : (c : Check P) (cs : List (Check P)) → c.applies ≡ true → faults_of (c ∷ cs) ≡ c.fault ∷ faults_of cs
  unfolding faults_of
  faults-give c cs e = rw e

  -- ---- no fault
  -- none of some applies
  abbrev pub absent : List (Check P) → Bool
  absent [] = true
  absent (c ∷ cs) = not c.applies && absent cs

  pub absent-append : (xs ys : List (Check P)) → absent (xs ++ ys) ≡ absent xs && absent ys
  absent-append [] ys = refl
  absent-append (x ∷ xs) ys = rw (absent-append xs ys) (sym (and_assoc (not x.applies) (absent xs) (absent ys)))

  -- then none is given
  pub absent_none : (cs : List (Check P)) → absent cs ≡ true → first_fault cs ≡ none
  unfolding first_fault
  absent_none [] e = refl
  absent_none (c ∷ cs) e = go c.applies refl (absent_none cs)
    where
      go : (t : Bool) → c.applies ≡ t → (absent cs ≡ true → first_fault cs ≡ none) → first_fault (c ∷ cs) ≡ none
      go true h ih = absurd (true≢false (sym e ∙ rw h))
      go false h ih = rw h (ih (rw h at e))

  -- and only then
  pub none-absent : (cs : List (Check P)) → first_fault cs ≡ none → absent cs ≡ true
  unfolding first_fault
  none-absent [] e = refl
  none-absent (c ∷ cs) e = go c.applies refl (none-absent cs)
    where
      go : (t : Bool) → c.applies ≡ t → (first_fault cs ≡ none → absent cs ≡ true) → absent (c ∷ cs) ≡ true
      go true h ih = given-some (sym (give c cs h) ∙ e)
      go false h ih = rw h (ih (sym (pass c cs h) ∙ e))

  -- ---- two lists of checks, one after the other
  -- a fault of the first is given
  pub append-given : (xs ys : List (Check P)) (f : Fault P) → first_fault xs ≡ some f → first_fault (xs ++ ys) ≡ some f
  unfolding first_fault
  append-given [] ys f e = given-some (sym e)
  append-given (x ∷ xs) ys f e = go x.applies refl (append-given xs ys f)
    where
      go : (t : Bool) → x.applies ≡ t → (first_fault xs ≡ some f → first_fault (xs ++ ys) ≡ some f) → first_fault (x ∷ xs ++ ys) ≡ some f
      go true h ih = rw h (sym (give x xs h) ∙ e)
      go false h ih = rw h (ih (sym (pass x xs h) ∙ e))

  -- where it has none, the second decides
  pub append-passed : (xs ys : List (Check P)) → first_fault xs ≡ none → first_fault (xs ++ ys) ≡ first_fault ys
  unfolding first_fault
  append-passed [] ys e = refl
  append-passed (x ∷ xs) ys e = go x.applies refl (append-passed xs ys)
    where
      go : (t : Bool) → x.applies ≡ t → (first_fault xs ≡ none → first_fault (xs ++ ys) ≡ first_fault ys) → first_fault (x ∷ xs ++ ys) ≡ first_fault ys
      go true h ih = given-some (sym (give x xs h) ∙ e)
      go false h ih = rw h (ih (sym (pass x xs h) ∙ e))

  -- the faults of both
  pub faults-append : (xs ys : List (Check P)) → faults_of (xs ++ ys) ≡ faults_of xs ++ faults_of ys
  unfolding faults_of
  faults-append [] ys = refl
  faults-append (x ∷ xs) ys = go x.applies refl (faults-append xs ys)
    where
      go : (t : Bool) → x.applies ≡ t → faults_of (xs ++ ys) ≡ faults_of xs ++ faults_of ys → faults_of (x ∷ xs ++ ys) ≡ faults_of (x ∷ xs) ++ faults_of ys
      go true h ih = rw h (ap (λ (l : List (Fault P)). x.fault ∷ l) ih)
      go false h ih = rw h ih

  -- ---- what holds of each that applies
  module _ (Q : Fault P → Type 0) where
    abbrev pub Every : List (Check P) → Type 0
    Every [] = Unit {0}
    Every (c ∷ cs) = (c.applies ≡ true → Q c.fault) × Every cs

    pub every_append : (xs ys : List (Check P)) → Every xs → Every ys → Every (xs ++ ys)
    every_append [] ys e f = f
    every_append (x ∷ xs) ys e f = (e.0, every_append xs ys e.1 f)

    -- holds of the fault that is given
    pub every_given : (cs : List (Check P)) (f : Fault P) → Every cs → first_fault cs ≡ some f → Q f
    unfolding first_fault
    every_given [] f e g = given-some (sym g)
    every_given (c ∷ cs) f e g = go c.applies refl (every_given cs f e.1)
      where
        go : (t : Bool) → c.applies ≡ t → (first_fault cs ≡ some f → Q f) → Q f
        go true h ih = let is : c.fault ≡ f = cc in rw (← is) (e.0 h)
        go false h ih = ih (sym (pass c cs h) ∙ g)

  -- what follows from it holds of each too
  pub every-imp : (Q R : Fault P → Type 0) → ((f : Fault P) → Q f → R f) → (cs : List (Check P)) → Every Q cs → Every R cs
  every-imp Q R i [] e = tt
  every-imp Q R i (c ∷ cs) e = (λ h. i c.fault (e.0 h), every-imp Q R i cs e.1)

  -- ---- faults whose places rise
  module _ (at : P → ℕ) where
    -- each is behind the one before it, the first at a place or behind it, and all are before another
    abbrev pub Rises : ℕ → List (Fault P) → ℕ → Type 0
    Rises from [] to = from ≤ to
    Rises from (f ∷ fs) to = (from ≤ at f.place) × Rises (suc (at f.place)) fs to

    pub rises-earlier : (from from' to : ℕ) (fs : List (Fault P)) → from' ≤ from → Rises from fs to → Rises from' fs to
    rises-earlier from from' to [] h r = omega (arith, h, r)
    rises-earlier from from' to (f ∷ fs) h r = (omega (arith, h, r.0), r.1)

    pub rises-later : (from to to' : ℕ) (fs : List (Fault P)) → to ≤ to' → Rises from fs to → Rises from fs to'
    rises-later from to to' [] h r = omega (arith, h, r)
    rises-later from to to' (f ∷ fs) h r = (r.0, rises-later (suc (at f.place)) to to' fs h r.1)

    -- two lists of them, one after the other
    pub rises-append : (from middle to : ℕ) (fs gs : List (Fault P)) → Rises from fs middle → Rises middle gs to → Rises from (fs ++ gs) to
    rises-append from middle to [] gs r s = rises-earlier middle from to gs r s
    rises-append from middle to (f ∷ fs) gs r s = (r.0, rises-append (suc (at f.place)) middle to fs gs r.1 s)

    -- every one is within
    pub rises-within : (from to : ℕ) (fs : List (Fault P)) → Rises from fs to → (g : Fault P) → Memᴰ g fs → (from ≤ at g.place) × (at g.place < to)
    rises-within from to [] r g m = absurd (Memᴰ.not-nil m)
    rises-within from to (f ∷ fs) r g m = go (Memᴰ.cases_cons m) (λ h. rises-within (suc (at f.place)) to fs r.1 g h)
      where
        ends : (from : ℕ) (l : List (Fault P)) → Rises from l to → from ≤ to
        ends from [] s = s
        ends from (h ∷ l) s = omega (arith, s.0, ends (suc (at h.place)) l s.1)

        go : (g ≡ f) ⊎ Memᴰ g fs → (Memᴰ g fs → (suc (at f.place) ≤ at g.place) × (at g.place < to)) → (from ≤ at g.place) × (at g.place < to)
        go (inl e) ih = rw e (r.0, omega (arith, ends (suc (at f.place)) fs r.1))
        go (inr h) ih = let k = ih h in (omega (arith, k.0, r.0), k.1)

    -- no two share a place
    pub rises-apart : (from to : ℕ) (fs : List (Fault P)) → Rises from fs to → (g h : Fault P) → Memᴰ g fs → Memᴰ h fs → at g.place ≡ at h.place → g ≡ h
    rises-apart from to [] r g h m k e = absurd (Memᴰ.not-nil m)
    rises-apart from to (f ∷ fs) r g h m k e = go (Memᴰ.cases_cons m) (Memᴰ.cases_cons k) (λ i j. rises-apart (suc (at f.place)) to fs r.1 g h i j e)
      where
        behind : (x : Fault P) → Memᴰ x fs → suc (at f.place) ≤ at x.place
        behind x i = (rises-within (suc (at f.place)) to fs r.1 x i).0

        at_first : (x : Fault P) → x ≡ f → at x.place ≡ at f.place
        at_first x i = ap (λ (y : Fault P). at y.place) i

        go : (g ≡ f) ⊎ Memᴰ g fs → (h ≡ f) ⊎ Memᴰ h fs → (Memᴰ g fs → Memᴰ h fs → g ≡ h) → g ≡ h
        go (inl i) (inl j) ih = i ∙ sym j
        go (inl i) (inr j) ih = absurd (omega (arith, e, at_first g i, behind h j))
        go (inr i) (inl j) ih = absurd (omega (arith, e, at_first h j, behind g i))
        go (inr i) (inr j) ih = ih i j

  -- the fault that is given is one of those that are there, and the first of them
  pub given-first : (cs : List (Check P)) (f : Fault P) → first_fault cs ≡ some f → (fs : List (Fault P)) × (faults_of cs ≡ f ∷ fs)
  unfolding first_fault
  given-first [] f e = given-some (sym e)
  given-first (c ∷ cs) f e = go c.applies refl (given-first cs f)
    where
      go : (t : Bool) → c.applies ≡ t → (first_fault cs ≡ some f → (fs : List (Fault P)) × (faults_of cs ≡ f ∷ fs)) → (fs : List (Fault P)) × (faults_of (c ∷ cs) ≡ f ∷ fs)
      go true h ih = let is : c.fault ≡ f = cc in (faults_of cs, faults-give c cs h ∙ ap (λ (x : Fault P). x ∷ faults_of cs) is)
      go false h ih = let r = ih (sym (pass c cs h) ∙ e) in (r.0, faults-pass c cs h ∙ r.1)

  pub given-among : (cs : List (Check P)) (f : Fault P) → first_fault cs ≡ some f → Memᴰ f (faults_of cs)
  given-among cs f e = let q = given-first cs f e in rw q.1 (Memᴰ.head refl)

  -- The fault that is given is the earliest.
  pub given-earliest : (at : P → ℕ) (from to : ℕ) (cs : List (Check P)) → Rises at from (faults_of cs) to → (f : Fault P) → first_fault cs ≡ some f
      → (g : Fault P) → Memᴰ g (faults_of cs) → at f.place ≤ at g.place
  given-earliest at from to cs r f e g m =
      let q = given-first cs f e in
      let s : Rises at from (f ∷ q.0) to = rw q.1 at r in
      go s (Memᴰ.cases_cons (rw q.1 at m))
    where
      go : {fs : List (Fault P)} → Rises at from (f ∷ fs) to → (g ≡ f) ⊎ Memᴰ g fs → at f.place ≤ at g.place
      go s (inl i) = rw i (omega arith)
      go {fs} s (inr i) = omega (arith, (rises-within at (suc (at f.place)) to fs s.1 g i).0)
