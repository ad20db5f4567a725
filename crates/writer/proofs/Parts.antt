-- Laws of what the writer's functions test and put, parameter by parameter: each return is one of them. Assumes nothing.
use mathlib.Core.Path.{◌≡◌, refl, sym, ap}
use mathlib.Core.Bool.{Bool, true, false, not, cond, ◌&&◌, ◌||◌}
use mathlib.Core.List.{List, [], ◌∷◌, ◌++◌, map, append-nil, append_assoc}
use mathlib.Core.Option.{some}
use Prim.Native.Nat.{ℕ, ◌+◌, ◌-◌, ◌≤◌, ◌<◌}
use native.Mathlib.Omega.{arith}
use lib.ListN.{length, take, drop, get_or, length-take, length-drop}
use lib.Dec.{eqb}
use borrow.Author.Tests.{eq-eqb, ne_eqb}
use Rattle.octets.specs.Bytes.{space, colon, is_non_space}
use Rattle.laws.specs.Lists.{all, is_nil, starts_with}
use Rattle.laws.proofs.Bools.{and_left, and_right, and_intro}
use Rattle.laws.proofs.Lists.{front-step, nil-map, all_head}
use Rattle.message.specs.declared.Span.{Span}
use Rattle.message.specs.Grammar.{middle_limit, is_middle, is_bare}
use Rattle.message.specs.Parts.{span, bytes_at}
use Rattle.message.specs.Reading.{crlf}
use Rattle.writer.specs.Form.{takes_colon, written_param, written_params, written_prefix, written_body, written}
use Rattle.writer.specs.Private.Fit.{fit_param, fit_params}

-- ---- a middle
-- a middle can stand bare
middle-bare : (p : List ℕ) → is_middle p ≡ true → is_bare p ≡ true
unfolding is_middle is_bare all
middle-bare [] h = h
middle-bare (b ∷ p) h =
    and_intro _ _ (and_left (not (eqb b colon)) (all is_non_space (b ∷ p)) h) (all_head is_non_space b p (and_right (not (eqb b colon)) (all is_non_space (b ∷ p)) h))

-- ---- what is read back as parameter k, if it is the last, without ':'
abbrev pub stands : ℕ → List ℕ → Bool
stands k p = cond (eqb k middle_limit) (is_bare p) (is_middle p)

-- a middle is, everywhere
pub middle-stands : (k : ℕ) (p : List ℕ) → is_middle p ≡ true → stands k p ≡ true
middle-stands k p h = go (eqb k middle_limit)
  where
    go : (t : Bool) → cond t (is_bare p) (is_middle p) ≡ true
    go true = middle-bare p h
    go false = h

module _ (k : ℕ) (p : List ℕ) where
  -- of the fifteenth only the first byte counts
  pub stands_fifteenth : k ≡ middle_limit → stands k p ≡ is_bare p
  stands_fifteenth h = rw (eq-eqb k middle_limit h)

  pub stands_other : (k ≡ middle_limit → ⊥) → stands k p ≡ is_middle p
  stands_other h = rw (ne_eqb k middle_limit h)

-- 01's words for ':' say that the parameter is no middle
no_middle : (p : List ℕ) → is_nil p || (starts_with colon p || not (all is_non_space p)) ≡ not (is_middle p)
unfolding is_middle starts_with
no_middle [] = refl
no_middle (b ∷ p) = go (eqb b colon) (all is_non_space (b ∷ p))
  where
    go : (s t : Bool) → s || not t ≡ not (not s && t)
    go true t = refl
    go false t = refl

-- ':' is written exactly where the last parameter doesn't stand without it
pub colon_exactly : (k : ℕ) (last : Bool) (p : List ℕ) → takes_colon k last p ≡ last && not (stands k p)
unfolding takes_colon
colon_exactly k last p = ap (λ (t : Bool). last && t) (go (eqb k middle_limit))
  where
    go : (t : Bool) → cond t (not (is_bare p)) (is_nil p || (starts_with colon p || not (all is_non_space p))) ≡ not (cond t (is_bare p) (is_middle p))
    go true = refl
    go false = no_middle p

pub ruleset colons = (colon_exactly, stands_fifteenth, stands_other)

-- ---- a place in the spans that count
module _ (ps : List Span) (n k : ℕ) (few : n ≤ length ps) (lt : k < n) where
  front_long : length (take n ps) ≡ n
  front_long = omega (arith, length-take n ps)

  spans_step : drop k (take n ps) ≡ get_or ps k (span 0 0) ∷ drop (k + 1) (take n ps)
  spans_step = front-step ps n k (span 0 0) lt few

  last-is : is_nil (drop (k + 1) (take n ps)) ≡ eqb (k + 1) n
  last-is = go (drop (k + 1) (take n ps)) (length-drop (k + 1) (take n ps))
    where
      go : (l : List Span) → length l ≡ length (take n ps) - (k + 1) → is_nil l ≡ eqb (k + 1) n
      go [] = λ e. sym (eq-eqb (k + 1) n (omega (arith, front_long)))
      go (s ∷ l) = λ e. sym (ne_eqb (k + 1) n (λ q. omega (arith, front_long)))

  module _ (text : List ℕ) where
    fit-step : fit_params text (drop k (take n ps)) ≡ fit_param text (eqb (k + 1) n) (get_or ps k (span 0 0)) && fit_params text (drop (k + 1) (take n ps))
    unfolding fit_params
    fit-step = rw (spans_step, last-is)

    pub fit-stop : fit_param text (eqb (k + 1) n) (get_or ps k (span 0 0)) ≡ false → false ≡ fit_params text (drop k (take n ps))
    fit-stop e = rw (fit-step, e)

    pub fit-go : fit_param text (eqb (k + 1) n) (get_or ps k (span 0 0)) ≡ true → fit_params text (drop (k + 1) (take n ps)) ≡ fit_params text (drop k (take n ps))
    fit-go e = rw (fit-step, e)

    pub written_step : written_params k (map (bytes_at text) (drop k (take n ps)))
        ≡ (space ∷ written_param k (eqb (k + 1) n) (bytes_at text (get_or ps k (span 0 0)))) ++ written_params (k + 1) (map (bytes_at text) (drop (k + 1) (take n ps)))
    unfolding written_params
    written_step = rw (spans_step, ← last-is, ← nil-map (bytes_at text) (drop (k + 1) (take n ps)))

-- ---- the written form, part by part
pub colon-then : (k : ℕ) (last : Bool) (p : List ℕ) → cond (takes_colon k last p) (colon ∷ []) [] ++ p ≡ written_param k last p
unfolding written_param
colon-then k last p = go (takes_colon k last p)
  where
    go : (t : Bool) → cond t (colon ∷ []) [] ++ p ≡ cond t (colon ∷ p) p
    go true = refl
    go false = refl

-- a parameter before another has no ':'
pub written-before : (k : ℕ) (p q : List ℕ) (ps : List (List ℕ)) → written_params k (p ∷ q ∷ ps) ≡ (space ∷ p) ++ written_params (k + 1) (q ∷ ps)
unfolding written_params written_param takes_colon
written-before k p q ps = refl

pub written_last : (k : ℕ) (p : List ℕ) → written_params k (p ∷ []) ≡ space ∷ written_param k true p
unfolding written_params
written_last k p = append-nil (space ∷ written_param k true p)

pub written-sourced : (p c : List ℕ) (ps : List (List ℕ)) → written (record { prefix = some p; command = c; params = ps }) ≡ (colon ∷ p) ++ (space ∷ c) ++ written_params 0 ps ++ crlf
unfolding written written_body written_prefix
written-sourced p c ps = ap (λ (l : List ℕ). l ++ written_params 0 ps ++ crlf) (append_assoc (colon ∷ p) (space ∷ []) c)
