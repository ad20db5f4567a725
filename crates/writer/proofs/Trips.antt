-- Reading what is written gives the message back: part by part, each part of a good message stops where the grammar stops reading it.
-- Assumes nothing.
use mathlib.Core.Path.{◌≡◌, refl, sym, ap, ◌∙◌}
use mathlib.Core.Bool.{Bool, true, false, true≢false, not, cond, ◌&&◌, ◌||◌, and-false}
use mathlib.Core.List.{List, [], ◌∷◌, ◌++◌, append-nil, append_assoc}
use mathlib.Core.Option.{Option, some, none}
use Prim.Native.Nat.{ℕ, ◌+◌, ◌-◌, ◌≤◌}
use native.Mathlib.Omega.{arith}
use lib.ListN.{length, drop, length-append}
use lib.Seq.{drop-drop, drop-append_seam, drop_at, take_at}
use lib.Dec.{eqb}
use borrow.Author.Tests.{ne_eqb, eqb-true, eqb-false, leb-true, not-true}
use Rattle.refusal.specs.Numbers.{accepted}
use Rattle.refusal.specs.Rules.{first_of}
use Rattle.refusal.proofs.Rules.{skip, first-nil}
use Rattle.octets.specs.Bytes.{space, colon, is_plain, is_non_space}
use Rattle.laws.specs.Lists.{all, is_nil, same_by, starts_with}
use Rattle.laws.proofs.Bools.{and_left, and_right}
use Rattle.laws.proofs.Lists.{nil-length, all_head, all_cons, all_append}
use Rattle.message.specs.Grammar.{param_limit, middle_limit, spaces, is_middle, rest, has_prefix, prefix, prefix_end, command_start, command, command_end, is_command}
use Rattle.message.specs.Content.{Content, bytes_of}
use Rattle.message.specs.Reading.{crlf, ends_line, body_of, body_rules, grammar_rules}
use Rattle.message.proofs.Relation.{Stops, stops-word, middle-read, bare-read}
use Rattle.message.proofs.Separated.{word-append}
use Rattle.message.proofs.SpanContents.{content, content-eq}
use Rattle.writer.specs.Form.{takes_colon, written_param, written_params, written_prefix}
use Rattle.writer.specs.Private.Fit.{good_prefix, good_source, good_param, good_params, good}
use Rattle.writer.proofs.Parts.{stands, middle-stands, stands_fifteenth, stands_other, colon_exactly}
use Rattle.writer.proofs.Words.{middle-clear, command-long, command-plain, command-middle}

-- ---- one parameter
pub bare-written : (k : ℕ) (last : Bool) (p : List ℕ) → stands k p ≡ true → written_param k last p ≡ p
unfolding written_param
bare-written k last p e = rw (colon_exactly k last p ∙ ap (λ (t : Bool). last && not t) e, and-false last)

pub middle-written : (k : ℕ) (last : Bool) (p : List ℕ) → is_middle p ≡ true → written_param k last p ≡ p
middle-written k last p e = bare-written k last p (middle-stands k p e)

pub trailing-written : (k : ℕ) (p : List ℕ) → stands k p ≡ false → written_param k true p ≡ colon ∷ p
unfolding written_param
trailing-written k p e = rw (colon_exactly k true p ∙ ap not e)

param_plain : (k : ℕ) (last : Bool) (p : List ℕ) → all is_plain p ≡ true → all is_plain (written_param k last p) ≡ true
unfolding written_param is_plain
param_plain k last p h = go (takes_colon k last p) refl
  where
    go : (t : Bool) → takes_colon k last p ≡ t → all is_plain (written_param k last p) ≡ true
    go true e = rw e (all_cons is_plain colon p refl h)
    go false e = rw e h

-- ---- the parameters of a written form
module _ (p : List ℕ) (ps : List (List ℕ)) (h : good_params (p ∷ ps) ≡ true) where
  good-head : good_param (is_nil ps) p ≡ true
  unfolding good_params
  good-head = and_left (good_param (is_nil ps) p) (good_params ps) h

  good-plain : all is_plain p ≡ true
  unfolding good_param
  good-plain = and_left (all is_plain p) (is_nil ps || is_middle p) good-head

  -- unless it is the last
  good-middle : is_nil ps ≡ false → is_middle p ≡ true
  unfolding good_param
  good-middle e = rw e at (and_right (all is_plain p) (is_nil ps || is_middle p) good-head)

  good-tail : good_params ps ≡ true
  unfolding good_params
  good-tail = and_right (good_param (is_nil ps) p) (good_params ps) h

written-stops : (k : ℕ) (ps : List (List ℕ)) → Stops (written_params k ps)
unfolding written_params
written-stops k [] = tt
written-stops k (p ∷ ps) = refl

middle-back : (k at : ℕ) (p : List ℕ) (ps : List (List ℕ)) → is_middle p ≡ true → (k ≡ middle_limit → ⊥) → bytes_of (rest (k + 1) (at + 1 + length p) (written_params (k + 1) ps)) ≡ ps
    → bytes_of (rest k at (written_params k (p ∷ ps))) ≡ p ∷ ps
unfolding written_params rest
middle-back k at p ps m h ih =
    rw (middle-written k (is_nil ps) p m)
    (ap bytes_of (middle-read (written_params (k + 1) ps) (written-stops (k + 1) ps) p m k (at + 1) h) ∙ ap (λ (l : List (List ℕ)). p ∷ l) ih)

last-back : (k at : ℕ) (p : List ℕ) → bytes_of (rest k at (written_params k (p ∷ []))) ≡ p ∷ []
unfolding written_params rest
last-back k at p = go (stands k p) refl (eqb k middle_limit) refl
  where
    go : (t : Bool) → stands k p ≡ t → (u : Bool) → eqb k middle_limit ≡ u → bytes_of (rest k at (written_params k (p ∷ []))) ≡ p ∷ []
    go true e true l =
        let h = eqb-true k middle_limit l in
        rw (bare-written k true p e, append-nil p) (ap bytes_of (bare-read p (sym (stands_fifteenth k p h) ∙ e) k (at + 1) h))
    go true e false l = let h = eqb-false k middle_limit l in middle-back k at p [] (sym (stands_other k p h) ∙ e) h refl
    go false e u l = rw (trailing-written k p e) (ap (λ (s : List ℕ). s ∷ []) (append-nil p))

-- After k parameters there is room for these: none of them is the fifteenth, or the last is.
abbrev Fits : ℕ → List (List ℕ) → Type 0
Fits k ps = k ≤ middle_limit → k + length ps ≤ param_limit

params-back : (ps : List (List ℕ)) → good_params ps ≡ true → (k at : ℕ) → Fits k ps → bytes_of (rest k at (written_params k ps)) ≡ ps
unfolding written_params rest
params-back [] h k at f = refl
params-back (p ∷ []) h k at f = last-back k at p
params-back (p ∷ q ∷ ps) h k at f =
    middle-back k at p (q ∷ ps) (good-middle p (q ∷ ps) h refl) (λ e. omega (arith, f (omega arith)))
    (params-back (q ∷ ps) (good-tail p (q ∷ ps) h) (k + 1) (at + 1 + length p) (λ l. omega (arith, f (omega arith))))

params-plain : (ps : List (List ℕ)) → good_params ps ≡ true → (k : ℕ) → all is_plain (written_params k ps) ≡ true
unfolding written_params all is_plain
params-plain [] h k = refl
params-plain (p ∷ ps) h k = all_append is_plain (written_param k (is_nil ps) p) (written_params (k + 1) ps) (param_plain k (is_nil ps) p (good-plain p ps h)) (params-plain ps (good-tail p ps h) (k + 1))

-- ---- a middle has no SPACE before it, and no prefix
module _ (t : List ℕ) where
  spaces-none : (w : List ℕ) → is_middle w ≡ true → spaces (w ++ t) ≡ 0
  unfolding spaces is_middle
  spaces-none [] h = absurd (true≢false (sym h))
  spaces-none (b ∷ w) h = rw (not-true (eqb b space) (all_head is_non_space b w (middle-clear (b ∷ w) h)))

  prefix-none : (w : List ℕ) → is_middle w ≡ true → has_prefix (w ++ t) ≡ false
  unfolding starts_with is_middle
  prefix-none [] h = absurd (true≢false (sym h))
  prefix-none (b ∷ w) h = not-true (eqb b colon) (and_left (not (eqb b colon)) (all is_non_space (b ∷ w)) h)

-- ---- a command and good parameters are read where they stand
-- what a body holds if k middles are counted before its parameters: of 0 that is what it holds
abbrev pub read_from : ℕ → List ℕ → Content
read_from k body = record {
  prefix = cond (has_prefix body) (some (prefix body)) none;
  command = command body;
  params = bytes_of (rest k (command_end body) (drop (command_end body) body));
}

module _ (k : ℕ) (c : List ℕ) (ps : List (List ℕ)) (is : is_middle c ≡ true) (ok : good_params ps ≡ true) (fits : Fits k ps) where
  abbrev tail : List ℕ
  tail = c ++ written_params k ps

  module _ (b : List ℕ) (e : drop (command_start b) b ≡ tail) where
    command-there : command b ≡ c
    unfolding command
    command-there = rw e (word-append c (written_params k ps) (middle-clear c is) (stops-word (written_params k ps) (written-stops k ps)))

    params-there : (read_from k b).params ≡ ps
    unfolding command_end
    params-there =
        rw (command-there, ← drop-drop (length c) (command_start b) b, e, drop-append_seam c (written_params k ps))
        (params-back ps ok k (command_start b + length c) fits)

  -- without a prefix
  bare-start : drop (command_start tail) tail ≡ tail
  unfolding command_start
  bare-start = rw (prefix-none (written_params k ps) c is)

  -- with one
  module _ (p : List ℕ) (clear : all is_non_space p ≡ true) where
    abbrev body : List ℕ
    body = colon ∷ (p ++ (space ∷ tail))

    prefix-there : prefix body ≡ p
    unfolding prefix starts_with
    prefix-there = word-append p (space ∷ tail) clear (stops-word (space ∷ tail) refl)

    end-there : prefix_end body ≡ 1 + length p
    unfolding prefix_end starts_with
    end-there = rw prefix-there

    start-there : command_start body ≡ 1 + length p + 1
    unfolding command_start starts_with spaces
    start-there =
        let e : drop (1 + length p) body ≡ space ∷ tail = drop_at (colon ∷ p) (space ∷ tail) (1 + length p) (omega arith) in
        rw (end-there, e, spaces-none (written_params k ps) c is)

    tail-there : drop (command_start body) body ≡ tail
    tail-there =
        rw (start-there, ← drop-drop 1 (1 + length p) body)
        (ap (λ (l : List ℕ). drop 1 l) (drop_at (colon ∷ p) (space ∷ tail) (1 + length p) (omega arith)))

-- ---- the parts of a good message
module _ (d : Content) (ok : good d ≡ true) where
  good-source : good_source d.prefix ≡ true
  unfolding good
  good-source = and_left (good_source d.prefix) _ ok

  pub good-command : is_command d.command ≡ true
  unfolding good
  good-command = and_left _ _ (and_right (good_source d.prefix) _ ok)

  good-params : good_params d.params ≡ true
  unfolding good
  good-params = and_left _ _ (and_right (is_command d.command) _ (and_right (good_source d.prefix) _ ok))

  pub good-few : length d.params ≤ param_limit
  unfolding good
  good-few = leb-true _ _ (and_right (good_params d.params) _ (and_right (is_command d.command) _ (and_right (good_source d.prefix) _ ok)))

source_clear : (p : List ℕ) → good_prefix p ≡ true → all is_non_space p ≡ true
unfolding good_prefix
source_clear p h = and_right (all is_plain p) (all is_non_space p) (and_right (not (is_nil p)) _ h)

source-plain : (p : List ℕ) → good_prefix p ≡ true → all is_plain p ≡ true
unfolding good_prefix
source-plain p h = and_left (all is_plain p) (all is_non_space p) (and_right (not (is_nil p)) _ h)

source-full : (p : List ℕ) → good_prefix p ≡ true → is_nil p ≡ false
unfolding good_prefix
source-full p h = not-true (is_nil p) (and_left (not (is_nil p)) _ h)

-- ---- what the written form of a good message holds, k middles being counted before its parameters
parts-back : (o : Option (List ℕ)) (c : List ℕ) (ps : List (List ℕ)) (k : ℕ) → good_source o ≡ true → is_middle c ≡ true → good_params ps ≡ true → Fits k ps
    → read_from k (written_prefix o ++ c ++ written_params k ps) ≡ content o c ps
unfolding starts_with written_prefix good_source
parts-back none c ps k h is ok f =
    let b : List ℕ = c ++ written_params k ps in
    let e = bare-start k c ps is ok f in
    content-eq (read_from k b) (content none c ps) (rw (prefix-none (written_params k ps) c is)) (command-there k c ps is ok f b e) (params-there k c ps is ok f b e)
parts-back (some p) c ps k h is ok f =
    let clear = source_clear p h in
    let b : List ℕ = body k c ps is ok f p clear in
    let e = tail-there k c ps is ok f p clear in
    let w : written_prefix (some p) ++ c ++ written_params k ps ≡ b = simp append_assoc in
    rw w (content-eq (read_from k b) (content (some p) c ps) (ap some (prefix-there k c ps is ok f p clear)) (command-there k c ps is ok f b e) (params-there k c ps is ok f b e))

prefix-plain : (o : Option (List ℕ)) → good_source o ≡ true → all is_plain (written_prefix o) ≡ true
unfolding written_prefix good_source all is_plain
prefix-plain none h = refl
prefix-plain (some p) h = all_append is_plain p (space ∷ []) (source-plain p h) refl

-- the body of a message whose parameters are written as if k came before them
abbrev pub body_from : ℕ → Content → List ℕ
body_from k d = written_prefix d.prefix ++ d.command ++ written_params k d.params

module _ (k : ℕ) (d : Content) (ok : good d ≡ true) where
  pub content-back : Fits k d.params → read_from k (body_from k d) ≡ d
  content-back f = parts-back d.prefix d.command d.params k (good-source d ok) (command-middle d.command (good-command d ok)) (good-params d ok) f

  pub body-plain : all is_plain (body_from k d) ≡ true
  body-plain =
      all_append is_plain (written_prefix d.prefix ++ d.command) (written_params k d.params)
      (all_append is_plain (written_prefix d.prefix) d.command (prefix-plain d.prefix (good-source d ok)) (command-plain d.command (good-command d ok)))
      (params-plain d.params (good-params d ok) k)

  pub body-full : is_nil (body_from k d) ≡ false
  body-full = nil-length (body_from k d) ∙ ne_eqb (length (body_from k d)) 0 (λ q. omega (arith, command-long d.command (good-command d ok), simp length-append at q))

-- ---- a good body has no refusal
pub good-reads : (k : ℕ) (b : List ℕ) → good (read_from k b) ≡ true → first_of (body_rules b) ≡ accepted
unfolding body_rules good_source
good-reads k b ok = skip _ _ sourced ∙ skip _ _ (rw (good-command (read_from k b) ok)) ∙ first-nil
  where
    sourced : has_prefix b && is_nil (prefix b) ≡ false
    sourced = go (has_prefix b) refl
      where
        go : (t : Bool) → has_prefix b ≡ t → has_prefix b && is_nil (prefix b) ≡ false
        go true h = rw h (source-full (prefix b) (rw h at (good-source (read_from k b) ok)))
        go false h = rw h

-- ---- a body and CR LF
module _ (b : List ℕ) where
  pub body_back : body_of (b ++ crlf) ≡ b
  unfolding body_of
  body_back = take_at b crlf (length (b ++ crlf) - 2) (simp length-append (omega arith))

  line-ends : ends_line (b ++ crlf) ≡ true
  unfolding ends_line same_by
  line-ends = rw (drop_at b crlf (length (b ++ crlf) - 2) (simp length-append (omega arith)))

  pub form-reads : all is_plain b ≡ true → is_nil b ≡ false → first_of (grammar_rules (b ++ crlf)) ≡ first_of (body_rules b)
  form-reads p h = skip _ _ (rw line-ends) ∙ skip _ _ (rw (body_back, p)) ∙ skip _ _ (rw (body_back, h)) ∙ ap (λ (s : List ℕ). first_of (body_rules s)) body_back
