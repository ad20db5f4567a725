-- The messages that can be written are exactly those whose parts pass the code's tests: what passes them reads back, and what is read
-- passes them. Assumes nothing.
use mathlib.Core.Path.{◌≡◌, refl, sym, ap, ◌∙◌}
use mathlib.Core.Bool.{Bool, true, false, true≢false, not, ◌&&◌, ◌||◌, or-true, and-true}
use mathlib.Core.List.{List, [], ◌∷◌, map}
use mathlib.Core.Option.{Option, some, none}
use Prim.Native.Nat.{ℕ, ◌≤◌}
use native.Mathlib.Omega.{arith}
use lib.ListN.{length, take, drop, length-map, length-take}
use lib.Dec.{eqb, leb}
use borrow.Author.Tests.{eq-eqb, eqb-true, le-leb, leb-true}
use Rattle.refusal.specs.Numbers.{accepted}
use Rattle.refusal.specs.Rules.{first_of}
use Rattle.octets.specs.Bytes.{space, colon, is_plain}
use Rattle.laws.specs.Lists.{all, is_nil, same}
use Rattle.laws.proofs.Bools.{and_left, and_right, and_intro, and-swap, both_ways}
use Rattle.laws.proofs.Lists.{nil-map, all_head, all_tail, all_cons, all_drop, same_by-refl, same_by-true}
use Rattle.octets.proofs.Bytes.{same_refl, same_true}
use Rattle.message.specs.declared.Span.{Span}
use Rattle.message.specs.declared.Message.{Message}
use Rattle.message.specs.Grammar.{Part, param_limit, word, is_middle, has_prefix, prefix, is_command, command_end, params}
use Rattle.message.specs.Content.{Content, bytes_of, content_in}
use Rattle.message.specs.Parts.{bytes_at, content_by}
use Rattle.message.specs.Reading.{body_of, grammar_rules}
use Rattle.message.proofs.Induction.{Claim, Clauses, of-rest}
use Rattle.message.proofs.Fifteenth.{params-few}
use Rattle.message.proofs.Readings.{Formed, formed}
use Rattle.message.proofs.SpanContents.{content-eq}
use Rattle.writer.specs.Form.{written_body, written, same_prefix, same_content, reads_back, lies_in, lies}
use Rattle.writer.specs.Private.Fit.{good_prefix, good_source, good_param, good_params, good, fit_prefix, fit_command, fit_param, fit_params, fit}
use Rattle.writer.proofs.Words.{all-word, word-clear, word-middle}
use Rattle.writer.proofs.Trips.{read_from, body_from, good-few, content-back, body-plain, body-full, good-reads, body_back, form-reads}

-- ---- the parameters that are read are good: all but the last are middles
good-cons : (p : List ℕ) (ps : List (List ℕ)) → all is_plain p ≡ true → is_middle p ≡ true → good_params ps ≡ true → good_params (p ∷ ps) ≡ true
unfolding good_params good_param
good-cons p ps a m h = simp (a, m, or-true (is_nil ps), h)

good-last : (p : List ℕ) → all is_plain p ≡ true → good_params (p ∷ []) ≡ true
unfolding good_params good_param
good-last p a = rw a

abbrev Good : Claim
Good k at s ps = all is_plain s ≡ true → good_params (bytes_of ps) ≡ true

read-params : Clauses Good Good
unfolding good_params
read-params = record {
  nothing = λ k at a. refl;
  spaced = λ k at s ps r a. r (all_tail is_plain space s a);
  trailing = λ k at s a. good-last s (all_tail is_plain colon s a);
  remains = λ k at x s p q l a. good-last (x ∷ s) a;
  middle = λ k at x s ps p q l m a.
      let b = all_tail is_plain x s a in
      good-cons (x ∷ word s) (bytes_of ps) (all_cons is_plain x (word s) (all_head is_plain x s a) (all-word is_plain s b)) (word-middle x s p q) (m b);
  ends = λ k at a. refl;
  stops = λ k at s ps r a. r (all_tail is_plain space s a);
  goes = λ k at x s ps p m a. m (all_tail is_plain x s a);
}

-- ---- what a line that keeps to the grammar holds is good
prefix-run : (b : List ℕ) → has_prefix b ≡ true → prefix b ≡ word (drop 1 b)
unfolding prefix
prefix-run b h = rw h

module _ (line : List ℕ) (f : Formed line) where
  abbrev body : List ℕ
  body = body_of line

  prefix-good : has_prefix body ≡ true → good_prefix (prefix body) ≡ true
  unfolding good_prefix
  prefix-good h =
      let p : prefix body ≡ word (drop 1 body) = prefix-run body h in
      let n : is_nil (prefix body) ≡ false = rw h at f.prefixed in
      rw (n, p) (and_intro _ _ (all-word is_plain (drop 1 body) (all_drop is_plain 1 body f.plain)) (word-clear (drop 1 body)))

  source-good : (k : ℕ) → good_source (read_from k body).prefix ≡ true
  unfolding good_source
  source-good k = go (has_prefix body) refl
    where
      go : (t : Bool) → has_prefix body ≡ t → good_source (read_from k body).prefix ≡ true
      go true h = rw h (prefix-good h)
      go false h = rw h

  pub read-good : (k : ℕ) → length (read_from k body).params ≤ param_limit → good (read_from k body) ≡ true
  unfolding good
  read-good k few =
      and_intro _ _ (source-good k) (and_intro _ _ f.commanded (and_intro _ _
      (of-rest Good Good read-params (drop (command_end body) body) k (command_end body) (all_drop is_plain (command_end body) body f.plain))
      (le-leb (length (read_from k body).params) param_limit few)))

  pub formed-good : good (content_in body) ≡ true
  unfolding content_in params
  formed-good = read-good 0 (omega (arith, params-few body, length-map (params body) (λ (x : Part). x.bytes)))

-- ---- equal, byte for byte
prefix_refl : (o : Option (List ℕ)) → same_prefix o o ≡ true
unfolding same_prefix
prefix_refl none = refl
prefix_refl (some p) = same_refl p

prefix-true : (o q : Option (List ℕ)) → same_prefix o q ≡ true → o ≡ q
unfolding same_prefix
prefix-true none none e = refl
prefix-true none (some q) e = absurd (true≢false (sym e))
prefix-true (some p) none e = absurd (true≢false (sym e))
prefix-true (some p) (some q) e = ap some (same_true p q e)

pub content-refl : (d : Content) → same_content d d ≡ true
unfolding same_content
content-refl d = simp (prefix_refl, same_refl, same_by-refl same same_refl)

pub content-true : (d e : Content) → same_content d e ≡ true → d ≡ e
unfolding same_content
content-true d e h =
    let a = and_right (same_prefix d.prefix e.prefix) _ h in
    content-eq d e (prefix-true _ _ (and_left (same_prefix d.prefix e.prefix) _ h)) (same_true _ _ (and_left (same d.command e.command) _ a))
    (same_by-true same same_true _ _ (and_right (same d.command e.command) _ a))

-- ---- the tests of the parts are exactly "reads back as it"
pub good-form : (d : Content) → good d ≡ true → (first_of (grammar_rules (written d)) ≡ accepted) × (content_in (body_of (written d)) ≡ d)
unfolding written written_body content_in params
good-form d ok =
    let back = content-back 0 d ok (λ l. omega (arith, good-few d ok)) in
    (form-reads (body_from 0 d) (body-plain 0 d ok) (body-full 0 d ok) ∙ good-reads 0 (body_from 0 d) (ap good back ∙ ok), ap content_in (body_back (body_from 0 d)) ∙ back)

pub good-exactly : (d : Content) → good d ≡ reads_back d
unfolding reads_back
good-exactly d = both_ways (good d) (reads_back d) forth back
  where
    forth : good d ≡ true → reads_back d ≡ true
    forth ok = let r = good-form d ok in and_intro _ _ (eq-eqb _ accepted r.0) (rw r.1 (content-refl d))

    back : reads_back d ≡ true → good d ≡ true
    back h =
        let e : first_of (grammar_rules (written d)) ≡ accepted = eqb-true _ accepted (and_left (eqb (first_of (grammar_rules (written d))) accepted) _ h) in
        let f : content_in (body_of (written d)) ≡ d = content-true _ d (and_right (eqb (first_of (grammar_rules (written d))) accepted) _ h) in
        rw f at (formed-good (written d) (formed (written d) e))

-- ---- the tests of the spans are exactly those of number 24
fit-params : (text : List ℕ) (ss : List Span) → fit_params text ss ≡ all (lies_in (length text)) ss && good_params (map (bytes_at text) ss)
unfolding fit_params fit_param all good_params
fit-params text [] = refl
fit-params text (s ∷ ss) =
    let l : Bool = lies_in (length text) s in
    let ls : Bool = all (lies_in (length text)) ss in
    let gs : Bool = good_params (map (bytes_at text) ss) in
    ap (λ (t : Bool). fit_param text (is_nil ss) s && t) (fit-params text ss)
    ∙ and-swap l (good_param (is_nil ss) (bytes_at text s)) ls gs
    ∙ ap (λ (t : Bool). (l && ls) && (good_param t (bytes_at text s) && gs)) (sym (nil-map (bytes_at text) ss))

parted : (l g lc c ls gs : Bool) → (l && g) && ((lc && c) && (ls && gs)) ≡ (l && (lc && ls)) && (g && (c && gs))
parted l g lc c ls gs = ap (λ (t : Bool). (l && g) && t) (and-swap lc c ls gs) ∙ and-swap l g (lc && ls) (c && gs)

module _ (text : List ℕ) (m : Message) where
  abbrev spans : List Span
  spans = take m.count m.params

  few : leb m.count param_limit ≡ true → leb (length (map (bytes_at text) spans)) param_limit ≡ true
  few h =
      le-leb (length (map (bytes_at text) spans)) param_limit
      (omega (arith, leb-true m.count param_limit h, length-map spans (bytes_at text), length-take m.count m.params))

  fit-prefix : fit_prefix text m ≡ (not m.has_prefix || lies_in (length text) m.prefix) && good_source (content_by text m).prefix
  unfolding fit_prefix content_by good_source
  fit-prefix = go m.has_prefix refl
    where
      go : (t : Bool) → m.has_prefix ≡ t → fit_prefix text m ≡ (not m.has_prefix || lies_in (length text) m.prefix) && good_source (content_by text m).prefix
      go true h = rw h
      go false h = rw h

  fit-good : fit text m ≡ lies text m && good (content_by text m)
  unfolding fit fit_command lies good content_by
  fit-good = go (leb m.count param_limit) refl
    where
      go : (t : Bool) → leb m.count param_limit ≡ t → fit text m ≡ lies text m && good (content_by text m)
      go false h = rw h
      go true h =
          rw (h, few h, fit-prefix, fit-params text spans, and-true (good_params (map (bytes_at text) spans)))
          (parted (not m.has_prefix || lies_in (length text) m.prefix) (good_source (content_by text m).prefix) (lies_in (length text) m.command) (is_command (bytes_at text m.command)) (all (lies_in (length text)) spans) (good_params (map (bytes_at text) spans)))

  pub fit-exactly : fit text m ≡ lies text m && reads_back (content_by text m)
  fit-exactly = fit-good ∙ ap (λ (t : Bool). lies text m && t) (good-exactly (content_by text m))
