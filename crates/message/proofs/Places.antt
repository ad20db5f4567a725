-- Laws of spans: each span of a message in a line stands for the bytes that the grammar gives. Assumes nothing.
use mathlib.Core.Path.{◌≡◌, refl, sym, ap, ◌∙◌}
use mathlib.Core.Bool.{Bool, true, false, false≢true}
use mathlib.Core.List.{List, [], ◌∷◌, ◌++◌, map, append-nil}
use Prim.Native.Nat.{ℕ, zero, suc, ◌+◌, ◌-◌, ◌≤◌, ◌<◌, min}
use native.Mathlib.Omega.{arith}
use lib.ListN.{length, take, drop, get_or, length-append, length-drop, length-take, take-append-drop}
use lib.Seq.{take_at, take-nil, drop-length}
use Rattle.octets.specs.Bytes.{space, colon}
use Rattle.octets.specs.Room.{part}
use Rattle.laws.proofs.Lists.{drop-inside, drop-next, front-part, get_or-padded}
use Rattle.laws.specs.Lists.{starts_with}
use Rattle.message.specs.declared.Span.{Span}
use Rattle.message.specs.declared.Message.{Message}
use Rattle.message.specs.Grammar.{Part, part_at, param_limit, word, spaces, has_prefix, prefix, prefix_end, command_start, command, command_end, params}
use Rattle.message.specs.Content.{bytes_of}
use Rattle.message.specs.Parts.{empty_at, bytes_at, span_of, message_in}
use Rattle.message.proofs.Induction.{Claim, Clauses, of-rest}
use Rattle.message.proofs.Runs.{word_split, start-in, stop-in}

-- The span lies in s, and has these bytes there.
pub record Placed (s : List ℕ) (at : Span) (bytes : List ℕ) : Type 0 where
  pub forward : at.start ≤ at.end
  pub inside : at.end ≤ length s
  pub same : bytes_at s at ≡ bytes

-- a span that lies in s is not cut back
pub placed-start : (s : List ℕ) (at : Span) (bytes : List ℕ) → Placed s at bytes → min at.start (min at.end (length s)) ≡ at.start
placed-start s at bytes p = omega (arith, p.forward, p.inside)

-- ---- a part with its bytes at a place
-- bytes that stand at a place are the span from there on, of their length
standing : (s : List ℕ) (at : ℕ) (bytes more : List ℕ) → at ≤ length s → drop at s ≡ bytes ++ more → Placed s (span_of (part_at at bytes)) bytes
unfolding part
standing s at bytes more h e = record {
  forward = omega arith;
  inside = omega (arith, length-drop at s, length-append bytes more, ap (λ (l : List ℕ). length l) e);
  same = rw e (take_at bytes more (at + length bytes - at) (omega arith));
}

word-placed : (s : List ℕ) (at : ℕ) → at ≤ length s → Placed s (span_of (part_at at (word (drop at s)))) (word (drop at s))
word-placed s at h = standing s at (word (drop at s)) (drop (length (word (drop at s))) (drop at s)) h (word_split (drop at s))

pub empty-placed : (s : List ℕ) → Placed s (empty_at (length s)) []
unfolding part
empty-placed s = record {
  forward = omega arith;
  inside = omega arith;
  same = rw (drop-length s) (take-nil (length s - length s));
}

-- what is placed in a beginning of s is placed in s
placed-front : (s : List ℕ) (n : ℕ) (at : Span) (bytes : List ℕ) → Placed (take n s) at bytes → Placed s at bytes
unfolding part
placed-front s n at bytes p = record {
  forward = p.forward;
  inside = omega (arith, p.inside, length-take n s);
  same =
      ap (λ (l : List ℕ). take (at.end - at.start) (drop at.start l)) (sym (take-append-drop n s))
      ∙ front-part (take n s) (drop n s) at.start (at.end - at.start) (omega (arith, p.forward, p.inside))
      ∙ p.same;
}

-- ---- the prefix and the command
pub prefix-long : (b : List ℕ) → has_prefix b ≡ true → 1 ≤ length b
unfolding starts_with
prefix-long [] = λ e. absurd (false≢true e)
prefix-long (x ∷ s) = λ e. omega arith

module _ (b : List ℕ) where
  prefix-end-in : has_prefix b ≡ true → prefix_end b ≤ length b
  unfolding prefix_end prefix
  prefix-end-in h = rw h (stop-in b 1 (1 + length (word (drop 1 b))) (prefix-long b h) refl)

  command-start-in : command_start b ≤ length b
  unfolding command_start
  command-start-in = go (has_prefix b) refl
    where
      go : (t : Bool) → has_prefix b ≡ t → command_start b ≤ length b
      go true h = rw h (start-in b (prefix_end b) (prefix_end b + spaces (drop (prefix_end b) b)) (prefix-end-in h) refl)
      go false h = rw h (omega arith)

  pub command-end-in : command_end b ≤ length b
  unfolding command_end command
  command-end-in = stop-in b (command_start b) (command_end b) command-start-in refl

  pub command-placed : (n : ℕ) → Placed b (message_in b n).command (command b)
  unfolding message_in command_end command
  command-placed n = word-placed b (command_start b) command-start-in

-- ---- every parameter
abbrev pub Each : (Part → Type 0) → List Part → Type 0
Each P [] = Unit {0}
Each P (p ∷ ps) = P p × Each P ps

each-imp : (P Q : Part → Type 0) → ((p : Part) → P p → Q p) → (ps : List Part) → Each P ps → Each Q ps
each-imp P Q f [] e = tt
each-imp P Q f (p ∷ ps) e = (f p e.0, each-imp P Q f ps e.1)

-- a part has its bytes at its place in s
abbrev pub In : List ℕ → Part → Type 0
In s p = Placed s (span_of p) p.bytes

module _ (b : List ℕ) where
  remains-in : (at x : ℕ) (s : List ℕ) → drop at b ≡ x ∷ s → In b (part_at at (x ∷ s))
  remains-in at x s e = standing b at (x ∷ s) [] (omega (arith, drop-inside b at x s e)) (e ∙ sym (append-nil (x ∷ s)))

  trailing-in : (at x : ℕ) (s : List ℕ) → drop at b ≡ x ∷ s → In b (part_at (at + 1) s)
  trailing-in at x s e = standing b (at + 1) s [] (omega (arith, drop-inside b at x s e)) (drop-next b at x s e ∙ sym (append-nil s))

  middle-in : (at x : ℕ) (s : List ℕ) → drop at b ≡ x ∷ s → In b (part_at at (x ∷ word s))
  middle-in at x s e = standing b at (x ∷ word s) (drop (length (word s)) s) (omega (arith, drop-inside b at x s e)) (e ∙ ap (λ (l : List ℕ). x ∷ l) (word_split s))

  abbrev Within : Claim
  Within k at s ps = drop at b ≡ s → Each (In b) ps

  within : Clauses Within Within
  within = record {
    nothing = λ k at e. tt;
    spaced = λ k at s ps r e. r (drop-next b at space s e);
    trailing = λ k at s e. (trailing-in at colon s e, tt);
    remains = λ k at x s p q l e. (remains-in at x s e, tt);
    middle = λ k at x s ps p q l m e. (middle-in at x s e, m (drop-next b at x s e));
    ends = λ k at e. tt;
    stops = λ k at s ps r e. r (drop-next b at space s e);
    goes = λ k at x s ps p m e. m (drop-next b at x s e);
  }

  pub params_in : Each (In b) (params b)
  unfolding params
  params_in = of-rest Within Within within (drop (command_end b) b) 0 (command_end b) refl

-- ---- the parts of a message in a line, whose body is its first j bytes
module _ (line : List ℕ) (j : ℕ) where
  abbrev body : List ℕ
  body = take j line

  abbrev m : Message
  m = message_in body (length line)

  pub prefix-in-line : Placed line m.prefix (prefix body)
  unfolding message_in prefix prefix_end
  prefix-in-line = go (has_prefix body) refl
    where
      go : (t : Bool) → has_prefix body ≡ t → Placed line m.prefix (prefix body)
      go true h = rw h (placed-front line j _ _ (word-placed body 1 (prefix-long body h)))
      go false h = rw h (empty-placed line)

  pub command-in-line : Placed line m.command (command body)
  unfolding message_in
  command-in-line = placed-front line j _ _ (command-placed body (length line))

  pub params-in-line : Each (In line) (params body)
  params-in-line = each-imp (In body) (In line) (λ p h. placed-front line j (span_of p) p.bytes h) (params body) (params_in body)

  each_at : (ps : List Part) → Each (In line) ps → (k : ℕ) → Placed line (get_or (map span_of ps) k (empty_at (length line))) (get_or (bytes_of ps) k [])
  each_at [] e k = empty-placed line
  each_at (p ∷ ps) e zero = e.0
  each_at (p ∷ ps) e (suc k) = each_at ps e.1 k

  pub param-in-line : (k : ℕ) (d : Span) → k < param_limit → Placed line (get_or m.params k d) (get_or (bytes_of (params body)) k [])
  unfolding message_in
  param-in-line k d h = rw (get_or-padded (empty_at (length line)) param_limit (map span_of (params body)) k d h) (each_at (params body) params-in-line k)
