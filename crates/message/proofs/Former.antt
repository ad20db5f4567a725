-- What became of number 10: 01's grammar and today's agree up to the fourteenth parameter, since the rules differ only after fourteen middles; what follows them is one parameter
-- today, and begins with the one that followed them. Assumes nothing.
use mathlib.Core.Path.{◌≡◌, refl, sym, ap, ◌∙◌}
use mathlib.Core.Bool.{Bool, true, false}
use mathlib.Core.List.{List, [], ◌∷◌}
use Prim.Native.Nat.{ℕ, zero, suc, ◌+◌, ◌<◌, min}
use native.Mathlib.Omega.{arith}
use lib.ListN.{length, take, drop, get_or, length-drop}
use lib.Seq.{take_all, take-length}
use lib.Dec.{eqb, ltb}
use borrow.Author.Tests.{eqb-true, eqb-false, ltb-true}
use Rattle.refusal.specs.Numbers.{accepted, too_many_params}
use Rattle.refusal.specs.Rules.{first_of}
use Rattle.refusal.proofs.Rules.{skip, stop, first-nil, first-lacks, append-some, append-none}
use Rattle.message.specs.Grammar.{param_limit, middle_limit, Part, part_at, word, rest, command_end, params}
use Rattle.message.specs.Reading.{body_of, body_rules, line_rules, number_for, content_of}
use Rattle.message.specs.Former.{former_rest, former_after, former_params, sixteenth, former_line_rules, Keeps, Opens}
use Rattle.message.proofs.Runs.{word-front}
use Rattle.message.proofs.Induction.{Claim, Clauses, of-rest}
use Rattle.message.proofs.Places.{command-end-in}
use Rattle.message.proofs.Readings.{rules-numbered, number_read, read_count}

-- ---- where more than fourteen middles are counted before, as in no line, today's rules are 01's
abbrev Rests : Claim
Rests k at s ps = middle_limit < k → ps ≡ former_rest at s

abbrev Follows : Claim
Follows k at s ps = middle_limit < k → ps ≡ former_after at s

past : Clauses Rests Follows
unfolding former_rest
past = record {
  nothing = λ k at h. refl;
  spaced = λ k at s ps r. r;
  trailing = λ k at s h. refl;
  remains = λ k at x s p q l h. absurd (omega arith);
  middle = λ k at x s ps p q l m h. rw (p, q) (ap (λ (qs : List Part). part_at at (x ∷ word s) ∷ qs) (m (omega arith)));
  ends = λ k at h. refl;
  stops = λ k at s ps r. r;
  goes = λ k at x s ps p m h. rw p (m h);
}

pub rest-past : (s : List ℕ) (k at : ℕ) → middle_limit < k → rest k at s ≡ former_rest at s
rest-past = of-rest Rests Follows past

-- ---- up to fourteen
-- a part begins where the other does, with its bytes
record Begins (p q : Part) : Type 0 where
  start : p.start ≡ q.start
  bytes : take (length q.bytes) p.bytes ≡ q.bytes

begins-same : (p : Part) → Begins p p
begins-same p = record { start = refl; bytes = take-length p.bytes }

-- Up to n parts are the same; of more the next is the last of the first list, and begins as that of the other does.
abbrev Alike : ℕ → List Part → List Part → Type 0
Alike n [] [] = Unit {0}
Alike n [] (q ∷ qs) = ⊥
Alike n (p ∷ ps) [] = ⊥
Alike zero (p ∷ ps) (q ∷ qs) = (ps ≡ []) × Begins p q
Alike (suc n) (p ∷ ps) (q ∷ qs) = (p ≡ q) × Alike n ps qs

alike-alone : (n : ℕ) (p : Part) → Alike n (p ∷ []) (p ∷ [])
alike-alone zero p = (refl, begins-same p)
alike-alone (suc n) p = (refl, tt)

alike-last : (n : ℕ) (p q : Part) (qs : List Part) → n ≡ 0 → Begins p q → Alike n (p ∷ []) (q ∷ qs)
alike-last zero p q qs e b = (refl, b)
alike-last (suc n) p q qs e b = absurd (omega (arith, e))

alike-cons : (n : ℕ) (p : Part) (ps qs : List Part) → (n ≡ 0 → ⊥) → ((m : ℕ) → n ≡ suc m → Alike m ps qs) → Alike n (p ∷ ps) (p ∷ qs)
alike-cons zero p ps qs ne f = absurd (ne refl)
alike-cons (suc n) p ps qs ne f = (refl, f n refl)

abbrev RestsAlike : Claim
RestsAlike k at s ps = (n : ℕ) → k + n ≡ middle_limit → Alike n ps (former_rest at s)

abbrev FollowsAlike : Claim
FollowsAlike k at s ps = (n : ℕ) → k + n ≡ middle_limit → Alike n ps (former_after at s)

alike : Clauses RestsAlike FollowsAlike
unfolding former_rest
alike = record {
  nothing = λ k at n h. tt;
  spaced = λ k at s ps r. r;
  trailing = λ k at s n h. alike-alone n (part_at (at + 1) s);
  remains = λ k at x s p q l n h.
      rw (p, q) (alike-last n (part_at at (x ∷ s)) (part_at at (x ∷ word s)) (former_after (at + 1) s) (omega (arith, l, h)) (record { start = refl; bytes = ap (λ (w : List ℕ). x ∷ w) (word-front s) }));
  middle = λ k at x s ps p q l m n h.
      rw (p, q) (alike-cons n (part_at at (x ∷ word s)) ps (former_after (at + 1) s) (λ z. l (omega (arith, h, z))) (λ i e. m i (omega (arith, h, e))));
  ends = λ k at n h. tt;
  stops = λ k at s ps r. r;
  goes = λ k at x s ps p m n h. rw p (m n h);
}

alike-count : (n : ℕ) (ps qs : List Part) → Alike n ps qs → length ps ≡ min (suc n) (length qs)
alike-count n [] [] a = omega arith
alike-count n [] (q ∷ qs) a = absurd a
alike-count n (p ∷ ps) [] a = absurd a
alike-count zero (p ∷ ps) (q ∷ qs) a = omega (arith, ap (λ (l : List Part). length l) a.0)
alike-count (suc n) (p ∷ ps) (q ∷ qs) a = omega (arith, alike-count n ps qs a.1)

alike-front : (n : ℕ) (ps qs : List Part) → Alike n ps qs → take n ps ≡ take n qs
alike-front n [] [] a = refl
alike-front n [] (q ∷ qs) a = absurd a
alike-front n (p ∷ ps) [] a = absurd a
alike-front zero (p ∷ ps) (q ∷ qs) a = refl
alike-front (suc n) (p ∷ ps) (q ∷ qs) a = rw (a.0, alike-front n ps qs a.1)

alike_next : (n : ℕ) (ps qs : List Part) → Alike n ps qs → Begins (get_or ps n (part_at 0 [])) (get_or qs n (part_at 0 []))
alike_next n [] [] a = begins-same (part_at 0 [])
alike_next n [] (q ∷ qs) a = absurd a
alike_next n (p ∷ ps) [] a = absurd a
alike_next zero (p ∷ ps) (q ∷ qs) a = a.1
alike_next (suc n) (p ∷ ps) (q ∷ qs) a = alike_next n ps qs a.1

-- ---- the fifteenth ends where the body does
-- the part in place n ends at a place
abbrev EndsAt : ℕ → ℕ → List Part → Type 0
EndsAt e n [] = Unit {0}
EndsAt e zero (p ∷ ps) = p.start + length p.bytes ≡ e
EndsAt e (suc n) (p ∷ ps) = EndsAt e n ps

ends-alone : (e n i : ℕ) (bytes : List ℕ) → i + length bytes ≡ e → EndsAt e n (part_at i bytes ∷ [])
ends-alone e zero i bytes h = h
ends-alone e (suc n) i bytes h = tt

ends-cons : (e n : ℕ) (p : Part) (ps : List Part) → (n ≡ 0 → ⊥) → ((m : ℕ) → n ≡ suc m → EndsAt e m ps) → EndsAt e n (p ∷ ps)
ends-cons e zero p ps ne f = absurd (ne refl)
ends-cons e (suc n) p ps ne f = f n refl

abbrev Ends : Claim
Ends k at s ps = (e n : ℕ) → at + length s ≡ e → k + n ≡ middle_limit → EndsAt e n ps

ending : Clauses Ends Ends
ending = record {
  nothing = λ k at e n is h. tt;
  spaced = λ k at s ps r e n is h. r e n (omega (arith, is)) h;
  trailing = λ k at s e n is h. ends-alone e n (at + 1) s (omega (arith, is));
  remains = λ k at x s p q l e n is h. ends-alone e n at (x ∷ s) is;
  middle = λ k at x s ps p q l m e n is h. ends-cons e n (part_at at (x ∷ word s)) ps (λ z. l (omega (arith, h, z))) (λ i f. m e i (omega (arith, is)) (omega (arith, h, f)));
  ends = λ k at e n is h. tt;
  stops = λ k at s ps r e n is h. r e n (omega (arith, is)) h;
  goes = λ k at x s ps p m e n is h. m e n (omega (arith, is)) h;
}

ends_at : (e n : ℕ) (ps : List Part) → EndsAt e n ps → length ps ≡ suc n → (get_or ps n (part_at 0 [])).start + length (get_or ps n (part_at 0 [])).bytes ≡ e
ends_at e n [] a h = absurd (omega (arith, h))
ends_at e zero (p ∷ ps) a h = a
ends_at e (suc n) (p ∷ ps) a h = ends_at e n ps a (omega (arith, h))

-- ---- the parameters of a body
module _ (body : List ℕ) where
  params-alike : Alike middle_limit (params body) (former_params body)
  unfolding params former_params
  params-alike = of-rest RestsAlike FollowsAlike alike (drop (command_end body) body) 0 (command_end body) middle_limit refl

  params-end : EndsAt (length body) middle_limit (params body)
  unfolding params
  params-end = of-rest Ends Ends ending (drop (command_end body) body) 0 (command_end body) (length body) middle_limit (omega (arith, length-drop (command_end body) body, command-end-in body)) refl

  pub keeps : Keeps body
  keeps =
      let count = alike-count middle_limit (params body) (former_params body) params-alike in
      let front = alike-front middle_limit (params body) (former_params body) params-alike in
      let next = alike_next middle_limit (params body) (former_params body) params-alike in
      record {
        few = λ h. sym (take_all middle_limit (params body) (omega (arith, count, h))) ∙ front ∙ take_all middle_limit (former_params body) h;
        front = front;
        count = count;
        start = next.start;
        begins = next.bytes;
        ends = ends_at (length body) middle_limit (params body) params-end;
      }

-- ---- the number of a line
module _ (line : List ℕ) where
  never-10 : number_for line ≡ too_many_params → ⊥
  unfolding number_for line_rules body_rules
  never-10 = eqb-false (number_for line) too_many_params (first-lacks too_many_params (line_rules line) (λ z. omega arith) refl)

  -- what isn't read got the number that it gets
  refused-same : (number_for line ≡ accepted → ⊥) → number_for line ≡ first_of (former_line_rules line)
  unfolding number_for former_line_rules
  refused-same ne = sym (append-some _ (line_rules line) ne)

  -- what is read got 10 or none, by the number of its parameters
  read-was : number_for line ≡ accepted → first_of (former_line_rules line) ≡ first_of (sixteenth line)
  unfolding number_for former_line_rules
  read-was f = append-none (sixteenth line) (line_rules line) (rules-numbered line) f

  read_same : number_for line ≡ accepted → (first_of (former_line_rules line) ≡ too_many_params → ⊥) → number_for line ≡ first_of (former_line_rules line)
  read_same f ne = go (ltb param_limit (length (former_params (body_of line)))) refl
    where
      go : (t : Bool) → ltb param_limit (length (former_params (body_of line))) ≡ t → number_for line ≡ first_of (former_line_rules line)
      go true h = absurd (ne (read-was f ∙ stop _ _ h))
      go false h = f ∙ sym (read-was f ∙ skip _ _ h ∙ first-nil)

  read-fifteen : number_for line ≡ accepted → first_of (former_line_rules line) ≡ too_many_params → length (content_of line).params ≡ param_limit
  read-fifteen f e = go (ltb param_limit (length (former_params (body_of line)))) refl
    where
      go : (t : Bool) → ltb param_limit (length (former_params (body_of line))) ≡ t → length (content_of line).params ≡ param_limit
      go true h = omega (arith, read_count line (number_read line f), (keeps (body_of line)).count, ltb-true param_limit (length (former_params (body_of line))) h)
      go false h = absurd (omega (arith, sym e ∙ read-was f ∙ skip _ _ h ∙ first-nil))

  pub opens : Opens line
  opens = go (eqb (number_for line) accepted) refl
    where
      go : (t : Bool) → eqb (number_for line) accepted ≡ t → Opens line
      go true h = let f = eqb-true (number_for line) accepted h in record { opened = λ e. f; fifteen = read-fifteen f; others = read_same f; never = never-10 }
      go false h =
          let same = refused-same (eqb-false (number_for line) accepted h) in
          record { opened = λ e. absurd (never-10 (same ∙ e)); fifteen = λ e. absurd (never-10 (same ∙ e)); others = λ ne. same; never = never-10 }
