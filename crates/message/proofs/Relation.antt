-- The functions `rest` and `after_middle` give exactly what the two rules of `Syntax` have, and so does `params`. Assumes nothing.
use mathlib.Core.Path.{◌≡◌, refl, sym, ap, ◌∙◌}
use mathlib.Core.Bool.{Bool, true, false, true≢false, not, ◌&&◌}
use mathlib.Core.List.{List, [], ◌∷◌, ◌++◌, append-nil}
use Prim.Native.Nat.{ℕ, ◌+◌, ◌≤◌, ◌<◌}
use native.Mathlib.Omega.{arith}
use lib.ListN.{length, drop}
use lib.Seq.{append_snoc, drop-drop}
use lib.Dec.{eqb}
use borrow.Author.Tests.{ne_eqb, eqb-true, not-true}
use Rattle.octets.specs.Bytes.{space, colon, is_non_space}
use Rattle.laws.specs.Lists.{all}
use Rattle.laws.proofs.Bools.{and_left, and_right}
use Rattle.laws.proofs.Lists.{all_cons, all_append}
use Rattle.message.specs.Grammar.{Part, middle_limit, part_at, word, is_middle, is_bare, rest, after_middle, command_start, command, command_end, params}
use Rattle.message.specs.Content.{bytes_of}
use Rattle.message.specs.Syntax.{Spaces, Rest, Middle, Parameters}
use Rattle.message.specs.Syntax.Spaces.{one, more}
use Rattle.message.specs.Syntax.Rest.{nothing, trailing, middle, remains}
use Rattle.message.specs.Syntax.Middle.{ends, followed}
use Rattle.message.specs.Syntax.Parameters.{absent, follow}
use Rattle.message.proofs.Separated.{word-append}
use Rattle.message.proofs.Induction.{Claim, Clauses, of-rest}

-- t is empty or begins with a SPACE
abbrev pub Stops : List ℕ → Type 0
Stops [] = Unit {0}
Stops (b ∷ s) = b ≡ space

-- no word begins there
pub stops-word : (t : List ℕ) → Stops t → word t ≡ []
unfolding word
stops-word [] h = refl
stops-word (b ∷ s) h = rw h

pub middle-stop : (t : List ℕ) → Stops t → (k at : ℕ) → after_middle k at t ≡ rest k at t
unfolding rest
middle-stop [] h k at = refl
middle-stop (b ∷ s) h k at = rw h

module _ (t : List ℕ) (stops : Stops t) where
  pub middle-append : (w : List ℕ) → all is_non_space w ≡ true → (k at : ℕ) → after_middle k at (w ++ t) ≡ rest k (at + length w) t
  unfolding all rest
  middle-append [] h k at = middle-stop t stops k at ∙ ap (λ (n : ℕ). rest k n t) (omega arith)
  middle-append (b ∷ w) h k at =
      let e : eqb b space ≡ false = not-true (eqb b space) (and_left (is_non_space b) (all is_non_space w) h) in
      rw e (middle-append w (and_right (is_non_space b) (all is_non_space w) h) k (at + 1) ∙ ap (λ (n : ℕ). rest k n t) (omega arith))

-- ---- what the relation has, the function gives
spaces-pass : {r : List ℕ} → Spaces r → (s : List ℕ) (k at : ℕ) → rest k at (r ++ s) ≡ rest k (at + length r) s
unfolding rest
spaces-pass one s k at = refl
spaces-pass (more {s = r} p) s k at = spaces-pass p s k (at + 1) ∙ ap (λ (n : ℕ). rest k n s) (omega arith)

spaces-stop : {r : List ℕ} → Spaces r → (s : List ℕ) → Stops (r ++ s)
spaces-stop one s = refl
spaces-stop (more p) s = refl

spaces-alone : {r : List ℕ} → Spaces r → Stops r
spaces-alone one = refl
spaces-alone (more p) = refl

rest-stops : {k : ℕ} {s : List ℕ} {ps : List (List ℕ)} → Rest k s ps → Stops s
rest-stops (nothing p) = spaces-alone p
rest-stops (trailing r t p e) = rw e (spaces-stop p (colon ∷ t))
rest-stops (middle r m p e l q) = rw e (spaces-stop p m)
rest-stops (remains r t p e l h) = rw e (spaces-stop p t)

pub middle-read : (t : List ℕ) → Stops t → (w : List ℕ) → is_middle w ≡ true → (k at : ℕ) → (k ≡ middle_limit → ⊥) → rest k at (w ++ t) ≡ part_at at w ∷ rest (k + 1) (at + length w) t
unfolding is_middle rest all
middle-read t stops [] h k at l = absurd (true≢false (sym h))
middle-read t stops (b ∷ w) h k at l =
    let a : is_non_space b && all is_non_space w ≡ true = and_right (not (eqb b colon)) (is_non_space b && all is_non_space w) h in
    let c : eqb b colon ≡ false = not-true (eqb b colon) (and_left (not (eqb b colon)) (is_non_space b && all is_non_space w) h) in
    let e : eqb b space ≡ false = not-true (eqb b space) (and_left (is_non_space b) (all is_non_space w) a) in
    let n : all is_non_space w ≡ true = and_right (is_non_space b) (all is_non_space w) a in
    rw (e, c, ne_eqb k middle_limit l, word-append w t n (stops-word t stops)) (ap (λ (l : List Part). part_at at (b ∷ w) ∷ l) (middle-append t stops w n (k + 1) (at + 1) ∙ ap (λ (i : ℕ). rest (k + 1) i t) (omega arith)))

-- all that remains after the fourteenth middle
pub bare-read : (t : List ℕ) → is_bare t ≡ true → (k at : ℕ) → k ≡ middle_limit → rest k at t ≡ part_at at t ∷ []
unfolding is_bare rest
bare-read [] h k at l = absurd (true≢false (sym h))
bare-read (b ∷ t) h k at l =
    let c : eqb b colon ≡ false = not-true (eqb b colon) (and_left (not (eqb b colon)) (is_non_space b) h) in
    let e : eqb b space ≡ false = not-true (eqb b space) (and_right (not (eqb b colon)) (is_non_space b) h) in
    rw (e, c, l)

mutual
  unfolding rest

  pub complete : {k : ℕ} {s : List ℕ} {ps : List (List ℕ)} → Rest k s ps → (at : ℕ) → bytes_of (rest k at s) ≡ ps
  complete (nothing {k = k} {s = s} p) at = ap (λ (l : List ℕ). bytes_of (rest k at l)) (sym (append-nil s)) ∙ ap bytes_of (spaces-pass p [] k at)
  complete (trailing {k = k} r t p e) at = rw e (ap bytes_of (spaces-pass p (colon ∷ t) k at))
  complete (middle {k = k} r m p e l q) at = rw e (ap bytes_of (spaces-pass p m k at) ∙ complete-middle q l (at + length r))
  complete (remains {k = k} r t p e l h) at = rw e (ap bytes_of (spaces-pass p t k at ∙ bare-read t h k (at + length r) l))

  complete-middle : {k : ℕ} {s : List ℕ} {ps : List (List ℕ)} → Middle k s ps → k < middle_limit → (at : ℕ) → bytes_of (rest k at s) ≡ ps
  complete-middle (ends {k = k} {w = w} h) l at = ap (λ (s : List ℕ). bytes_of (rest k at s)) (sym (append-nil w)) ∙ ap bytes_of (middle-read [] tt w h k at (λ q. omega arith))
  complete-middle (followed {k = k} w t h e q) l at =
      rw e (ap bytes_of (middle-read t (rest-stops q) w h k at (λ z. omega arith)) ∙ ap (λ (ps : List (List ℕ)). w ∷ ps) (complete q (at + length w)))

-- ---- what the function gives, the relation has
spaces-more : {r : List ℕ} → Spaces r → Spaces (r ++ (space ∷ []))
spaces-more one = more one
spaces-more (more p) = more (spaces-more p)

middle-more : (w : List ℕ) (b : ℕ) → is_middle w ≡ true → is_non_space b ≡ true → is_middle (w ++ (b ∷ [])) ≡ true
unfolding is_middle all
middle-more [] b h e = absurd (true≢false (sym h))
middle-more (x ∷ w) b h e = rw (and_left (not (eqb x colon)) (all is_non_space (x ∷ w)) h) (all_append is_non_space (x ∷ w) (b ∷ []) (and_right (not (eqb x colon)) (all is_non_space (x ∷ w)) h) (all_cons is_non_space b [] e refl))

-- a run of SPACEs before a rest, and bytes of a middle before what follows it
abbrev Rests : Claim
Rests k at s ps = (r : List ℕ) → Spaces r → k ≤ middle_limit → Rest k (r ++ s) (bytes_of ps)

abbrev Follows : Claim
Follows k at s ps = (j : ℕ) (w : List ℕ) → k ≡ j + 1 → j < middle_limit → is_middle w ≡ true → Middle j (w ++ s) ((w ++ word s) ∷ bytes_of ps)

has : Clauses Rests Follows
unfolding is_middle is_bare all word
has = record {
  nothing = λ k at r run few. rw (append-nil r) (nothing run);
  spaced = λ k at s ps h r run few. rw (append_snoc r space s) at (h (r ++ (space ∷ [])) (spaces-more run) few);
  trailing = λ k at s r run few. trailing r s run refl;
  remains = λ k at x s p q l r run few. remains r (x ∷ s) run refl l (rw (q, p));
  middle = λ k at x s ps p q l h r run few. let below : k < middle_limit = omega (arith, l) in middle r (x ∷ s) run refl below (h k (x ∷ []) refl below (rw (q, p)));
  ends = λ k at j w e below is. rw (append-nil w) (ends is);
  stops = λ k at s ps h j w e below is. rw (append-nil w) (followed w (space ∷ s) is refl (rw e at (h (space ∷ []) one (omega (arith, e)))));
  goes = λ k at x s ps p h j w e below is. rw (p, ← append_snoc w x s, ← append_snoc w x (word s)) (h j (w ++ (x ∷ [])) e below (middle-more w x is (rw p)));
}

-- ---- the parameters of a body are those that the rules give it
-- a word is followed by a SPACE or the end
pub word-then : (s : List ℕ) → Stops (drop (length (word s)) s)
unfolding word
word-then [] = tt
word-then (b ∷ s) = go (eqb b space) refl (word-then s)
  where
    go : (t : Bool) → eqb b space ≡ t → Stops (drop (length (word s)) s) → Stops (drop (length (word (b ∷ s))) (b ∷ s))
    go true e ih = rw e (eqb-true b space e)
    go false e ih = rw e ih

-- what stops a word has the parameters that the function gives
stopped : (s : List ℕ) → Stops s → (at : ℕ) → Parameters s (bytes_of (rest 0 at s))
unfolding rest
stopped [] h at = absent
stopped (b ∷ s) h at = rw h (follow (of-rest Rests Follows has s 0 (at + 1) (space ∷ []) one (omega arith)))

only : {s : List ℕ} {ps : List (List ℕ)} → Parameters s ps → (at : ℕ) → bytes_of (rest 0 at s) ≡ ps
unfolding rest
only absent at = refl
only (follow r) at = complete r at

module _ (body : List ℕ) where
  pub params-follow : Parameters (drop (command_end body) body) (bytes_of (params body))
  unfolding params command_end command
  params-follow = stopped (drop (command_end body) body) after (command_end body)
    where
      after : Stops (drop (command_end body) body)
      after = rw (← drop-drop (length (word (drop (command_start body) body))) (command_start body) body) (word-then (drop (command_start body) body))

  pub params-only : (ps : List (List ℕ)) → Parameters (drop (command_end body) body) ps → bytes_of (params body) ≡ ps
  unfolding params
  params-only ps r = only r (command_end body)
