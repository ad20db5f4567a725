-- The written form of what a body holds is no longer than the body: a middle is written with the one SPACE that it needs before it, a trailing part
-- with the ':' that it was read with, and what remains after fourteen middles without ':' is written without it. Assumes nothing.
use mathlib.Core.Path.{◌≡◌, refl, sym, ◌∙◌}
use mathlib.Core.Bool.{Bool, true, false}
use mathlib.Core.List.{List, [], ◌∷◌}
use Prim.Native.Nat.{ℕ, suc, ◌+◌, ◌-◌, ◌≤◌}
use native.Mathlib.Omega.{arith}
use lib.ListN.{length, drop, length-append, length-drop}
use lib.Seq.{drop-drop}
use Rattle.octets.specs.Bytes.{space}
use Rattle.laws.specs.Lists.{is_nil}
use Rattle.message.specs.Grammar.{word, spaces, is_middle, after_middle, has_prefix, prefix, prefix_end, command_start, command, command_end, params}
use Rattle.message.specs.Content.{bytes_of, content_in}
use Rattle.message.proofs.Induction.{Claim, Clauses, of-middle}
use Rattle.message.proofs.Runs.{middle-skip}
use Rattle.message.proofs.Relation.{Stops, middle-stop, word-then}
use Rattle.writer.specs.Form.{written_params, written_prefix, written_body}
use Rattle.writer.proofs.Words.{word-middle, bare-cons}
use Rattle.writer.proofs.Parts.{stands, stands_fifteenth}
use Rattle.writer.proofs.Trips.{bare-written, middle-written, trailing-written}

-- ---- the parameters
middle-length : (k : ℕ) (p : List ℕ) (ps : List (List ℕ)) → is_middle p ≡ true → length (written_params k (p ∷ ps)) ≡ suc (length p + length (written_params (k + 1) ps))
unfolding written_params
middle-length k p ps e = rw (middle-written k (is_nil ps) p e, length-append p (written_params (k + 1) ps))

-- one that stands without ':' takes a SPACE and its bytes
bare-length : (k : ℕ) (p : List ℕ) → stands k p ≡ true → length (written_params k (p ∷ [])) ≡ suc (length p)
unfolding written_params
bare-length k p e = rw (bare-written k true p e) (omega (arith, length-append p []))

last-length : (k : ℕ) (p : List ℕ) → length (written_params k (p ∷ [])) ≤ suc (suc (length p))
unfolding written_params
last-length k p = go (stands k p) refl
  where
    go : (t : Bool) → stands k p ≡ t → length (written_params k (p ∷ [])) ≤ suc (suc (length p))
    go true e = omega (arith, bare-length k p e)
    go false e = rw (trailing-written k p e) (omega (arith, length-append p []))

abbrev Rests : Claim
Rests k at s ps = length (written_params k (bytes_of ps)) ≤ suc (length s)

-- a middle's bytes that are left count too
abbrev Follows : Claim
Follows k at s ps = length (word s) + length (written_params k (bytes_of ps)) ≤ length s

short : Clauses Rests Follows
unfolding written_params word
short = record {
  nothing = λ k at. omega arith;
  spaced = λ k at s ps r. omega (arith, r);
  trailing = λ k at s. last-length k s;
  remains = λ k at x s p q l. omega (arith, bare-length k (x ∷ s) (stands_fifteenth k (x ∷ s) l ∙ bare-cons x s p q));
  middle = λ k at x s ps p q l m. omega (arith, middle-length k (x ∷ word s) (bytes_of ps) (word-middle x s p q), m);
  ends = λ k at. omega arith;
  stops = λ k at s ps r. omega (arith, r);
  goes = λ k at x s ps p m. rw p (omega (arith, m));
}

-- ---- the command and the parameters
-- the parameters follow the command as they follow a middle
params-middle : (b : List ℕ) → params b ≡ after_middle 0 (command_start b) (drop (command_start b) b)
unfolding params command_end command
params-middle b =
    let at : ℕ = command_start b in
    let s : List ℕ = drop at b in
    rw (← drop-drop (length (word s)) at b) (sym (middle-skip s 0 at ∙ middle-stop (drop (length (word s)) s) (word-then s) 0 (at + length (word s))))

tail-short : (b : List ℕ) → length (command b) + length (written_params 0 (bytes_of (params b))) ≤ length b - command_start b
unfolding command
tail-short b = rw (params-middle b) (omega (arith, of-middle Rests Follows short (drop (command_start b) b) 0 (command_start b), length-drop (command_start b) b))

-- ---- the prefix: a SPACE stands between it and a command
stops-spaces : (t : List ℕ) → Stops t → 1 ≤ length t → 1 ≤ spaces t
unfolding spaces
stops-spaces [] h = λ k. k
stops-spaces (b ∷ t) h = λ k. rw h (omega arith)

module _ (b : List ℕ) (h : has_prefix b ≡ true) where
  after-prefix : Stops (drop (1 + length (prefix b)) b)
  unfolding prefix
  after-prefix = rw (h, ← drop-drop (length (word (drop 1 b))) 1 b) (word-then (drop 1 b))

  command-after : command_start b ≡ 1 + length (prefix b) + spaces (drop (1 + length (prefix b)) b)
  unfolding command_start prefix_end
  command-after = rw h

  prefix-gap : 1 ≤ length (command b) → 2 + length (prefix b) ≤ command_start b
  prefix-gap k =
      let t : List ℕ = drop (1 + length (prefix b)) b in
      let n : 1 ≤ length t = omega (arith, command-after, tail-short b, length-drop (1 + length (prefix b)) b) in
      omega (arith, command-after, stops-spaces t after-prefix n)

pub body-short : (b : List ℕ) → 1 ≤ length (command b) → length (written_body (content_in b)) ≤ length b
unfolding written_body content_in written_prefix
body-short b k = simp length-append (go (has_prefix b) refl)
  where
    go : (t : Bool) → has_prefix b ≡ t → length (written_prefix (content_in b).prefix) + length (command b) + length (written_params 0 (bytes_of (params b))) ≤ length b
    go true h = rw h (omega (arith, prefix-gap b h k, tail-short b, length-append (prefix b) (space ∷ [])))
    go false h = rw h (omega (arith, tail-short b))
