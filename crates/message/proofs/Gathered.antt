-- What the scan gathers, parameter by parameter, is the message that the grammar gives. Assumes nothing.
use mathlib.Core.Path.{◌≡◌, refl, sym, ap, ◌∙◌}
use mathlib.Core.Bool.{Bool, true, false, cond, ◌&&◌}
use mathlib.Core.List.{List, [], ◌∷◌, map}
use Prim.Native.Nat.{ℕ, suc, ◌+◌}
use native.Mathlib.Numerals.{add-one}
use native.Mathlib.Nat.{zero-add}
use native.Mathlib.Omega.{arith}
use lib.ListN.{length, take, drop, set, replicate}
use lib.Dec.{eqb}
use lib.Pointwise.{pointwise}
use borrow.Author.Tests.{eq-eqb, ne_eqb, eqb-true, eqb-false}
use Rattle.laws.specs.Lists.{starts_with}
use lib.Seq.{sets}
use Rattle.laws.proofs.Lists.{sets-padded}
use Rattle.message.specs.declared.Span.{Span}
use Rattle.message.specs.declared.Message.{Message}
use Rattle.message.specs.Grammar.{Part, param_limit, word, spaces, rest, has_prefix, prefix, prefix_end, command_start, command_end, command, params}
use Rattle.message.specs.Parts.{span, empty_at, span_of, message_in, blank}
use Rattle.message.specs.Private.Scan.{with_param, with_params, from_command}

abbrev message : Bool → Span → Span → ℕ → List Span → Message
message has before named n spans = record { has_prefix = has; prefix = before; command = named; count = n; params = spans }

-- the fields of a message with parameters added
gathered : (ps : List Part) (m : Message) → with_params m ps ≡ message m.has_prefix m.prefix m.command (m.count + length ps) (sets m.params m.count (map span_of ps))
unfolding with_params with_param
gathered [] m = let e : m.count ≡ m.count + 0 = omega arith in ap (λ (n : ℕ). message m.has_prefix m.prefix m.command n m.params) e
gathered (p ∷ ps) m =
    let e : m.count + 1 + length ps ≡ m.count + suc (length ps) = omega arith in
    gathered ps (with_param m (span_of p))
    ∙ ap (λ (n : ℕ). message m.has_prefix m.prefix m.command n (sets (set m.params m.count (span_of p)) (m.count + 1) (map span_of ps))) e
    ∙ ap (λ (i : ℕ). message m.has_prefix m.prefix m.command (m.count + suc (length ps)) (sets (set m.params m.count (span_of p)) i (map span_of ps))) (add-one m.count)

-- no part of a line of n bytes but a prefix, if one is there
abbrev pub prefixed_by : Bool → Span → ℕ → Message
prefixed_by has before n = record (blank n) { has_prefix = has; prefix = before }

message-gathered : (b : List ℕ) (n : ℕ) → from_command b (command_start b) (prefixed_by (has_prefix b) (cond (has_prefix b) (span 1 (prefix_end b)) (empty_at n)) n) ≡ message_in b n
unfolding message_in from_command blank params command_end command
message-gathered b n =
    gathered (params b) (message (has_prefix b) (cond (has_prefix b) (span 1 (prefix_end b)) (empty_at n)) (span (command_start b) (command_end b)) 0 (replicate param_limit (empty_at n)))
    ∙ rw (zero-add (length (params b)), sets-padded (empty_at n) param_limit (map span_of (params b)))

-- what is read from the command on
pub found-command : (b : List ℕ) (at stop : ℕ) (m r : Message) → stop ≡ at + length (word (drop at b)) → m.count ≡ 0
    → r ≡ with_params (record m { command = span at stop }) (rest m.count stop (drop stop b)) → r ≡ from_command b at m
unfolding from_command
found-command b at stop m r e z g = rw (← e, ← z) g

bare-start : (b : List ℕ) → has_prefix b ≡ false → command_start b ≡ 0
unfolding command_start
bare-start b h = rw h

-- ---- what is found with a prefix, and without
module _ (b : List ℕ) (n : ℕ) (r : Message) where
  module _ (has : has_prefix b ≡ true) (stop at : ℕ) (ends : stop ≡ 1 + length (word (drop 1 b))) (starts : at ≡ stop + spaces (drop stop b)) where
    end-found : prefix_end b ≡ stop
    unfolding prefix_end prefix
    end-found = rw has (sym ends)

    start-found : command_start b ≡ at
    unfolding command_start
    start-found = rw (has, end-found) (sym starts)

    pub found-prefixed : r ≡ from_command b at (prefixed_by true (span 1 stop) n) → r ≡ message_in b n
    found-prefixed e = e ∙ (rw (start-found, has, end-found) at (message-gathered b n))

  pub found-bare : has_prefix b ≡ false → r ≡ from_command b 0 (prefixed_by false (empty_at n) n) → r ≡ message_in b n
  found-bare has e = e ∙ (rw (bare-start b has, has) at (message-gathered b n))

-- ---- the first byte, as the search for it tells of it
pub begins-as : (x : ℕ) (s : List ℕ) → pointwise eqb (x ∷ []) (take 1 s) ≡ starts_with x s
unfolding starts_with
begins-as x [] = refl
begins-as x (y ∷ s) = go (eqb y x) refl
  where
    go : (t : Bool) → eqb y x ≡ t → (eqb x y && true) ≡ eqb y x
    go true e = rw (eq-eqb x y (sym (eqb-true y x e))) (sym e)
    go false e = rw (ne_eqb x y (λ q. eqb-false y x e (sym q))) (sym e)
