-- Members in their order: each id smaller than the next one's. Assumes nothing.
use mathlib.Core.Path.{◌≡◌, refl, sym}
use mathlib.Core.Bool.{Bool, true, false, and-false}
use mathlib.Core.List.{List, [], ◌∷◌}
use Prim.Native.Nat.{ℕ, zero, suc, ◌<◌}
use native.Mathlib.Numerals.{add-one}
use native.Mathlib.Omega.{arith}
use lib.ListN.{length, get_or}
use Rattle.std.specs.List.{IsAllAdjacentAnswer}
use Rattle.octets.specs.Order.{compare, is_less}
use Rattle.ascending.specs.Ascending.{ascends}
use Rattle.channel.specs.declared.Member.{Member}
use Rattle.channel.specs.Channel.{by_id}
use Rattle.channel.specs.Record.{nobody}

-- a member's id is smaller than another's
abbrev pub precedes : Member → Member → Bool
precedes m next = is_less (compare m.id next.id)

each : (l : List Member) → ((k : ℕ) → suc k < length l → precedes (get_or l k nobody) (get_or l (suc k) nobody) ≡ true) → ascends by_id l ≡ true
unfolding ascends
each [] h = refl
each (m ∷ []) h = refl
each (m ∷ n ∷ l) h = rw (h 0 (omega arith)) (each (n ∷ l) (λ k lt. h (suc k) (omega arith)))

one : (l : List Member) (k : ℕ) → suc k < length l → precedes (get_or l k nobody) (get_or l (suc k) nobody) ≡ false → ascends by_id l ≡ false
unfolding ascends
one [] k = λ lt e. absurd (omega arith)
one (m ∷ []) k = λ lt e. absurd (omega arith)
one (m ∷ n ∷ l) zero = λ lt e. rw e
one (m ∷ n ∷ l) (suc k) = λ lt e. rw (one (n ∷ l) k (omega arith) e) (and-false (precedes m n))

-- what the test of all neighbours answers
pub neighbours : (l : List Member) (r : Bool) → IsAllAdjacentAnswer (λ m next b. b ≡ precedes m next) l r → r ≡ ascends by_id l
neighbours l true h = sym (each l (λ k lt. rw add-one at (sym (h k nobody (omega arith)))))
neighbours l false h = sym (one l h.0 (omega (arith, h.1)) (rw add-one at (sym (h.2 nobody))))
