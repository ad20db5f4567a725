-- What became of 17: the former rules give it exactly where the present ones give a number of modes, and any other number as they do; so the answers differ in that number
-- and its place alone. Assumes nothing.
use Prim.Native.Nat.{ℕ}
use mathlib.Core.Path.{◌≡◌, refl, sym, ap, ◌∙◌}
use mathlib.Core.Bool.{Bool, true, false, true≢false, not, cond}
use mathlib.Core.Logic.{◌⊎◌, inl, inr}
use mathlib.Core.List.{List, [], ◌∷◌, map, Memᴰ}
use native.Mathlib.Omega.{arith}
use lib.Dec.{eqb}
use borrow.Author.Tests.{eqb-true, eqb-false, ne_eqb, not-true}
use Rattle.refusal.specs.Numbers.{accepted, bad_modes, is_mode_number, order}
use Rattle.refusal.specs.Rules.{first_of, emitted}
use Rattle.refusal.proofs.Rules.{first-listed}
use Rattle.laws.specs.Lists.{all, same}
use Rattle.laws.proofs.Bools.{refuted}
use Rattle.laws.proofs.Lists.{all_head, all_tail}
use Rattle.message.specs.Reading.{body_rules, line_rules, message_of}
use Rattle.message.proofs.Readings.{rules-numbered}
use Rattle.table.specs.Network.{Table, Network, network_of}
use Rattle.sjoin.specs.Join.{channel_in, join_rules, line_place}
use Rattle.sjoin.proofs.Faults.{mode-some}
use Rattle.sjoin.proofs.Answers.{place_none}
use Rattle.sjoin.specs.Former.{former_join_rules}
use Rattle.sjoin.proofs.Judged.{rules-numbered as join-numbered}
use Rattle.sjoin.proofs.Former.{formerly, formerly-plain, same-formerly, append-formerly, join-formerly}
use Rattle.octets.specs.Bytes.{capital}
use Rattle.octets.proofs.Bytes.{same_refl, same_true}
use Rattle.table.specs.Slots.{slot_rules}
use Rattle.relay.specs.Arrival.{Arrival, said}
use Rattle.relay.specs.Sjoin.{joined_rules}
use Rattle.telling.specs.Telling.{sjoin}
use Rattle.relay.specs.Commands.{Command, Sjoin, Unknown, commands, meaning_of, command_in}
use Rattle.relay.specs.Relay.{meaning_in, taken_rules, entering_rules, process_rules, refused, taken, process_answer, sent}
use Rattle.relay.specs.Former.{former_in, former_rules, former_answer, former_sent, rest_of, Splits}
use Rattle.relay.proofs.Commands.{word_of}
use Rattle.relay.proofs.Taking.{answer-number, rules-ascend}
use Rattle.relay.proofs.Joined.{command-join}
use Rattle.relay.proofs.Places.{modes-join}

-- ---- the number
-- a number that none of some is isn't among them
lacking : (n : ℕ) (l : List ℕ) → Memᴰ n l → all (λ m. not (eqb m n)) l ≡ true → ⊥
unfolding all
lacking n [] m e = mathlib.Core.List.Memᴰ.not-nil m
lacking n (x ∷ l) m e = go (mathlib.Core.List.Memᴰ.cases_cons m) (λ h. lacking n l h (all_tail _ x l e))
  where
    go : (n ≡ x) ⊎ Memᴰ n l → (Memᴰ n l → ⊥) → ⊥
    go (inl h) f = eqb-false x n (not-true (eqb x n) (all_head (λ (m : ℕ). not (eqb m n)) x l e)) (sym h)
    go (inr h) f = f h

-- the rules of a line's command gave what they give now, but for 17
in-formerly : (n : Network) (a : Arrival) → first_of (former_in n a) ≡ formerly (first_of ((meaning_in a).rules n a))
unfolding former_in joined_rules slot_rules former_join_rules
in-formerly n a = go (same (map capital (said a).command) sjoin) refl
  where
    -- a command that has another word is no SJOIN, and gives no number of modes
    other : (k : Command) → command_in a.line ≡ k → same (map capital (said a).command) sjoin ≡ false → is_mode_number (first_of ((meaning_of k).rules n a)) ≡ true → ⊥
    other k is e m = has_word (word_of commands (map capital (said a).command))
      where
        join : command_in a.line ≡ Sjoin
        join = is ∙ modes-join n a k m

        has_word : (command_in a.line ≡ Unknown) ⊎ (map capital (said a).command ≡ (meaning_of (command_in a.line)).word) → ⊥
        has_word (inl u) =
            let q : ◌≡◌ {A = Command} Unknown Sjoin = sym u ∙ join in
            let z : ◌≡◌ {A = ℕ} 0 1 = cc in
            omega (arith, z)
        has_word (inr w) = true≢false (sym (rw (w ∙ ap (λ (c : Command). (meaning_of c).word) join) (same_refl sjoin)) ∙ e)

    go : (t : Bool) → same (map capital (said a).command) sjoin ≡ t → first_of (former_in n a) ≡ formerly (first_of ((meaning_in a).rules n a))
    go true e =
        let slotted = joined_rules n (channel_in (said a)) in
        let is : command_in a.line ≡ Sjoin = command-join a.line (same_true (map capital (said a).command) sjoin e) in
        rw (e, is) (append-formerly (former_join_rules (said a)) (join_rules (said a)) slotted slotted refl (join-numbered (said a)) (join-formerly (said a)) (same-formerly slotted refl))
    go false e = rw e (sym (formerly-plain (first_of ((meaning_in a).rules n a)) (refuted (is_mode_number (first_of ((meaning_in a).rules n a))) (other (command_in a.line) refl e))))

module _ (t : Table) (a : Arrival) (n : ℕ) where
  -- and so did all rules
  rules-formerly : first_of (former_rules t a n) ≡ formerly (first_of (process_rules t a n))
  unfolding former_rules process_rules taken_rules line_rules body_rules
  rules-formerly =
      append-formerly (entering_rules t a n) (entering_rules t a n) _ _ refl refl (same-formerly (entering_rules t a n) refl)
      (append-formerly (line_rules a.line) (line_rules a.line) _ _ (rules-numbered a.line) (rules-numbered a.line) (same-formerly (line_rules a.line) refl)
      (in-formerly (network_of t) a))

  abbrev number : ℕ
  number = first_of (process_rules t a n)

  former-number : (former_answer t a n).number ≡ formerly number
  unfolding former_answer
  former-number = go (eqb (first_of (former_rules t a n)) accepted) refl
    where
      go : (b : Bool) → eqb (first_of (former_rules t a n)) accepted ≡ b → (former_answer t a n).number ≡ formerly number
      go true e = rw e (sym (eqb-true (first_of (former_rules t a n)) accepted e) ∙ rules-formerly)
      go false e = rw e rules-formerly

  -- 17 is no number of the present rules
  no-17 : number ≡ bad_modes → ⊥
  unfolding all
  no-17 e =
      let listed : Memᴰ number order = first-listed (process_rules t a n) (rules-ascend t a n) (λ z. omega (arith, e, z)) in
      lacking bad_modes order (rw e at listed) refl

  -- ---- the answer
  -- a number that isn't one of modes was given with the same answer
  same_answer : is_mode_number number ≡ false → process_answer t a n ≡ former_answer t a n
  unfolding process_answer former_answer
  same_answer p = rw (rules-formerly ∙ formerly-plain number p, place_none number a.line (message_of a.line) p)

  -- and the rest of the answer was the same in any case, since both refuse the line or neither does
  both-refuse : eqb (first_of (former_rules t a n)) accepted ≡ eqb number accepted
  both-refuse = rw rules-formerly (go (is_mode_number number) refl)
    where
      go : (b : Bool) → is_mode_number number ≡ b → eqb (formerly number) accepted ≡ eqb number accepted
      go true e = rw e (sym (ne_eqb number accepted (mode-some number e)))
      go false e = ap (λ (k : ℕ). eqb k accepted) (formerly-plain number e)

  same_rest : rest_of (process_answer t a n) ≡ rest_of (former_answer t a n)
  unfolding process_answer former_answer
  same_rest = rw both-refuse (go (eqb number accepted))
    where
      go : (b : Bool) → rest_of (cond b (taken t a) (refused t number (line_place number a.line))) ≡ rest_of (cond b (taken t a) (refused t (first_of (former_rules t a n)) 0))
      go true = refl
      go false = refl

  was : is_mode_number number ≡ true → (former_answer t a n).number ≡ bad_modes
  was e = former-number ∙ rw e

  -- 17 was given exactly where one of 32 to 36 is, and all else is as it was.
  pub splits : Splits t a n
  unfolding sent former_sent emitted
  splits = record {
    split = λ e. ap is_mode_number (answer-number t a n) ∙ go (is_mode_number number) refl e;
    only = λ e. was (ap is_mode_number (sym (answer-number t a n)) ∙ e);
    others = λ ne. same_answer (refuted (is_mode_number number) (λ e. ne (was e)));
    rest = same_rest;
    output = rw both-refuse;
  }
    where
      go : (b : Bool) → is_mode_number number ≡ b → (former_answer t a n).number ≡ bad_modes → is_mode_number number ≡ true
      go true e f = e
      go false e f = absurd (no-17 (sym (formerly-plain number e) ∙ sym former-number ∙ f))
