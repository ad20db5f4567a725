-- A line of fifteen parameters gets 11 or 12, since no command takes so many; a line that got 10 is one. A line that is taken has fewer, and so is read as it was. Assumes nothing.
use Prim.Native.Nat.{ℕ}
use mathlib.Core.Path.{◌≡◌, refl, sym, ap, ◌∙◌}
use mathlib.Core.Bool.{Bool, true, false}
use mathlib.Core.Logic.{◌⊎◌, inl, inr}
use mathlib.Core.List.{List, ◌++◌}
use native.Mathlib.Omega.{arith}
use lib.ListN.{length}
use lib.Dec.{eqb}
use borrow.Author.Tests.{ne_eqb, eqb-true, eqb-false}
use Rattle.refusal.specs.Numbers.{accepted, too_many_params, unknown_command, wrong_param_count, is_mode_number}
use Rattle.refusal.specs.Rules.{first_of}
use Rattle.refusal.proofs.Rules.{stop, first-lacks, append-some, append-none, both-none}
use Rattle.message.specs.Grammar.{param_limit, params}
use Rattle.message.specs.Content.{Content}
use Rattle.message.specs.Reading.{body_of, is_read, message_of}
use Rattle.message.specs.Former.{former_params, former_line_rules}
use Rattle.message.proofs.Fifteenth.{params-few}
use Rattle.message.proofs.Readings.{number_read, read_count}
use Rattle.message.proofs.Former.{keeps, opens}
use Rattle.table.specs.Network.{Table, Network, network_of}
use Rattle.sjoin.specs.Join.{source_rules, telling_rules, join_rules}
use Rattle.sjoin.proofs.Judged.{many}
use Rattle.sjoin.proofs.Answers.{place_none}
use Rattle.bmask.proofs.Rules.{uncounted}
use Rattle.relay.specs.Arrival.{Arrival, said}
use Rattle.relay.specs.Commands.{Command, Sjoin, Part, Quit, Bmask, Unknown, meaning_of, command_in}
use Rattle.relay.specs.Private.Commands.{work_of}
use Rattle.relay.specs.Relay.{meaning_in, taken_rules, entering_rules, process_rules, refused, process_answer}
use Rattle.relay.specs.Fifteenth.{Fifteen, Turns}
use Rattle.relay.proofs.Part.{part-miscounted}
use Rattle.relay.proofs.Quit.{quit-many}
use Rattle.relay.proofs.Commands.{lawful}
use Rattle.relay.proofs.Entering.{enters, command-decides}
use Rattle.relay.proofs.Taking.{rules-none, answer-number}

-- ---- the number of a message of fifteen parameters, by its command
fifteen-own : (c : Content) → length c.params ≡ param_limit → (k : Command) → (k ≡ Unknown) ⊎ (first_of ((work_of k).own c) ≡ wrong_param_count)
unfolding join_rules
fifteen-own c h Sjoin = let wrong = many c (omega (arith, h)) in inr (append-some (telling_rules c) (source_rules c) (λ z. omega (arith, wrong, z)) ∙ sym wrong)
fifteen-own c h Part = inr (part-miscounted c (λ k l. omega (arith, h, l)))
fifteen-own c h Quit = inr (quit-many c (omega (arith, h)))
fifteen-own c h Bmask = inr (sym (uncounted c (λ z. omega (arith, h, z))))
fifteen-own c h Unknown = inl refl

module _ (n : Network) (a : Arrival) where
  unknown-number : (k : Command) → k ≡ Unknown → first_of ((meaning_of k).rules n a) ≡ unknown_command
  unknown-number k e = ap (λ (c : Command). first_of ((meaning_of c).rules n a)) e ∙ stop _ _ refl

  module _ (h : length (said a).params ≡ param_limit) (k : Command) where
    fifteen-number : (k ≡ Unknown) ⊎ (first_of ((meaning_of k).rules n a) ≡ wrong_param_count)
    fifteen-number = go (fifteen-own (said a) h k)
      where
        go : (k ≡ Unknown) ⊎ (first_of ((work_of k).own (said a)) ≡ wrong_param_count) → (k ≡ Unknown) ⊎ (first_of ((meaning_of k).rules n a) ≡ wrong_param_count)
        go (inl e) = inl e
        go (inr e) = inr ((lawful k).first n a (λ z. omega (arith, e, z)) ∙ e)

    fifteen-known : (k ≡ Unknown → ⊥) → first_of ((meaning_of k).rules n a) ≡ wrong_param_count
    fifteen-known ne = go fifteen-number
      where
        go : (k ≡ Unknown) ⊎ (first_of ((meaning_of k).rules n a) ≡ wrong_param_count) → first_of ((meaning_of k).rules n a) ≡ wrong_param_count
        go (inl e) = absurd (ne e)
        go (inr e) = e

    -- it isn't taken
    fifteen-refused : first_of ((meaning_of k).rules n a) ≡ accepted → ⊥
    fifteen-refused none = go fifteen-number
      where
        go : (k ≡ Unknown) ⊎ (first_of ((meaning_of k).rules n a) ≡ wrong_param_count) → ⊥
        go (inl e) = omega (arith, none, unknown-number k e)
        go (inr e) = omega (arith, none, e)

module _ (t : Table) (a : Arrival) (n : ℕ) where
  -- ---- a line of fifteen parameters
  -- the answer at a number that has no place
  answered : (k : ℕ) → first_of (process_rules t a n) ≡ k → (k ≡ accepted → ⊥) → is_mode_number k ≡ false → process_answer t a n ≡ refused t k 0
  unfolding process_answer
  answered k e ne plain = rw (e, ne_eqb k accepted ne, place_none k a.line (message_of a.line) plain)

  -- no rule before the command's applies, so these decide
  decides : Fifteen t a n → first_of (process_rules t a n) ≡ first_of ((meaning_in a).rules (network_of t) a)
  decides f = enters t a n f.enters ∙ command-decides a f.read (network_of t)

  -- ---- a line that got 10
  was_read : first_of (entering_rules t a n ++ former_line_rules a.line) ≡ too_many_params → Fifteen t a n
  was_read e = go (eqb (first_of (entering_rules t a n)) accepted) refl
    where
      go : (b : Bool) → eqb (first_of (entering_rules t a n)) accepted ≡ b → Fifteen t a n
      go true h =
          let none = eqb-true (first_of (entering_rules t a n)) accepted h in
          let was = sym (append-none (former_line_rules a.line) (entering_rules t a n) refl none) ∙ e in
          record { enters = none; read = number_read a.line ((opens a.line).opened was); count = (opens a.line).fifteen was }
      go false h =
          let some = append-some (former_line_rules a.line) (entering_rules t a n) (eqb-false (first_of (entering_rules t a n)) accepted h) in
          absurd (eqb-false (first_of (entering_rules t a n)) too_many_params (first-lacks too_many_params (entering_rules t a n) (λ z. omega arith) refl) (sym some ∙ e))

  -- ---- a line that is taken
  abbrev body : List ℕ
  body = body_of a.line

  taken-same : (process_answer t a n).number ≡ accepted → params body ≡ former_params body
  unfolding process_rules
  taken-same e = go (eqb (length (said a).params) param_limit) refl
    where
      rules : (is_read a.line ≡ true) × (first_of ((meaning_in a).rules (network_of t) a) ≡ accepted)
      rules = rules-none (network_of t) a (both-none (taken_rules (network_of t) a) (entering_rules t a n) refl (sym (answer-number t a n) ∙ e)).1

      go : (b : Bool) → eqb (length (said a).params) param_limit ≡ b → params body ≡ former_params body
      go true h = absurd (fifteen-refused (network_of t) a (eqb-true (length (said a).params) param_limit h) (command_in a.line) rules.1)
      go false h = (keeps body).few (omega (arith, read_count a.line rules.0, eqb-false (length (said a).params) param_limit h, params-few body, (keeps body).count))

  pub turns : Turns t a n
  turns = record {
    turned = was_read;
    unknown = λ f e. answered unknown_command (decides f ∙ unknown-number (network_of t) a (command_in a.line) e) (λ z. omega arith) refl;
    known = λ f ne. answered wrong_param_count (decides f ∙ fifteen-known (network_of t) a f.count (command_in a.line) ne) (λ z. omega arith) refl;
    same = taken-same;
  }
