-- What became of number 17 (document 02, §6). The rules of a line, the answer to it and what is written, with 17 where there are 32 to 36 now; and what is claimed: "17 becomes
-- 32 to 36", "Lines refused before are refused still, and no others". No function goes by the former rules. The reader is
-- today's: what became of its own number 10 is in `Fifteenth`.
use Rattle.std.specs.Prelude.{ℕ, ◌≡◌, true, cond, List, ◌++◌, map, eqb}
use Rattle.refusal.specs.Numbers.{accepted, bad_modes, is_mode_number}
use Rattle.refusal.specs.Rules.{Rule, first_of, emitted}
use Rattle.laws.specs.Lists.{same}
use Rattle.octets.specs.Bytes.{capital}
use Rattle.message.specs.Reading.{line_rules}
use Rattle.table.specs.Network.{Table, Network, network_of}
use Rattle.sjoin.specs.Join.{channel_in}
use Rattle.sjoin.specs.Former.{former_join_rules}
use Rattle.telling.specs.Telling.{sjoin}
use Rattle.relay.specs.Arrival.{Arrival, said}
use Rattle.relay.specs.Sjoin.{joined_rules}
use Rattle.relay.specs.Relay.{meaning_in, relayed, entering_rules, Outcome, refused, taken, process_answer, sent}

-- ---- as it was
-- the rules of a line's command: those of an SJOIN were others
unfoldable pub former_in : Network → Arrival → List Rule
former_in n a = cond (same (map capital (said a).command) sjoin) (former_join_rules (said a) ++ joined_rules n (channel_in (said a))) ((meaning_in a).rules n a)

-- all rules
unfoldable pub former_rules : Table → Arrival → ℕ → List Rule
former_rules t a n = entering_rules t a n ++ line_rules a.line ++ former_in (network_of t) a

-- the answer, which had no place
unfoldable pub former_answer : Table → Arrival → ℕ → Outcome
former_answer t a n =
    let number : ℕ = first_of (former_rules t a n) in
    cond (eqb number accepted) (taken t a) (refused t number 0)

-- what was written
unfoldable pub former_sent : Table → Arrival → ℕ → List ℕ
former_sent t a n = emitted (former_rules t a n) (relayed (network_of t) a)

-- ---- what is claimed, of any line that arrives at any table, with n bytes of lent output
-- an answer but for its number and place
abbrev pub rest_of : Outcome → Outcome
rest_of o = record { number = 0; place = 0; table = o.table; len = o.len; set = o.set; count = o.count }

pub record Splits (t : Table) (a : Arrival) (n : ℕ) : Type 0 where
  -- where it got 17, it gets one of 32 to 36
  pub split : (former_answer t a n).number ≡ bad_modes → is_mode_number (process_answer t a n).number ≡ true
  -- and only there
  pub only : is_mode_number (process_answer t a n).number ≡ true → (former_answer t a n).number ≡ bad_modes
  -- any other answer is as it was, numbers and all
  pub others : ((former_answer t a n).number ≡ bad_modes → ⊥) → process_answer t a n ≡ former_answer t a n
  -- and so is the rest of every answer, and what is written
  pub rest : rest_of (process_answer t a n) ≡ rest_of (former_answer t a n)
  pub output : sent t a n ≡ former_sent t a n
