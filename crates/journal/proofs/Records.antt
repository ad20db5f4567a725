-- Laws of day-log records: link and line can be had back from a log that begins with one, and what each rule makes of the answer. Assumes nothing.
use mathlib.Core.Path.{◌≡◌, refl, ap, ◌∙◌}
use mathlib.Core.Bool.{true}
use mathlib.Core.List.{List, [], ◌∷◌, ◌++◌}
use Prim.Native.Nat.{ℕ, ◌+◌, ◌≤◌, ◌<◌}
use native.Mathlib.Nat.{div-add-mod'}
use native.Mathlib.Omega.{arith}
use lib.ListN.{length}
use lib.Seq.{take-append_seam}
use lib.Dec.{ltb}
use borrow.Author.Tests.{lt-ltb, le-ltb}
use Rattle.refusal.specs.Numbers.{accepted, bad_link, line_too_long, no_room}
use Rattle.refusal.specs.Rules.{◌when◌, first_of, emitted, ascend, ascend_from, place_in}
use Rattle.refusal.proofs.Rules.{skip, stop, first-nil, emitted-none, emitted-all}
use Rattle.octets.specs.Room.{put_at, front}
use Rattle.octets.proofs.Room.{put_front, put-behind}
use Rattle.links.specs.Links.{link_count}
use Rattle.message.specs.Grammar.{line_limit}
use Rattle.journal.specs.declared.Logged.{Logged}
use Rattle.journal.specs.Journal.{head_length, head_of, record_of, link_in, line_in, log_rules, logged_answer}

-- ---- read back
pub link-back : (link : ℕ) (line more : List ℕ) → link_in (record_of link line ++ more) ≡ link
unfolding record_of
link-back link line more = refl

pub line-back : (link : ℕ) (line more : List ℕ) → line_in (record_of link line ++ more) ≡ line
unfolding line_in record_of
line-back link line more = rw (div-add-mod' (length line) 256) (take-append_seam line more)

-- ---- the answer
-- The rules stand in the order of their numbers: the first in it that applies is given.
pub rules-ascend : (link : ℕ) (line log : List ℕ) → ascend (log_rules link line log) ≡ true
unfolding ascend_from log_rules place_in
rules-ascend link line log = refl

module _ (link : ℕ) (line log : List ℕ) where
  answers-refused : (k : ℕ) → first_of (log_rules link line log) ≡ k → (k ≡ accepted → ⊥) → (r : Logged) → r ≡ record { number = k; size = 0 }
      → (r ≡ logged_answer link line log) × (log ≡ front (emitted (log_rules link line log) (record_of link line)) log)
  unfolding logged_answer
  answers-refused k e ne r f = rw (emitted-none (log_rules link line log) (record_of link line) k e ne, e) (f, refl)

  -- an unknown link is refused
  pub logs-no-link : link_count ≤ link → (r : Logged) → r ≡ record { number = bad_link; size = 0 }
      → (r ≡ logged_answer link line log) × (log ≡ front (emitted (log_rules link line log) (record_of link line)) log)
  unfolding log_rules
  logs-no-link h = answers-refused bad_link (stop _ _ (rw (le-ltb link link_count h))) (λ q. omega arith)

  module _ (known : link < link_count) where
    -- so is a line that is too long
    pub logs-long : line_limit < length line → (r : Logged) → r ≡ record { number = line_too_long; size = 0 }
        → (r ≡ logged_answer link line log) × (log ≡ front (emitted (log_rules link line log) (record_of link line)) log)
    unfolding log_rules
    logs-long h = answers-refused line_too_long (skip _ _ (rw (lt-ltb link link_count known)) ∙ stop _ _ (lt-ltb line_limit (length line) h)) (λ q. omega arith)

    module _ (small : length line ≤ line_limit) where
      room-decides : first_of (log_rules link line log) ≡ first_of (no_room when ltb (length log) (length line + head_length) ∷ [])
      unfolding log_rules
      room-decides = skip _ _ (rw (lt-ltb link link_count known)) ∙ skip _ _ (le-ltb line_limit (length line) small)

      -- and one that the log has no room for
      pub logs-no-room : length log < length line + head_length → (r : Logged) → r ≡ record { number = no_room; size = 0 }
          → (r ≡ logged_answer link line log) × (log ≡ front (emitted (log_rules link line log) (record_of link line)) log)
      logs-no-room h = answers-refused no_room (room-decides ∙ stop _ _ (lt-ltb (length log) (length line + head_length) h)) (λ q. omega arith)

      module _ (room : length line + head_length ≤ length log) where
        -- any other is accepted
        pub accepts : first_of (log_rules link line log) ≡ accepted
        accepts = room-decides ∙ skip _ _ (le-ltb (length log) (length line + head_length) room) ∙ first-nil

        -- head and line, put one behind the other, are the record
        pub logs : (first next : List ℕ) → first ≡ put_at log 0 (head_of link line) → next ≡ put_at first head_length line
            → (record { number = accepted; size = length line + head_length } ≡ logged_answer link line log) × (next ≡ front (emitted (log_rules link line log) (record_of link line)) log)
        unfolding logged_answer record_of head_of
        logs first next e f =
            let n : length (record_of link line) ≡ length line + head_length = omega arith in
            rw (emitted-all (log_rules link line log) (record_of link line) accepts, accepts, n)
            (refl, f ∙ ap (λ (l : List ℕ). put_at l head_length line) (e ∙ put_front log (head_of link line) (omega arith)) ∙ put-behind log (head_of link line) line (omega arith))
