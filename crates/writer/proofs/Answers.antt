-- Laws of the writer's answers: what each rule makes of them, and of a line that is put together apart. Assumes nothing.
use Rattle.std.proofs.Common.{◌≡◌, refl, ℕ, ◌≤◌, ◌<◌, Bool, true, false, cond, ◌&&◌, List, [], Option, Some, None, length, leb, arith}
use Rattle.std.specs.Option.{ok_or, option_map, unwrap_or}
use borrow.Author.Tests.{leb-true, leb-false}
use Rattle.refusal.specs.declared.Refusal.TheVariants.{NoRoom}
use Rattle.refusal.specs.Numbers.{accepted, no_room}
use Rattle.refusal.specs.Rules.{Rule, first_of, emitted}
use Rattle.refusal.proofs.Rules.{emitted-none, emitted-all}
use Rattle.octets.specs.Room.{front}
use Rattle.octets.specs.Pages.{Page, fresh, added, text_for}
use Rattle.octets.proofs.Pages.{text_goes}
use Rattle.laws.proofs.Bools.{and_left}
use Rattle.message.specs.declared.Message.{Message}
use Rattle.message.specs.Grammar.{param_limit}
use Rattle.message.specs.Content.{Content}
use Rattle.writer.specs.declared.Written.{Written}
use Rattle.writer.specs.Form.{written, with_command}
use Rattle.writer.specs.Writing.{written_of, written_answer}
use Rattle.writer.specs.Private.Fit.{fit, cased}
use Rattle.writer.proofs.Rounds.{capitals-length}

-- ---- any rules
module _ (rules : List Rule) (w out : List ℕ) where
  -- a refusal writes nothing
  pub answers-refused : (k : ℕ) → first_of rules ≡ k → (k ≡ accepted → ⊥) → (r : Written) → r ≡ record { number = k; len = 0 } → (r ≡ written_answer rules w) × (out ≡ front (emitted rules w) out)
  unfolding written_answer
  answers-refused k e ne r f = rw (emitted-none rules w k e ne, e) (f, refl)

  -- what is accepted is written whole
  pub answers-written : first_of rules ≡ accepted → (len : ℕ) → len ≡ length w → (next : List ℕ) → next ≡ front w out
      → (record { number = accepted; len = len } ≡ written_answer rules w) × (next ≡ front (emitted rules w) out)
  unfolding written_answer
  answers-written e len n next f = rw (emitted-all rules w e, e, n) (refl, f)

  -- so does a text that is put together apart, in room of n bytes, and copied where that and the output have room for it
  pub answers-copied : (n : ℕ) → (n < length w → first_of rules ≡ no_room) → (length out < length w → first_of rules ≡ no_room) → (length w ≤ n → length w ≤ length out → first_of rules ≡ accepted)
      → (g : Page) → g ≡ added (fresh n) w → (o : Option ℕ) → o ≡ option_map length (text_for out g) → (next : List ℕ) → next ≡ front (unwrap_or (text_for out g) []) out
      → (written_of (ok_or o NoRoom) ≡ written_answer rules w) × (next ≡ front (emitted rules w) out)
  answers-copied n over past fits g e o f next h = rw (f, h, e, text_goes n w out) (go (leb (length w) n) refl (leb (length w) (length out)) refl)
    where
      go : (t : Bool) → leb (length w) n ≡ t → (u : Bool) → leb (length w) (length out) ≡ u
          → (written_of (ok_or (option_map length (cond (t && u) (Some w) None)) NoRoom) ≡ written_answer rules w) × (front (unwrap_or (cond (t && u) (Some w) None) []) out ≡ front (emitted rules w) out)
      go true a true b = answers-written (fits (leb-true (length w) n a) (leb-true (length w) (length out) b)) _ refl _ refl
      go true a false b = answers-refused no_room (past (leb-false (length w) (length out) b)) (λ q. omega arith) _ refl
      go false a u b = answers-refused no_room (over (leb-false (length w) n a)) (λ q. omega arith) _ refl

-- Where none of some rules applies, and none of others, both answer the same.
pub answers-same : (rules others : List Rule) → first_of rules ≡ accepted → first_of others ≡ accepted → (w v out : List ℕ) → w ≡ v → (r : Written) (next : List ℕ)
    → (r ≡ written_answer rules w) × (next ≡ front (emitted rules w) out) → (r ≡ written_answer others v) × (next ≡ front (emitted others v) out)
unfolding written_answer
answers-same rules others e f w v out is r next h = rw (emitted-all others v f, f, ← is) (rw (emitted-all rules w e, e) at h)

-- ---- a message of spans
-- the command in capitals or not, the line is as long
pub cased-length : (capitals : Bool) (d : Content) → length (written (cased capitals d)) ≡ length (written d)
unfolding with_command
cased-length true d = capitals-length d
cased-length false d = refl

pub fit_count : (text : List ℕ) (m : Message) → fit text m ≡ true → m.count ≤ param_limit
unfolding fit
fit_count text m e = leb-true m.count param_limit (and_left (leb m.count param_limit) _ e)
