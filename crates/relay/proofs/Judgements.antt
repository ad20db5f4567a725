-- The judgement of a request: a refusal is that of the first rule that applies, and where none does, acting on the change comes to what the command means.
-- Assumes nothing.
use mathlib.Core.Path.{◌≡◌, refl, ◌∙◌}
use mathlib.Core.Bool.{Bool, true, false, cond}
use Prim.Native.Nat.{ℕ, ◌<◌}
use lib.Dec.{eqb}
use borrow.Author.Tests.{eqb-true}
use Rattle.std.specs.Prelude.{Result, Ok, Err}
use Rattle.refusal.specs.Numbers.{accepted}
use Rattle.refusal.specs.Rules.{first_of}
use Rattle.message.specs.Content.{Content, source_in}
use Rattle.writer.specs.Form.{in_capitals}
use Rattle.channel.specs.Limits.{slot_count}
use Rattle.channel.specs.Record.{decode}
use Rattle.table.specs.Network.{Network}
use Rattle.telling.specs.Telling.{join_message}
use Rattle.relay.specs.declared.Change.{Change}
use Rattle.relay.specs.declared.Sending.{Sending}
use Rattle.relay.specs.declared.Sending.TheVariants.{Silent, AsRead, Anew}
use Rattle.relay.specs.Arrival.{Arrival, said}
use Rattle.relay.specs.Meaning.{Meaning}
use Rattle.relay.specs.Private.Acting.{slot_set, done_by}

-- what is sent of a message c is the message d, if it goes out at all
abbrev pub Sends : Sending → Content → Bool → Content → Type 0
Sends Silent c goes d = goes ≡ false
Sends AsRead c goes d = (goes ≡ true) × (in_capitals c ≡ d)
Sends (Anew told) c goes d = (goes ≡ true) × (join_message (source_in c) (decode told) ≡ d)

-- What is done, and what goes out, is what the command means.
pub record Does (m : Meaning) (n : Network) (a : Arrival) (j : Change) : Type 0 where
  pub inside : slot_set j.deed < slot_count
  pub network : done_by j.deed (said a) n ≡ m.after n a
  pub sends : Sends j.sending (said a) (m.goes n a) (m.out n a)

-- The number is that of the first rule that applies, and where none does, the change does what the command means.
abbrev pub Judged : Meaning → Network → Arrival → Result Change ℕ → Type 0
Judged m n a (Ok j) = (first_of (m.rules n a) ≡ accepted) × Does m n a j
Judged m n a (Err k) = first_of (m.rules n a) ≡ k

module _ (m : Meaning) (n : Network) (a : Arrival) (k : ℕ) (first : first_of (m.rules n a) ≡ k) (r : Result Change ℕ) where
  -- it is judged so where its number is the first
  pub refused-judged : r ≡ Err k → Judged m n a r
  refused-judged e = rw e first

  -- and a change where none is, if it does what the command means
  pub settles : (j : Change) → (k ≡ accepted → Does m n a j) → r ≡ cond (eqb k accepted) (Ok j) (Err k) → Judged m n a r
  settles j does e = go (eqb k accepted) refl
    where
      go : (t : Bool) → eqb k accepted ≡ t → Judged m n a r
      go true h = let z : k ≡ accepted = eqb-true k accepted h in rw (e, h) (first ∙ z, does z)
      go false h = rw (e, h) first
