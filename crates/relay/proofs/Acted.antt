-- What is made of the judgement of a line that no rule refuses: the line that goes out, which nothing keeps from being written, and the links that it goes to.
-- Assumes nothing.
use Prim.Native.Nat.{ℕ, ◌≤◌}
use mathlib.Core.Path.{◌≡◌, refl, ap, ◌∙◌}
use mathlib.Core.Bool.{Bool, true, cond}
use mathlib.Core.List.{List, []}
use lib.ListN.{length}
use borrow.Author.Tests.{le-ltb}
use Rattle.refusal.proofs.Rules.{skip, first-nil, emitted-all}
use Rattle.links.specs.declared.Links.{Links}
use Rattle.links.specs.Links.{relay_set}
use Rattle.message.specs.Grammar.{line_limit}
use Rattle.message.specs.Content.{Content, source_in}
use Rattle.message.specs.Reading.{is_read, content_of, message_of}
use Rattle.message.proofs.SpanContents.{message-holds}
use Rattle.writer.specs.Form.{written}
use Rattle.writer.specs.Writing.{forwarded}
use Rattle.writer.proofs.Rounds.{read-forwards}
use Rattle.channel.specs.declared.Record.{Record}
use Rattle.channel.specs.Record.{decode}
use Rattle.telling.specs.Telling.{join_message, tell_rules}
use Rattle.relay.specs.declared.Sending.{Sending}
use Rattle.relay.specs.declared.Sending.TheVariants.{Silent, AsRead, Anew}
use Rattle.relay.specs.Private.Acting.{passed_on, told_anew, written_by, sent_to}
use Rattle.relay.proofs.Judgements.{Sends}

module _ (line : List ℕ) (read : is_read line ≡ true) (out : List ℕ) (room : line_limit ≤ length out) where
  tells-it : (r : Record) → length (written (join_message (source_in (content_of line)) (decode r))) ≤ line_limit → told_anew line (message_of line) r out ≡ written (join_message (source_in (content_of line)) (decode r))
  unfolding tell_rules
  tells-it r short =
      let w = written (join_message (source_in (content_of line)) (decode r)) in
      rw (message-holds line) (emitted-all _ _ (skip _ _ (le-ltb (length out) line_limit room) ∙ skip _ _ (le-ltb line_limit (length w) short) ∙ first-nil))

  passes-it : passed_on line (message_of line) out ≡ forwarded line
  passes-it = let f = read-forwards line out (message_of line) refl read room in emitted-all _ _ f.0 ∙ f.1

  -- A message that is sent, and is no longer than a line can be, is written; where none goes out, nothing is.
  pub sends-it : (s : Sending) (goes : Bool) (d : Content) → Sends s (content_of line) goes d → length (written d) ≤ line_limit → written_by s line (message_of line) out ≡ cond goes (written d) []
  unfolding forwarded
  sends-it Silent goes d e short = rw e
  sends-it AsRead goes d e short = rw e.0 (passes-it ∙ ap written e.1)
  sends-it (Anew told) goes d e short = rw e.0 (tells-it told (rw e.1 short) ∙ ap written e.1)

-- It goes to every registered link but its own, or to none.
pub goes_to : (s : Sending) (c : Content) (goes : Bool) (d : Content) → Sends s c goes d → (links : Links) (link : ℕ) → sent_to s links link ≡ cond goes (relay_set links link) 0
goes_to Silent c goes d e links link = rw e
goes_to AsRead c goes d e links link = rw e.0
goes_to (Anew told) c goes d e links link = rw e.0
