-- What a line told, told again under a name as long and at a time that is no later, reads as the message that it is and is never longer than the line, since it
-- is a good message (`Writable`) and takes up no more room (`Shorter`). Assumes nothing.
use Prim.Native.Nat.{ℕ, ◌≤◌}
use mathlib.Core.Path.{◌≡◌, sym, ap, ◌∙◌}
use mathlib.Core.Bool.{true}
use mathlib.Core.List.{List, [], map}
use mathlib.Core.Option.{get_or}
use native.Mathlib.Omega.{arith}
use lib.ListN.{length, length-map}
use Rattle.refusal.specs.Numbers.{accepted}
use Rattle.refusal.specs.Rules.{first_of}
use Rattle.octets.specs.Bytes.{capital}
use Rattle.names.specs.Names.{is_channel, is_server_id}
use Rattle.channel.specs.Standing.{channel_at}
use Rattle.channel.proofs.Standing.{proper-at}
use Rattle.message.specs.Content.{Content}
use Rattle.message.specs.Reading.{is_read, content_of}
use Rattle.message.proofs.Readings.{read_small}
use Rattle.message.proofs.Prefixes.{prefix-there}
use Rattle.writer.specs.Form.{written}
use Rattle.writer.proofs.Rounds.{good-line, content-short}
use Rattle.sjoin.specs.Join.{name_in, join_rules, channel_in}
use Rattle.telling.specs.Telling.{sjoin, join_message}
use Rattle.sjoin.proofs.Joined.{passes}
use Rattle.sjoin.proofs.Wellformed.{read-proper}
use Rattle.telling.proofs.Writable.{told-good}
use Rattle.retelling.specs.Retelling.{Reads}
use Rattle.retelling.proofs.Shorter.{told-shorter}

module _ (line : List ℕ) (read : is_read line ≡ true) (none : first_of (join_rules (content_of line)) ≡ accepted) where
  abbrev content : Content
  content = content_of line

  module _ (command : map capital content.command ≡ sjoin) (name : List ℕ) (time : ℕ) where
    abbrev message : Content
    message = join_message (get_or content.prefix []) (channel_at name time (channel_in content))

    module _ (named : is_channel name ≡ true) (same : length name ≡ length (name_in content)) (from : 1 ≤ time) (until : time ≤ (channel_in content).time) where
      retold-short : length (written message) ≤ length line
      retold-short =
          let c : length content.command ≡ length sjoin = sym (length-map content.command capital) ∙ ap (λ (w : List ℕ). length w) command in
          let s = prefix-there is_server_id content.prefix (passes content none).source in
          omega (arith, told-shorter content none (read-proper line read none) (get_or content.prefix []) name time s.0 c named same from until, content-short line read)

      -- What a line told, told again, is read as it is, and is no longer than the line.
      pub retold-reads : Reads line message
      retold-reads =
          let o = channel_at name time (channel_in content) in
          let s = prefix-there is_server_id content.prefix (passes content none).source in
          let p = proper-at name time (channel_in content) named from (omega (arith, (read-proper line read none).until)) (read-proper line read none) in
          let r = good-line message (told-good (get_or content.prefix []) o s.1 p) (omega (arith, retold-short, read_small line read)) in
          record { read = r.0; message = r.1; short = retold-short }
