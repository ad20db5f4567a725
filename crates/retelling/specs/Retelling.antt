-- What is claimed of reading and telling (document 01, 'SJOIN' and 'What goes out'). The theorems stand in proofs/.
use Rattle.std.specs.Prelude.{ℕ, ◌≤◌, ◌≡◌, true, List, length}
use Rattle.refusal.specs.Numbers.{accepted}
use Rattle.refusal.specs.Rules.{first_of}
use Rattle.message.specs.Content.{Content}
use Rattle.message.specs.Reading.{is_read, content_of}
use Rattle.writer.specs.Form.{written}
use Rattle.channel.specs.Channel.{Channel}
use Rattle.sjoin.specs.Join.{join_rules, channel_in}
use Rattle.telling.specs.Telling.{join_message}

-- What a server tells of a channel is refused by none of SJOIN's own rules, and tells of that channel.
pub record TellsBack (sid : List ℕ) (c : Channel) : Type 0 where
  pub rules : first_of (join_rules (join_message sid c)) ≡ accepted
  pub channel : channel_in (join_message sid c) ≡ c

-- A message's written form reads as it, and is no longer than the line that it was made of.
pub record Reads (line : List ℕ) (d : Content) : Type 0 where
  pub read : is_read (written d) ≡ true
  pub message : content_of (written d) ≡ d
  pub short : length (written d) ≤ length line
