-- What is made of a change: the network after, what is written, and the links that it goes to.
use Rattle.std.specs.Prelude.{ℕ, List, [], map, set}
use Rattle.refusal.specs.Rules.{emitted}
use Rattle.message.specs.Content.{Content, source_in}
use Rattle.message.specs.declared.Message.{Message}
use Rattle.message.specs.Parts.{content_by}
use Rattle.writer.specs.Form.{written, in_capitals}
use Rattle.writer.specs.Writing.{write_rules}
use Rattle.channel.specs.declared.Record.{Record}
use Rattle.channel.specs.Record.{decode}
use Rattle.channel.specs.Members.{without}
use Rattle.bmask.specs.Masks.{mask_list_in}
use Rattle.links.specs.declared.Links.{Links}
use Rattle.links.specs.Links.{relay_set}
use Rattle.table.specs.declared.Head.{Head}
use Rattle.table.specs.Network.{Network, with_slots, with_bans, emptied_if, with_list}
use Rattle.telling.specs.Telling.{join_message, tell_rules}
use Rattle.relay.specs.declared.Deed.{Deed}
use Rattle.relay.specs.declared.Deed.TheVariants.{Nothing, Set, Drop, Add}
use Rattle.relay.specs.declared.Sending.{Sending}
use Rattle.relay.specs.declared.Sending.TheVariants.{Silent, AsRead, Anew}
use Rattle.relay.specs.Leaving.{left_lists}
use Rattle.relay.specs.Private.Bmask.{with_masks}

-- ---- the network after
-- a head with other slots
abbrev pub head_with : Head → List Record → Head
head_with h slots = record { slots = slots; links = h.links }

-- a deed sets one of the slots
abbrev pub slot_set : Deed → ℕ
slot_set Nothing = 0
slot_set (Set k r emptied) = k
slot_set (Drop user) = 0
slot_set (Add k) = 0

abbrev pub done_by : Deed → Content → Network → Network
done_by Nothing c n = n
done_by (Set k r emptied) c n = with_bans (with_slots n (set n.slots k r)) (emptied_if emptied k n.bans)
done_by (Drop user) c n = with_bans (with_slots n (map (without user) n.slots)) (left_lists user 0 n.slots n.bans)
done_by (Add k) c n = with_list n k (with_masks n.bans k (mask_list_in c)).list

-- ---- what is written: nothing, the message as read, or an SJOIN that tells of a record
abbrev pub passed_on : List ℕ → Message → List ℕ → List ℕ
passed_on line m out = emitted (write_rules line m out) (written (in_capitals (content_by line m)))

abbrev pub told_anew : List ℕ → Message → Record → List ℕ → List ℕ
told_anew line m told out =
    let sid : List ℕ = source_in (content_by line m) in
    emitted (tell_rules sid (decode told) out) (written (join_message sid (decode told)))

abbrev pub written_by : Sending → List ℕ → Message → List ℕ → List ℕ
written_by Silent line m out = []
written_by AsRead line m out = passed_on line m out
written_by (Anew told) line m out = told_anew line m told out

-- ---- the links that it goes to: every registered one but its own, or none
abbrev pub sent_to : Sending → Links → ℕ → ℕ
sent_to Silent links link = 0
sent_to AsRead links link = relay_set links link
sent_to (Anew told) links link = relay_set links link
