-- The plain record of lines (document 01, 'Many joins, for demand 3'), of which there is one or more: each line is the channel that it tells of. It is
-- told of the lines alone, all at once, and not by merging one after the other. A line counts that has the smallest time.
use Rattle.std.specs.Prelude.{ℕ, min, List, [], ◌∷◌, ◌++◌, map}
use Rattle.std.specs.Int.Bits.{bit_or}
use Rattle.laws.specs.Joins.{total}
use Rattle.ascending.specs.Ascending.{unite}
use Rattle.channel.specs.declared.Member.{Member}
use Rattle.channel.specs.Settings.{no_settings}
use Rattle.channel.specs.Channel.{Channel, member, by_id}
use Rattle.channel.specs.Members.{status_in}
use Rattle.channel.specs.Standing.{settings_at, standing}
use Rattle.merging.specs.Settings.{join_settings}

-- time: the smallest of their times
unfoldable pub earliest : Channel → List Channel → ℕ
earliest l [] = l.time
earliest l (k ∷ s) = min l.time (earliest k s)

-- every entry of every line
unfoldable pub entries : List Channel → List Member
entries [] = []
entries (c ∷ s) = c.members ++ entries s

-- every user id that any line names, once, ascending; the statuses here are of no matter
unfoldable pub everyone : List Channel → List Member
everyone s = unite by_id [] (entries s)

-- the status that the lines that count give an id
unfoldable pub status_at : ℕ → List Channel → List ℕ → ℕ
status_at time s id = total bit_or 0 (λ c. status_in id (standing time c)) s

-- the record of the lines l and s, in that order
unfoldable pub plain : Channel → List Channel → Channel
plain l s =
    let time : ℕ = earliest l s in
    record {
      name = l.name;
      time = time;
      settings = total join_settings no_settings (settings_at time) (l ∷ s);
      members = map (λ m. member m.id (status_at time (l ∷ s) m.id)) (everyone (l ∷ s));
    }
