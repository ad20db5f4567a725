-- What goes with the last member of a channel: its slot is zeroed, and its ban list with it (document 02, §2).
use Rattle.std.specs.Prelude.{ℕ, suc, Bool, not, ◌&&◌, List, [], ◌∷◌}
use Rattle.channel.specs.declared.Record.{Record}
use Rattle.channel.specs.Members.{without}
use Rattle.table.specs.Network.{emptied_if}
use Rattle.table.specs.Table.{is_free}

-- a used slot that the user leaves empty
unfoldable pub is_last : List ℕ → Record → Bool
is_last user r = not (is_free r) && is_free (without user r)

-- the ban lists after a user leaves each of some slots, of which the first is slot k
unfoldable pub left_lists : List ℕ → ℕ → List Record → List ℕ → List ℕ
left_lists user k [] bans = bans
left_lists user k (r ∷ rs) bans = left_lists user (suc k) rs (emptied_if (is_last user r) k bans)
