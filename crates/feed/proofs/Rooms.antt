-- A state's room: bytes that are put behind those kept, where there is room, stand there padded. Assumes nothing.
use mathlib.Core.Path.{◌≡◌, sym, ◌∙◌}
use mathlib.Core.List.{List, ◌++◌, append_assoc}
use Prim.Native.Nat.{ℕ, ◌+◌, ◌≤◌}
use native.Mathlib.Omega.{arith}
use lib.ListN.{length, take, drop}
use lib.Seq.{drop-drop}
use borrow.Rule.Slice.PartMut.{put_mid}
use borrow.Author.Tests.{le-leb}
use Rattle.octets.specs.Room.{put_at}
use Rattle.octets.proofs.Room.{put-padded-behind}
use Rattle.laws.specs.Lists.{padded}
use Rattle.message.specs.Grammar.{line_limit}
use Rattle.feed.specs.declared.Feeder.{Feeder}
use Rattle.feed.specs.Private.Gathering.{KeepsLine, held_bytes}
use Rattle.feed.proofs.States.{room_whole, kept-length, kept-padded}

pub put-behind-held : (f : Feeder) → KeepsLine f → (more : List ℕ) → f.len + length more ≤ line_limit → put_at f.bytes f.len more ≡ padded line_limit 0 (held_bytes f ++ more)
put-behind-held f keeps more fits =
    let n = kept-length f keeps.reached in
    rw (kept-padded f keeps.reached, n) at (put-padded-behind line_limit (held_bytes f) more (omega (arith, n)))

-- bytes that are copied to their place, where there is room, are put there
copied-put : (out p : List ℕ) (at n : ℕ) → n ≡ length p → at + length p ≤ length out → put_mid at n out p ≡ put_at out at p
unfolding put_at
copied-put out p at n e h = rw (le-leb (at + length p) (length out) h, e, drop-drop (length p) at out) (sym (append_assoc (take at out) p (drop (at + length p) out)))

pub copied-behind : (f : Feeder) → KeepsLine f → (more : List ℕ) (n : ℕ) → n ≡ length more → f.len + length more ≤ line_limit → put_mid f.len n f.bytes more ≡ padded line_limit 0 (held_bytes f ++ more)
copied-behind f keeps more n e fits = copied-put f.bytes more f.len n e (omega (arith, room_whole f keeps.reached)) ∙ put-behind-held f keeps more fits
