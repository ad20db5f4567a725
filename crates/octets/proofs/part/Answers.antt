-- `part` meets its contract: cut back to the slice's end, start and end give the same bytes. Assumes nothing.
use mathlib.Core.Path.{◌≡◌, refl, sym, ap, ◌∙◌}
use mathlib.Core.Bool.{Bool, true, false}
use mathlib.Core.List.{List, []}
use Prim.Native.Nat.{ℕ, ◌-◌, ◌≤◌, min}
use native.Mathlib.Omega.{arith}
use lib.ListN.{length, take, drop, length-drop, drop_of_length-le}
use lib.Seq.{take_all, take-nil}
use lib.Dec.{leb}
use borrow.Author.Tests.{leb-true, leb-false}
use Rattle.octets.specs.Room.{part, place_in}
use Rattle.octets.proofs.part.Goals as goal

-- start and end, each cut back
module _ (s : List ℕ) (start end stop from : ℕ) (is : stop ≡ min end (length s)) (fr : from ≡ min start stop) where
  same_bytes : take (stop - from) (drop from s) ≡ part s start end
  unfolding part
  same_bytes = go (leb start stop) refl (leb end (length s)) refl
    where
      go : (t : Bool) → leb start stop ≡ t → (u : Bool) → leb end (length s) ≡ u → take (stop - from) (drop from s) ≡ take (end - start) (drop start s)
      go true e true f =
          let a : from ≡ start = omega (arith, leb-true start stop e) in
          let b : stop ≡ end = omega (arith, leb-true end (length s) f) in
          rw (a, b)
      go true e false f =
          let a : from ≡ start = omega (arith, leb-true start stop e) in
          let b : length (drop start s) ≤ stop - start = omega (arith, leb-false end (length s) f, length-drop start s) in
          let d : length (drop start s) ≤ end - start = omega (arith, leb-false end (length s) f, length-drop start s) in
          rw (a, take_all (stop - start) (drop start s) b, take_all (end - start) (drop start s) d)
      go false e u f =
          let a : stop - from ≡ 0 = omega (arith, leb-false start stop e) in
          rw a (sym (none (leb end (length s)) refl))
        where
          -- past its cut end a part is empty: end lies before start, or start after the slice
          none : (v : Bool) → leb end (length s) ≡ v → take (end - start) (drop start s) ≡ []
          none true g = let z : end - start ≡ 0 = omega (arith, leb-false start stop e, leb-true end (length s) g) in rw z
          none false g = rw (drop_of_length-le s {i = start} (omega (arith, leb-false start stop e, leb-false end (length s) g))) (take-nil (end - start))

pub returns : goal.returns
returns c =
    let a = c.args in
    let stop = c.min-stop.ensures in
    let from = c.min-from.ensures in record { bytes = same_bytes a.s.now a.start a.end c.min-stop.result c.min-from.result stop from; place = ap (place_in a.s) (from ∙ ap (min a.start) stop) }
