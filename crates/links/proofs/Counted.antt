-- The ones of a number of 32 bits are as many as the links in it: both go from bit to bit, the lowest first. Assumes nothing.
use mathlib.Core.Path.{◌≡◌, refl, sym, ◌∙◌}
use mathlib.Core.Bool.{Bool, true, false, cond}
use mathlib.Core.List.{List, ◌∷◌}
use Prim.Native.Nat.{ℕ, zero, suc, ◌+◌, ◌/◌, ◌%◌, ◌^◌, ◌<◌}
use native.Mathlib.Nat.{pow-suc}
use native.Mathlib.Omega.{arith}
use lib.Count.{ones, ones_in, ones_step}
use lib.Dec.{eqb}
use lib.ListN.{length}
use Rattle.laws.specs.Bits.{has_bit}
use Rattle.laws.proofs.Bitwise.{bit-half, bit-last}
use Rattle.links.specs.Links.{link_count, links_from, links_in}

length-cond : (t : Bool) (x : ℕ) (l : List ℕ) → length (cond t (x ∷ l) l) ≡ cond t 1 0 + length l
length-cond true x l = omega arith
length-cond false x l = omega arith

digit : (d : ℕ) → d < 2 → cond (eqb d 1) 1 0 ≡ d
digit zero h = refl
digit (suc zero) h = refl
digit (suc (suc d)) h = absurd (omega arith)

-- the places from the second on are the places of the half
halved : (i n set : ℕ) → length (links_from (suc i) n set) ≡ length (links_from i n (set / 2))
unfolding links_from
halved i zero set = refl
halved i (suc n) set =
    length-cond (has_bit set (suc i)) (suc i) (links_from (suc (suc i)) n set)
    ∙ rw (bit-half set i, halved (suc i) n set) (sym (length-cond (has_bit (set / 2) i) i (links_from (suc i) n (set / 2))))

counted : (n set : ℕ) → set < 2 ^ n → ones set ≡ length (links_from 0 n set)
unfolding links_from ones ones_in
counted zero set h = let e : set ≡ 0 = omega arith in rw e
counted (suc n) set h =
    let half : set / 2 < 2 ^ n = omega (arith, pow-suc 2 n) in
    let low : cond (has_bit set 0) 1 0 ≡ set % 2 = rw (bit-last set) (digit (set % 2) (omega arith)) in
    omega (arith, ones_step set, counted n (set / 2) half, halved 0 n set, length-cond (has_bit set 0) 0 (links_from 1 n set))

pub ones-links : (set : ℕ) → set < 2 ^ link_count → ones set ≡ length (links_in set)
ones-links set h = counted link_count set h
