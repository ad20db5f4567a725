-- `put_decimal` meets its contract. The invariant: the digits of what is left, and behind them those gathered, are the digits of n. As n has no more
-- than twenty digits, there is a place for each. Assumes nothing.
use mathlib.Core.Path.{◌≡◌, refl, sym, ap, ◌∙◌}
use mathlib.Core.List.{List, ◌∷◌, ◌++◌, append-nil}
use Prim.Native.Nat.{ℕ, ◌+◌, ◌-◌, ◌/◌, ◌%◌, ◌^◌, ◌≤◌, ◌<◌}
use native.Mathlib.Omega.{arith}
use lib.ListN.{length, take, drop, set, length-append, length-drop, length-set}
use lib.Seq.{append_snoc, get_or-set_same, drop-set-lt, take_all}
use Rattle.octets.specs.Room.{put_at, end_of}
use Rattle.octets.specs.Decimals.{digit, digits_of}
use Rattle.laws.proofs.Lists.{drop-step}
use Rattle.octets.proofs.Digits.{digits-one, digits_more, digits-some, digits-twenty}
use Rattle.octets.proofs.decimals.put_decimal.Goals as goal

-- ---- digits gathered from the end, up to the place of the next one
module _ (digits : List ℕ) (first : ℕ) (h : first < 20) (twenty : length digits ≡ 20) where
  gather : (d : ℕ) → drop first (set digits first d) ≡ d ∷ drop (first + 1) digits
  gather d =
      drop-step (set digits first d) first 0 (omega (arith, length-set digits first d))
      ∙ rw (get_or-set_same digits first d 0 (omega arith), drop-set-lt (first + 1) digits first d (omega arith))

  module _ (left : ℕ) where
    gather-more : 10 ≤ left → digits_of (left / 10) ++ drop first (set digits first (digit (left % 10))) ≡ digits_of left ++ drop (first + 1) digits
    gather-more k = rw (gather (digit (left % 10)), digits_more left k) (sym (append_snoc (digits_of (left / 10)) (digit (left % 10)) (drop (first + 1) digits)))

    gather-last : left < 10 → take (20 - first) (drop first (set digits first (digit left))) ≡ digits_of left ++ drop (first + 1) digits
    gather-last k =
        let l = set digits first (digit left) in
        take_all (20 - first) (drop first l) (omega (arith, length-drop first l, length-set digits first (digit left))) ∙ rw (digits-one left k) (gather (digit left))

    -- where ten or more is left, the digit is not the first of all
    gather-room : (n : ℕ) → n < 2 ^ 64 → digits_of left ++ drop (first + 1) digits ≡ digits_of n → 10 ≤ left → 1 ≤ first
    gather-room n u e k =
        omega (
          arith,
          digits-twenty n u,
          simp length-append at (ap (λ (l : List ℕ). length l) e),
          simp length-append at (ap (λ (l : List ℕ). length l) (digits_more left k)),
          digits-some (left / 10),
          length-drop (first + 1) digits,
        )

pub loop-left-init : goal.loop-left-init
loop-left-init c =
    (omega arith, refl, append-nil (digits_of c.args.n))

pub overflow_sub-first-in-loop-left : goal.overflow_sub-first-in-loop-left
overflow_sub-first-in-loop-left c =
    let l = c.loop-left in
    gather-room l.digits l.first l.invariant.0 l.invariant.1 l.left c.args.n (omega arith) l.invariant.2 c.loop-left-test.true

pub loop-left-preserved : goal.loop-left-preserved
loop-left-preserved c =
    let l = c.loop-left in
    let i : l.first - 1 + 1 ≡ l.first = omega (
      arith,
      (let l = c.loop-left in
          gather-room l.digits l.first l.invariant.0 l.invariant.1 l.left c.args.n (omega arith) l.invariant.2 c.loop-left-test.true),
    ) in (
      omega arith,
      length-set l.digits l.first c.digit.result ∙ l.invariant.1,
      rw (i, c.digit.ensures) (gather-more l.digits l.first l.invariant.0 l.invariant.1 l.left c.loop-left-test.true) ∙ l.invariant.2,
    )

pub slice_bounds-put-end : goal.slice_bounds-put-end
slice_bounds-put-end c =
    let l = c.loop-left in
    omega (arith, l.invariant, length-set l.digits l.first c.digit-2.result)

pub returns : goal.returns
returns c =
    let d = c in
    let l = d.loop-left in
    let a = d.args in
    let e : take (20 - l.first) (drop l.first (set l.digits l.first d.digit-2.result)) ≡ digits_of a.n =
    rw d.digit-2.ensures (gather-last l.digits l.first l.invariant.0 l.invariant.1 l.left d.loop-left-test.false) ∙ l.invariant.2 in record { place = c.put.ensures.place ∙ ap (end_of a.out.now a.at) e; bytes = c.put.ensures.bytes ∙ ap (put_at a.out.now a.at) e }
