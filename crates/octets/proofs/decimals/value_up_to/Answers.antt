-- `value_up_to` meets its contract. A value that passes the limit stays above it, whatever digits come. Assumes nothing.
use mathlib.Core.Path.{◌≡◌, sym, ap, ◌∙◌}
use mathlib.Core.List.{List}
use Prim.Native.Nat.{ℕ, ◌+◌, ◌-◌, ◌*◌, ◌≤◌, ◌<◌}
use native.Mathlib.Omega.{arith}
use lib.ListN.{length, drop, get_or, drop_of_length-le}
use Rattle.std.specs.Prelude.{Some}
use Rattle.octets.specs.Bytes.{is_digit}
use Rattle.octets.specs.Decimals.{zero_digit, value_from, value_of}
use Rattle.laws.proofs.Lists.{drop-step, all-at}
use Rattle.octets.proofs.Digits.{digit-bounds, value-from-le, value_in, value-over}
use Rattle.octets.proofs.decimals.value_up_to.Goals as goal

-- ---- the value of digits from a place on
module _ (n : ℕ) (s : List ℕ) (i : ℕ) where
  value-past : length s ≤ i → value_from n (drop i s) ≡ n
  unfolding value_from
  value-past h = rw (drop_of_length-le s h)

  value-go : i < length s → value_from n (drop i s) ≡ value_from (n * 10 + (get_or s i 0 - zero_digit)) (drop (i + 1) s)
  unfolding value_from
  value-go h = rw (drop-step s i 0 h)

pub overflow_sub-b : goal.overflow_sub-b
overflow_sub-b c =
    (digit-bounds _ (all-at is_digit c.args.s.now c.loop-b.b-index 0 c.requires c.loop-b-test.true)).0

pub returns-then-limit-value : goal.returns-then-limit-value
returns-then-limit-value c =
    let s = c.args.s.now in
    let l = c.loop-b in
    let v = l.value * 10 + (get_or s l.b-index 0 - zero_digit) in
    let e : value_from v (drop (l.b-index + 1) s) ≡ value_of s = sym (value-go l.value s l.b-index c.loop-b-test.true) ∙ l.invariant.1 in
    sym (value-over c.args.limit s (omega (arith, value-from-le v (drop (l.b-index + 1) s))))

pub loop-b-preserved : goal.loop-b-preserved
loop-b-preserved c =
    let l = c.loop-b in (omega arith, rw c.from.ensures (sym (value-go l.value c.args.s.now l.b-index c.loop-b-test.true) ∙ l.invariant.1))

pub returns : goal.returns
returns c =
    let s = c.args.s.now in
    let l = c.loop-b in
    let e : value_of s ≡ l.value = sym l.invariant.1 ∙ value-past l.value s l.b-index c.loop-b-test.false in
    ap Some (sym e) ∙ sym (value_in c.args.limit s (omega arith))
