-- Laws of the words, for their callers: each fits its room, by a test of the table that is computed, and stands at the front of it. Assumes nothing.
use Prim.Native.Nat.{ℕ, ◌≤◌}
use mathlib.Core.Path.{◌≡◌, refl}
use mathlib.Core.Bool.{Bool, true, false, cond}
use mathlib.Core.List.{List, [], ◌∷◌}
use native.Mathlib.Omega.{arith}
use lib.ListN.{length, take}
use lib.Dec.{eqb, leb}
use borrow.Author.Tests.{leb-true}
use Rattle.laws.specs.Lists.{all}
use Rattle.laws.proofs.Bools.{and_left, and_right}
use Rattle.laws.proofs.Lists.{take-padded}
use Rattle.wording.specs.Wording.{Entry, bytes_of, table, words_in, words_of, text_limit, text_of}

abbrev fits : Entry → Bool
fits e = leb (length (bytes_of e.words)) text_limit

few-in : (es : List Entry) → all fits es ≡ true → (n : ℕ) → length (words_in es n) ≤ text_limit
unfolding words_in all
few-in [] h n = omega arith
few-in (e ∷ es) h n = go (eqb e.number n) (few-in es (and_right (fits e) (all fits es) h) n)
  where
    go : (t : Bool) → length (words_in es n) ≤ text_limit → length (cond t (bytes_of e.words) (words_in es n)) ≤ text_limit
    go true f = leb-true _ text_limit (and_left (fits e) (all fits es) h)
    go false f = f

pub words-few : (n : ℕ) → length (words_of n) ≤ text_limit
unfolding table bytes_of all
words-few n = few-in table refl n

pub words_back : (n : ℕ) → take (text_of n).len (text_of n).bytes ≡ words_of n
words_back n = take-padded 0 text_limit (words_of n) (words-few n)
