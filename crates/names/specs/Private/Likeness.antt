-- What bytes that are alike have in common. Bytes are alike exactly if it is the same of both (`alike-likeness`, proofs/Folds.antt).
use Rattle.std.specs.Prelude.{ℕ, ◌+◌, cond}
use Rattle.octets.specs.Bytes.{within}
use Rattle.names.specs.Fold.{caret}

-- 'A' to '^' become 'a' to '~'. It isn't the fold, which has '^' for '^' and '~'
unfoldable pub likeness : ℕ → ℕ
likeness b = cond (within 65 b caret) (b + 32) b
