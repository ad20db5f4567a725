-- Some mask of a list matches a text exactly if one does by the plain meaning of masks: none is over glob's limit. Assumes nothing.
use mathlib.Core.Path.{◌≡◌, refl, sym, ap, ap₂}
use mathlib.Core.Bool.{true, false, ◌||◌}
use mathlib.Core.List.{List, [], ◌∷◌}
use Prim.Native.Nat.{ℕ, ◌≤◌}
use native.Mathlib.Omega.{arith}
use lib.ListN.{length}
use Rattle.laws.specs.Lists.{all}
use Rattle.laws.specs.Joins.{total}
use Rattle.laws.proofs.Lists.{all_head, all_tail}
use Rattle.glob.specs.declared.Match.{Match}
use Rattle.glob.specs.Mask.{text_limit, matches, match_answer}
use Rattle.glob.proofs.Masks.{answers-within}
use Rattle.bans.specs.Masks.{is_mask}
use Rattle.bans.specs.Matching.{some_matches}
use Rattle.bans.proofs.Keeping.{mask-short}

within-limit : (m t : List ℕ) → length m ≤ text_limit → length t ≤ text_limit → (match_answer m t).yes ≡ matches m t
within-limit m t h k = sym (ap (λ (r : Match). r.yes) (answers-within m t h k (matches m t) refl))

-- within the limit of a text, some mask matches exactly if one does by the plain meaning
pub plain-matches : (t : List ℕ) (l : List (List ℕ)) → length t ≤ text_limit → all is_mask l ≡ true → some_matches t l ≡ total ◌||◌ false (λ m. matches m t) l
unfolding some_matches
plain-matches t [] k h = refl
plain-matches t (m ∷ l) k h =
    ap₂ ◌||◌ (within-limit m t (omega (arith, mask-short m (all_head is_mask m l h))) k) (plain-matches t l k (all_tail is_mask m l h))
