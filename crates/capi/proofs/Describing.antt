-- Laws of a record's text: it is never empty, so that nothing written means that it doesn't fit; and which rule then decides. Assumes nothing.
use Prim.Native.Nat.{ℕ, ◌<◌}
use mathlib.Core.Path.{◌≡◌, refl, ap, ◌∙◌}
use mathlib.Core.Bool.{Bool, true, false, not, cond}
use mathlib.Core.List.{List, [], ◌∷◌}
use native.Mathlib.Omega.{arith}
use lib.ListN.{length, length-append}
use Rattle.refusal.specs.Numbers.{accepted, not_well_formed, no_room}
use Rattle.refusal.specs.Rules.{◌when◌, first_of, ascend, ascend_from, place_in}
use Rattle.refusal.proofs.Rules.{skip, stop, first-nil}
use Rattle.laws.specs.Lists.{prefixed, separated}
use Rattle.octets.specs.Room.{fits, front}
use Rattle.octets.specs.Decimals.{digits_of}
use Rattle.octets.specs.Bytes.{space}
use Rattle.octets.proofs.Digits.{digits-some}
use Rattle.channel.specs.declared.Record.{Record}
use Rattle.channel.specs.Channel.{Channel}
use Rattle.channel.specs.Record.{decode}
use Rattle.channel.specs.WellFormed.{well_formed}
use Rattle.telling.specs.Telling.{params_of, described, described_in}
use Rattle.capi.specs.Describing.{describe_rules}

-- it begins with the digits of the time
starts : (d : List ℕ) (l : List (List ℕ)) → 0 < length d → 0 < length (separated space (d ∷ l))
unfolding separated
starts d l h = omega (arith, length-append d (prefixed space l))

some : (c : Channel) → 0 < length (described c)
unfolding described params_of
some c = starts (digits_of c.time) _ (digits-some c.time)

-- nothing put at the front
pub blank : (w out : List ℕ) → length w ≡ 0 → front w out ≡ out
blank [] out h = refl
blank (x ∷ w) out h = absurd (omega arith)

module _ (r : Record) (out : List ℕ) where
  -- The rules stand in the order of their numbers: the first in it that applies is given.
  rules-ascend : ascend (describe_rules r out) ≡ true
  unfolding ascend_from describe_rules place_in
  rules-ascend = refl

  pub ill : well_formed r ≡ false → first_of (describe_rules r out) ≡ not_well_formed
  unfolding describe_rules
  ill e = stop _ _ (ap not e)

  module _ (good : well_formed r ≡ true) where
    room : first_of (describe_rules r out) ≡ first_of (no_room when not (fits out 0 (described (decode r))) ∷ [])
    unfolding describe_rules
    room = skip _ _ (ap not good)

    pub full : length (described_in out (decode r)) ≡ 0 → first_of (describe_rules r out) ≡ no_room
    unfolding described_in
    full h = room ∙ go (fits out 0 (described (decode r))) refl h
      where
        go : (t : Bool) → fits out 0 (described (decode r)) ≡ t → length (cond t (described (decode r)) []) ≡ 0
            → first_of (no_room when not (fits out 0 (described (decode r))) ∷ []) ≡ no_room
        go true e h = absurd (omega (arith, some (decode r)))
        go false e h = stop _ _ (ap not e)

    pub whole : (length (described_in out (decode r)) ≡ 0 → ⊥) → (first_of (describe_rules r out) ≡ accepted) × (described_in out (decode r) ≡ described (decode r))
    unfolding described_in
    whole h = go (fits out 0 (described (decode r))) refl h
      where
        go : (t : Bool) → fits out 0 (described (decode r)) ≡ t → (length (cond t (described (decode r)) []) ≡ 0 → ⊥)
            → (first_of (describe_rules r out) ≡ accepted) × (cond (fits out 0 (described (decode r))) (described (decode r)) [] ≡ described (decode r))
        go true e h = (room ∙ skip _ _ (ap not e) ∙ first-nil, rw e)
        go false e h = absurd (h refl)
