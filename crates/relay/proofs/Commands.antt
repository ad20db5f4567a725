-- Every command is lawful, and a line's command has its word. Assumes nothing.
use mathlib.Core.Path.{◌≡◌, refl, sym, ◌∙◌}
use mathlib.Core.Bool.{Bool, true, false, true≢false}
use mathlib.Core.Logic.{◌⊎◌, inl, inr}
use mathlib.Core.List.{List, [], ◌∷◌}
use Prim.Native.Nat.{ℕ}
use native.Mathlib.Omega.{arith}
use Rattle.refusal.specs.Numbers.{accepted, unknown_command}
use Rattle.refusal.specs.Rules.{◌when◌, first_of, ascend_from, place_in}
use Rattle.refusal.proofs.Rules.{stop, first_plain}
use Rattle.laws.specs.Lists.{same}
use Rattle.octets.proofs.Bytes.{same_true}
use Rattle.relay.specs.Commands.{Command, Sjoin, Part, Quit, Bmask, Unknown, meaning_of, command_among}
use Rattle.relay.proofs.Lawful.{Lawful}
use Rattle.relay.proofs.Sjoin as joining
use Rattle.relay.proofs.Part as parting
use Rattle.relay.proofs.Quit as quitting
use Rattle.relay.proofs.Bmask as masking

-- ---- any other
-- it is refused, whatever it says
pub unknown-refused : first_of (unknown_command when true ∷ []) ≡ accepted → ⊥
unknown-refused e = let z = sym (stop _ _ refl) ∙ e in omega (arith, z)

-- so that nothing need hold of what it comes to
strange : Lawful Unknown
unfolding ascend_from place_in
strange = record {
  ordered = λ n a. refl;
  first = λ n a ne. refl;
  modes = λ c e. absurd (true≢false (sym e ∙ first_plain (unknown_command when true ∷ []) refl));
  plain = λ n a own. first_plain ((meaning_of Unknown).rules n a) refl;
  judged = λ n a good read own r e. absurd (unknown-refused own);
  keeps = λ n a p. absurd (unknown-refused p.none);
  reads = λ n a p. absurd (unknown-refused p.none);
}

-- ---- all of them
-- Every command is lawful.
pub lawful : (k : Command) → Lawful k
lawful Sjoin = joining.lawful
lawful Part = parting.lawful
lawful Quit = quitting.lawful
lawful Bmask = masking.lawful
lawful Unknown = strange

-- ---- the word
-- The command of a word is unknown, or has that word.
pub word_of : (s : List Command) (word : List ℕ) → (command_among s word ≡ Unknown) ⊎ (word ≡ (meaning_of (command_among s word)).word)
unfolding command_among
word_of [] word = inl refl
word_of (k ∷ s) word = go (same word (meaning_of k).word) refl (word_of s word)
  where
    go : (t : Bool) → same word (meaning_of k).word ≡ t → (command_among s word ≡ Unknown) ⊎ (word ≡ (meaning_of (command_among s word)).word)
        → (command_among (k ∷ s) word ≡ Unknown) ⊎ (word ≡ (meaning_of (command_among (k ∷ s) word)).word)
    go true e ih = inr (rw e (same_true word (meaning_of k).word e))
    go false e ih = rw e ih
