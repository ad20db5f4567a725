-- Laws of the command that a word is, letters compared without case. Assumes nothing.
use mathlib.Core.Path.{◌≡◌, refl, sym, ap, ap₂, ◌∙◌}
use mathlib.Core.Bool.{Bool, true, false}
use mathlib.Core.List.{List, [], ◌∷◌, map}
use Prim.Native.Nat.{ℕ}
use native.Mathlib.Omega.{arith}
use Rattle.std.specs.Char.{to_ascii_lowercase}
use Rattle.std.proofs.lemmas.Bool.Decides.{nat_tests}
use Rattle.octets.specs.Bytes.{within, capital}
use Rattle.octets.proofs.Bytes.{same_true}
use Rattle.laws.specs.Lists.{same, same_by}
use Rattle.relay.specs.Commands.{Command, Sjoin, Part, Quit, Bmask, Unknown, meaning_of, commands, command_among, command_of}

-- ---- a byte
capital-small : (b : ℕ) → capital (to_ascii_lowercase b) ≡ capital b
unfolding capital within
capital-small b = grind (arith, nat_tests)

small-capital : (b : ℕ) → to_ascii_lowercase (capital b) ≡ to_ascii_lowercase b
unfolding capital within
small-capital b = grind (arith, nat_tests)

-- ---- a word
abbrev small : List ℕ → List ℕ
small word = map to_ascii_lowercase word

capitals-small : (word : List ℕ) → map capital (small word) ≡ map capital word
capitals-small [] = refl
capitals-small (b ∷ s) = ap₂ ◌∷◌ (capital-small b) (capitals-small s)

small-capitals : (word : List ℕ) → small (map capital word) ≡ small word
small-capitals [] = refl
small-capitals (b ∷ s) = ap₂ ◌∷◌ (small-capital b) (small-capitals s)

-- words that are the same but for case have the same capitals, and only they do
capitals-same : (word name : List ℕ) → small word ≡ small name → map capital word ≡ map capital name
capitals-same word name e = sym (capitals-small word) ∙ ap (map capital) e ∙ capitals-small name

same-capitals : (word name : List ℕ) → map capital word ≡ name → small word ≡ small name
same-capitals word name e = sym (small-capitals word) ∙ ap small e

-- ---- the command
module _ (word : List ℕ) where
  pub word-join : small word ≡ small (meaning_of Sjoin).word → command_of word ≡ Sjoin
  unfolding capital within command_among same_by
  word-join e = ap (command_among commands) (capitals-same word (meaning_of Sjoin).word e)

  pub word-part : small word ≡ small (meaning_of Part).word → command_of word ≡ Part
  unfolding capital within command_among same_by
  word-part e = ap (command_among commands) (capitals-same word (meaning_of Part).word e)

  pub word-quit : small word ≡ small (meaning_of Quit).word → command_of word ≡ Quit
  unfolding capital within command_among same_by
  word-quit e = ap (command_among commands) (capitals-same word (meaning_of Quit).word e)

  pub word-mask : small word ≡ small (meaning_of Bmask).word → command_of word ≡ Bmask
  unfolding capital within command_among same_by
  word-mask e = ap (command_among commands) (capitals-same word (meaning_of Bmask).word e)

  other : (k : Command) → (small word ≡ small (meaning_of k).word → ⊥) → same (map capital word) (meaning_of k).word ≡ false
  other k ne = go (same (map capital word) (meaning_of k).word) refl
    where
      go : (t : Bool) → same (map capital word) (meaning_of k).word ≡ t → same (map capital word) (meaning_of k).word ≡ false
      go true e = absurd (ne (same-capitals word (meaning_of k).word (same_true (map capital word) (meaning_of k).word e)))
      go false e = e

  pub word-unknown : (small word ≡ small (meaning_of Sjoin).word → ⊥) → (small word ≡ small (meaning_of Part).word → ⊥) → (small word ≡ small (meaning_of Quit).word → ⊥)
      → (small word ≡ small (meaning_of Bmask).word → ⊥) → command_of word ≡ Unknown
  unfolding command_among
  word-unknown a b c d = rw (other Sjoin a, other Part b, other Quit c, other Bmask d)
