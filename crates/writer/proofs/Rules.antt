-- The writer's numbers: their order, and which one each test gives. Assumes nothing.
use mathlib.Core.Path.{◌≡◌, refl, sym, ◌∙◌}
use mathlib.Core.Bool.{true, false}
use mathlib.Core.List.{List, [], ◌∷◌}
use Prim.Native.Nat.{ℕ, ◌≤◌, ◌<◌}
use lib.ListN.{length}
use lib.Dec.{ltb}
use borrow.Author.Tests.{lt-ltb, le-ltb}
use Rattle.refusal.specs.Numbers.{accepted, output_too_short, unwritable, no_room}
use Rattle.refusal.specs.Rules.{◌when◌, first_of, ascend, ascend_from, place_in}
use Rattle.refusal.proofs.Rules.{skip, stop, first-nil}
use Rattle.message.specs.declared.Message.{Message}
use Rattle.message.specs.Grammar.{line_limit}
use Rattle.message.specs.Parts.{content_by}
use Rattle.message.specs.Reading.{body_rules, line_rules, number_for}
use Rattle.writer.specs.Form.{written}
use Rattle.writer.specs.Writing.{write_rules, forward_rules}
use Rattle.writer.specs.Private.Fit.{fit}
use Rattle.writer.proofs.Fitting.{fit-exactly}

-- ---- a message of spans
-- The numbers of a message that is to be written ascend: the lowest that applies is given.
pub write-rules-ascend : (text : List ℕ) (m : Message) (out : List ℕ) → ascend (write_rules text m out) ≡ true
unfolding ascend_from write_rules place_in
write-rules-ascend text m out = refl

module _ (text : List ℕ) (m : Message) (out : List ℕ) where
  pub write-short : length out < line_limit → first_of (write_rules text m out) ≡ output_too_short
  unfolding write_rules
  write-short h = stop _ _ (lt-ltb (length out) line_limit h)

  module _ (room : line_limit ≤ length out) where
    pub write-unfit : fit text m ≡ false → first_of (write_rules text m out) ≡ unwritable
    unfolding write_rules
    write-unfit e = skip _ _ (le-ltb (length out) line_limit room) ∙ stop _ _ (rw (sym (fit-exactly text m) ∙ e))

    module _ (ok : fit text m ≡ true) where
      write-fit : first_of (write_rules text m out) ≡ first_of (no_room when ltb line_limit (length (written (content_by text m))) ∷ [])
      unfolding write_rules
      write-fit = skip _ _ (le-ltb (length out) line_limit room) ∙ skip _ _ (rw (sym (fit-exactly text m) ∙ ok))

      pub write-long : line_limit < length (written (content_by text m)) → first_of (write_rules text m out) ≡ no_room
      write-long h = write-fit ∙ stop _ _ (lt-ltb line_limit (length (written (content_by text m))) h)

      pub write-accepts : length (written (content_by text m)) ≤ line_limit → first_of (write_rules text m out) ≡ accepted
      write-accepts h = write-fit ∙ skip _ _ (le-ltb line_limit (length (written (content_by text m))) h) ∙ first-nil

-- ---- a line passed on
-- Those of a line that is to be passed on ascend too.
pub forward-rules-ascend : (line out : List ℕ) → ascend (forward_rules line out) ≡ true
unfolding ascend_from forward_rules line_rules body_rules place_in
forward-rules-ascend line out = refl

-- A line that is to be passed on gets the reader's number, if the output has room for a line.
pub forward-number : (line out : List ℕ) → line_limit ≤ length out → first_of (forward_rules line out) ≡ number_for line
unfolding forward_rules number_for
forward-number line out room = skip _ _ (le-ltb (length out) line_limit room)

pub forward-short : (line out : List ℕ) → length out < line_limit → first_of (forward_rules line out) ≡ output_too_short
unfolding forward_rules
forward-short line out h = stop _ _ (lt-ltb (length out) line_limit h)
