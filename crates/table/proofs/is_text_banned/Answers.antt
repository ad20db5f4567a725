-- `is_text_banned` meets its contract: each return is the first rule that applies, or the answer of the list. Assumes nothing.
use mathlib.Core.Path.{sym, ap, ◌∙◌}
use mathlib.Core.List.{List}
use Prim.Native.Nat.{ℕ}
use Rattle.bans.specs.Masks.{masks}
use Rattle.bans.specs.Matching.{some_matches}
use Rattle.table.specs.Slots.{Found, is_held}
use Rattle.table.proofs.Searching.{not-held}
use Rattle.table.proofs.Questions.{banned-ill, banned-unnamed, banned-absent, banned-long, banned-asked}
use Rattle.table.proofs.is_text_banned.Goals as goal

pub returns-then-not-is_well_formed : goal.returns-then-not-is_well_formed
returns-then-not-is_well_formed c =
    banned-ill _ _ _ (sym c.if-not-is_well_formed.ensures)

pub returns-then-not-is_channel : goal.returns-then-not-is_channel
returns-then-not-is_channel c =
    banned-unnamed _ _ _ (sym c.if-not-is_well_formed.ensures) (sym c.if-not-is_channel.ensures)

pub returns-in_default : goal.returns-in_default
returns-in_default c =
    banned-absent _ _ _ (sym c.if-not-is_well_formed.ensures) (sym c.if-not-is_channel.ensures)
    (ap (λ (f : Found). is_held f.slot) (sym c.find.ensures.found) ∙ not-held c.find.result c.in_default.not-Held)

pub returns-then-text-gt-TEXT_LIMIT : goal.returns-then-text-gt-TEXT_LIMIT
returns-then-text-gt-TEXT_LIMIT c =
    banned-long _ _ _ (sym c.if-not-is_well_formed.ensures) (sym c.if-not-is_channel.ensures) c.in-Held.k (ap (λ (f : Found). f.slot) (sym c.in-Held.ensures.found)) c.if-text-gt-TEXT_LIMIT.true

pub returns : goal.returns
returns c =
    banned-asked _ _ _ (sym c.if-not-is_well_formed.ensures) (sym c.if-not-is_channel.ensures) c.in-Held.k (ap (λ (f : Found). f.slot) (sym c.in-Held.ensures.found)) c.if-text-gt-TEXT_LIMIT.false _
    (c.some_matches.ensures ∙ ap (λ (s : List ℕ). some_matches c.args.text.now (masks s)) c.list_at.ensures.bytes)
