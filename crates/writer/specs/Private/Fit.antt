-- The tests of src/fit.rt, which `Fitting` of proofs/ shows to be exactly those of number 24, and the message as it is put.
use Rattle.std.specs.Prelude.{ℕ, Bool, true, not, cond, ◌&&◌, ◌||◌, List, [], ◌∷◌, map, length, take, leb}
use Rattle.std.proofs.Math.Option.{Option, some, none}
use Rattle.octets.specs.Bytes.{is_plain, is_non_space, capital}
use Rattle.laws.specs.Lists.{all, is_nil}
use Rattle.message.specs.declared.Span.{Span}
use Rattle.message.specs.declared.Message.{Message}
use Rattle.message.specs.Grammar.{param_limit, is_command, is_middle}
use Rattle.message.specs.Content.{Content}
use Rattle.message.specs.Parts.{bytes_at}
use Rattle.writer.specs.Form.{lies_in, with_command}

-- ---- of a message
-- one or more bytes, none of them NUL, CR, LF or SPACE
unfoldable pub good_prefix : List ℕ → Bool
good_prefix p = not (is_nil p) && (all is_plain p && all is_non_space p)

unfoldable pub good_source : Option (List ℕ) → Bool
good_source none = true
good_source (some p) = good_prefix p

-- no NUL, CR or LF, and a middle unless it is the last
unfoldable pub good_param : Bool → List ℕ → Bool
good_param last p = all is_plain p && (last || is_middle p)

unfoldable pub good_params : List (List ℕ) → Bool
good_params [] = true
good_params (p ∷ ps) = good_param (is_nil ps) p && good_params ps

unfoldable pub good : Content → Bool
good d = good_source d.prefix && (is_command d.command && (good_params d.params && leb (length d.params) param_limit))

-- ---- the same of the spans, each tested first for lying in the text
unfoldable pub fit_prefix : List ℕ → Message → Bool
fit_prefix text m = not m.has_prefix || (lies_in (length text) m.prefix && good_prefix (bytes_at text m.prefix))

unfoldable pub fit_command : List ℕ → Message → Bool
fit_command text m = lies_in (length text) m.command && is_command (bytes_at text m.command)

unfoldable pub fit_param : List ℕ → Bool → Span → Bool
fit_param text last s = lies_in (length text) s && good_param last (bytes_at text s)

unfoldable pub fit_params : List ℕ → List Span → Bool
fit_params text [] = true
fit_params text (s ∷ ss) = fit_param text (is_nil ss) s && fit_params text ss

unfoldable pub fit : List ℕ → Message → Bool
fit text m = leb m.count param_limit && (fit_prefix text m && (fit_command text m && fit_params text (take m.count m.params)))

-- ---- the message as it is put: its command in capitals if they are asked for
abbrev pub cased : Bool → Content → Content
cased capitals d = with_command d (cond capitals (map capital d.command) d.command)
