-- Messages and parameters written by computing: a witness for the premises of the theorems about messages that are written. Assumes nothing.
use mathlib.Core.Path.{◌≡◌, refl}
use mathlib.Core.Bool.{false}
use mathlib.Core.List.{List, [], ◌∷◌, map}
use Prim.Native.Nat.{ℕ}
use lib.ListN.{replicate}
use Rattle.refusal.specs.Numbers.{accepted, output_too_short, unwritable}
use Rattle.refusal.specs.Rules.{first_of}
use Rattle.octets.specs.Bytes.{space, colon, within, is_plain, is_letter}
use Rattle.laws.specs.Lists.{all, same_by, starts_with}
use Rattle.octets.specs.Room.{part}
use Rattle.message.specs.declared.Span.{Span}
use Rattle.message.specs.declared.Message.{Message}
use Rattle.message.specs.Grammar.{line_limit, param_limit, is_bare, word, spaces, prefix, prefix_end, command_start, command, command_end, is_command, rest, params}
use Rattle.message.specs.Content.{content_in}
use Rattle.message.specs.Parts.{span, empty_at, content_by}
use Rattle.message.specs.Reading.{crlf, ends_line, body_of, body_rules}
use Rattle.writer.specs.Form.{takes_colon, written_param, written_params, written_prefix, written_body, written, same_prefix, same_content, reads_back, lies_in, lies}
use Rattle.writer.specs.Writing.{write_rules}

-- the text `Xa b`
text : List ℕ
text = 88 ∷ 97 ∷ space ∷ 98 ∷ []

-- the command X and one parameter, a span of it
message : Span → Message
message p = record { has_prefix = false; prefix = empty_at 0; command = span 0 1; count = 1; params = replicate param_limit p }

-- `a b` as the last parameter takes a ':'
whole-written : written (content_by text (message (span 1 4))) ≡ 88 ∷ space ∷ colon ∷ 97 ∷ space ∷ 98 ∷ crlf
unfolding text message written written_body written_prefix written_params written_param takes_colon all starts_with content_by part
whole-written = refl

-- as the fifteenth it takes none; ` b`, `:b` and an empty one do
fifteenths-written : map (λ p. written_params 14 (p ∷ [])) ((97 ∷ space ∷ 98 ∷ []) ∷ (space ∷ 98 ∷ []) ∷ (colon ∷ 98 ∷ []) ∷ [] ∷ [])
    ≡ (space ∷ 97 ∷ space ∷ 98 ∷ []) ∷ (space ∷ colon ∷ space ∷ 98 ∷ []) ∷ (space ∷ colon ∷ colon ∷ 98 ∷ []) ∷ (space ∷ colon ∷ []) ∷ []
unfolding written_params written_param takes_colon is_bare
fifteenths-written = refl

whole-accepted : first_of (write_rules text (message (span 1 4)) (replicate line_limit 0)) ≡ accepted
unfolding text message write_rules first_of lies lies_in all reads_back same_content same_prefix same_by content_by part written written_body written_prefix written_params written_param takes_colon starts_with ends_line body_of body_rules is_plain content_in prefix word prefix_end command_start spaces command is_command is_letter within command_end rest params
whole-accepted = refl

-- a part outside the text, and an output that is too short
outside : first_of (write_rules text (message (span 1 5)) (replicate line_limit 0)) ≡ unwritable
unfolding text message write_rules first_of lies lies_in all
outside = refl

short : first_of (write_rules text (message (span 1 4)) []) ≡ output_too_short
unfolding write_rules first_of
short = refl
