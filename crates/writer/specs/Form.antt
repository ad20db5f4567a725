-- The fixed form of a message (document 01: "The writer takes a message .. and writes the fixed form"; document 02, §7).
use Rattle.std.specs.Prelude.{ℕ, ◌+◌, Bool, true, false, not, cond, ◌&&◌, ◌||◌, List, [], ◌∷◌, ◌++◌, map, length, take, eqb, leb}
use Rattle.std.proofs.Math.Option.{Option, some, none}
use Rattle.refusal.specs.Numbers.{accepted}
use Rattle.refusal.specs.Rules.{first_of}
use Rattle.octets.specs.Bytes.{space, colon, is_non_space, capital}
use Rattle.laws.specs.Lists.{all, is_nil, same, same_by, starts_with}
use Rattle.message.specs.declared.Span.{Span}
use Rattle.message.specs.declared.Message.{Message}
use Rattle.message.specs.Grammar.{param_limit, middle_limit, is_bare}
use Rattle.message.specs.Content.{Content, content_in}
use Rattle.message.specs.Reading.{crlf, body_of, grammar_rules}

-- ---- the form
-- ':' stands before parameter k, counted from 0, exactly if it is the last and is empty, starts with ':' or holds a SPACE; before a last one that is the fifteenth,
-- unless it is non-empty and starts with neither ':' nor SPACE
unfoldable pub takes_colon : ℕ → Bool → List ℕ → Bool
takes_colon k last p = last && cond (eqb k middle_limit) (not (is_bare p)) (is_nil p || (starts_with colon p || not (all is_non_space p)))

unfoldable pub written_param : ℕ → Bool → List ℕ → List ℕ
written_param k last p = cond (takes_colon k last p) (colon ∷ p) p

-- one SPACE before each, k parameters having come before
unfoldable pub written_params : ℕ → List (List ℕ) → List ℕ
written_params k [] = []
written_params k (p ∷ ps) = (space ∷ written_param k (is_nil ps) p) ++ written_params (k + 1) ps

-- ':', the prefix and one SPACE, or nothing
unfoldable pub written_prefix : Option (List ℕ) → List ℕ
written_prefix none = []
written_prefix (some p) = (colon ∷ p) ++ (space ∷ [])

unfoldable pub written_body : Content → List ℕ
written_body d = written_prefix d.prefix ++ d.command ++ written_params 0 d.params

unfoldable pub written : Content → List ℕ
written d = written_body d ++ crlf

-- ---- the form is read, its length apart, and as the message: byte for byte, presence of the prefix included
unfoldable pub same_prefix : Option (List ℕ) → Option (List ℕ) → Bool
same_prefix none none = true
same_prefix none (some q) = false
same_prefix (some p) none = false
same_prefix (some p) (some q) = same p q

unfoldable pub same_content : Content → Content → Bool
same_content d e = same_prefix d.prefix e.prefix && (same d.command e.command && same_by same d.params e.params)

unfoldable pub reads_back : Content → Bool
reads_back d = eqb (first_of (grammar_rules (written d))) accepted && same_content (content_in (body_of (written d))) d

-- ---- the parts of a message as spans of a text
-- the span is a part of n bytes
unfoldable pub lies_in : ℕ → Span → Bool
lies_in n s = leb s.start s.end && leb s.end n

-- every part lies in the text; past fifteen there is no part
unfoldable pub lies : List ℕ → Message → Bool
lies text m =
    leb m.count param_limit
    && ((not m.has_prefix || lies_in (length text) m.prefix)
    && (lies_in (length text) m.command && all (lies_in (length text)) (take m.count m.params)))

-- ---- the same message with another command
unfoldable pub with_command : Content → List ℕ → Content
with_command d c = record { prefix = d.prefix; command = c; params = d.params }

-- its command in capitals
abbrev pub in_capitals : Content → Content
in_capitals d = with_command d (map capital d.command)
