-- The fixed form and number 24 as document 01 has them, where the fifteenth parameter had no rule of its own (document 02, §7): kept to say that the messages which get 24 are
-- the same. No function goes by the former form.
use Rattle.std.specs.Prelude.{ℕ, Bool, not, cond, ◌&&◌, ◌||◌, List, [], ◌∷◌, ◌++◌, eqb}
use Rattle.std.proofs.Math.Option.{some, none}
use Rattle.refusal.specs.Numbers.{accepted}
use Rattle.refusal.specs.Rules.{first_of}
use Rattle.octets.specs.Bytes.{space, colon, is_non_space}
use Rattle.laws.specs.Lists.{all, is_nil, starts_with}
use Rattle.message.specs.Grammar.{has_prefix, prefix, command}
use Rattle.message.specs.Content.{Content, bytes_of}
use Rattle.message.specs.Reading.{crlf, body_of, grammar_rules}
use Rattle.message.specs.Former.{former_params, sixteenth}
use Rattle.writer.specs.Form.{written_prefix, same_content}

-- ':' before the last parameter exactly if it is empty, starts with ':' or holds a SPACE
unfoldable pub former_param : Bool → List ℕ → List ℕ
former_param last p = cond (last && (is_nil p || (starts_with colon p || not (all is_non_space p)))) (colon ∷ p) p

unfoldable pub former_written_params : List (List ℕ) → List ℕ
former_written_params [] = []
former_written_params (p ∷ ps) = (space ∷ former_param (is_nil ps) p) ++ former_written_params ps

unfoldable pub former_written : Content → List ℕ
former_written d = written_prefix d.prefix ++ d.command ++ former_written_params d.params ++ crlf

-- what a body held
unfoldable pub former_content : List ℕ → Content
former_content body = record {
  prefix = cond (has_prefix body) (some (prefix body)) none;
  command = command body;
  params = bytes_of (former_params body);
}

-- the form was read, its length apart, and as the message
unfoldable pub former_reads_back : Content → Bool
former_reads_back d = eqb (first_of (grammar_rules (former_written d) ++ sixteenth (former_written d))) accepted && same_content (former_content (body_of (former_written d))) d
