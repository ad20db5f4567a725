-- A message: perhaps a prefix, a command, parameters, each the bytes that it has.
use Rattle.std.specs.Prelude.{ℕ, Bool, false, cond, List, [], map}
use Rattle.std.proofs.Math.Option.{Option, some, none, get_or}
use Rattle.message.specs.Grammar as grammar

pub record Content : Type 0 where
  pub prefix : Option (List ℕ)
  pub command : List ℕ
  pub params : List (List ℕ)

-- the prefix is there, and the test says yes of it
unfoldable pub prefix_is : (List ℕ → Bool) → Option (List ℕ) → Bool
prefix_is test none = false
prefix_is test (some p) = test p

-- the source of a message: its prefix, or no bytes
abbrev pub source_in : Content → List ℕ
source_in c = get_or c.prefix []

-- the bytes of each part
abbrev pub bytes_of : List grammar.Part → List (List ℕ)
bytes_of ps = map (λ p. p.bytes) ps

-- what a body holds by the grammar
unfoldable pub content_in : List ℕ → Content
content_in body = record {
  prefix = cond (grammar.has_prefix body) (some (grammar.prefix body)) none;
  command = grammar.command body;
  params = bytes_of (grammar.params body);
}

-- what a line holds that isn't read
abbrev pub no_content : Content
no_content = record { prefix = none; command = []; params = [] }
