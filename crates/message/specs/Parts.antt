-- The parts of a body as spans of the line, and what a message holds whose parts are spans of a text.
use Rattle.std.specs.Prelude.{ℕ, ◌+◌, min, false, cond, List, map, length, take, get_or, replicate}
use Rattle.std.proofs.Math.Option.{some, none}
use Rattle.laws.specs.Lists.{padded}
use Rattle.octets.specs.Room.{part}
use Rattle.message.specs.declared.Span.{Span}
use Rattle.message.specs.declared.Message.{Message}
use Rattle.message.specs.Grammar.{Part, param_limit, has_prefix, prefix_end, command_start, command_end, params}
use Rattle.message.specs.Content.{Content}

abbrev pub span : ℕ → ℕ → Span
span from to = record { start = from; end = to }

-- the empty part at the end of n lent bytes, which stands for one that is missing
abbrev pub empty_at : ℕ → Span
empty_at n = span n n

-- the bytes of a span
abbrev pub bytes_at : List ℕ → Span → List ℕ
bytes_at text s = part text s.start s.end

abbrev pub span_of : Part → Span
span_of p = span p.start (p.start + length p.bytes)

-- the parts of a body, in a line of n bytes: the parameters' spans are filled up to fifteen with the empty one at the line's end
unfoldable pub message_in : List ℕ → ℕ → Message
message_in body n = record {
  has_prefix = has_prefix body;
  prefix = cond (has_prefix body) (span 1 (prefix_end body)) (empty_at n);
  command = span (command_start body) (command_end body);
  count = length (params body);
  params = padded param_limit (empty_at n) (map span_of (params body));
}

-- no part at all
unfoldable pub blank : ℕ → Message
blank n = record {
  has_prefix = false;
  prefix = empty_at n;
  command = empty_at n;
  count = 0;
  params = replicate param_limit (empty_at n);
}

-- ---- a message whose parts are spans of a text
-- the spans past the count, and that of a prefix that is missing, are no parts
unfoldable pub content_by : List ℕ → Message → Content
content_by text m = record {
  prefix = cond m.has_prefix (some (bytes_at text m.prefix)) none;
  command = bytes_at text m.command;
  params = map (bytes_at text) (take m.count m.params);
}

-- ---- where such a part lies, in a text of n bytes
-- the prefix, or the empty part at the end
unfoldable pub prefix_span : ℕ → Message → Span
prefix_span n m = cond m.has_prefix m.prefix (empty_at n)

-- the parameter k, counted from 0, or the empty part at the end
unfoldable pub param_span : ℕ → Message → ℕ → Span
param_span n m k = get_or (take m.count m.params) k (empty_at n)

-- the place where a span's bytes begin: what lies past the end is left off
abbrev pub start_in : ℕ → Span → ℕ
start_in n s = min s.start (min s.end n)
