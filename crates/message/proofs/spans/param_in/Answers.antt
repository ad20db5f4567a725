-- `param_in` meets its contract: the parameter's span, or the empty one at the text's end, is the part handed back. Assumes nothing.
use mathlib.Core.Path.{◌≡◌, ap, ◌∙◌}
use native.Mathlib.Omega.{arith}
use lib.ListN.{length, get_or, length-take}
use borrow.Author.Rules.{rules}
use Rattle.octets.specs.Room.{place_in}
use Rattle.laws.proofs.Lists.{unmapped}
use Rattle.message.specs.declared.Span.{Span}
use Rattle.message.specs.Grammar.{param_limit}
use Rattle.message.specs.Parts.{span, bytes_at, empty_at, param_span, start_in}
use Rattle.message.proofs.SpanContents.{param-held, param-span-some, param-span-none}
use Rattle.message.proofs.spans.param_in.Goals as goal

pub returns-then-k-ge-PARAM_LIMIT : goal.returns-then-k-ge-PARAM_LIMIT
returns-then-k-ge-PARAM_LIMIT c =
    let a = c.args in
    let n : length a.m.params ≡ param_limit = search (rules, unmapped) in
    let e : empty_at (length a.text.now) ≡ param_span (length a.text.now) a.m a.k = param-span-none a.text.now a.m a.k (omega (arith, length-take a.m.count a.m.params, c.if-k-ge-PARAM_LIMIT.true)) in record { bytes = c.part.ensures.bytes ∙ ap (bytes_at a.text.now) e ∙ param-held a.text.now a.m a.k; place = c.part.ensures.place ∙ ap (λ (s : Span). place_in a.text (start_in (length a.text.now) s)) e }

pub returns-then-m-k : goal.returns-then-m-k
returns-then-m-k c =
    let a = c.args in
    let e : empty_at (length a.text.now) ≡ param_span (length a.text.now) a.m a.k = param-span-none a.text.now a.m a.k (omega (arith, length-take a.m.count a.m.params, c.if-m-k.true)) in record { bytes = c.part-then-m-k.ensures.bytes ∙ ap (bytes_at a.text.now) e ∙ param-held a.text.now a.m a.k; place = c.part-then-m-k.ensures.place ∙ ap (λ (s : Span). place_in a.text (start_in (length a.text.now) s)) e }

pub returns : goal.returns
returns c =
    let a = c.args in
    let n : length a.m.params ≡ param_limit = search (rules, unmapped) in
    let e : get_or a.m.params a.k (span 0 0) ≡ param_span (length a.text.now) a.m a.k = param-span-some a.text.now a.m a.k (span 0 0) (omega arith) (omega arith) in record { bytes = c.part-2.ensures.bytes ∙ ap (bytes_at a.text.now) e ∙ param-held a.text.now a.m a.k; place = c.part-2.ensures.place ∙ ap (λ (s : Span). place_in a.text (start_in (length a.text.now) s)) e }
