-- `prefix_in` meets its contract: the prefix's span, or the empty one at the text's end, is the part handed back. Assumes nothing.
use mathlib.Core.Path.{◌≡◌, ap, ◌∙◌}
use lib.ListN.{length}
use borrow.Author.Tests.{not-true, not-false}
use Rattle.octets.specs.Room.{place_in}
use Rattle.message.specs.declared.Span.{Span}
use Rattle.message.specs.Parts.{bytes_at, empty_at, prefix_span, start_in}
use Rattle.message.proofs.SpanContents.{prefix-held, prefix-span-some, prefix-span-none}
use Rattle.message.proofs.spans.prefix_in.Goals as goal

pub returns-then-not-m : goal.returns-then-not-m
returns-then-not-m c =
    let a = c.args in
    let e : empty_at (length a.text.now) ≡ prefix_span (length a.text.now) a.m = prefix-span-none a.text.now a.m (not-true _ c.if-not-m.true) in record { bytes = c.part.ensures.bytes ∙ ap (bytes_at a.text.now) e ∙ prefix-held a.text.now a.m; place = c.part.ensures.place ∙ ap (λ (s : Span). place_in a.text (start_in (length a.text.now) s)) e }

pub returns : goal.returns
returns c =
    let a = c.args in
    let e : a.m.prefix ≡ prefix_span (length a.text.now) a.m = prefix-span-some a.text.now a.m (not-false _ c.if-not-m.false) in record { bytes = c.part-2.ensures.bytes ∙ ap (bytes_at a.text.now) e ∙ prefix-held a.text.now a.m; place = c.part-2.ensures.place ∙ ap (λ (s : Span). place_in a.text (start_in (length a.text.now) s)) e }
