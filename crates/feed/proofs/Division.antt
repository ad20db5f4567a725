-- The calls, held against the bytes told all at once: any bytes divide into lines and a rest, and what is yielded and kept is told of these, line by line. So no byte
-- is lost, and none counts twice. Assumes nothing.
use mathlib.Core.Path.{◌≡◌, refl, sym, ap, ap₂, ◌∙◌}
use mathlib.Core.Bool.{Bool, true, false}
use mathlib.Core.Logic.{◌⊎◌, inl, inr}
use mathlib.Core.List.Memᴰ
use mathlib.Core.List.{List, [], ◌∷◌, ◌++◌, map, append-nil, append_assoc, Memᴰ}
use Prim.Native.Nat.{ℕ, suc, ◌+◌, ◌≤◌, ◌<◌}
use native.Mathlib.Omega.{arith}
use lib.ListN.{length, take, drop, get_or, length-append}
use lib.Seq.{split_at, length-take-le}
use lib.Dec.{eqb, leb}
use borrow.Author.Tests.{eqb-true, leb-true, leb-false}
use Rattle.octets.specs.Bytes.{lf, is_non_lf}
use Rattle.laws.specs.Lists.{all}
use Rattle.laws.specs.Joins.{concatenated}
use Rattle.laws.proofs.Lists.{all_cons, all_take, all_drop, all-at}
use Rattle.message.specs.Grammar.{line_limit}
use Rattle.feed.specs.Lines.{Event, TooLong, Pending, Unfinished, Dropping, nothing, yielded, events, after_all}
use Rattle.feed.specs.Feeder.{state_of, feed_answer}
use Rattle.feed.specs.Calls.{calls_over}
use Rattle.feed.specs.Division.{Ended, Divided, event_of, overdue, kept_of}
use Rattle.feed.proofs.Runs.{after-append, events-append, keeps-silent, keeps, drops-silent, drops, full-yields, full-drops, ends, line-yields}
use Rattle.feed.proofs.Calls.{feeds}

-- What some bytes come to.
record Comes (s : List ℕ) (es : List Event) (p : Pending) : Type 0 where
  yields : events nothing s ≡ es
  leaves : after_all nothing s ≡ p

-- what comes behind bytes that come to something
comes-then : (s t : List ℕ) (es fs : List Event) (p q : Pending) → Comes s es p → events p t ≡ fs → after_all p t ≡ q → Comes (s ++ t) (es ++ fs) q
comes-then s t es fs p q c e f = record {
  yields = events-append s t nothing ∙ ap₂ ◌++◌ c.yields (ap (λ (r : Pending). events r t) c.leaves ∙ e);
  leaves = after-append s t nothing ∙ ap (λ (r : Pending). after_all r t) c.leaves ∙ f;
}

-- ---- bytes without LF
-- 512 of them at most
short-comes : (u : List ℕ) → all is_non_lf u ≡ true → length u ≤ line_limit → Comes u [] (Unfinished u)
short-comes u clean h = record { yields = keeps-silent u [] clean (omega arith); leaves = keeps u [] clean (omega arith) }

-- 512, one more, and any
full-comes : (u : List ℕ) (b : ℕ) (t : List ℕ) → length u ≡ line_limit → all is_non_lf u ≡ true → is_non_lf b ≡ true → all is_non_lf t ≡ true → Comes (u ++ b ∷ t) (TooLong ∷ []) Dropping
unfolding events after_all
full-comes u b t size clean other more =
    comes-then u (b ∷ t) [] (TooLong ∷ []) (Unfinished u) Dropping
    (short-comes u clean (omega arith))
    (rw (full-yields u size b, full-drops u size b other, drops-silent t more))
    (rw (full-drops u size b other) (drops t more))

module _ (u : List ℕ) (clean : all is_non_lf u ≡ true) where
  -- a 513th among them
  long-comes : line_limit < length u → Comes u (TooLong ∷ []) Dropping
  long-comes h =
      let parts : u ≡ take line_limit u ++ get_or u line_limit 0 ∷ drop (suc line_limit) u = split_at u line_limit 0 h in
      let size : length (take line_limit u) ≡ line_limit = length-take-le line_limit u (omega arith) in
      rw parts (full-comes (take line_limit u) (get_or u line_limit 0) (drop (suc line_limit) u) size (all_take is_non_lf line_limit u clean) (all-at is_non_lf u line_limit 0 clean h) (all_drop is_non_lf (suc line_limit) u clean))

  rest-comes : Comes u (overdue u) (kept_of u)
  rest-comes = go (leb (length u) line_limit) refl
    where
      go : (t : Bool) → leb (length u) line_limit ≡ t → Comes u (overdue u) (kept_of u)
      go true e = rw e (short-comes u clean (leb-true (length u) line_limit e))
      go false e = rw e (long-comes (leb-false (length u) line_limit e))

-- ---- a line
-- LF behind bytes that come to something
lf-comes : (u : List ℕ) (es fs : List Event) (p : Pending) → Comes u es p → yielded p lf ≡ fs → Comes (u ++ (lf ∷ [])) (es ++ fs) nothing
unfolding events after_all
lf-comes u es fs p c e = comes-then u (lf ∷ []) es fs p nothing c (append-nil (yielded p lf) ∙ e) (ends p)

body-comes : (u : List ℕ) → all is_non_lf u ≡ true → Comes (u ++ (lf ∷ [])) (event_of (u ++ (lf ∷ [])) ∷ []) nothing
unfolding yielded
body-comes u clean = go (leb (length (u ++ (lf ∷ []))) line_limit) refl (leb (length u) line_limit) refl
  where
    size : length (u ++ (lf ∷ [])) ≡ length u + 1
    size = length-append u (lf ∷ [])

    go : (t : Bool) → leb (length (u ++ (lf ∷ []))) line_limit ≡ t → (v : Bool) → leb (length u) line_limit ≡ v → Comes (u ++ (lf ∷ [])) (event_of (u ++ (lf ∷ [])) ∷ []) nothing
    go true f v g =
        let room : length u < line_limit = omega (arith, size, leb-true (length (u ++ (lf ∷ []))) line_limit f) in
        rw f (lf-comes u [] _ (Unfinished u) (short-comes u clean (omega arith)) (line-yields u room))
    go false f true g =
        let full : length u ≡ line_limit = omega (arith, size, leb-false (length (u ++ (lf ∷ []))) line_limit f, leb-true (length u) line_limit g) in
        rw f (lf-comes u [] _ (Unfinished u) (short-comes u clean (omega arith)) (full-yields u full lf))
    go false f false g = rw f (lf-comes u (TooLong ∷ []) [] Dropping (long-comes u clean (leb-false (length u) line_limit g)) refl)

line-comes : (line : List ℕ) → Ended line → Comes line (event_of line ∷ []) nothing
line-comes line e = rw e.ends (body-comes e.body e.one)

-- ---- all of them
abbrev Lines : List (List ℕ) → Type 0
Lines lines = (line : List ℕ) → Memᴰ line lines → Ended line

lines-come : (lines : List (List ℕ)) (rest : List ℕ) → Lines lines → all is_non_lf rest ≡ true → Comes (concatenated lines ++ rest) (map event_of lines ++ overdue rest) (kept_of rest)
lines-come [] rest e h = rest-comes rest h
lines-come (line ∷ lines) rest e h =
    let c = lines-come lines rest (λ l m. e l (Memᴰ.tail m)) h in
    rw (append_assoc line (concatenated lines) rest)
    (comes-then line (concatenated lines ++ rest) (event_of line ∷ []) (map event_of lines ++ overdue rest) nothing (kept_of rest) (line-comes line (e line (Memᴰ.head refl))) c.yields c.leaves)

divided-comes : (s : List ℕ) (lines : List (List ℕ)) (rest : List ℕ) → Divided s lines rest → Comes s (map event_of lines ++ overdue rest) (kept_of rest)
divided-comes s lines rest d = rw (sym d.whole) (lines-come lines rest d.ended d.unended)

-- The calls with any pieces, from the empty state on: every byte is in one line, one refused line, or what is kept.
pub accounted : (pieces : List (List ℕ)) (lines : List (List ℕ)) (rest : List ℕ) → Divided (concatenated pieces) lines rest
    → calls_over feed_answer (state_of nothing) pieces ≡ record { yielded = map event_of lines ++ overdue rest; state = state_of (kept_of rest); unused = [] }
unfolding after_all
accounted pieces lines rest d =
    let c = divided-comes (concatenated pieces) lines rest d in
    feeds.runs [] pieces ∙ rw (c.yields, c.leaves)

-- ---- any bytes are so divided
line-more : (line : List ℕ) (lines : List (List ℕ)) → Ended line → Lines lines → Lines (line ∷ lines)
line-more line lines e es = λ l m. go l (Memᴰ.cases_cons m)
  where
    go : (l : List ℕ) → (l ≡ line) ⊎ Memᴰ l lines → Ended l
    go l (inl f) = rw f e
    go l (inr m) = es l m

-- a byte before a line
longer : (b : ℕ) (line : List ℕ) → is_non_lf b ≡ true → Ended line → Ended (b ∷ line)
longer b line other e = record { body = b ∷ e.body; ends = ap (λ (l : List ℕ). b ∷ l) e.ends; one = all_cons is_non_lf b e.body other e.one }

pub divides : (s : List ℕ) → (lines : List (List ℕ)) × (rest : List ℕ) × Divided s lines rest
unfolding all
divides [] = ([], [], record { whole = refl; ended = λ line m. absurd (Memᴰ.not-nil m); unended = refl })
divides (b ∷ s) = let d = divides s in go (eqb b lf) refl d.0 d.1 d.2
  where
    go : (t : Bool) → eqb b lf ≡ t → (lines : List (List ℕ)) (rest : List ℕ) → Divided s lines rest → (ls : List (List ℕ)) × (r : List ℕ) × Divided (b ∷ s) ls r
    go true e lines rest d =
        let alone : Ended (b ∷ []) = record { body = []; ends = ap (λ (x : ℕ). x ∷ []) (eqb-true b lf e); one = refl } in
        ((b ∷ []) ∷ lines, rest, record { whole = ap (λ (l : List ℕ). b ∷ l) d.whole; ended = line-more (b ∷ []) lines alone d.ended; unended = d.unended })
    go false e [] rest d = ([], b ∷ rest, record { whole = ap (λ (l : List ℕ). b ∷ l) d.whole; ended = d.ended; unended = all_cons is_non_lf b rest (rw e) d.unended })
    go false e (line ∷ lines) rest d = (
      (b ∷ line) ∷ lines,
      rest,
      record {
        whole = ap (λ (l : List ℕ). b ∷ l) d.whole;
        ended = line-more (b ∷ line) lines (longer b line (rw e) (d.ended line (Memᴰ.head refl))) (λ l m. d.ended l (Memᴰ.tail m));
        unended = d.unended;
      },
    )
