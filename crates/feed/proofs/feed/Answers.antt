-- `feed` meets its contract: a state that fails the test is refused; an unfinished line is gathered; a line that is dropped goes on to its LF, and what stands
-- behind that is gathered from the empty state. Assumes nothing.
use Rattle.std.proofs.Common.{◌≡◌, sym, ap, ◌∙◌, ℕ, ◌+◌, ◌-◌, ◌<◌, ◌≤◌, rules, true, List, [], length, take, drop, arith}
use lib.Seq.{take_all}
use lib.ListN.{length-drop}
use Rattle.refusal.specs.Numbers.{accepted}
use Rattle.octets.specs.Bytes.{lf}
use Rattle.octets.proofs.Search.{before-within}
use Rattle.feed.specs.declared.Fed.{Fed}
use Rattle.feed.specs.Lines.{nothing}
use Rattle.feed.specs.Feeder.{is_reached, fed, answer_to}
use Rattle.feed.proofs.Calls.{answer-within}
use Rattle.feed.proofs.ByState.{feeds-refused, feeds-kept, feeds-dropped, feeds-resumed, empty-keeps}
use Rattle.feed.proofs.feed.Goals.{Else-not-is_reached, Else-end-bytes, After-gather-fed}
use Rattle.feed.proofs.feed.Goals as goal

reached : (c : Else-not-is_reached) → is_reached c.args.state ≡ true
reached c = sym c.is_reached.ensures ∙ c.if-not-is_reached.false

-- LF stands among the bytes
some : (c : Else-end-bytes) → c.place_of-end.result < length c.args.bytes.now
some c = omega (arith, c.place_of-end.ensures, before-within lf c.args.bytes.now, c.if-end-bytes.false)

-- and what stands behind it is gathered
resumed : (c : After-gather-fed) → c.gather-fed.result ≡ answer_to nothing (drop (c.place_of-end.result + 1) c.args.bytes.now)
resumed c =
    let bytes : List ℕ = c.args.bytes.now in
    let n : ℕ = c.place_of-end.result + 1 in
    let all : take (length bytes - n) (drop n bytes) ≡ drop n bytes = take_all (length bytes - n) (drop n bytes) (omega (arith, length-drop n bytes)) in
    c.gather-fed.ensures ∙ rw ((empty-keeps c.empty.result c.empty.ensures).1, all)

pub returns-then-not-is_reached : goal.returns-then-not-is_reached
returns-then-not-is_reached c = feeds-refused c.args.state c.args.bytes.now (sym c.is_reached.ensures ∙ c.if-not-is_reached.true) _ c.unlined.ensures

pub gather-requires : goal.gather-requires
gather-requires c = record { reached = reached (goal.at.gather-requires c).Else-not-is_reached; undropped = c.if-not-state.true }

pub returns-then-not-state : goal.returns-then-not-state
returns-then-not-state c =
    feeds-kept c.args.state c.args.bytes.now (record { reached = reached (goal.at.returns-then-not-state c).Else-not-is_reached; undropped = c.if-not-state.true }) _ c.gather.ensures

pub returns-then-end-bytes : goal.returns-then-end-bytes
returns-then-end-bytes c =
    let n = c.if-end-bytes.true in
    feeds-dropped c.args.state c.args.bytes.now (reached (goal.at.returns-then-end-bytes c).Else-not-is_reached) c.if-not-state.false (sym c.place_of-end.ensures ∙ n) _
    (c.unlined-then-end-bytes.ensures ∙ ap (λ (k : ℕ). fed c.args.state k [] accepted) n)

pub overflow_add-behind : goal.overflow_add-behind
overflow_add-behind c = omega (arith, some c)

pub slice_bounds-gather-count : goal.slice_bounds-gather-count
slice_bounds-gather-count c = omega (arith, some (goal.at.slice_bounds-gather-count c).Else-end-bytes)

pub slice_bounds-gather-start : goal.slice_bounds-gather-start
slice_bounds-gather-start c = let within : c.place_of-end.result + 1 ≤ length c.args.bytes.now = omega (arith, some (goal.at.slice_bounds-gather-start c).Else-end-bytes) in search rules

pub gather-fed-requires : goal.gather-fed-requires
gather-fed-requires c = (empty-keeps c.empty.result c.empty.ensures).0

pub overflow_add-result : goal.overflow_add-result
overflow_add-result c =
    let bytes : List ℕ = c.args.bytes.now in
    let n : ℕ = c.place_of-end.result + 1 in
    let used = ap (λ (r : Fed). r.used) (resumed (goal.at.overflow_add-result c).After-gather-fed) in
    omega (arith, used, answer-within nothing (drop n bytes), length-drop n bytes, some (goal.at.overflow_add-result c).Else-end-bytes)

pub returns : goal.returns
returns c =
    let bytes : List ℕ = c.args.bytes.now in
    feeds-resumed c.args.state bytes (reached (goal.at.returns c).Else-not-is_reached) c.if-not-state.false (rw c.place_of-end.ensures at (some (goal.at.returns c).Else-end-bytes)) _
    (rw (resumed (goal.at.returns c).After-gather-fed, c.place_of-end.ensures))
