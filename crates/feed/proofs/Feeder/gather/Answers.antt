-- `gather` meets its contract: the first LF among the bytes that it looks at, or that there is none, decides how the line goes on (`Gathering`). Assumes nothing.
use Rattle.std.proofs.Common.{◌≡◌, sym, ◌∙◌, ◌+◌, ◌++◌, length, take, length-append, length-take, arith}
use Rattle.feed.specs.Feeder.{state_of}
use Rattle.feed.specs.Private.Gathering.{held_bytes}
use Rattle.feed.proofs.States.{kept-length, kept_small}
use Rattle.feed.proofs.Gathering.{Looked, reach-in, found_in, goes_on, too_long, line-bytes, line-size, line-over, line-whole}
use Rattle.feed.proofs.Feeder.gather.Goals.{After-place_of-found}
use Rattle.feed.proofs.Feeder.gather.Goals as goal

looked : (c : After-place_of-found) → Looked (held_bytes c.args.self.now) c.args.bytes.now c.args.self.now.len c.min-looked.result c.place_of-found.result
looked c = record {
  held = kept-length c.args.self.now c.requires.reached;
  small = kept_small c.args.self.now c.requires.reached;
  reach = c.min-looked.ensures;
  is = c.place_of-found.ensures;
}

pub overflow_sub-room : goal.overflow_sub-room
overflow_sub-room c = kept_small c.args.self.now c.requires.reached

pub returns-then-room-looked : goal.returns-then-room-looked
returns-then-room-looked c =
    let l = looked (goal.at.returns-then-room-looked c).After-place_of-found in
    c.unlined.ensures ∙ rw c.dropping.ensures (sym (too_long _ _ _ _ _ l c.if-found-looked.true (omega (arith, l.small))))

pub extended-requires : goal.extended-requires
extended-requires c =
    let l = looked (goal.at.extended-requires c).After-place_of-found in
    (c.requires, omega (arith, length-take c.min-looked.result c.args.bytes.now, l.small, c.if-room-looked.false))

pub returns-then-found-looked : goal.returns-then-found-looked
unfolding state_of
returns-then-found-looked c =
    let l = looked (goal.at.returns-then-found-looked c).After-place_of-found in
    let on = goes_on _ _ _ _ _ l c.if-found-looked.true (omega (arith, l.small)) in
    let n : c.args.self.now.len + c.min-looked.result ≡ length (held_bytes c.args.self.now ++ c.args.bytes.now) =
    omega (arith, length-append (held_bytes c.args.self.now) c.args.bytes.now, l.held, on.1) in
    c.unlined-then-found-looked.ensures ∙ rw (c.extended.ensures, on.0, n) (sym on.2)

pub overflow_add-used : goal.overflow_add-used
overflow_add-used c =
    let l = looked (goal.at.overflow_add-used c).After-place_of-found in
    omega (arith, found_in _ _ _ _ _ l, l.reach, l.small)

pub returns-then-too_long : goal.returns-then-too_long
returns-then-too_long c =
    let l = looked (goal.at.returns-then-too_long c).After-place_of-found in
    c.unlined-then-too_long.ensures ∙ rw c.empty.ensures (sym (line-over _ _ _ _ _ l c.if-found-looked.false (omega (arith, l.small))))

pub slice_bounds-extended-end : goal.slice_bounds-extended-end
slice_bounds-extended-end c =
    let l = looked (goal.at.slice_bounds-extended-end c).After-place_of-found in
    omega (arith, length-take (c.place_of-found.result + 1) (take c.min-looked.result c.args.bytes.now), length-take c.min-looked.result c.args.bytes.now, found_in _ _ _ _ _ l, reach-in _ _ _ _ _ l)

pub returns : goal.returns
returns c =
    let l = looked (goal.at.returns c).After-place_of-found in
    let none = c.if-found-looked.false in
    rw (c.unlined-2.ensures, c.empty-2.ensures, c.extended-line.ensures, line-bytes _ _ _ _ _ l none, sym (line-size _ _ _ _ _ l none)) (sym (line-whole _ _ _ _ _ l none (omega (arith, l.small))))
