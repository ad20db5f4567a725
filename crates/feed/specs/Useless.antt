-- Useless feeders, each made as good as it can be without its use.
use Rattle.std.specs.Prelude.{ℕ, suc, cond, ◌&&◌, [], ◌∷◌, length}
use Rattle.refusal.specs.Numbers.{accepted, not_well_formed, line_too_long}
use Rattle.feed.specs.declared.Feeder.{Feeder}
use Rattle.feed.specs.declared.Fed.{Fed}
use Rattle.feed.specs.Lines.{Dropping, nothing, after, after_all}
use Rattle.feed.specs.Feeder.{state_of, pending_in, is_reached, fed, feed_answer}
use Rattle.feed.specs.Calls.{Feeding}

-- an answer with another state, and with another count of bytes used
abbrev pub with_state : Fed → Feeder → Fed
with_state r f = record { state = f; used = r.used; line = r.line; len = r.len; number = r.number }

abbrev pub with_used : Fed → ℕ → Fed
with_used r n = record { state = r.state; used = n; line = r.line; len = r.len; number = r.number }

-- uses and keeps all bytes as ours does, and yields nothing
abbrev pub silent : Feeding
silent f s = cond (is_reached f) (fed (state_of (after_all (pending_in f) s)) (length s) [] accepted) (feed_answer f s)

-- answers as ours does, and drops what is kept
abbrev pub forgetful : Feeding
forgetful f s = cond (is_reached f) (with_state (feed_answer f s) (state_of nothing)) (feed_answer f s)

-- drops it only where it is called without bytes
abbrev pub wiping : Feeding
wiping f [] = forgetful f []
wiping f (b ∷ s) = feed_answer f (b ∷ s)

-- answers as ours does, and gives each byte of a line that is dropped another 4
abbrev pub repeating : Feeding
repeating f [] = feed_answer f []
repeating f (b ∷ s) = cond (is_reached f && f.dropping) (fed (state_of (after Dropping b)) 1 [] line_too_long) (feed_answer f (b ∷ s))

-- answers as ours does, and gives 1 where it is called without bytes
abbrev pub blaming : Feeding
blaming f [] = fed f 0 [] not_well_formed
blaming f (b ∷ s) = feed_answer f (b ∷ s)

-- answers as ours does, and says that it used a byte more than it was given
abbrev pub overstating : Feeding
overstating f s = cond (is_reached f) (with_used (feed_answer f s) (suc (length s))) (feed_answer f s)
