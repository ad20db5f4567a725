-- The table that a day goes on with: the first start has the empty one, and a log that was read whole leaves its own. Assumes nothing.
use Prim.Native.Nat.{ℕ}
use mathlib.Core.Path.{◌≡◌, sym, ap, ap₂, ◌∙◌}
use mathlib.Core.Bool.{true, true≢false}
use mathlib.Core.List.{List, []}
use Rattle.std.proofs.Common.{Result, Ok, Err, is_ok, MatchResult}
use Rattle.table.specs.declared.Head.{Head}
use Rattle.table.specs.Network.{head_of, table_with}
use Rattle.table.specs.Table.{empty_table}
use Rattle.replay.specs.Replay.{Replay}
use Rattle.logfile.specs.declared.FileReplay.{FileReplay}
use Rattle.logfile.specs.Files.{OfSomeLog}
use Rattle.logfile.specs.Restarts.{linkless, started_from}
use Rattle.logfile.proofs.Restarts.{starts-empty, replays-empty}
use Rattle.console.specs.declared.stopping.Stop.{Stop}
use Rattle.console.specs.Daylog.{unlinked, goes_on, OfSomeStart}

-- without a log
pub starts-new : (head : Head) (bans : List ℕ) → head ≡ head_of empty_table → bans ≡ empty_table.bans → OfSomeStart (Ok head) bans
starts-new head bans is lists = record { log = []; sound = ap goes_on replays-empty; same = ap₂ table_with is lists ∙ sym starts-empty }

-- with one that was read
pub starts-read : (f : FileReplay) (bans : List ℕ) → OfSomeLog (Ok f) bans → goes_on f.number ≡ true → (head : Head) → head ≡ unlinked f.head → OfSomeStart (Ok head) bans
unfolding started_from
starts-read f bans some sound head is = record {
  log = some.log;
  sound = ap (λ (x : Replay). goes_on x.number) (sym some.same) ∙ sound;
  same = ap (λ (h : Head). table_with h bans) is ∙ ap (λ (x : Replay). linkless x.table) some.same;
}

-- what a result was that is still a value once its error is another
pub was-ok : {T E : Type 0} (F : Type 0) (r : Result T E) (x : T) (Q : E → Type 0) → MatchResult r (λ y. ◌≡◌ {A = Result T F} (Ok x) (Ok y)) Q → true ≡ is_ok r → r ≡ Ok x
was-ok F (Ok y) x Q e ok = cc
was-ok F (Err e) x Q h ok = absurd (true≢false ok)

-- unless it can't be gone on with
pub starts-none : (stop : Stop) (bans : List ℕ) → OfSomeStart (Err stop) bans
starts-none stop bans = record { log = []; sound = tt; same = tt }
