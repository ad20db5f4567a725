-- The unread bytes, from `at` to the body's end, fall at each call.
use Rattle.std.proofs.Common.{length, ◌-◌}
use Rattle.message.proofs.scan.+middle_rest.Given as goal

abbrev pub decreases-middle : goal.decreases-middle
decreases-middle l = length l.body.now - l.at

abbrev pub decreases-rest : goal.decreases-rest
decreases-rest l = length l.body.now - l.at
