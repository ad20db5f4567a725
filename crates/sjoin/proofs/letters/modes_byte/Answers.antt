-- `modes_byte` meets its contract: the bits are added one after the other. Assumes nothing.
use Rattle.std.proofs.Common.{◌≡◌, rules, ◌∙◌}
use Rattle.std.specs.List.{fold}
use Rattle.std.proofs.iter.runs.Made.{chains}
use Rattle.channel.specs.Modes.{with_mode, mode_place}
use Rattle.sjoin.proofs.Modes.{bits_all}
use Rattle.sjoin.proofs.letters.modes_byte.Goals as goal

pub returns : goal.returns
returns c =
    let s = c.letters_of.result.now in
    let e : c.fold.result ≡ fold (λ b x. with_mode b (mode_place x)) 0 s = search (rules, chains) in
    e ∙ bits_all c.args.modes.now s c.letters_of.ensures
