-- `spaces_len` meets its contract: the first byte that is no SPACE is where they end. Assumes nothing.
use Rattle.std.proofs.Common.{◌≡◌, rules, tests}
use Rattle.std.specs.List.{position}
use Rattle.std.proofs.lemmas.Iterator.{YieldsList-from_slice}
use Rattle.std.proofs.lemmas.Iterator.Search.{position_from_yields_List}
use Rattle.octets.specs.Bytes.{is_non_space}
use Rattle.message.proofs.Firsts.{spaces-place}
use Rattle.message.proofs.scan.spaces_len.Goals as goal

pub returns : goal.returns
returns c =
    let found : c.position.result ≡ position is_non_space c.args.s.now =
    position_from_yields_List is_non_space _ _ c.position.result c.position.ensures.ran (YieldsList-from_slice c.args.s.now cc) (λ x b q k. search (rules, tests)) in
    rw (← spaces-place c.args.s.now, ← found) c.unwrap_or.ensures
