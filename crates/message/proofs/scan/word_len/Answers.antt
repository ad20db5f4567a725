-- `word_len` meets its contract: the first SPACE is where the word ends. Assumes nothing.
use Rattle.std.proofs.Common.{◌≡◌, eqb, rules, tests}
use Rattle.std.specs.List.{position}
use Rattle.std.proofs.lemmas.Iterator.{YieldsList-from_slice}
use Rattle.std.proofs.lemmas.Iterator.Search.{position_from_yields_List}
use Rattle.octets.specs.Bytes.{space}
use Rattle.message.proofs.Firsts.{word-place}
use Rattle.message.proofs.scan.word_len.Goals as goal

pub returns : goal.returns
returns c =
    let found : c.position.result ≡ position (λ b. eqb b space) c.args.s.now =
    position_from_yields_List (λ b. eqb b space) _ _ c.position.result c.position.ensures.ran (YieldsList-from_slice c.args.s.now cc) (λ x b q k. search (rules, tests)) in
    rw (← word-place c.args.s.now, ← found) c.unwrap_or.ensures
