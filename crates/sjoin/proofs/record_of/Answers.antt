-- `record_of` meets its contract: name, time, modes, key, limit and members are each what the line tells. Assumes nothing.
use Rattle.std.proofs.Common.{ℕ, List, refl, ap, ◌∙◌, unwrap_or}
use Rattle.message.specs.Content.{Content}
use Rattle.message.specs.Parts.{content_by}
use Rattle.sjoin.specs.Modes.{limit_letter, letters_of, modes_byte, argument_of}
use Rattle.sjoin.specs.Join.{list_in, modes_in, arguments_in}
use Rattle.sjoin.specs.Private.Scanning.{Tells, Matched}
use Rattle.sjoin.specs.Private.Parts.{limit_in}
use Rattle.sjoin.proofs.Joined.{passes, argument-suits, arguments-exact, limit-read}
use Rattle.sjoin.proofs.Answers.{ordered-is, made}
use Rattle.sjoin.proofs.record_of.Goals as goal

matched : (c : Content) (last time : ℕ) (entries : _) → Tells c last time entries → Matched c (modes_in c) last
matched c last time entries t = record { parted = t.parted; exact = arguments-exact (modes_in c) (arguments_in c) (passes c t.passes).modes }

pub argument-key-requires : goal.argument-key-requires
argument-key-requires c = matched (content_by c.args.text.now c.args.m) _ _ _ c.requires

pub argument-requires : goal.argument-requires
argument-requires c = matched (content_by c.args.text.now c.args.m) _ _ _ c.requires

pub returns : goal.returns
returns c =
    let content : Content = content_by c.args.text.now c.args.m in
    let limit : List ℕ = argument_of limit_letter (modes_in content) (arguments_in content) in
    let suits = argument-suits (modes_in content) (arguments_in content) limit_letter refl (passes content c.requires.passes).modes in
    made content _ _ _ _ _ _ _ c.ordered-all.result c.param_in-name.ensures.bytes c.padded-name_room.ensures c.requires.time (c.modes_byte.ensures ∙ ap modes_byte c.param_in.ensures.bytes)
    c.argument-key.ensures c.padded-key_room.ensures
    (c.unwrap_or.ensures ∙ ap (λ o. unwrap_or o 0) (c.limit_in.ensures ∙ ap limit_in {y = limit} c.argument.ensures) ∙ limit-read (letters_of (modes_in content)) limit suits)
    (ordered-is c.args.entries.now c.ordered-all.result (list_in content) c.requires.named c.requires.few c.ordered-all.ensures)
