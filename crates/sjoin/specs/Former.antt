-- The rules of an SJOIN with document 01's one number, 17, for what document 02, §6, tells apart. No function goes by them: they stand here for the law that says what became
-- of 17.
use Rattle.std.specs.Prelude.{not, List, [], ◌∷◌, ◌++◌}
use Rattle.refusal.specs.Numbers.{bad_modes, bad_members}
use Rattle.refusal.specs.Rules.{Rule, ◌when◌}
use Rattle.message.specs.Content.{Content}
use Rattle.sjoin.specs.Modes.{is_modes}
use Rattle.sjoin.specs.Entries.{good_entries}
use Rattle.sjoin.specs.Join.{modes_in, arguments_in, list_in, source_rules, head_rules}

-- "bad modes, key, limit, or their number"
abbrev pub former_mode_rules : Content → List Rule
former_mode_rules c = bad_modes when not (is_modes (modes_in c) (arguments_in c)) ∷ []

unfoldable pub former_join_rules : Content → List Rule
former_join_rules c = source_rules c ++ (head_rules c ++ former_mode_rules c) ++ (bad_members when not (good_entries (list_in c)) ∷ [])
