-- Lines that are typed at a terminal.
use Rattle.std.specs.Prelude.{ℕ, cond, List, [], ◌∷◌, ◌++◌}
use Rattle.std.specs.declared.cmp.Ordering.{Ordering}
use Rattle.std.specs.declared.cmp.Ordering.TheVariants.{Less, Equal, Greater}
use Rattle.octets.specs.Bytes.{cr, lf}
use Rattle.octets.specs.Order.{compare}
use Rattle.laws.specs.Lists.{is_nil}
use Rattle.console.specs.declared.requests.Request.{Request}
use Rattle.console.specs.declared.requests.Request.TheVariants.{Help, Nothing}
use Rattle.console.specs.Lines.{ends_in_lf}
use Rattle.console.specs.Requests.{ended, request_in}

-- a line that ends with LF is taken with CR LF, whether it had its CR or not; one that doesn't end is taken as it is
unfoldable pub typed : List ℕ → List ℕ
typed s = cond (ends_in_lf s) (ended s ++ (cr ∷ lf ∷ [])) s

-- `help`
abbrev pub help_word : List ℕ
help_word = 104 ∷ 101 ∷ 108 ∷ 112 ∷ []

-- help, where the word is `help`, else another request
abbrev pub helped : Ordering → Request → Request
helped Equal r = Help
helped Less r = r
helped Greater r = r

-- an empty line asks for nothing, `help` for help, any other for what it asks for when it isn't typed
unfoldable pub typed_in : List ℕ → Request
typed_in s = cond (is_nil (ended s)) Nothing (helped (compare (ended s) help_word) (request_in s))
