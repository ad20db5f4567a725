-- What is said of the day log at a start, and the table that a day goes on with.
use Rattle.std.specs.Prelude.{Result, OnOk, IfOk, ℕ, ◌≡◌, Bool, true, ◌||◌, List, [], ◌∷◌, ◌++◌, eqb}
use Rattle.refusal.specs.Numbers.{accepted, log_cut}
use Rattle.octets.specs.Bytes.{lf}
use Rattle.octets.specs.Decimals.{digits_of}
use Rattle.links.specs.Links.{no_links}
use Rattle.table.specs.declared.Head.{Head}
use Rattle.table.specs.Network.{table_with}
use Rattle.replay.specs.Replay.{replayed}
use Rattle.logfile.specs.Restarts.{started_from}
use Rattle.wording.specs.Wording.{bytes_of, words_of}
use Rattle.console.specs.declared.stopping.Stop.{Stop}
use Rattle.console.specs.Answers.{spaced}

-- a number and a place: `28 at 57`
unfoldable pub placed_text : ℕ → ℕ → List ℕ
placed_text number place = digits_of number ++ bytes_of " at " ++ digits_of place

-- a log that can't be gone on with: number, place and words
unfoldable pub refused_line : ℕ → ℕ → List ℕ
refused_line number place = bytes_of "relay: day log: refused by " ++ placed_text number place ++ bytes_of ":" ++ spaced (words_of number) ++ (lf ∷ [])

-- a record that is cut off, and the place
unfoldable pub cut_line : ℕ → List ℕ
cut_line place = bytes_of "note: day log: a torn record is cut off at " ++ digits_of place ++ (lf ∷ [])

-- no link is registered
abbrev pub unlinked : Head → Head
unlinked h = record { slots = h.slots; links = no_links }

-- a log that ends with this number can be gone on with: it has none, or its last record is torn
abbrev pub goes_on : ℕ → Bool
goes_on number = eqb number accepted || eqb number log_cut

-- The table that a day goes on with, where it can, is that of a start from some log that can be gone on with.
pub record OfSomeStart (r : Result Head Stop) (bans : List ℕ) : Type 0 where
  pub log : List ℕ
  pub sound : OnOk r (goes_on (replayed log).number ≡ true)
  pub same : IfOk r (λ head. table_with head bans ≡ started_from log)
