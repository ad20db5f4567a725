-- What a clause reads of a reader that keeps why it failed.
use Rattle.std.specs.Prelude.{ℕ, List, Option}
use Rattle.std.specs.declared.io.Error.{Error}
use Rattle.logfile.specs.declared.failing.Source.{Source}

-- the reader that it reads from
abbrev pub source_reader : {R : Type 0} → Source R → R
source_reader s = s.reader

-- `s.why()`
abbrev pub source_why : {R : Type 0} → Source R → Error
source_why s = s.why

-- the bytes that are left, where they are known
abbrev pub source_remaining : {R : Type 0} → (R → Option (List ℕ)) → Source R → Option (List ℕ)
source_remaining remaining s = remaining s.reader
