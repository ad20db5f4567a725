-- The words that an iterator over those of a text has left.
use Rattle.std.specs.Prelude.{ℕ, List}
use Rattle.message.specs.declared.lists.Words.{Words}
use Rattle.message.specs.Words.{words_of}

abbrev pub words_left : Words → List (List ℕ)
words_left w = words_of w.rest.now
