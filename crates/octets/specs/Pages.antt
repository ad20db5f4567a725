-- A text that a pen puts into lent room, piece by piece. Where a piece has no room, neither it nor any that comes after it is put.
use Rattle.std.specs.Prelude.{ℕ, ◌-◌, cond, List, [], ◌++◌, Option, Some, None, length, take, leb}

-- a text so far, and how many bytes more have room; or full, once a piece had none
pub data Page : Type 0 where
  Open : List ℕ → ℕ → Page
  Full : Page

-- nothing is put, and n bytes have room
abbrev pub fresh : ℕ → Page
fresh n = Open [] n

-- the text with a piece behind it
unfoldable pub added : Page → List ℕ → Page
added (Open w n) p = cond (leb (length p) n) (Open (w ++ p) (n - length p)) Full
added Full p = Full

-- the text, if all of it had room
abbrev pub text_of : Page → Option (List ℕ)
text_of (Open w n) = Some w
text_of Full = None

-- the same, if it has room in some output too
abbrev pub text_for : List ℕ → Page → Option (List ℕ)
text_for out (Open w n) = cond (leb (length w) (length out)) (Some w) None
text_for out Full = None

-- a page of some room of which the bytes up to a place are the text; one past the room there is none
unfoldable pub page_of : List ℕ → ℕ → Page
page_of room at = cond (leb at (length room)) (Open (take at room) (length room - at)) Full
