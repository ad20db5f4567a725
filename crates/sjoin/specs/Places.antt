-- Where the faults of a line's modes are, and what is claimed of their places (document 02, §6).
use Rattle.std.specs.Prelude.{ℕ, ◌+◌, ◌≤◌, ◌<◌, ◌≡◌, length, drop, get_or}
use mathlib.Core.List.{List, [], Memᴰ}
use Rattle.std.proofs.Math.Option.{some}
use Rattle.refusal.specs.Faults.{Fault, faults_of}
use Rattle.message.specs.Content.{Content}
use Rattle.message.specs.Reading.{crlf, content_of, message_of}
use Rattle.sjoin.specs.Faults.{Site, Letter, Param, End, modes_checks, site_at}
use Rattle.sjoin.specs.Join.{modes_in, arguments_in, fault_in}

-- all faults of the modes of a message
abbrev pub faults_in : Content → List (Fault Site)
faults_in c = faults_of (modes_checks (modes_in c) (arguments_in c))

-- where a site is in a line
abbrev pub line_at : List ℕ → Site → ℕ
line_at line site = site_at (length line) (message_of line) site

-- What stands there: the letter; the first byte of the parameter, which has one; at the end, CR LF and nothing else.
abbrev pub Stands : List ℕ → Site → Type 0
Stands line (Letter i) = (i < length (modes_in (content_of line))) × (get_or line (line_at line (Letter i)) 0 ≡ get_or (modes_in (content_of line)) i 0)
Stands line (Param k) = (1 ≤ length (get_or (content_of line).params k [])) × (get_or line (line_at line (Param k)) 0 ≡ get_or (get_or (content_of line).params k []) 0 0)
Stands line End = drop (line_at line End) line ≡ crlf

-- What is claimed of a line that is read and has as many parameters as an SJOIN.
pub record Located (line : List ℕ) : Type 0 where
  -- no two faults share a place
  pub apart : (f g : Fault Site) → Memᴰ f (faults_in (content_of line)) → Memᴰ g (faults_in (content_of line)) → line_at line f.place ≡ line_at line g.place → f ≡ g
  -- each place is over 0 and at most the line's length less 2
  pub inside : (f : Fault Site) → Memᴰ f (faults_in (content_of line)) → (1 ≤ line_at line f.place) × (line_at line f.place + 2 ≤ length line)
  -- "the earliest place in the line decides"
  pub earliest : (f : Fault Site) → fault_in (content_of line) ≡ some f → (g : Fault Site) → Memᴰ g (faults_in (content_of line)) → line_at line f.place ≤ line_at line g.place
  -- and what stands at its place is that letter, or the first byte of that parameter, or CR LF
  pub stands : (f : Fault Site) → fault_in (content_of line) ≡ some f → Stands line f.place
