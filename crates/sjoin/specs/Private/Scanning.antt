-- What private functions ask and promise. No public contract cites this file: nobody needs to believe it.
use Rattle.std.specs.Prelude.{ℕ, ◌+◌, ◌-◌, ◌≤◌, ◌<◌, ◌≡◌, not, ◌&&◌, List, [], ◌∷◌, length, take, drop}
use Rattle.std.proofs.Math.Option.{Option, some, none}
use Rattle.refusal.specs.Numbers.{accepted, unknown_mode, mode_twice}
use Rattle.refusal.specs.Rules.{first_of}
use Rattle.refusal.specs.Faults.{Fault, fault, Check, ◌if◌}
use Rattle.octets.specs.Decimals.{value_of}
use Rattle.channel.specs.declared.Roster.{Roster}
use Rattle.channel.specs.Limits.{member_limit}
use Rattle.channel.specs.Modes.{has_mode, with_mode, mode_place}
use Rattle.channel.specs.Members.{roster}
use Rattle.message.specs.Content.{Content}
use Rattle.message.specs.Grammar.{param_limit}
use Rattle.message.specs.Words.{words_of}
use Rattle.sjoin.specs.Modes.{letters_of, is_mode, parametered}
use Rattle.sjoin.specs.Entries.{named as named_in}
use Rattle.sjoin.specs.Faults.{Site, Letter, Param, End}
use Rattle.sjoin.specs.Join.{time_in, list_in, arguments_in, join_rules}

-- the checks of letters, where those before them are told by a byte that has their modes
unfoldable pub seen_checks : ℕ → ℕ → List ℕ → List (Check Site)
seen_checks seen i [] = []
seen_checks seen i (x ∷ s) =
    fault unknown_mode (Letter i) if not (is_mode x)
    ∷ fault mode_twice (Letter i) if (is_mode x && has_mode seen (mode_place x))
    ∷ seen_checks (with_mode seen (mode_place x)) (i + 1) s

-- the place of a letter in the modes
abbrev pub letter_place : Site → ℕ
letter_place (Letter i) = i
letter_place (Param k) = 0
letter_place End = 0

-- a fault by its place
unfoldable pub placed : (Site → ℕ) → Option (Fault Site) → Option (Fault ℕ)
placed at none = none
placed at (some f) = some (fault f.number (at f.place))

-- the parameters from a place up to, not including, the last one
unfoldable pub up_to : ℕ → ℕ → List (List ℕ) → List (List ℕ)
up_to last at params = take (last - at) (drop at params)

-- The list, the last parameter, is at `last`, behind time, name and modes.
pub record Parted (c : Content) (last : ℕ) : Type 0 where
  pub behind : 3 ≤ last
  pub few : last < param_limit
  pub count : length c.params ≡ last + 1

-- And there are as many parameters between modes and list as letters that have one.
pub record Matched (c : Content) (modes : List ℕ) (last : ℕ) : Type 0 where
  pub parted : Parted c last
  pub exact : length (parametered (letters_of modes)) ≡ length (arguments_in c)

-- No rule refuses what is told; the list is at `last`, this is the time, and there is room for the members that it names, which are these.
pub record Tells (c : Content) (last says : ℕ) (entries : Roster) : Type 0 where
  pub parted : Parted c last
  pub passes : first_of (join_rules c) ≡ accepted
  pub time : says ≡ value_of (time_in c)
  pub few : length (words_of (list_in c)) ≤ member_limit
  pub named : entries ≡ roster (named_in (list_in c))
