-- The modes of a channel, with the key and the limit that come with k and l. No key is the empty list, no limit is 0.
use Rattle.std.specs.Prelude.{ℕ, List, []}

pub record Settings : Type 0 where
  pub modes : ℕ
  pub key : List ℕ
  pub limit : ℕ

-- no modes, no key and no limit
abbrev pub no_settings : Settings
no_settings = record { modes = 0; key = []; limit = 0 }
