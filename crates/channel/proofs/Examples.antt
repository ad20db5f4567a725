-- The two channels of document 01's whole case, the stored one and that of a line with a later time for `#Race`. Assumes nothing.
use Prim.Native.Nat.{ℕ}
use mathlib.Core.List.{List, [], ◌∷◌}
use Rattle.channel.specs.Modes.{with_mode, key_mode, mode_place}
use Rattle.channel.specs.Channel.{Channel, member}

-- the ids 2CDAAAAAA, 1ABAAAAAA and 1ABAAAAAB
unfoldable pub 2cd : List ℕ
2cd = 50 ∷ 67 ∷ 68 ∷ 65 ∷ 65 ∷ 65 ∷ 65 ∷ 65 ∷ 65 ∷ []

-- an id of the server 1AB, by its last byte
unfoldable pub 1ab : ℕ → List ℕ
1ab last = 49 ∷ 65 ∷ 66 ∷ 65 ∷ 65 ∷ 65 ∷ 65 ∷ 65 ∷ last ∷ []

-- record `#Race`, time 1000, k with key `buoy`, member 2CDAAAAAA operator
unfoldable pub stored : Channel
stored = record {
  name = 35 ∷ 82 ∷ 97 ∷ 99 ∷ 101 ∷ [];
  time = 1000;
  settings = record { modes = with_mode 0 key_mode; key = 98 ∷ 117 ∷ 111 ∷ 121 ∷ []; limit = 0 };
  members = member 2cd 2 ∷ [];
}

-- `SJOIN 1200 #race +nt :@1ABAAAAAA 1ABAAAAAB`
unfoldable pub incoming : Channel
incoming = record {
  name = 35 ∷ 114 ∷ 97 ∷ 99 ∷ 101 ∷ [];
  time = 1200;
  settings = record { modes = with_mode (with_mode 0 (mode_place 110)) (mode_place 116); key = []; limit = 0 };
  members = member (1ab 65) 2 ∷ member (1ab 66) 0 ∷ [];
}
