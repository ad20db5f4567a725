-- What is told of two channels, as computed from the definitions: the line relayed in document 01's whole case, and one with all that a line can have, as a line
-- and as a text of its own. Assumes nothing.
use Prim.Native.Nat.{ℕ}
use mathlib.Core.Path.{◌≡◌, refl}
use mathlib.Core.List.{List, [], ◌∷◌}
use Rattle.laws.specs.Bits.{has_bit}
use Rattle.octets.specs.Decimals.{digits_up_to, digits_of}
use Rattle.laws.specs.Lists.{all, starts_with, prefixed, separated}
use Rattle.channel.specs.Settings.{no_settings}
use Rattle.channel.specs.Channel.{Channel, member}
use Rattle.channel.proofs.Examples.{1ab}
use Rattle.message.specs.Reading.{crlf}
use Rattle.writer.specs.Form.{takes_colon, written_param, written_params, written_prefix, written_body, written}
use Rattle.telling.specs.Telling.{letters_from, entry_of, params_of, described, join_message}

-- 1AB
sid : List ℕ
sid = 49 ∷ 65 ∷ 66 ∷ []

-- `:1AB SJOIN 1000 #Race + :1ABAAAAAA 1ABAAAAAB`
later-told : written (join_message sid (record { name = 35 ∷ 82 ∷ 97 ∷ 99 ∷ 101 ∷ []; time = 1000; settings = no_settings; members = member (1ab 65) 0 ∷ member (1ab 66) 0 ∷ [] }))
    ≡ 58 ∷ 49 ∷ 65 ∷ 66 ∷ 32 ∷ 83 ∷ 74 ∷ 79 ∷ 73 ∷ 78 ∷ 32 ∷ 49 ∷ 48 ∷ 48 ∷ 48 ∷ 32 ∷ 35 ∷ 82 ∷ 97 ∷ 99 ∷ 101 ∷ 32 ∷ 43 ∷ 32
    ∷ 58 ∷ 49 ∷ 65 ∷ 66 ∷ 65 ∷ 65 ∷ 65 ∷ 65 ∷ 65 ∷ 65 ∷ 32 ∷ 49 ∷ 65 ∷ 66 ∷ 65 ∷ 65 ∷ 65 ∷ 65 ∷ 65 ∷ 66 ∷ crlf
unfolding sid 1ab written written_body written_prefix written_params written_param takes_colon params_of separated prefixed letters_from entry_of digits_of digits_up_to has_bit all starts_with
later-told = refl

-- one with all that a line can have
keyed : Channel
keyed = record { name = 35 ∷ 97 ∷ []; time = 7; settings = record { modes = 196; key = 98 ∷ 117 ∷ 111 ∷ 121 ∷ []; limit = 10 }; members = member (1ab 65) 3 ∷ [] }

-- `:1AB SJOIN 7 #a +nkl buoy 10 @+1ABAAAAAA`: the key before the limit, and no ':' before one entry
keyed-told : written (join_message sid keyed)
    ≡ 58 ∷ 49 ∷ 65 ∷ 66 ∷ 32 ∷ 83 ∷ 74 ∷ 79 ∷ 73 ∷ 78 ∷ 32 ∷ 55 ∷ 32 ∷ 35 ∷ 97 ∷ 32 ∷ 43 ∷ 110 ∷ 107 ∷ 108 ∷ 32 ∷ 98 ∷ 117 ∷ 111 ∷ 121 ∷ 32 ∷ 49 ∷ 48 ∷ 32
    ∷ 64 ∷ 43 ∷ 49 ∷ 65 ∷ 66 ∷ 65 ∷ 65 ∷ 65 ∷ 65 ∷ 65 ∷ 65 ∷ crlf
unfolding keyed sid 1ab written written_body written_prefix written_params written_param takes_colon params_of separated prefixed letters_from entry_of digits_of digits_up_to has_bit all starts_with
keyed-told = refl

-- `7 #a +nkl buoy 10 @+1ABAAAAAA`
keyed-described : described keyed
    ≡ 55 ∷ 32 ∷ 35 ∷ 97 ∷ 32 ∷ 43 ∷ 110 ∷ 107 ∷ 108 ∷ 32 ∷ 98 ∷ 117 ∷ 111 ∷ 121 ∷ 32 ∷ 49 ∷ 48 ∷ 32 ∷ 64 ∷ 43 ∷ 49 ∷ 65 ∷ 66 ∷ 65 ∷ 65 ∷ 65 ∷ 65 ∷ 65 ∷ 65 ∷ []
unfolding keyed 1ab described separated prefixed params_of letters_from entry_of digits_of digits_up_to has_bit
keyed-described = refl
