-- Names and ids as computed from their definitions: at the limits, and with what each rule forbids. Assumes nothing.
use mathlib.Core.Path.{◌≡◌, refl}
use mathlib.Core.Bool.{true, not}
use mathlib.Core.List.{List, [], ◌∷◌, map}
use Prim.Native.Nat.{ℕ, ◌-◌}
use lib.ListN.{replicate}
use Rattle.octets.specs.Bytes.{nul, bell, lf, cr, space, comma, within, is_plain, is_digit, is_id_byte, is_name_byte}
use Rattle.laws.specs.Lists.{all}
use Rattle.names.specs.Fold.{fold}
use Rattle.names.specs.Names.{hash, name_limit, is_channel, is_server_id, is_user_id}
use Rattle.names.specs.Private.Likeness.{likeness}

-- A Z [ ] \ ~ are folded; @ ^ _ } and DEL are not
folds : map fold (65 ∷ 90 ∷ 91 ∷ 93 ∷ 92 ∷ 126 ∷ 64 ∷ 94 ∷ 95 ∷ 125 ∷ 127 ∷ []) ≡ 97 ∷ 122 ∷ 123 ∷ 125 ∷ 124 ∷ 94 ∷ 64 ∷ 94 ∷ 95 ∷ 125 ∷ 127 ∷ []
unfolding fold within
folds = refl

-- ^ and ~ both have the likeness ~, which isn't their fold; @, `, _ and DEL each have their own
likenesses : map likeness (94 ∷ 126 ∷ 64 ∷ 96 ∷ 95 ∷ 127 ∷ []) ≡ 126 ∷ 126 ∷ 64 ∷ 96 ∷ 95 ∷ 127 ∷ []
unfolding likeness within
likenesses = refl

-- the letter a, n times
letters : ℕ → List ℕ
letters n = replicate n 97

channels : all is_channel ((hash ∷ letters 1) ∷ (hash ∷ letters (name_limit - 1)) ∷ (hash ∷ hash ∷ 255 ∷ 1 ∷ []) ∷ []) ≡ true
unfolding all is_channel is_name_byte is_plain letters
channels = refl

no-channels : all (λ n. not (is_channel n)) ([] ∷ (hash ∷ []) ∷ (hash ∷ letters name_limit) ∷ letters 2 ∷ (38 ∷ letters 1) ∷ []) ≡ true
unfolding all is_channel is_name_byte is_plain letters
no-channels = refl

forbidden : all (λ b. not (is_channel (hash ∷ b ∷ []))) (nul ∷ bell ∷ lf ∷ cr ∷ space ∷ comma ∷ []) ≡ true
unfolding all is_channel is_name_byte is_plain
forbidden = refl

-- 1AB, 000; not AAA, 1ab, 1A, 1AB0
server-ids : all is_server_id ((49 ∷ 65 ∷ 66 ∷ []) ∷ (48 ∷ 48 ∷ 48 ∷ []) ∷ []) ≡ true
unfolding all is_server_id is_digit is_id_byte within
server-ids = refl

no-server-ids : all (λ n. not (is_server_id n)) ((65 ∷ 65 ∷ 65 ∷ []) ∷ (49 ∷ 97 ∷ 98 ∷ []) ∷ (49 ∷ 65 ∷ []) ∷ (49 ∷ 65 ∷ 66 ∷ 48 ∷ []) ∷ []) ≡ true
unfolding all is_server_id is_digit is_id_byte within
no-server-ids = refl

-- 1ABA0Z9AA; not 1AB00Z9AA, whose fourth byte is no letter, nor one a byte shorter
user-ids : all is_user_id ((49 ∷ 65 ∷ 66 ∷ 65 ∷ 48 ∷ 90 ∷ 57 ∷ 65 ∷ 65 ∷ []) ∷ []) ≡ true
unfolding all is_user_id is_server_id is_digit is_id_byte within
user-ids = refl

no-user-ids : all (λ n. not (is_user_id n)) ((49 ∷ 65 ∷ 66 ∷ 48 ∷ 48 ∷ 90 ∷ 57 ∷ 65 ∷ 65 ∷ []) ∷ (49 ∷ 65 ∷ 66 ∷ 65 ∷ 48 ∷ 90 ∷ 57 ∷ 65 ∷ []) ∷ []) ≡ true
unfolding all is_user_id is_server_id is_digit is_id_byte within
no-user-ids = refl
