-- Lists of masks, and what messages say, as computed from the definitions. Assumes nothing.
use mathlib.Core.Path.{◌≡◌, refl}
use mathlib.Core.Bool.{true, false}
use mathlib.Core.List.{List, [], ◌∷◌, map}
use mathlib.Core.Option.{some}
use Prim.Native.Nat.{ℕ}
use lib.ListN.{replicate}
use Rattle.refusal.specs.Rules.{first_of}
use Rattle.laws.specs.Lists.{all, same_by, starts_with}
use Rattle.octets.specs.Bytes.{space, within, is_plain, is_digit, is_id_byte, is_name_byte}
use Rattle.octets.specs.Decimals.{leads_with_zero, is_decimal, value_from}
use Rattle.names.specs.Names.{is_channel, is_server_id}
use Rattle.bans.specs.Masks.{is_mask}
use Rattle.message.specs.Grammar.{word}
use Rattle.message.specs.Content.{Content, prefix_is}
use Rattle.message.specs.Words.{words_at}
use Rattle.sjoin.specs.Join.{is_time}
use Rattle.bmask.specs.Masks.{ban_type, listed, good_masks, bmask_rules}

-- ` a!*  :b `: two masks
two : List ℕ
two = space ∷ 97 ∷ 33 ∷ 42 ∷ space ∷ space ∷ 58 ∷ 98 ∷ space ∷ []

two-listed : listed two ≡ (97 ∷ 33 ∷ 42 ∷ []) ∷ (58 ∷ 98 ∷ []) ∷ []
unfolding two words_at word
two-listed = refl

-- they are good, and so is a mask of 100 bytes; a list of none isn't, nor one of SPACEs alone, nor one with a mask of 101 bytes
good-lists : map good_masks (two ∷ replicate 100 97 ∷ [] ∷ (space ∷ space ∷ []) ∷ (97 ∷ space ∷ replicate 101 97) ∷ []) ≡ true ∷ true ∷ false ∷ false ∷ false ∷ []
unfolding two good_masks words_at word all is_mask is_plain
good-lists = refl

-- `:1AB BMASK time #a type list`
saying : List ℕ → List ℕ → List ℕ → Content
saying time type list = record { prefix = some (49 ∷ 65 ∷ 66 ∷ []); command = []; params = time ∷ (35 ∷ 97 ∷ []) ∷ type ∷ list ∷ [] }

-- accepted at the time 7; 14 and 15 of the times x and 0, as of SJOIN, also where the list is empty; 26 of the type B and of the empty list
numbers : map (λ (c : Content). first_of (bmask_rules c))
    (saying (55 ∷ []) ban_type two ∷ saying (120 ∷ []) ban_type [] ∷ saying (48 ∷ []) ban_type [] ∷ saying (55 ∷ []) (66 ∷ []) two ∷ saying (55 ∷ []) ban_type [] ∷ [])
    ≡ 0 ∷ 14 ∷ 15 ∷ 26 ∷ 26 ∷ []
unfolding saying two bmask_rules first_of prefix_is is_time is_decimal leads_with_zero value_from is_digit is_channel is_name_byte is_server_id is_id_byte good_masks words_at word all is_mask is_plain same_by starts_with within
numbers = refl
