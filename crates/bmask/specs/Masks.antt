-- What a BMASK line says (document 02, §2): `:sid BMASK time name b list`. The numbers 12 to 16 and 26, and the masks of the list.
use Rattle.std.specs.Prelude.{ℕ, Bool, not, cond, ◌&&◌, List, [], ◌∷◌, ◌++◌, length, get_or, eqb, Result, Ok, Err}
use Rattle.refusal.specs.Numbers.{accepted, wrong_param_count, bad_source, bad_masks}
use Rattle.refusal.specs.declared.Refusal.{Refusal}
use Rattle.refusal.specs.Refusals.{number_of}
use Rattle.refusal.specs.Rules.{Rule, ◌when◌, first_of}
use Rattle.laws.specs.Lists.{all, is_nil, same}
use Rattle.octets.specs.Decimals.{value_of}
use Rattle.names.specs.Names.{is_server_id}
use Rattle.bans.specs.Masks.{is_mask}
use Rattle.message.specs.declared.Message.{Message}
use Rattle.message.specs.Content.{Content, prefix_is}
use Rattle.message.specs.Parts.{content_by}
use Rattle.message.specs.Words.{words_of}
use Rattle.sjoin.specs.Join.{time_in, head_rules}

-- ---- the parameters: time and name stand where SJOIN's do, then the type and the list
abbrev pub param_count : ℕ
param_count = 4

abbrev pub type_in : Content → List ℕ
type_in c = get_or c.params 2 []

abbrev pub mask_list_in : Content → List ℕ
mask_list_in c = get_or c.params 3 []

-- the one type that there is: b, of bans
abbrev pub ban_type : List ℕ
ban_type = 98 ∷ []

-- the masks of a list, in its order
abbrev pub listed : List ℕ → List (List ℕ)
listed list = words_of list

-- one or more masks, parted as the members of SJOIN's list are
unfoldable pub good_masks : List ℕ → Bool
good_masks list = not (is_nil (listed list)) && all is_mask (listed list)

-- ---- the rules
-- of count and source: 12 and 13
abbrev pub source_rules : Content → List Rule
source_rules c =
    wrong_param_count when not (eqb (length c.params) param_count)
    ∷ bad_source when not (prefix_is is_server_id c.prefix)
    ∷ []

-- of type and list: 26
abbrev pub masks_rules : Content → List Rule
masks_rules c = bad_masks when not (same (type_in c) ban_type && good_masks (mask_list_in c)) ∷ []

-- of all that is told: 14 to 16 as of SJOIN, then 26
abbrev pub telling_rules : Content → List Rule
telling_rules c = head_rules c ++ masks_rules c

unfoldable pub bmask_rules : Content → List Rule
bmask_rules c = source_rules c ++ telling_rules c

-- ---- the answer
-- The number of a refusal, or `accepted`, and the line's time, 0 with a refusal.
pub record Listing : Type 0 where
  pub number : ℕ
  pub time : ℕ

-- what an answer tells
abbrev pub as_listing : Result ℕ Refusal → Listing
as_listing (Ok time) = record { number = accepted; time = time }
as_listing (Err e) = record { number = number_of e; time = 0 }

-- a number, and the time, or 0
abbrev pub listing : ℕ → Content → Listing
listing k c = record { number = k; time = cond (eqb k accepted) (value_of (time_in c)) 0 }

-- of a message whose parts are spans of a text
unfoldable pub listing_in : List ℕ → Message → Listing
listing_in text m = listing (first_of (bmask_rules (content_by text m))) (content_by text m)
