-- Laws of the table as text: the masks of a list and the slots of a table one by one, how long their lines can be, and when there is room for them. Assumes nothing.
use Prim.Native.Nat.{ℕ, ◌+◌, ◌*◌, ◌≤◌, ◌<◌}
use mathlib.Core.Path.{◌≡◌, refl, ap, ◌∙◌}
use mathlib.Core.Bool.{true, cond}
use mathlib.Core.List.{List, [], ◌∷◌, ◌++◌, map}
use native.Mathlib.Omega.{arith}
use lib.ListN.{length, drop, get_or, drop_of_length-le, length-append}
use lib.Dec.{ltb}
use borrow.Author.Tests.{lt-ltb, le-ltb}
use Rattle.refusal.specs.Numbers.{accepted, no_room}
use Rattle.refusal.specs.Rules.{first_of, ascend_from, ascend, place_in}
use Rattle.refusal.proofs.Rules.{skip, stop, first-nil}
use Rattle.laws.specs.Lists.{separated}
use Rattle.laws.specs.Joins.{concatenated}
use Rattle.laws.proofs.Lists.{drop-step}
use Rattle.laws.proofs.Texts.{separated_from, separated-step, separated-end}
use Rattle.octets.specs.Bytes.{lf, space}
use Rattle.channel.specs.declared.Record.{Record}
use Rattle.channel.specs.Record.{decode}
use Rattle.bans.specs.declared.WholeRecord.{WholeRecord}
use Rattle.bans.specs.Masks.{masks}
use Rattle.bans.specs.Slots.{list_at}
use Rattle.bans.specs.Records.{whole}
use Rattle.bans.proofs.Texts.{masks-fit}
use Rattle.table.specs.Network.{Network}
use Rattle.table.specs.Table.{wholes_from}
use Rattle.table.proofs.WellFormed.{wholes-step, wholes-past}
use Rattle.telling.specs.Telling.{described, description_limit}
use Rattle.listing.specs.Listing.{line_of, channel_lines, slot_lines, listing, listing_rules}
use Rattle.listing.specs.Private.Slots.{slot_limit}

-- ---- the masks, one by one
-- the text of those from a place on, with the SPACEs before them
abbrev pub masks_from : ℕ → List (List ℕ) → List ℕ
masks_from i l = separated_from space i (drop i l)

-- The mask at a place, behind a SPACE or the first of all, and those behind it.
pub masks-step : (l : List (List ℕ)) (i : ℕ) → i < length l → masks_from i l ≡ cond (ltb 0 i) (space ∷ []) [] ++ get_or l i [] ++ masks_from (i + 1) l
masks-step l i h = rw (drop-step l i [] h) (separated-step space i (get_or l i []) (drop (i + 1) l))

-- Behind the last mask there is no text.
pub masks-past : (l : List (List ℕ)) (i : ℕ) → length l ≤ i → masks_from i l ≡ []
masks-past l i h = rw (drop_of_length-le l {i = i} h) (separated-end space i)

-- ---- the slots, one by one
module _ (bans : List ℕ) (slots : List Record) (k : ℕ) where
  -- the lines of the slots from k on
  abbrev pub lines_from : List ℕ
  lines_from = concatenated (map slot_lines (wholes_from k (drop k slots) bans))

  -- Past the last slot there is none.
  pub lines-past : length slots ≤ k → lines_from ≡ []
  lines-past h = rw (wholes-past bans slots k h)

-- The lines of a slot, and those of the slots behind it.
pub lines_step : (bans : List ℕ) (slots : List Record) (k : ℕ) (d : Record) → k < length slots
    → lines_from bans slots k ≡ slot_lines (whole (get_or slots k d) (record { room = list_at bans k })) ++ lines_from bans slots (k + 1)
lines_step bans slots k d h = rw (wholes-step bans slots k d h)

-- ---- how long they are
-- No channel has more bytes than a slot may, whatever bytes its list is.
pub channel-few : (w : WholeRecord) → length (described (decode w.«record»)) ≤ description_limit → length (channel_lines w) ≤ slot_limit
unfolding channel_lines
channel-few w h =
    let told = described (decode w.«record») in
    let text = separated space (masks w.bans.room) in
    omega (arith, length-append (line_of told) (line_of text), length-append told (lf ∷ []), length-append text (lf ∷ []), masks-fit space w.bans.room)

-- What all slots have is no longer than the lines from a slot on and as much as the slots before it may have; so it goes on with the next slot.
pub lines-few : (bans : List ℕ) (slots : List Record) (k : ℕ) (d : Record) → k < length slots → (n : ℕ)
    → length (slot_lines (whole (get_or slots k d) (record { room = list_at bans k }))) ≤ slot_limit
    → n ≤ length (lines_from bans slots k) + slot_limit * k → n ≤ length (lines_from bans slots (k + 1)) + slot_limit * (k + 1)
lines-few bans slots k d h n few e =
    omega (
      arith,
      few,
      ap (λ (l : List ℕ). length l) (lines_step bans slots k d h),
      length-append (slot_lines (whole (get_or slots k d) (record { room = list_at bans k }))) (lines_from bans slots (k + 1)),
    )

-- ---- when they are written
module _ (n : Network) (out : List ℕ) where
  -- The rules stand in the order of their numbers.
  pub rules-ascend : ascend (listing_rules n out) ≡ true
  unfolding listing_rules ascend_from place_in
  rules-ascend = refl

  -- Room that is too short is refused.
  pub listing-over : length out < length (listing n) → first_of (listing_rules n out) ≡ no_room
  unfolding listing_rules
  listing-over h = stop _ _ (lt-ltb (length out) (length (listing n)) h)

  -- Else they are written.
  pub listing-accepts : length (listing n) ≤ length out → first_of (listing_rules n out) ≡ accepted
  unfolding listing_rules
  listing-accepts h = skip _ _ (le-ltb (length out) (length (listing n)) h) ∙ first-nil
