-- Laws of what is printed: it has room, and the line of a refusal, added behind the lines of the slots, makes the text. Assumes nothing.
use Prim.Native.Nat.{ℕ, ◌^◌, ◌≤◌, ◌<◌}
use mathlib.Core.Path.{◌≡◌, refl, ap, ◌∙◌}
use mathlib.Core.Bool.{Bool, true, false}
use mathlib.Core.List.{List, [], ◌∷◌, ◌++◌}
use native.Mathlib.Omega.{arith}
use lib.ListN.{length, drop, length-append, length-drop}
use lib.Seq.{take-append_seam}
use lib.Dec.{eqb}
use Rattle.refusal.specs.Numbers.{accepted}
use Rattle.refusal.specs.Rules.{emitted}
use Rattle.refusal.proofs.Rules.{emitted-all}
use Rattle.octets.specs.Bytes.{lf, space}
use Rattle.octets.specs.Decimals.{digits_of}
use Rattle.octets.specs.Room.{front}
use Rattle.octets.specs.Private.Additions.{Holds, Adds, AtFront}
use Rattle.octets.proofs.Digits.{digits-twenty}
use Rattle.writer.specs.declared.Written.{Written}
use Rattle.writer.specs.Writing.{written_answer}
use Rattle.table.specs.Network.{Network}
use Rattle.listing.specs.Listing.{listing, listing_limit, listing_rules}
use Rattle.listing.proofs.Lines.{listing-accepts}
use Rattle.day.specs.Printing.{refusal_line, day_text, day_room}

-- number and place have twenty digits each at most
refusal-few : (number place : ℕ) → number < 2 ^ 64 → place < 2 ^ 64 → length (refusal_line number place) ≤ 42
unfolding refusal_line
refusal-few number place h k = go (eqb number accepted) refl
  where
    go : (t : Bool) → eqb number accepted ≡ t → length (refusal_line number place) ≤ 42
    go true e = rw e (omega arith)
    go false e =
        rw e
        (omega (
          arith,
          length-append (digits_of number ++ (space ∷ digits_of place)) (lf ∷ []),
          length-append (digits_of number) (space ∷ digits_of place),
          digits-twenty number h,
          digits-twenty place k,
        ))

module _ (n : Network) (few : length (listing n) ≤ listing_limit) (out next : List ℕ) (room : length out ≡ day_room) (w : Written)
    (is : w ≡ written_answer (listing_rules n out) (listing n)) (puts : next ≡ front (emitted (listing_rules n out) (listing n)) out) where
  all : emitted (listing_rules n out) (listing n) ≡ listing n
  all = emitted-all (listing_rules n out) (listing n) (listing-accepts n out (omega arith))

  written-length : w.len ≡ length (listing n)
  unfolding written_answer
  written-length = ap (λ (x : Written). x.len) is ∙ ap (λ (l : List ℕ). length l) all

  written_next : next ≡ front (listing n) out
  written_next = puts ∙ ap (λ (l : List ℕ). front l out) all

  next-length : length next ≡ day_room
  next-length =
      ap (λ (l : List ℕ). length l) written_next ∙ length-append (listing n) (drop (length (listing n)) out) ∙ omega (arith, length-drop (length (listing n)) out)

  holds : Holds next w.len (listing n)
  holds = record {
    counts = omega (arith, written-length, next-length);
    begins = λ h. rw (written-length, written_next) (take-append_seam (listing n) (drop (length (listing n)) out));
  }

  pub day-at-front : (number place : ℕ) → number < 2 ^ 64 → place < 2 ^ 64 → (last : List ℕ) (r : ℕ) → Adds next w.len last r (refusal_line number place)
      → AtFront last r (day_text n number place)
  unfolding day_text
  day-at-front number place h k last r adds =
      let held = adds.adds (listing n) holds in
      let size : length (listing n ++ refusal_line number place) ≤ day_room = omega (arith, length-append (listing n) (refusal_line number place), refusal-few number place h k) in
      let counts : r ≡ length (listing n ++ refusal_line number place) = omega (arith, held.counts, adds.keeps, next-length) in
      record { counts = counts; begins = held.begins (omega (arith, adds.keeps, next-length)) }
