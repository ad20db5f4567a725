-- What is told of a member reads back as that member. Assumes nothing.
use Prim.Native.Nat.{ℕ, zero, suc, ◌+◌, ◌≤◌}
use mathlib.Core.Path.{◌≡◌, refl, ap, ap₂, ◌∙◌}
use mathlib.Core.Bool.{Bool, true, false, not, cond, ◌&&◌}
use mathlib.Core.List.{List, [], ◌∷◌, ◌++◌, map}
use native.Mathlib.Omega.{arith}
use Rattle.octets.specs.Bytes.{within, is_non_space, is_digit}
use Rattle.laws.specs.Lists.{all, is_nil, starts_with}
use Rattle.laws.specs.Bits.{has_bit}
use Rattle.laws.proofs.Bools.{and_intro}
use Rattle.laws.proofs.Lists.{nil-map, all_head, all_tail, all-imp-map}
use Rattle.names.specs.Names.{is_user_id}
use Rattle.names.proofs.UserIds.{user-some, user-solid, user-unmarked}
use Rattle.channel.specs.declared.Member.{Member}
use Rattle.channel.specs.Modes.{has_mode, plus}
use Rattle.channel.specs.Channel.{voice_place, operator_place, voice, operator, member, at_sign}
use Rattle.channel.specs.WellFormed.{both_statuses, good_member}
use Rattle.channel.proofs.Proper.{member-says}
use Rattle.message.specs.Words.{words_of}
use Rattle.message.proofs.Separated.{solid, words-separated}
use Rattle.sjoin.specs.Entries.{past, id_of, status_of, is_entry, member_of, good_entries, named}
use Rattle.telling.specs.Telling.{entry_of, list_text}

-- ---- the marks tell the status
status-back : (n : ℕ) → n ≤ both_statuses → cond (has_mode n operator_place) operator 0 + cond (has_mode n voice_place) voice 0 ≡ n
unfolding has_bit
status-back zero h = refl
status-back (suc zero) h = refl
status-back (suc (suc zero)) h = refl
status-back (suc (suc (suc zero))) h = refl
status-back (suc (suc (suc (suc n)))) h = absurd (omega arith)

-- ---- and the id follows them
module _ (id : List ℕ) (h : is_user_id id ≡ true) where
  no-at : starts_with at_sign id ≡ false
  unfolding is_digit within
  no-at = user-unmarked id at_sign h refl

  no_plus : starts_with plus id ≡ false
  unfolding is_digit within
  no_plus = user-unmarked id plus h refl

  marked : (o v : Bool) → member_of (cond o (at_sign ∷ []) [] ++ cond v (plus ∷ []) [] ++ id) ≡ member id (cond o operator 0 + cond v voice 0)
  unfolding member_of id_of status_of past starts_with
  marked true true = refl
  marked true false = rw no_plus
  marked false true = refl
  marked false false = rw (no-at, no_plus)

-- The member that is read of an entry told is the member.
entry-back : (m : Member) → good_member m ≡ true → member_of (entry_of m) ≡ m
unfolding entry_of
entry-back m h =
    marked m.id (member-says m h).0 (has_mode m.status operator_place) (has_mode m.status voice_place) ∙ ap (member m.id) (status-back m.status (member-says m h).1)

-- ---- an entry holds no SPACE
marked-solid : (id : List ℕ) → is_user_id id ≡ true → (o v : Bool) → not (is_nil (cond o (at_sign ∷ []) [] ++ cond v (plus ∷ []) [] ++ id)) && all is_non_space (cond o (at_sign ∷ []) [] ++ cond v (plus ∷ []) [] ++ id) ≡ true
unfolding all
marked-solid id h true true = user-solid id h
marked-solid id h true false = user-solid id h
marked-solid id h false true = user-solid id h
marked-solid id h false false = rw (user-some id h) (user-solid id h)

entry-solid : (m : Member) → good_member m ≡ true → solid (entry_of m) ≡ true
unfolding entry_of
entry-solid m h = marked-solid m.id (member-says m h).0 (has_mode m.status operator_place) (has_mode m.status voice_place)

words_back : (l : List Member) → all good_member l ≡ true → words_of (list_text l) ≡ map entry_of l
words_back l h = words-separated (map entry_of l) (all-imp-map good_member solid entry_of entry-solid l h)

-- ---- so what is told of members reads back as them
-- The members that are read of a list told are the members.
pub members-back : (l : List Member) → all good_member l ≡ true → named (list_text l) ≡ l
members-back l h = ap (map member_of) (words_back l h) ∙ each l h
  where
    each : (l : List Member) → all good_member l ≡ true → map member_of (map entry_of l) ≡ l
    each [] h = refl
    each (m ∷ l) h = ap₂ (λ (x : Member) (y : List Member). x ∷ y) (entry-back m (all_head good_member m l h)) (each l (all_tail good_member m l h))

entry-is : (m : Member) → good_member m ≡ true → is_entry (entry_of m) ≡ true
unfolding is_entry member_of
entry-is m h = ap (λ (x : Member). is_user_id x.id) (entry-back m h) ∙ (member-says m h).0

-- A list that is told of some members is a good one.
pub list-good : (l : List Member) → is_nil l ≡ false → all good_member l ≡ true → good_entries (list_text l) ≡ true
unfolding good_entries
list-good l n h =
    rw (words_back l h)
    (and_intro (not (is_nil (map entry_of l))) (all is_entry (map entry_of l)) (ap not (nil-map entry_of l ∙ n)) (all-imp-map good_member is_entry entry_of entry-is l h))
