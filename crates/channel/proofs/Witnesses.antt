-- Three channels of `#Race` that meet the premises of this crate's laws, and what the laws say of them. Assumes nothing.
use Prim.Native.Nat.{ℕ, ◌<◌}
use mathlib.Core.Path.{◌≡◌, refl, ap, ◌∙◌}
use mathlib.Core.Bool.{Bool, true, false, ◌||◌}
use mathlib.Core.List.{List, [], ◌∷◌, Memᴰ}
use mathlib.Core.Logic.{◌⊎◌, inl, inr}
use native.Mathlib.Omega.{arith}
use lib.ListN.{length}
use lib.Dec.{eqb}
use borrow.Author.Tests.{eqb-true}
use Rattle.octets.specs.Bytes.{within, is_digit, is_id_byte, is_name_byte, is_key_byte, is_plain}
use Rattle.laws.specs.Lists.{all, same_by, padded, starts_with}
use Rattle.octets.specs.Order.{compare}
use Rattle.laws.specs.Bits.{has_bit}
use Rattle.ascending.specs.Ascending.{ascends}
use Rattle.laws.proofs.Lists.{all_head, all_tail, all-at}
use Rattle.names.specs.Names.{user_id_length, is_channel, is_server_id, is_user_id}
use Rattle.channel.specs.declared.Member.{Member}
use Rattle.channel.specs.declared.Record.{Record}
use Rattle.channel.specs.Modes.{has_mode, with_mode, key_mode, limit_mode, place_among}
use Rattle.channel.specs.Key.{is_key}
use Rattle.channel.specs.Channel.{Channel, member}
use Rattle.channel.specs.Record.{nobody, empty_record, encode, decode}
use Rattle.channel.specs.WellFormed.{good_time, good_key, good_limit, good_settings, good_member, good_members, channel_tests, in_room, clear, well_formed}
use Rattle.channel.specs.Members.{status_in, others, with_members, without}
use Rattle.channel.specs.Standing.{counts}
use Rattle.channel.proofs.Letters.{has-no-mode, has-with}
use Rattle.channel.proofs.Records.{Sized, decode-encode, encode-decode}
use Rattle.channel.proofs.Proper.{Proper, proper-says, proper-fits, encode-well}
use Rattle.channel.proofs.Statuses.{named}
use Rattle.channel.proofs.Standing.{counts-late}
use Rattle.channel.proofs.Removals.{without-well, without-members, without-lacks, without-has, without-status}
use Rattle.channel.proofs.Examples.{2cd, 1ab, stored, incoming}

-- `SJOIN 1000 #RACE +kl cove 20 :1ABAAAAAA +2CDAAAAAA`, a line with the stored record's time
unfoldable pub second : Channel
second = record {
  name = 35 ∷ 82 ∷ 65 ∷ 67 ∷ 69 ∷ [];
  time = 1000;
  settings = record { modes = with_mode (with_mode 0 key_mode) limit_mode; key = 99 ∷ 111 ∷ 118 ∷ 101 ∷ []; limit = 20 };
  members = member (1ab 65) 0 ∷ member 2cd 1 ∷ [];
}

-- ---- the premises: each is a proper channel
-- the three
abbrev pub lines : List Channel
lines = stored ∷ incoming ∷ second ∷ []

abbrev passes : Channel → Bool
passes c = all (λ t. t) (channel_tests c)

lines-pass : all passes lines ≡ true
unfolding channel_tests good_time good_key good_limit good_settings good_member good_members all starts_with within is_digit is_id_byte is_name_byte is_key_byte is_plain is_channel is_server_id is_user_id is_key has_bit ascends compare with_mode place_among stored incoming second 1ab 2cd
lines-pass = refl

all-mem : {c : Channel} {s : List Channel} → Memᴰ c s → all passes s ≡ true → passes c ≡ true
all-mem (Memᴰ.head e) h = rw e (all_head passes _ _ h)
all-mem (Memᴰ.tail m) h = all-mem m (all_tail passes _ _ h)

-- so each is proper
pub proper : (c : Channel) → Memᴰ c lines → Proper c
proper c m = proper-says c (all-mem m lines-pass)

-- each is one of the three
abbrev pub stored-in : Memᴰ stored lines
stored-in = Memᴰ.head refl

abbrev pub incoming-in : Memᴰ incoming lines
incoming-in = Memᴰ.tail (Memᴰ.head refl)

abbrev pub second-in : Memᴰ second lines
second-in = Memᴰ.tail (Memᴰ.tail (Memᴰ.head refl))

-- ---- modes: the stored record has k and no other
only-key : (place : ℕ) → has_mode stored.settings.modes place ≡ eqb place key_mode
unfolding stored
only-key place = has-with 0 key_mode place (omega arith) ∙ ap (λ (t : Bool). t || eqb place key_mode) (has-no-mode place)

-- ---- at the stored record's time the later line doesn't count
-- the incoming line has the later time
pub incoming-later : stored.time < incoming.time
unfolding stored incoming
incoming-later = omega arith

later-out : counts stored.time incoming ≡ false
later-out = counts-late stored.time incoming incoming-later

-- ---- records
sized : Sized (encode stored)
unfolding encode padded stored 2cd all
sized = record {
  name = refl;
  key = refl;
  members = refl;
  ids = λ k h. eqb-true _ user_id_length (all-at (λ (m : Member). eqb (length m.id) user_id_length) (encode stored).members k nobody refl h);
}

held : decode (encode second) ≡ second
held = decode-encode second (proper-fits second (proper second second-in))

kept : encode (decode (encode stored)) ≡ encode stored
unfolding encode in_room clear all padded stored
kept = encode-decode (encode stored) sized refl refl

-- a record that holds one of the three is well formed
pub well : (c : Channel) → Memᴰ c lines → well_formed (encode c) ≡ true
well c m = encode-well c (proper c m)

-- ---- a member removed
-- the only member: the empty record
emptied : without 2cd (encode stored) ≡ empty_record
unfolding without others same_by encode decode padded stored 2cd
emptied = refl

-- one of two: the other stays, with its voice
was-there : named (1ab 65) (decode (encode second)) ≡ true
unfolding encode decode padded same_by second 1ab
was-there = refl

gone : named (1ab 65) (decode (without (1ab 65) (encode second))) ≡ false
gone = without-lacks (1ab 65) (encode second) (well second second-in)

left-well : well_formed (without (1ab 65) (encode second)) ≡ true
unfolding without others with_members same_by encode decode padded empty_record second 1ab 2cd
left-well = go (without-well (1ab 65) (encode second) (well second second-in))
  where
    go : (without (1ab 65) (encode second) ≡ empty_record) ⊎ (well_formed (without (1ab 65) (encode second)) ≡ true) → well_formed (without (1ab 65) (encode second)) ≡ true
    go (inl e) = let z : ◌≡◌ {A = ℕ} 1 0 = ap (λ (r : Record). r.count) e in absurd (omega arith)
    go (inr h) = h

left : (decode (without (1ab 65) (encode second))).members ≡ member 2cd 1 ∷ []
unfolding others same_by encode decode padded second 1ab 2cd
left = without-members (1ab 65) (encode second) (well second second-in)

voice-there : named 2cd (decode (without (1ab 65) (encode second))) ≡ true
unfolding encode decode padded same_by second 1ab 2cd
voice-there = without-has (1ab 65) (encode second) (well second second-in) 2cd refl

voice-keeps : status_in 2cd (decode (without (1ab 65) (encode second))).members ≡ 1
unfolding encode decode padded status_in same_by second 1ab 2cd
voice-keeps = without-status (1ab 65) (encode second) (well second second-in) 2cd refl
