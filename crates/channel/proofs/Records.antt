-- A record and the channel that it holds are inverse to each other: what is in use stands at the front of its room, and where the rest is zero
-- nothing else is in the record. Assumes nothing.
use Prim.Native.Nat.{ℕ, ◌≤◌, ◌<◌}
use mathlib.Core.Path.{◌≡◌, refl, ap, ap₂, ◌∙◌}
use mathlib.Core.Bool.{true}
use mathlib.Core.List.{List, [], ◌∷◌}
use native.Mathlib.Omega.{arith}
use lib.ListN.{length, drop, get_or, replicate}
use lib.Seq.{length-take-le}
use lib.Dec.{leb}
use borrow.Author.Tests.{eqb-true, leb-true, le-leb}
use Rattle.laws.specs.Lists.{all}
use Rattle.laws.proofs.Bools.{and_left, and_right, and-three}
use Rattle.laws.proofs.Lists.{all_head, all_tail, all_from, take-padded, all-padded, padded-take}
use Rattle.octets.specs.Bytes.{is_zero}
use Rattle.names.specs.Names.{name_limit, user_id_length}
use Rattle.channel.specs.declared.Member.{Member}
use Rattle.channel.specs.declared.Record.{Record}
use Rattle.channel.specs.Limits.{key_limit, member_limit}
use Rattle.channel.specs.Channel.{Channel, member}
use Rattle.channel.specs.Record.{nobody, encode, decode}
use Rattle.channel.specs.WellFormed.{is_vacant, in_room, clear}
use Rattle.channel.proofs.Fields.{settings-path, channel-path}

-- A channel keeps to the room that a record has.
pub record Fits (c : Channel) : Type 0 where
  pub name : length c.name ≤ name_limit
  pub key : length c.settings.key ≤ key_limit
  pub members : length c.members ≤ member_limit

-- What the record's type says of its arrays: they have their lengths.
pub record Sized (r : Record) : Type 0 where
  pub name : length r.name ≡ name_limit
  pub key : length r.key ≡ key_limit
  pub members : length r.members ≡ member_limit
  pub ids : (k : ℕ) → k < member_limit → length (get_or r.members k nobody).id ≡ user_id_length

-- what is encoded is decoded again
pub decode-encode : (c : Channel) → Fits c → decode (encode c) ≡ c
unfolding encode decode
decode-encode c f =
    channel-path (take-padded 0 name_limit c.name f.name) refl
    (settings-path refl (take-padded 0 key_limit c.settings.key f.key) refl)
    (take-padded nobody member_limit c.members f.members)

-- it keeps to its room
pub encode-room : (c : Channel) → Fits c → in_room (encode c) ≡ true
unfolding encode in_room
encode-room c f = simp (le-leb (length c.name) name_limit f.name, le-leb (length c.settings.key) key_limit f.key, le-leb (length c.members) member_limit f.members)

-- and leaves the rest zero
pub encode-clear : (c : Channel) → clear (encode c) ≡ true
unfolding encode clear all
encode-clear c = simp (all-padded 0 is_zero refl name_limit c.name, all-padded 0 is_zero refl key_limit c.settings.key, all-padded nobody is_vacant refl member_limit c.members)

-- ---- room that is zero
-- bytes that are all zero are that many zeros
pub zeros : (l : List ℕ) → all is_zero l ≡ true → l ≡ replicate (length l) 0
zeros [] h = refl
zeros (x ∷ l) h = ap₂ ◌∷◌ (eqb-true x 0 (all_head is_zero x l h)) (zeros l (all_tail is_zero x l h))

-- a vacant place with an id's length is nobody's
pub vacant-nobody : (m : Member) → length m.id ≡ user_id_length → is_vacant m ≡ true → m ≡ nobody
vacant-nobody m e h =
    let i : m.id ≡ replicate user_id_length 0 = zeros m.id (and_left (all is_zero m.id) (is_zero m.status) h) ∙ ap (λ (n : ℕ). replicate n 0) e in
    let s : m.status ≡ 0 = eqb-true m.status 0 (and_right (all is_zero m.id) (is_zero m.status) h) in
    ap₂ member i s

-- room left zero makes the record that of its channel
pub encode-decode : (r : Record) → Sized r → in_room r ≡ true → clear r ≡ true → encode (decode r) ≡ r
unfolding encode decode in_room clear
encode-decode r s h k =
    let u = and-three (leb r.name_len name_limit) (leb r.key_len key_limit) (leb r.count member_limit) h in
    let z = and-three (all is_zero (drop r.name_len r.name)) (all is_zero (drop r.key_len r.key)) (all is_vacant (drop r.count r.members)) k in
    λ i. record {
      name = padded-take 0 r.name_len name_limit r.name s.name (λ j p q. eqb-true (get_or r.name j 0) 0 (all_from is_zero r.name_len r.name 0 z.0 j p (omega arith))) i;
      name_len = length-take-le r.name_len r.name (omega (arith, leb-true r.name_len name_limit u.0)) i;
      time = r.time;
      modes = r.modes;
      key = padded-take 0 r.key_len key_limit r.key s.key (λ j p q. eqb-true (get_or r.key j 0) 0 (all_from is_zero r.key_len r.key 0 z.1 j p (omega arith))) i;
      key_len = length-take-le r.key_len r.key (omega (arith, leb-true r.key_len key_limit u.1)) i;
      limit = r.limit;
      members =
          padded-take nobody r.count member_limit r.members s.members
          (λ j p q. vacant-nobody (get_or r.members j nobody) (s.ids j q) (all_from is_vacant r.count r.members nobody z.2 j p (omega arith))) i;
      count = length-take-le r.count r.members (omega (arith, leb-true r.count member_limit u.2)) i;
    }
