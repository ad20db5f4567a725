-- What is told of a channel is a message that can be written: no byte of it is NUL, CR or LF, and each parameter but the list, which is the last, is one or
-- more bytes without SPACE that don't start with ':'. Assumes nothing.
use Prim.Native.Nat.{ℕ, suc, ◌≤◌}
use mathlib.Core.Path.{◌≡◌, refl, sym, ◌∙◌}
use mathlib.Core.Bool.{Bool, true, false, not, cond, ◌&&◌, ◌||◌, true≢false}
use mathlib.Core.List.{List, [], ◌∷◌, ◌++◌, map}
use native.Mathlib.Omega.{arith}
use lib.ListN.{length}
use lib.Dec.{eqb, leb}
use Rattle.octets.specs.Bytes.{colon, within, is_plain, is_non_space, is_letter, is_digit, is_id_byte, is_name_byte, is_key_byte, space}
use Rattle.laws.specs.Bits.{has_bit}
use Rattle.laws.specs.Lists.{all, is_nil, starts_with}
use Rattle.octets.specs.Decimals.{digits_of}
use Rattle.laws.proofs.Bools.{and_left, and_right, and_intro}
use Rattle.laws.proofs.Lists.{all_head, all_tail, all_cons, all-imp, all-imp-map}
use Rattle.laws.proofs.Texts.{separated-one, all-separated}
use Rattle.octets.proofs.Clean.{digit-id, id-clean, id-colon, name-clean, key-clean}
use Rattle.octets.proofs.Digits.{all_digits, digits-some}
use Rattle.names.specs.Names.{is_channel, is_server_id, is_user_id}
use Rattle.names.proofs.Channels.{no-channel, channel-says}
use Rattle.names.proofs.UserIds.{no-server-id, server-bytes, user-length, user-bytes}
use Rattle.channel.specs.declared.Member.{Member}
use Rattle.channel.specs.Modes.{letters, key_mode, limit_mode, has_mode, plus}
use Rattle.channel.specs.Key.{is_key}
use Rattle.channel.specs.Channel.{Channel, at_sign}
use Rattle.channel.specs.WellFormed.{good_member}
use Rattle.channel.proofs.Keys.{key-says}
use Rattle.channel.proofs.Proper.{Proper, member-says}
use Rattle.message.specs.Grammar.{param_limit, is_command, is_middle}
use Rattle.writer.specs.Private.Fit.{good_prefix, good_source, good_param, good_params, good}
use Rattle.telling.specs.Telling.{letters_from, modes_text, entry_of, list_text, params_of, sjoin, join_message}

-- ---- bytes that are plain and no SPACE
abbrev neat : ℕ → Bool
neat b = is_plain b && is_non_space b

all-neat : (p : ℕ → Bool) → ((b : ℕ) → p b ≡ true → (is_plain b ≡ true) × (is_non_space b ≡ true)) → (s : List ℕ) → all p s ≡ true → all neat s ≡ true
all-neat p f s h = all-imp p neat (λ b e. and_intro (is_plain b) (is_non_space b) (f b e).0 (f b e).1) s h

neat-plain : (s : List ℕ) → all neat s ≡ true → all is_plain s ≡ true
neat-plain s h = all-imp neat is_plain (λ b e. and_left (is_plain b) (is_non_space b) e) s h

neat-solid : (s : List ℕ) → all neat s ≡ true → all is_non_space s ≡ true
neat-solid s h = all-imp neat is_non_space (λ b e. and_right (is_plain b) (is_non_space b) e) s h

-- a text that can stand anywhere among the parameters
abbrev Middle : List ℕ → Type 0
Middle w = (all is_plain w ≡ true) × (is_middle w ≡ true)

neat-middle : (w : List ℕ) → 1 ≤ length w → starts_with colon w ≡ false → all neat w ≡ true → Middle w
unfolding is_middle starts_with
neat-middle [] = λ n c h. absurd (omega arith)
neat-middle (b ∷ w) = λ n c h. (neat-plain (b ∷ w) h, rw c (neat-solid (b ∷ w) h))

ids-uncolon : (w : List ℕ) → all is_id_byte w ≡ true → starts_with colon w ≡ false
unfolding starts_with
ids-uncolon [] h = refl
ids-uncolon (b ∷ w) h = id-colon b (all_head is_id_byte b w h)

-- ---- a number
digits-middle : (n : ℕ) → Middle (digits_of n)
digits-middle n =
    let h = all-imp is_digit is_id_byte digit-id (digits_of n) (all_digits n) in
    neat-middle (digits_of n) (digits-some n) (ids-uncolon (digits_of n) h) (all-neat is_id_byte id-clean (digits_of n) h)

-- ---- a name
name-middle : (n : List ℕ) → is_channel n ≡ true → Middle n
unfolding starts_with is_plain
name-middle [] h = absurd (true≢false (sym h ∙ no-channel))
name-middle (b ∷ s) h =
    let p = channel-says b s h in
    let c : eqb b colon ≡ false = rw p.0 in
    let f : neat b ≡ true = rw p.0 in
    neat-middle (b ∷ s) (omega arith) c (all_cons neat b s f (all-neat is_name_byte name-clean s p.1))

-- ---- modes
letters-pass : (p : ℕ → Bool) (k : ℕ) (s : List ℕ) (modes : ℕ) → all p s ≡ true → all p (letters_from k s modes) ≡ true
unfolding letters_from
letters-pass p k [] modes h = h
letters-pass p k (x ∷ s) modes h = go (has_mode modes k) (letters-pass p (suc k) s modes (all_tail p x s h))
  where
    go : (t : Bool) → all p (letters_from (suc k) s modes) ≡ true → all p (cond t (x ∷ letters_from (suc k) s modes) (letters_from (suc k) s modes)) ≡ true
    go true e = all_cons p x (letters_from (suc k) s modes) (all_head p x s h) e
    go false e = e

modes-middle : (modes : ℕ) → Middle (modes_text modes)
unfolding starts_with all is_plain
modes-middle modes = neat-middle (modes_text modes) (omega arith) refl (all_cons neat plus (letters_from 0 letters modes) refl (letters-pass neat 0 letters modes refl))

-- ---- a key
key-middle : (k : List ℕ) → is_key k ≡ true → Middle k
key-middle k h = let p = key-says k h in neat-middle k p.0 p.1 (all-neat is_key_byte key-clean k p.2)

-- ---- the list
marked-middle : (id : List ℕ) → is_user_id id ≡ true → (o v : Bool) → Middle (cond o (at_sign ∷ []) [] ++ cond v (plus ∷ []) [] ++ id)
unfolding starts_with is_plain
marked-middle id h o v = go o v (all-neat is_id_byte id-clean id (user-bytes id h))
  where
    go : (o v : Bool) → all neat id ≡ true → Middle (cond o (at_sign ∷ []) [] ++ cond v (plus ∷ []) [] ++ id)
    go true true k = neat-middle (at_sign ∷ plus ∷ id) (omega arith) refl (all_cons neat at_sign (plus ∷ id) refl (all_cons neat plus id refl k))
    go true false k = neat-middle (at_sign ∷ id) (omega arith) refl (all_cons neat at_sign id refl k)
    go false true k = neat-middle (plus ∷ id) (omega arith) refl (all_cons neat plus id refl k)
    go false false k = neat-middle id (omega (arith, user-length id h)) (ids-uncolon id (user-bytes id h)) k

-- An entry can stand anywhere among the parameters.
entry-middle : (m : Member) → good_member m ≡ true → Middle (entry_of m)
unfolding entry_of
entry-middle m h = marked-middle m.id (member-says m h).0 (has_bit m.status 1) (has_bit m.status 0)

list-plain : (l : List Member) → all good_member l ≡ true → all is_plain (list_text l) ≡ true
unfolding is_plain
list-plain l h = all-separated space is_plain refl (map entry_of l) (all-imp-map good_member (all is_plain) entry_of (λ m g. (entry-middle m g).0) l h)

-- A list of one entry can too.
pub entry-alone : (l : List Member) → 1 ≤ length l → length l ≤ 1 → all good_member l ≡ true → is_middle (list_text l) ≡ true
entry-alone [] = λ h k g. absurd (omega arith)
entry-alone (m ∷ []) = λ h k g. rw (separated-one space (entry_of m)) (entry-middle m (all_head good_member m [] g)).1
entry-alone (m ∷ n ∷ l) = λ h k g. absurd (omega arith)

-- ---- the parameters, by whether key and limit are there
abbrev parameters : Bool → Bool → List ℕ → List ℕ → List ℕ → List ℕ → List ℕ → List ℕ → List (List ℕ)
parameters a b t n m k l s = (t ∷ n ∷ m ∷ []) ++ cond a (k ∷ []) [] ++ cond b (l ∷ []) [] ++ (s ∷ [])

params-good : (a b : Bool) (t n m k l s : List ℕ) → Middle t → Middle n → Middle m → (a ≡ true → Middle k) → Middle l → all is_plain s ≡ true
    → good_params (parameters a b t n m k l s) && leb (length (parameters a b t n m k l s)) param_limit ≡ true
unfolding good_params good_param
params-good true true t n m k l s T N M K L S = simp (T.0, T.1, N.0, N.1, M.0, M.1, (K refl).0, (K refl).1, L.0, L.1, S)
params-good true false t n m k l s T N M K L S = simp (T.0, T.1, N.0, N.1, M.0, M.1, (K refl).0, (K refl).1, S)
params-good false true t n m k l s T N M K L S = simp (T.0, T.1, N.0, N.1, M.0, M.1, L.0, L.1, S)
params-good false false t n m k l s T N M K L S = simp (T.0, T.1, N.0, N.1, M.0, M.1, S)

keyed-middle : (k : List ℕ) → (is_nil k || is_key k) ≡ true → not (is_nil k) ≡ true → Middle k
keyed-middle [] h e = absurd (true≢false (sym e))
keyed-middle (b ∷ k) h e = key-middle (b ∷ k) h

source-good : (sid : List ℕ) → is_server_id sid ≡ true → good_prefix sid ≡ true
unfolding good_prefix
source-good [] h = absurd (true≢false (sym h ∙ no-server-id))
source-good (b ∷ s) h =
    let k = all-neat is_id_byte id-clean (b ∷ s) (server-bytes (b ∷ s) h) in
    and_intro (all is_plain (b ∷ s)) (all is_non_space (b ∷ s)) (neat-plain (b ∷ s) k) (neat-solid (b ∷ s) k)

command-good : is_command sjoin ≡ true
unfolding is_command all is_letter within
command-good = refl

-- What a server tells of a channel is a message that can be written.
pub told-good : (sid : List ℕ) (c : Channel) → is_server_id sid ≡ true → Proper c → good (join_message sid c) ≡ true
unfolding good good_source params_of
told-good sid c h p =
    let s = c.settings in
    rw (source-good sid h, command-good)
    (params-good (has_mode s.modes key_mode) (has_mode s.modes limit_mode) (digits_of c.time) c.name (modes_text s.modes) s.key (digits_of s.limit) (list_text c.members)
    (digits-middle c.time) (name-middle c.name p.name) (modes-middle s.modes) (λ e. keyed-middle s.key p.settings.key (sym p.settings.keyed ∙ e)) (digits-middle s.limit)
    (list-plain c.members p.listed))
