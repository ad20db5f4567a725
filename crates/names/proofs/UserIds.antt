-- Laws of server ids and user ids: how long they are, that every byte of them is one of 'A' to 'Z' or '0' to '9' and so no SPACE, and that a user id begins
-- with a digit, and so with no mark. Assumes nothing.
use Prim.Native.Nat.{ℕ, zero, suc, ◌+◌}
use mathlib.Core.Path.{◌≡◌, refl, sym, ap, ◌∙◌}
use mathlib.Core.Bool.{Bool, true, false, true≢false, ◌&&◌, ◌||◌, and-true, and-false, and_assoc}
use mathlib.Core.List.{List, [], ◌∷◌}
use native.Mathlib.Omega.{arith}
use lib.ListN.{length, take, drop, get_or, take-append-drop}
use lib.Seq.{length-take-le}
use lib.Dec.{eqb}
use borrow.Author.Tests.{eq-eqb, ne_eqb, eqb-true}
use Rattle.octets.specs.Bytes.{within, is_non_space, is_digit, is_id_byte}
use Rattle.laws.specs.Lists.{all, is_nil, starts_with, padded}
use Rattle.laws.proofs.Bools.{and_left, and_right, and-three}
use Rattle.laws.proofs.Lists.{drop-step, all-step, all_head, all_cons, all_append, all-imp, padded-whole}
use Rattle.octets.proofs.Clean.{digit-id, id-clean}
use Rattle.names.specs.Names.{server_id_length, user_id_length, is_server_id, is_user_id}

letter-id : (b : ℕ) → within 65 b 90 ≡ true → is_id_byte b ≡ true
unfolding is_id_byte
letter-id b h = rw h

-- a list whose parts pass
joined : (p : ℕ → Bool) (n : ℕ) (s : List ℕ) → all p (take n s) ≡ true → all p (drop n s) ≡ true → all p s ≡ true
joined p n s h k = ap (all p) (sym (take-append-drop n s)) ∙ all_append p (take n s) (drop n s) h k

-- ---- server ids
pub no-server-id : is_server_id [] ≡ false
unfolding is_server_id
no-server-id = refl

-- a server id has three bytes
pub server-length : (id : List ℕ) → is_server_id id ≡ true → length id ≡ server_id_length
unfolding is_server_id
server-length id h = eqb-true (length id) server_id_length (and_left (eqb (length id) server_id_length) _ h)

module _ (id : List ℕ) (h : is_server_id id ≡ true) where
  server-parts : (all is_digit (take 1 id) ≡ true) × (all is_id_byte (drop 1 id) ≡ true)
  unfolding is_server_id
  server-parts = let p = and-three (eqb (length id) server_id_length) (all is_digit (take 1 id)) (all is_id_byte (drop 1 id)) h in (p.1, p.2)

  pub server-bytes : all is_id_byte id ≡ true
  server-bytes = joined is_id_byte 1 id (all-imp is_digit is_id_byte digit-id (take 1 id) server-parts.0) server-parts.1

-- ---- user ids
pub no-user-id : is_user_id [] ≡ false
unfolding is_user_id
no-user-id = refl

module _ (id : List ℕ) (h : is_user_id id ≡ true) where
  abbrev letter : ℕ
  letter = get_or id server_id_length 0

  abbrev rest : List ℕ
  rest = drop (server_id_length + 1) id

  pub user-length : length id ≡ user_id_length
  unfolding is_user_id
  user-length = eqb-true (length id) user_id_length (and_left (eqb (length id) user_id_length) _ h)

  user-parts : (is_server_id (take server_id_length id) ≡ true) × (within 65 letter 90 ≡ true) × (all is_id_byte rest ≡ true)
  unfolding is_user_id
  user-parts =
      and-three (is_server_id (take server_id_length id)) (within 65 letter 90) (all is_id_byte rest)
      (and_right (eqb (length id) user_id_length) (is_server_id (take server_id_length id) && (within 65 letter 90 && all is_id_byte rest)) h)

  pub user-bytes : all is_id_byte id ≡ true
  user-bytes =
      joined is_id_byte server_id_length id (server-bytes (take server_id_length id) user-parts.0)
      (ap (all is_id_byte) (drop-step id server_id_length 0 (omega (arith, user-length))) ∙ all_cons is_id_byte letter rest (letter-id letter user-parts.1) user-parts.2)

  pub user-solid : all is_non_space id ≡ true
  user-solid = all-imp is_id_byte is_non_space (λ b k. (id-clean b k).1) id user-bytes

pub user-some : (id : List ℕ) → is_user_id id ≡ true → is_nil id ≡ false
user-some [] h = absurd (true≢false (sym h ∙ no-user-id))
user-some (b ∷ s) h = refl

pub user-unmarked : (id : List ℕ) (mark : ℕ) → is_user_id id ≡ true → is_digit mark ≡ false → starts_with mark id ≡ false
unfolding starts_with
user-unmarked [] mark h k = refl
user-unmarked (b ∷ s) mark h k =
    let d = all_head is_digit b [] (server-parts (take server_id_length (b ∷ s)) (user-parts (b ∷ s) h).0).0 in
    ne_eqb b mark (λ e. true≢false (sym d ∙ ap is_digit e ∙ k))

-- ---- a user id held whole: bytes of ids behind the first one, which is a digit, and a letter behind the server id
-- a test of all is one of the first n and one of the others
split : (p : ℕ → Bool) (n : ℕ) (s : List ℕ) → all p s ≡ all p (take n s) && all p (drop n s)
unfolding all
split p zero s = refl
split p (suc n) [] = refl
split p (suc n) (x ∷ s) = ap (λ (t : Bool). p x && t) (split p n s) ∙ sym (and_assoc (p x) (all p (take n s)) (all p (drop n s)))

-- the tests in another order, a letter being tested as a byte of an id besides
sorted : (d a l x e : Bool) → ((d && true) && a) && (l && e) ≡ (a && ((l || x) && e)) && (d && l)
sorted false a l x e = sym (and-false (a && ((l || x) && e)))
sorted true false l x e = refl
sorted true true true x e = sym (and-true e)
sorted true true false x e = sym (and-false (x && e))

pub id-tests : (id : List ℕ) → length id ≡ user_id_length → is_user_id id ≡ all is_id_byte (drop 1 id) && (within 48 (get_or id 0 0) 57 && within 65 (get_or id server_id_length 0) 90)
unfolding is_user_id is_server_id is_digit is_id_byte all
id-tests [] = λ h. absurd (omega arith)
id-tests (a ∷ t) = λ h.
    let short : length (a ∷ take 2 t) ≡ server_id_length = omega (arith, length-take-le 2 t (omega arith)) in
    rw (eq-eqb (length (a ∷ t)) user_id_length h, eq-eqb (length (a ∷ take 2 t)) server_id_length short, split is_id_byte 2 t, all-step is_id_byte t 2 0 (omega arith))
    (sorted (within 48 a 57) (all is_id_byte (take 2 t)) (within 65 (get_or t 2 0) 90) (within 48 (get_or t 2 0) 57) (all is_id_byte (drop 3 t)))

-- nine bytes are held as they are
pub id-whole : (id : List ℕ) → length id ≡ user_id_length → padded user_id_length 0 id ≡ id
id-whole id h = padded-whole 0 user_id_length id h

-- bytes of another number are no user id
pub id-length : (id : List ℕ) → (length id ≡ user_id_length → ⊥) → is_user_id id ≡ false
unfolding is_user_id
id-length id ne = rw (ne_eqb (length id) user_id_length ne)

pub ruleset whole_ids = (id-tests, id-whole, id-length)
