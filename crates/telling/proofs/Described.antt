-- Laws of what is told of a channel as a text of its own: its pieces, as the functions put them together, and how long a record's can be, since every part
-- of a record has its limit. Assumes nothing.
use Prim.Native.Nat.{ℕ, suc, ◌+◌, ◌*◌, ◌^◌, ◌≤◌, ◌<◌}
use mathlib.Core.Path.{◌≡◌, refl, sym, ap, ◌∙◌}
use mathlib.Core.Bool.{Bool, true, false, cond}
use mathlib.Core.List.{List, [], ◌∷◌, ◌++◌, append-nil, append_assoc}
use native.Mathlib.Omega.{arith}
use lib.ListN.{length, take, drop, get_or, length-append, length-take}
use lib.Seq.{get_or-take}
use borrow.Author.Tests.{le-leb, lt-leb}
use Rattle.octets.specs.Bytes.{space}
use Rattle.laws.specs.Lists.{prefixed, separated}
use Rattle.laws.proofs.Texts.{separated-end}
use Rattle.octets.specs.Decimals.{digits_of}
use Rattle.std.proofs.Common.{Option, Some, None, leb, zero-add}
use Rattle.std.specs.Option.{option_map, unwrap_or}
use Rattle.octets.specs.Room.{fits, front}
use Rattle.octets.specs.Pages.{Page, fresh, added, text_for}
use Rattle.octets.proofs.Pages.{text_goes}
use Rattle.octets.proofs.Digits.{digits-ten, digits-within}
use Rattle.ascending.proofs.Weights.{weight}
use Rattle.names.specs.Names.{name_limit, user_id_length}
use Rattle.channel.specs.declared.Member.{Member}
use Rattle.channel.specs.Limits.{member_limit, key_limit}
use Rattle.channel.specs.Modes.{letters, key_mode, limit_mode, has_mode}
use Rattle.channel.specs.Channel.{Channel}
use Rattle.telling.specs.Telling.{letters_from, modes_text, list_text, params_of, described, description_limit, described_in}
use Rattle.telling.specs.Private.Pieces.{lead_text}
use Rattle.telling.proofs.Lengths.{takes, entry-few, list_length}

-- ---- the pieces, by whether key and limit are there
spaced : (a b : Bool) (t n m k l s : List ℕ)
    → (space ∷ t) ++ (space ∷ n) ++ (space ∷ m) ++ cond a (space ∷ k) [] ++ cond b (space ∷ l) [] ++ (space ∷ []) ++ s
    ≡ space ∷ separated space ((t ∷ n ∷ m ∷ []) ++ cond a (k ∷ []) [] ++ cond b (l ∷ []) [] ++ (s ∷ []))
unfolding separated prefixed
spaced true true t n m k l s = simp (append_assoc, append-nil)
spaced true false t n m k l s = simp (append_assoc, append-nil)
spaced false true t n m k l s = simp (append_assoc, append-nil)
spaced false false t n m k l s = simp (append_assoc, append-nil)

-- The text is its pieces one behind the other.
pub described_text : (c : Channel) → described c ≡ lead_text c ++ (space ∷ []) ++ list_text c.members
unfolding described params_of lead_text
described_text c =
    let s = c.settings in
    sym (ap (λ (l : List ℕ). drop 1 l) (spaced (has_mode s.modes key_mode) (has_mode s.modes limit_mode) (digits_of c.time) c.name (modes_text s.modes) s.key (digits_of s.limit) (list_text c.members)))

-- ---- how long they are
letters-few : (k : ℕ) (s : List ℕ) (modes : ℕ) → length (letters_from k s modes) ≤ length s
unfolding letters_from
letters-few k [] modes = omega arith
letters-few k (x ∷ s) modes = go (has_mode modes k) (letters-few (suc k) s modes)
  where
    go : (t : Bool) → length (letters_from (suc k) s modes) ≤ length s → length (cond t (x ∷ letters_from (suc k) s modes) (letters_from (suc k) s modes)) ≤ suc (length s)
    go true h = omega arith
    go false h = omega arith

cond-few : (t : Bool) (s : List ℕ) → length (cond t s []) ≤ length s
cond-few true s = omega arith
cond-few false s = omega arith

lead-few : (c : Channel) → length (lead_text c) ≤ 13 + length (digits_of c.time) + length c.name + length c.settings.key + length (digits_of c.settings.limit)
unfolding lead_text
lead-few c =
    let s = c.settings in
    let timed : List ℕ = digits_of c.time in
    let named : List ℕ = timed ++ (space ∷ c.name) in
    let lettered : List ℕ = named ++ (space ∷ modes_text s.modes) in
    let key : List ℕ = cond (has_mode s.modes key_mode) (space ∷ s.key) [] in
    let limit : List ℕ = cond (has_mode s.modes limit_mode) (space ∷ digits_of s.limit) [] in
    omega (
      arith,
      length-append timed (space ∷ c.name),
      length-append named (space ∷ modes_text s.modes),
      length-append lettered key,
      length-append (lettered ++ key) limit,
      letters-few 0 letters s.modes,
      cond-few (has_mode s.modes key_mode) (space ∷ s.key),
      cond-few (has_mode s.modes limit_mode) (space ∷ digits_of s.limit),
    )

-- every id has its nine bytes
abbrev pub Whole : List Member → Type 0
Whole l = (k : ℕ) (d : Member) → k < length l → length (get_or l k d).id ≡ user_id_length

-- Those in use have whole ids too.
pub whole_take : (n : ℕ) (l : List Member) → Whole l → Whole (take n l)
whole_take n l h k d lt = rw (get_or-take n l k d (omega (arith, length-take n l))) (h k d (omega (arith, length-take n l)))

entries-few : (l : List Member) → Whole l → weight takes l ≤ 12 * length l
entries-few [] h = omega arith
entries-few (m ∷ l) h = omega (arith, entry-few m, h 0 m (omega arith), entries-few l (λ k d lt. h (suc k) d (omega arith)))

-- there is no SPACE before the first entry
list-few : (l : List Member) → length l ≤ member_limit → Whole l → length (list_text l) < 12 * member_limit
list-few [] few h = omega (arith, ap (λ (s : List ℕ). length s) (separated-end space 0))
list-few (m ∷ l) few h = omega (arith, list_length (m ∷ l) (omega arith), entries-few (m ∷ l) h)

-- ---- so there is room
module _ (c : Channel) (time : c.time < 2 ^ 32) (name : length c.name ≤ name_limit) (key : length c.settings.key ≤ key_limit) (limit : c.settings.limit < 2 ^ 16) where
  -- The text is never longer than its limit.
  pub described-few : length c.members ≤ member_limit → Whole c.members → length (described c) ≤ description_limit
  described-few few whole =
      let lead = lead_text c in
      let list = list_text c.members in
      omega (
        arith,
        ap (λ (l : List ℕ). length l) (described_text c),
        length-append (lead ++ (space ∷ [])) list,
        length-append lead (space ∷ []),
        lead-few c,
        list-few c.members few whole,
        digits-ten c.time time,
        digits-within c.settings.limit 4 (omega arith),
      )

-- ---- what is put into lent room
module _ (out : List ℕ) (c : Channel) where
  -- Where it has no room, nothing is put.
  pub described-none : length out < length (described c) → described_in out c ≡ []
  unfolding described_in
  described-none h = rw (lt-leb (0 + length (described c)) (length out) (omega arith))

  -- Where it has room, all of it is put.
  pub described-all : length (described c) ≤ length out → described_in out c ≡ described c
  unfolding described_in
  described-all h = rw (le-leb (0 + length (described c)) (length out) (omega arith))

-- Where it has room, all of it is put, and else nothing, if the room that it is put together in has room for it.
pub described_goes : (out : List ℕ) (c : Channel) (n : ℕ) → length (described c) ≤ n → (g : Page) → g ≡ added (fresh n) (described c)
    → (o : Option ℕ) → o ≡ option_map length (text_for out g) → (next : List ℕ) → next ≡ front (unwrap_or (text_for out g) []) out
    → (unwrap_or o 0 ≡ length (described_in out c)) × (next ≡ front (described_in out c) out)
unfolding described_in
described_goes out c n h g e o f next k =
    let w : List ℕ = described c in
    let whole : text_for out g ≡ cond (leb (length w) (length out)) (Some w) None = ap (text_for out) e ∙ text_goes n w out ∙ rw (le-leb (length w) n h) in
    let fit : fits out 0 w ≡ leb (length w) (length out) = rw (zero-add (length w)) in
    rw (f, k, whole, fit) (go (leb (length w) (length out)))
  where
    go : (t : Bool) → (unwrap_or (option_map length (cond t (Some (described c)) None)) 0 ≡ length (cond t (described c) [])) × (front (unwrap_or (cond t (Some (described c)) None) []) out ≡ front (cond t (described c) []) out)
    go true = (refl, refl)
    go false = (refl, refl)
