-- Laws of the line that tells of a channel: its text piece by piece, as the functions put it together, and what each rule makes of it. Assumes nothing.
use Prim.Native.Nat.{ℕ, ◌+◌, ◌≤◌, ◌<◌}
use mathlib.Core.Path.{◌≡◌, refl, sym, ap, ◌∙◌}
use mathlib.Core.Bool.{Bool, true, false, cond}
use mathlib.Core.List.{List, [], ◌∷◌, ◌++◌, append_assoc, map}
use native.Mathlib.Numerals.{add-one}
use native.Mathlib.Omega.{arith}
use lib.ListN.{length, take, drop, get_or, drop_of_length-le, length-append, length-take}
use lib.Seq.{append_snoc, get_or-take}
use lib.Dec.{ltb}
use borrow.Author.Tests.{lt-ltb, le-ltb}
use Rattle.refusal.specs.Numbers.{accepted, output_too_short, no_room}
use Rattle.refusal.specs.Rules.{first_of, ascend_from, ascend, place_in}
use Rattle.refusal.proofs.Rules.{skip, stop, first-nil}
use Rattle.octets.specs.Bytes.{space, colon}
use Rattle.octets.specs.Decimals.{digits_of}
use Rattle.laws.proofs.Lists.{drop-step}
use Rattle.laws.proofs.Texts.{separated_from, separated-step, separated-end}
use Rattle.channel.specs.declared.Member.{Member}
use Rattle.channel.specs.Modes.{key_mode, limit_mode, has_mode}
use Rattle.channel.specs.Channel.{Channel}
use Rattle.message.specs.Grammar.{line_limit}
use Rattle.message.specs.Reading.{crlf}
use Rattle.writer.specs.Form.{takes_colon, written_param, written_params, written}
use Rattle.writer.proofs.Parts.{colon-then, written-before, written_last, written-sourced}
use Rattle.telling.specs.Telling.{letters_from, modes_text, entry_of, list_text, params_of, sjoin, join_message, tell_rules}
use Rattle.telling.specs.Private.Pieces.{list_place, lead_text}

-- ---- the letters, one by one
-- The letter at a place is told if the byte has its mode, and those behind it follow.
module _ (s : List ℕ) (k modes : ℕ) (h : k < length s) where
  pub letters-told : has_mode modes k ≡ true → letters_from k (drop k s) modes ≡ (get_or s k 0 ∷ []) ++ letters_from (k + 1) (drop (k + 1) s) modes
  unfolding letters_from
  letters-told e = rw (drop-step s k 0 h, e) (rw add-one)

  pub letters-untold : has_mode modes k ≡ false → letters_from k (drop k s) modes ≡ letters_from (k + 1) (drop (k + 1) s) modes
  unfolding letters_from
  letters-untold e = rw (drop-step s k 0 h, e) (rw add-one)

-- Behind the last letter none is told.
pub letters-past : (s : List ℕ) (k modes : ℕ) → length s ≤ k → letters_from k (drop k s) modes ≡ []
unfolding letters_from
letters-past s k modes h = rw (drop_of_length-le s {i = k} h)

-- ---- the entries, one by one
-- the text of those from place k on, with the SPACEs before them
abbrev pub entries_from : ℕ → List Member → List ℕ
entries_from k l = separated_from space k (map entry_of l)

-- The entry at a place, behind a SPACE or the first of all, and those behind it.
pub entries-step : (l : List Member) (n k : ℕ) (d : Member) → k < n → k < length l
    → entries_from k (drop k (take n l)) ≡ cond (ltb 0 k) (space ∷ []) [] ++ entry_of (get_or l k d) ++ entries_from (k + 1) (drop (k + 1) (take n l))
entries-step l n k d h lt =
    rw (drop-step (take n l) k d (omega (arith, length-take n l)), get_or-take n l k d h) (separated-step space k (entry_of (get_or l k d)) (map entry_of (drop (k + 1) (take n l))))

-- Behind the last entry there is no text.
pub entries-past : (l : List Member) (k : ℕ) → length l ≤ k → entries_from k (drop k l) ≡ []
entries-past l k h = rw (drop_of_length-le l {i = k} h) (separated-end space k)

-- ---- the list as the last parameter
-- Where its text is longer than a line, so is the parameter.
pub list_over : (k : ℕ) (p : List ℕ) (n : ℕ) → n < length p → n < length (space ∷ written_param k true p)
list_over k p n h = omega (arith, ap (λ (l : List ℕ). length l) (colon-then k true p), length-append (cond (takes_colon k true p) (colon ∷ []) []) p)

-- ---- the parameters, by whether key and limit are there
params-text : (a b : Bool) (t n m k l s : List ℕ) → written_params 0 ((t ∷ n ∷ m ∷ []) ++ cond a (k ∷ []) [] ++ cond b (l ∷ []) [] ++ (s ∷ []))
    ≡ (space ∷ t) ++ (space ∷ n) ++ (space ∷ m) ++ cond a (space ∷ k) [] ++ cond b (space ∷ l) [] ++ (space ∷ written_param (3 + cond a 1 0 + cond b 1 0) true s)
params-text true true t n m k l s = simp (written-before, written_last, append_assoc)
params-text true false t n m k l s = simp (written-before, written_last, append_assoc)
params-text false true t n m k l s = simp (written-before, written_last, append_assoc)
params-text false false t n m k l s = simp (written-before, written_last, append_assoc)

-- ---- the whole line
-- The line is its pieces one behind the other.
pub join_text : (sid : List ℕ) (c : Channel)
    → written (join_message sid c) ≡ (colon ∷ sid) ++ (space ∷ sjoin ++ space ∷ []) ++ lead_text c ++ (space ∷ written_param (list_place c.settings.modes) true (list_text c.members)) ++ crlf
unfolding params_of lead_text list_place
join_text sid c =
    let s = c.settings in
    let head : List ℕ = (colon ∷ sid) ++ (space ∷ sjoin) in
    let last : List ℕ = space ∷ written_param (list_place s.modes) true (list_text c.members) in
    let p : written_params 0 (params_of c) ≡ (space ∷ lead_text c) ++ last =
    params-text (has_mode s.modes key_mode) (has_mode s.modes limit_mode) (digits_of c.time) c.name (modes_text s.modes) s.key (digits_of s.limit) (list_text c.members) in
    let led : head ++ (space ∷ lead_text c) ≡ (colon ∷ sid) ++ (space ∷ sjoin ++ space ∷ []) ++ lead_text c =
    sym (append_snoc head space (lead_text c)) ∙ ap (λ (l : List ℕ). l ++ lead_text c) (append_assoc (colon ∷ sid) (space ∷ sjoin) (space ∷ [])) in
    written-sourced sid sjoin (params_of c) ∙ ap (λ (l : List ℕ). head ++ l ++ crlf) p ∙ ap (λ (l : List ℕ). l ++ crlf) (sym (append_assoc head (space ∷ lead_text c) last)) ∙ ap (λ (l : List ℕ). l ++ last ++ crlf) led

-- Where the list is longer than some room, so is the line.
pub join_over : (sid : List ℕ) (c : Channel) (n : ℕ) → n < length (list_text c.members) → n < length (written (join_message sid c))
join_over sid c n h =
    let k = list_place c.settings.modes in
    let p = list_text c.members in
    let head = (colon ∷ sid) ++ (space ∷ sjoin ++ space ∷ []) ++ lead_text c in
    omega (
      arith,
      ap (λ (l : List ℕ). length l) (join_text sid c),
      length-append (head ++ (space ∷ written_param k true p)) crlf,
      length-append head (space ∷ written_param k true p),
      list_over k p n h,
    )

-- ---- when it is written
module _ (sid : List ℕ) (c : Channel) (out : List ℕ) where
  -- The rules stand in the order of their numbers.
  pub tell-rules-ascend : ascend (tell_rules sid c out) ≡ true
  unfolding tell_rules ascend_from place_in
  tell-rules-ascend = refl

  -- An output shorter than a line is refused.
  pub tell-short : length out < line_limit → first_of (tell_rules sid c out) ≡ output_too_short
  unfolding tell_rules
  tell-short h = stop _ _ (lt-ltb (length out) line_limit h)

  module _ (room : line_limit ≤ length out) where
    -- A line that is too long has no room.
    pub tell-long : line_limit < length (written (join_message sid c)) → first_of (tell_rules sid c out) ≡ no_room
    unfolding tell_rules
    tell-long h = skip _ _ (le-ltb (length out) line_limit room) ∙ stop _ _ (lt-ltb line_limit (length (written (join_message sid c))) h)

    -- A line that is not too long is written.
    pub tell-accepts : length (written (join_message sid c)) ≤ line_limit → first_of (tell_rules sid c out) ≡ accepted
    unfolding tell_rules
    tell-accepts h = skip _ _ (le-ltb (length out) line_limit room) ∙ skip _ _ (le-ltb line_limit (length (written (join_message sid c))) h) ∙ first-nil
