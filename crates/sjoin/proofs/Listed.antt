-- Laws of a member list: an entry is as long as its id, so a line's list names no more members than a record has room for; and what is known of a list that is
-- read word by word. Assumes nothing.
use Prim.Native.Nat.{ℕ, zero, suc, ◌+◌, ◌*◌, ◌≤◌, ◌<◌}
use mathlib.Core.Path.{◌≡◌, refl, sym, ap, ◌∙◌}
use mathlib.Core.Bool.{Bool, true, false, not, cond, ◌&&◌, and-false}
use mathlib.Core.List.{List, [], ◌∷◌, ◌++◌, map}
use native.Mathlib.Omega.{arith}
use lib.ListN.{length, take, drop, length-drop, length-map}
use lib.Seq.{take_all}
use lib.Bits.{bit_or}
use lib.Dec.{eqb, ltb}
use borrow.Author.Tests.{ne_eqb, lt-ltb, le-leb, leb-true}
use Rattle.std.specs.Prelude.{Some, None}
use Rattle.std.specs.Bool.{then_some}
use Rattle.laws.specs.Lists.{all, is_nil, starts_with}
use Rattle.laws.proofs.Bools.{and_right}
use Rattle.laws.proofs.Lists.{drop-next, take_next, nil-length, all-imp}
use Rattle.names.specs.Names.{user_id_length, is_user_id}
use Rattle.names.proofs.UserIds.{user-length}
use Rattle.channel.specs.declared.Member.{Member}
use Rattle.channel.specs.declared.Roster.{Roster}
use Rattle.channel.specs.Limits.{member_limit}
use Rattle.channel.specs.Members.{roster, pushed}
use Rattle.channel.proofs.Gathering.{pushed-roster}
use Rattle.message.specs.Grammar.{line_limit}
use Rattle.message.specs.Words.{words_of}
use Rattle.message.proofs.Sizes.{room, long, words-room, words-few}
use Rattle.channel.specs.Modes.{plus}
use Rattle.channel.specs.Channel.{voice, operator, at_sign}
use Rattle.sjoin.specs.Entries.{past, id_of, status_of, is_entry, member_of, good_entries, named}
use Rattle.sjoin.specs.Private.Parts.{entry_in, entries_in}

-- ---- an entry
entry-long : (e : List ℕ) → is_entry e ≡ true → length (id_of e) ≡ user_id_length
unfolding is_entry
entry-long e h = user-length (id_of e) h

-- what has an id of another length is no entry
pub entry-none : (e : List ℕ) → (length (id_of e) ≡ user_id_length → ⊥) → is_entry e ≡ false
entry-none e ne = go (is_entry e) refl
  where
    go : (t : Bool) → is_entry e ≡ t → is_entry e ≡ false
    go true h = absurd (ne (entry-long e h))
    go false h = h

past-short : (mark : ℕ) (s : List ℕ) → length (past mark s) ≤ length s
unfolding past
past-short mark s = go (starts_with mark s) refl
  where
    go : (t : Bool) → starts_with mark s ≡ t → length (past mark s) ≤ length s
    go true e = rw e (omega (arith, length-drop 1 s))
    go false e = rw e (omega arith)

entry-takes : (e : List ℕ) → is_entry e ≡ true → long user_id_length e ≡ true
unfolding id_of
entry-takes e h = le-leb user_id_length (length e) (omega (arith, entry-long e h, past-short plus (past at_sign e), past-short at_sign e))

-- its status has the bits of both marks
pub status_by : (t u : Bool) → bit_or (cond t operator 0) (cond u voice 0) ≡ cond t operator 0 + cond u voice 0
status_by true true = refl
status_by true false = refl
status_by false true = refl
status_by false false = refl

-- ---- the list
-- every word of a good list is an entry
pub list-entries : (list : List ℕ) → good_entries list ≡ true → all is_entry (words_of list) ≡ true
unfolding good_entries
list-entries list h = and_right (not (is_nil (words_of list))) (all is_entry (words_of list)) h

-- A good list that is no longer than a line names no more members than a record has room for.
pub list-room : (list : List ℕ) → good_entries list ≡ true → length list ≤ line_limit → length (words_of list) ≤ member_limit
list-room list h k =
    let n = words-few user_id_length list (all-imp is_entry (long user_id_length) entry-takes (words_of list) (list-entries list h)) in
    omega (arith, n)

-- ---- read word by word
-- what a word names where it is an entry, and that it names nothing where it isn't
pub entry-named : (word : List ℕ) (m : Member) → Some m ≡ entry_in word → (is_entry word ≡ true) × (m ≡ member_of word)
unfolding entry_in
entry-named word m e = go (is_entry word) refl
  where
    go : (t : Bool) → is_entry word ≡ t → (is_entry word ≡ true) × (m ≡ member_of word)
    go true h = let f : Some m ≡ Some (member_of word) = e ∙ rw h in (h, cc)
    go false h = let f : Some m ≡ None = e ∙ rw h in let z : ◌≡◌ {A = ℕ} 0 1 = cc in absurd (omega arith)

pub entry-odd : (word : List ℕ) → None ≡ entry_in word → is_entry word ≡ false
unfolding entry_in
entry-odd word e = go (is_entry word) refl
  where
    go : (t : Bool) → is_entry word ≡ t → is_entry word ≡ false
    go true h = let f : None ≡ Some (member_of word) = e ∙ rw h in let z : ◌≡◌ {A = ℕ} 0 1 = cc in absurd (omega arith)
    go false h = h

-- an id of another length names nothing
pub entry-unheld : (word bytes : List ℕ) → bytes ≡ id_of word → (length bytes ≡ user_id_length → ⊥) → None ≡ entry_in word
unfolding entry_in
entry-unheld word bytes is ne = rw (entry-none word (λ e. ne (ap (λ (s : List ℕ). length s) is ∙ e)))

-- and one that is held names its member where it is a user id
pub entry-held : (word id : List ℕ) (status : ℕ) → id ≡ id_of word → status ≡ status_of word → then_some (is_user_id id) (record { id = id; status = status }) ≡ entry_in word
unfolding entry_in is_entry member_of
entry-held word id status is bits = rw (is, bits) (go (is_user_id (id_of word)))
  where
    go : (t : Bool) → then_some t (record { id = id_of word; status = status_of word }) ≡ cond t (Some (member_of word)) None
    go true = refl
    go false = refl

-- The words before those that are left are entries, and their members are gathered.
pub record Gathered (list : List ℕ) (left : List (List ℕ)) (members : Roster) : Type 0 where
  pub entries : all is_entry left ≡ all is_entry (words_of list)
  pub others : map member_of left ≡ drop members.count (named list)
  pub is : members ≡ roster (take members.count (named list))
  pub takes : suc user_id_length * members.count + room left ≤ suc (length list)

-- where all are left none is gathered
pub gathered-first : (list : List ℕ) (left : List (List ℕ)) (members : Roster) → left ≡ words_of list → members ≡ roster [] → Gathered list left members
unfolding roster
gathered-first list left members f e =
    let n : members.count ≡ 0 = ap (λ (r : Roster). r.count) e in
    let z : take members.count (named list) ≡ [] = rw n in
    record { entries = ap (all is_entry) f; others = rw (n, f); is = e ∙ sym (ap roster z); takes = rw (n, f) (omega (arith, words-room list)) }

module _ (list word : List ℕ) (left rest : List (List ℕ)) (members : Roster) (next : left ≡ word ∷ rest) (gathered : Gathered list left members) where
  g : Gathered list (word ∷ rest) members
  g = rw next at gathered

  -- a word that is no entry
  pub gathered-odd : None ≡ entry_in word → None ≡ entries_in list
  unfolding entries_in good_entries all
  gathered-odd e = rw (sym g.entries, entry-odd word e, and-false (not (is_nil (words_of list))))

  -- one that is an entry
  module _ (m : Member) (e : Some m ≡ entry_in word) where
    good : is_entry word ≡ true
    good = (entry-named word m e).0

    taken : suc user_id_length * suc members.count + room rest ≤ suc (length list)
    taken = omega (arith, g.takes, leb-true user_id_length (length word) (entry-takes word good))

    -- there is room for its member
    pub gathered-room : length list ≤ line_limit → members.count < member_limit
    gathered-room h = omega (arith, taken, h)

    -- with its member gathered too, the words behind it are left
    pub gathered-next : Gathered list rest (pushed members m)
    unfolding all
    gathered-next =
        let d : drop members.count (named list) ≡ member_of word ∷ map member_of rest = sym g.others in
        let t : take (members.count + 1) (named list) ≡ take members.count (named list) ++ (m ∷ []) =
        take_next (named list) members.count _ _ d ∙ ap (λ (x : Member). take members.count (named list) ++ (x ∷ [])) (sym (entry-named word m e).1) in
        record {
          entries = sym (sym g.entries ∙ rw good);
          others = sym (drop-next (named list) members.count _ _ d);
          is = rw t (ap (λ (r : Roster). pushed r m) g.is ∙ pushed-roster (take members.count (named list)) m);
          takes = omega (arith, taken);
        }

-- where none is left all are gathered, and the list is good exactly if that is one or more
pub gathered-all : (list : List ℕ) (left : List (List ℕ)) (members : Roster) → left ≡ [] → Gathered list left members → then_some (ltb 0 members.count) members ≡ entries_in list
unfolding entries_in good_entries all roster
gathered-all list left members none gathered =
    let g : Gathered list [] members = rw none at gathered in
    let every : take members.count (named list) ≡ named list =
    take_all members.count (named list) (omega (arith, length-drop members.count (named list), ap (λ (l : List Member). length l) (sym g.others))) in
    let whole : members ≡ roster (named list) = g.is ∙ ap roster every in
    let n : members.count ≡ length (words_of list) = ap (λ (r : Roster). r.count) whole ∙ length-map (words_of list) member_of in
    sym (rw (sym g.entries, nil-length (words_of list), ← n) (go members.count whole))
  where
    go : (k : ℕ) → members ≡ roster (named list) → cond (not (eqb k 0) && true) (Some (roster (named list))) None ≡ then_some (ltb 0 k) members
    go zero e = refl
    go (suc k) e = rw (lt-ltb 0 (suc k) (omega arith), ne_eqb (suc k) 0 (λ z. omega arith)) (ap Some (sym e))

-- ---- by the answer
-- a list that names members is good, and one that names none isn't
pub entries-named : (list : List ℕ) (r : Roster) → Some r ≡ entries_in list → (good_entries list ≡ true) × (r ≡ roster (named list))
unfolding entries_in
entries-named list r e = go (good_entries list) refl
  where
    go : (t : Bool) → good_entries list ≡ t → (good_entries list ≡ true) × (r ≡ roster (named list))
    go true h = let f : Some r ≡ Some (roster (named list)) = e ∙ rw h in (h, cc)
    go false h = let f : Some r ≡ None = e ∙ rw h in let z : ◌≡◌ {A = ℕ} 0 1 = cc in absurd (omega arith)

pub entries-odd : (list : List ℕ) → None ≡ entries_in list → good_entries list ≡ false
unfolding entries_in
entries-odd list e = go (good_entries list) refl
  where
    go : (t : Bool) → good_entries list ≡ t → good_entries list ≡ false
    go true h = let f : None ≡ Some (roster (named list)) = e ∙ rw h in let z : ◌≡◌ {A = ℕ} 0 1 = cc in absurd (omega arith)
    go false h = h
