-- What is known of a line that no rule refuses: each test is passed, and key and limit fit their letters. Assumes nothing.
use Prim.Native.Nat.{ℕ, suc, ◌≤◌}
use mathlib.Core.Path.{◌≡◌, refl, sym, ap, ◌∙◌}
use mathlib.Core.Bool.{Bool, true, false, true≢false, ◌&&◌}
use mathlib.Core.Logic.{◌⊎◌, inl, inr}
use mathlib.Core.List.{List, [], ◌∷◌}
use native.Mathlib.Omega.{arith}
use lib.ListN.{length}
use lib.Dec.{eqb}
use borrow.Author.Tests.{not-false, eqb-true}
use Rattle.std.specs.Prelude.{unwrap_or}
use Rattle.refusal.specs.Numbers.{accepted}
use Rattle.refusal.specs.Rules.{first_of}
use Rattle.refusal.proofs.Rules.{first-none, both-none}
use Rattle.laws.specs.Lists.{all, same}
use Rattle.octets.specs.Decimals.{zero_digit, is_decimal, value_from, value_of}
use Rattle.laws.proofs.Bools.{and_left, and_right}
use Rattle.names.specs.Names.{is_channel, is_server_id}
use Rattle.channel.specs.Limits.{key_limit}
use Rattle.channel.specs.Modes.{place_among}
use Rattle.channel.proofs.Keys.{key-length}
use Rattle.message.specs.Content.{Content, prefix_is}
use Rattle.sjoin.specs.Modes.{key_letter, limit_letter, letters_of, lacks, has_parameter, parametered, is_limit, good_letters, good_argument, good_arguments, argument_among, argument_of, is_modes}
use Rattle.sjoin.specs.Entries.{good_entries}
use Rattle.sjoin.specs.Join.{time_in, name_in, modes_in, list_in, arguments_in, good_count, is_time, head_rules, mode_rules, join_rules}
use Rattle.sjoin.specs.Private.Parts.{limit_in}
use Rattle.sjoin.proofs.Faults.{good-modes, mode-none}
use Rattle.sjoin.proofs.Judged.{modes-numbered, heads}

-- ---- each test is passed
-- What the rules test of a line, each passed.
pub record Passes (c : Content) : Type 0 where
  pub count : good_count c ≡ true
  pub source : prefix_is is_server_id c.prefix ≡ true
  pub time : is_time (time_in c) ≡ true
  pub after : same (time_in c) (zero_digit ∷ []) ≡ false
  pub name : is_channel (name_in c) ≡ true
  pub modes : is_modes (modes_in c) (arguments_in c) ≡ true
  pub list : good_entries (list_in c) ≡ true

-- A line that no rule refuses passes each test.
pub passes : (c : Content) → first_of (join_rules c) ≡ accepted → Passes c
unfolding join_rules
passes c e =
    let a = first-none _ _ (λ z. omega arith) e in
    let b = first-none _ _ (λ z. omega arith) a.1 in
    let d = both-none _ (head_rules c) refl b.1 in
    let f = heads c d.0 in
    let g = both-none _ (mode_rules c) (modes-numbered c) d.1 in
    let h = first-none _ _ (λ z. omega arith) g.1 in
    record {
      count = not-false _ a.0;
      source = not-false _ b.0;
      time = f.time;
      after = f.after;
      name = f.name;
      modes = good-modes c (mode-none c g.0);
      list = not-false _ h.0;
    }

-- ---- a letter that is missing has no parameter, and one that is there a good one
-- a letter that is missing, with no parameter, or one that is there, with a good one
abbrev pub Suits : ℕ → List ℕ → List ℕ → Type 0
Suits letter s a = ((lacks letter s ≡ true) × (a ≡ [])) ⊎ ((lacks letter s ≡ false) × (good_argument letter a ≡ true))

module _ (letter : ℕ) (has : has_parameter letter ≡ true) where
  skip : (x : ℕ) (s args : List ℕ) → eqb x letter ≡ false → Suits letter s args → Suits letter (x ∷ s) args
  unfolding all
  skip x s a e (inl g) = inl (rw e g.0, g.1)
  skip x s a e (inr g) = inr (rw e g.0, g.1)

  other : (x : ℕ) → has_parameter x ≡ false → eqb x letter ≡ false
  other x e = go (eqb x letter) refl
    where
      go : (t : Bool) → eqb x letter ≡ t → eqb x letter ≡ false
      go true f = absurd (true≢false (sym has ∙ ap has_parameter (sym (eqb-true x letter f)) ∙ e))
      go false f = f

  suits : (s : List ℕ) (args : List (List ℕ)) → good_arguments (parametered s) args ≡ true → Suits letter s (argument_among letter s args)
  unfolding all parametered good_arguments place_among
  suits [] [] h = inl (refl, refl)
  suits [] (a ∷ args) h = absurd (true≢false (sym h))
  suits (x ∷ s) args h = go (has_parameter x) refl args h (λ l k. suits s l k)
    where
      found : (a : List ℕ) (args : List (List ℕ)) (t : Bool) → eqb x letter ≡ t → has_parameter x ≡ true → good_argument x a && good_arguments (parametered s) args ≡ true → Suits letter s (argument_among letter s args) → Suits letter (x ∷ s) (argument_among letter (x ∷ s) (a ∷ args))
      found a args true e f g ih = rw (f, e) (inr (refl, rw (sym (eqb-true x letter e)) (and_left (good_argument x a) (good_arguments (parametered s) args) g)))
      found a args false e f g ih = rw (f, e) ih

      go : (t : Bool) → has_parameter x ≡ t → (args : List (List ℕ)) → good_arguments (parametered (x ∷ s)) args ≡ true → ((l : List (List ℕ)) → good_arguments (parametered s) l ≡ true → Suits letter s (argument_among letter s l)) → Suits letter (x ∷ s) (argument_among letter (x ∷ s) args)
      go true e [] g rec = absurd (true≢false (sym (rw e at g)))
      go true e (a ∷ args) g rec = let k = rw e at g in found a args (eqb x letter) refl e k (rec args (and_right (good_argument x a) (good_arguments (parametered s) args) k))
      go false e args g rec = rw e (skip x s (argument_among letter s args) (other x e) (rec args (rw e at g)))

-- Of good modes a letter's parameter fits it: there is none where the letter is missing, and a good one where it is there.
pub argument-suits : (modes : List ℕ) (args : List (List ℕ)) (letter : ℕ) → has_parameter letter ≡ true → is_modes modes args ≡ true → Suits letter (letters_of modes) (argument_of letter modes args)
unfolding is_modes argument_of
argument-suits modes args letter has h = suits letter has (letters_of modes) args (and_right (good_letters modes) (good_arguments (parametered (letters_of modes)) args) h)

-- and there are as many as letters that have one
exact : (letters : List ℕ) (args : List (List ℕ)) → good_arguments letters args ≡ true → length letters ≡ length args
unfolding good_arguments
exact [] [] h = refl
exact [] (a ∷ args) h = absurd (true≢false (sym h))
exact (x ∷ s) [] h = absurd (true≢false (sym h))
exact (x ∷ s) (a ∷ args) h = ap suc (exact s args (and_right (good_argument x a) (good_arguments s args) h))

pub arguments-exact : (modes : List ℕ) (args : List (List ℕ)) → is_modes modes args ≡ true → length (parametered (letters_of modes)) ≡ length args
unfolding is_modes
arguments-exact modes args h = exact (parametered (letters_of modes)) args (and_right (good_letters modes) (good_arguments (parametered (letters_of modes)) args) h)

-- the key keeps to its room
pub key-short : (s k : List ℕ) → Suits key_letter s k → length k ≤ key_limit
unfolding good_argument
key-short s k (inl g) = rw g.1 (omega arith)
key-short s k (inr g) = key-length k g.1

-- the limit is the value of its text
pub limit-read : (s l : List ℕ) → Suits limit_letter s l → unwrap_or (limit_in l) 0 ≡ value_of l
unfolding good_argument limit_in is_limit is_decimal value_from
limit-read s l (inl g) = rw g.1
limit-read s l (inr g) = rw g.1
