-- The user whom a PART or a QUIT is from: its prefix, where it is a user id. Assumes nothing.
use mathlib.Core.Path.{◌≡◌, ap, ◌∙◌}
use mathlib.Core.Bool.{Bool, true}
use mathlib.Core.List.{List}
use Prim.Native.Nat.{ℕ}
use Rattle.laws.specs.Lists.{padded}
use Rattle.laws.proofs.Lists.{padded-whole}
use Rattle.names.specs.Names.{user_id_length, is_user_id}
use Rattle.names.proofs.UserIds.{no-user-id, user-length}
use Rattle.message.specs.Content.{Content, prefix_is, source_in}
use Rattle.message.proofs.Prefixes.{prefix-told, prefix-there}

module _ (c : Content) (bytes : List ℕ) (is : bytes ≡ source_in c) where
  -- what is told of the bytes holds of the prefix
  pub user-told : (r t : Bool) → r ≡ is_user_id bytes → r ≡ t → prefix_is is_user_id c.prefix ≡ t
  user-told r t f g = prefix-told is_user_id no-user-id c.prefix bytes r t is f g

  -- a user id fills the room for one
  pub user-held : prefix_is is_user_id c.prefix ≡ true → (id : List ℕ) → id ≡ padded user_id_length 0 bytes → id ≡ source_in c
  user-held u id e = e ∙ ap (padded user_id_length 0) is ∙ padded-whole 0 user_id_length (source_in c) (user-length (source_in c) (prefix-there is_user_id c.prefix u).1)
