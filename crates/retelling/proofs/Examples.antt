-- A channel that is told: an instance that meets the premises of this crate's laws, with key, limit and a status. Assumes nothing.
use Prim.Native.Nat.{ℕ}
use mathlib.Core.Path.{refl}
use mathlib.Core.List.{List, [], ◌∷◌}
use Rattle.octets.specs.Bytes.{within, is_digit, is_id_byte}
use Rattle.laws.specs.Lists.{all}
use Rattle.names.specs.Names.{is_server_id}
use Rattle.channel.proofs.Witnesses.{second, second-in, proper}
use Rattle.retelling.specs.Retelling.{TellsBack}
use Rattle.retelling.proofs.Back.{told_back}

-- 1AB, which tells of it
abbrev sid : List ℕ
sid = 49 ∷ 65 ∷ 66 ∷ []

second_back : TellsBack sid second
unfolding is_server_id is_digit is_id_byte all within
second_back = told_back second (proper second second-in) sid refl
