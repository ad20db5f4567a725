-- Lists of entries that ascend by their keys, each key once: members of a channel, and whatever else is kept so. An entry has a key, a byte
-- list, and a load; where a key comes a second time, the two loads are joined.
use Rattle.std.specs.Prelude.{ℕ, Bool, true, ◌&&◌, List, [], ◌∷◌}
use Rattle.std.specs.declared.cmp.Ordering.{Ordering}
use Rattle.std.specs.declared.cmp.Ordering.TheVariants.{Less, Equal, Greater}
use Rattle.octets.specs.Order.{compare, is_less}

-- What an entry is made of.
pub record Kind (E P : Type 0) : Type 0 where
  pub key : E → List ℕ
  pub load : E → P
  pub make : List ℕ → P → E
  pub join : P → P → P

module _ {E P : Type 0} (K : Kind E P) where
  -- e before d, joined with d, or behind it among the others, by how e's key stands to d's; `others` is what e makes of those
  unfoldable pub insert : Ordering → E → E → List E → List E → List E
  insert Less e d l others = e ∷ d ∷ l
  insert Equal e d l others = K.make (K.key d) (K.join (K.load e) (K.load d)) ∷ l
  insert Greater e d l others = d ∷ others

  -- an entry put in its place
  unfoldable pub put : E → List E → List E
  put e [] = e ∷ []
  put e (d ∷ l) = insert (compare (K.key e) (K.key d)) e d l (put e l)

  -- the entries of b put into a, one after the other
  unfoldable pub unite : List E → List E → List E
  unite a [] = a
  unite a (e ∷ b) = unite (put e a) b

  -- ---- two lists in one pass over both, the smaller of the two first entries coming next, or both as one; it is their union where the second ascends
  -- what comes next, by how x's key stands to y's; the three lists are what is made of the rest where x is used up, where both are, and where y is
  unfoldable pub taken : Ordering → E → E → List E → List E → List E → List E
  taken Less x y first both second = x ∷ first
  taken Equal x y first both second = K.make (K.key x) (K.join (K.load y) (K.load x)) ∷ both
  taken Greater x y first both second = y ∷ second

  -- x, and what follows it, against the second list; `others` is what those that follow it make of what is left of that
  unfoldable pub against : E → (List E → List E) → List E → List E
  against x others [] = x ∷ others []
  against x others (y ∷ b) = taken (compare (K.key x) (K.key y)) x y (others (y ∷ b)) (others b) (against x others b)

  unfoldable pub one_pass : List E → List E → List E
  one_pass [] b = b
  one_pass (x ∷ a) b = against x (one_pass a) b

  abbrev pub precedes : E → List E → Bool
  precedes e [] = true
  precedes e (d ∷ l) = is_less (compare (K.key e) (K.key d))

  -- each key is smaller than the next one
  unfoldable pub ascends : List E → Bool
  ascends [] = true
  ascends (e ∷ l) = precedes e l && ascends l
