-- Sets of links as 32 bits: link i is bit i.
use Rattle.std.specs.Prelude.{ℕ, zero, suc, ◌^◌, Bool, true, not, cond, ◌&&◌, List, [], ◌∷◌, eqb, ltb}
use Rattle.std.specs.Int.Bits.{bit_or}
use Rattle.laws.specs.Bits.{has_bit}
use Rattle.links.specs.declared.Links.{Links}

-- how many links there can be
abbrev pub link_count : ℕ
link_count = 32

-- a number is a link's
abbrev pub is_link : ℕ → Bool
is_link link = ltb link link_count

-- a link is in a set; a number that is no link's is in none
abbrev pub has_link : ℕ → ℕ → Bool
has_link set link = is_link link && has_bit set link

abbrev pub links : ℕ → Links
links set = record { set = set }

abbrev pub no_links : Links
no_links = links 0

-- one more registered; a number that is no link's changes nothing
unfoldable pub with_link : Links → ℕ → Links
with_link l link = cond (is_link link) (links (bit_or l.set (2 ^ link))) l

-- the set of those numbers below n that pass a test
unfoldable pub set_below : ℕ → (ℕ → Bool) → ℕ
set_below zero test = 0
set_below (suc n) test = bit_or (set_below n test) (cond (test n) (2 ^ n) 0)

-- the set of the links that pass a test
abbrev pub set_where : (ℕ → Bool) → ℕ
set_where test = set_below link_count test

-- every link registered
unfoldable pub all_links : Links
all_links = links (set_where (λ k. true))

-- a set less one link: the links that are in it and aren't that one
unfoldable pub less_link : ℕ → ℕ → ℕ
less_link set link = set_where (λ k. has_bit set k && not (eqb k link))

-- one dropped
unfoldable pub without_link : Links → ℕ → Links
without_link l link = links (less_link l.set link)

-- the registered links without the source
unfoldable pub relay_set : Links → ℕ → ℕ
relay_set l source = less_link l.set source

-- those of n numbers from i on that are in the set
unfoldable pub links_from : ℕ → ℕ → ℕ → List ℕ
links_from i zero set = []
links_from i (suc n) set = cond (has_bit set i) (i ∷ links_from (suc i) n set) (links_from (suc i) n set)

-- the links in a set, ascending
abbrev pub links_in : ℕ → List ℕ
links_in set = links_from 0 link_count set
