-- The names in a set of names, and lists of names that are new to it.
use Rattle.std.specs.Prelude.{ℕ, ◌+◌, ◌*◌, ◌%◌, ◌^◌, Bool, true, not, ◌&&◌, ◌||◌, List, [], ◌∷◌}
use Rattle.std.specs.BTreeSet.{BTreeSet, contains_by}
use Rattle.std.specs.declared.cmp.Ordering.{Ordering}
use Rattle.std.specs.Ordering.{nat_cmp, ordering_then}
use Rattle.std.specs.Cmp.Lexicographic.{slice_cmp}
use Rattle.std.specs.Str.{bytes_eq}
use denote.Ref.{Bor}

-- a number of 32 bits from all bytes of a name, by which most names of a description differ
unfoldable pub key : List ℕ → ℕ
key [] = 0
key (byte ∷ bytes) = (byte + 31 * key bytes) % 2 ^ 32

-- the order of names in a set: first by their keys
abbrev pub by_key : ℕ × List ℕ → ℕ × List ℕ → Ordering
by_key x y = ordering_then (nat_cmp x.0 y.0) (slice_cmp nat_cmp x.1 y.1)

-- the set has this name
abbrev pub has_name : BTreeSet (ℕ × Bor (List ℕ)) → List ℕ → Bool
has_name names name = contains_by (λ n. by_key (key name, name) (n.0, n.1.now)) names

-- the names of a set and one more
abbrev pub with_name : (List ℕ → Bool) → List ℕ → List ℕ → Bool
with_name had name n = bytes_eq name n || had n

-- the names are distinct, and none of them is in the set
abbrev pub are_new_to : (List ℕ → Bool) → List (List ℕ) → Bool
are_new_to had [] = true
are_new_to had (n ∷ names) = not (had n) && are_new_to (with_name had n) names
