-- The keys of an object.
use Rattle.std.specs.Prelude.{ℕ, Bool, true, false, ◌&&◌, ◌||◌, List, [], ◌∷◌, ◌++◌, is_some, Option, Some, None}
use Rattle.serde_json.specs.Data.{Data, Members, no_members, member}
use Rattle.serde_json.specs.Find.{get, get_member, as_object}
use Rattle.vms_spec.specs.Streams.{is_one_of}

-- an object has a member of this key
abbrev pub has : List ℕ → Data → Bool
has key d = is_some (get key d)

-- the members have one of two keys
abbrev pub has_one : List ℕ → List ℕ → Members → Bool
has_one key other ms = is_some (get_member key ms) || is_some (get_member other ms)

-- the members have no key but these
abbrev pub has_no_others : List (List ℕ) → Members → Bool
has_no_others keys no_members = true
has_no_others keys (member key d ms) = is_one_of keys key && has_no_others keys ms

-- an object has no key but these
abbrev pub is_listed : List (List ℕ) → Option Members → Bool
is_listed keys None = false
is_listed keys (Some ms) = has_no_others keys ms

-- an object has each of the keys
abbrev pub has_all : List (List ℕ) → Data → Bool
has_all [] d = true
has_all (key ∷ keys) d = has key d && has_all keys d

-- an object has each of the keys `needed`, and no others but those and the keys `allowed`
abbrev pub fits : List (List ℕ) → List (List ℕ) → Data → Bool
fits needed allowed d = is_listed (needed ++ allowed) (as_object d) && has_all needed d
