-- A name among others.
use Rattle.std.specs.Prelude.{◌≡◌, ℕ, ◌<◌, true, false, List, [], length, get_or, Option, Some, None}
use Rattle.std.specs.Str.{bytes_eq}
use Rattle.vms_spec.specs.Lists.{position}
use Rattle.vms_spec.specs.Streams.{is_one_of}

-- the number of the first of these names that is this one, if there is one
abbrev pub first_named : List (List ℕ) → List ℕ → Option ℕ
first_named names name = position (λ (known : List ℕ). bytes_eq known name) 0 names

-- there is a name at this number, and it is this one; if there is no number, no name is
abbrev pub IsNameAt : List (List ℕ) → List ℕ → Option ℕ → Type 0
IsNameAt names name None = is_one_of names name ≡ false
IsNameAt names name (Some k) = (is_one_of names name ≡ true) × (k < length names) × (get_or names k [] ≡ name)
