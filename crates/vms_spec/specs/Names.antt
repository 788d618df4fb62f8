-- Names in a description set: their form, and that they are distinct (docs/format.md, "Which sets
-- are well formed", rules 1 and 2).
use Rattle.std.specs.Prelude.{ℕ, ◌+◌, Bool, true, not, ◌&&◌, ◌||◌, ◌==◌, nat_le, List, [], ◌∷◌, ◌++◌, length, take, drop}
use Rattle.std.specs.List.{list_all}
use Rattle.std.specs.Str.{bytes_eq}
use Rattle.vms_spec.specs.Sets.{Field}
use Rattle.vms_spec.specs.Streams.{is_one_of}

-- a digit, a letter, or one of `_`, `-` and `.`
abbrev pub is_name_byte : ℕ → Bool
is_name_byte b =
    (nat_le 48 b && nat_le b 57) || (nat_le 65 b && nat_le b 90) || (nat_le 97 b && nat_le b 122) || b == 95 || b == 45 || b == 46

-- `is_name n name`: the name has 1 to n bytes, each of them a name's byte
abbrev pub is_name : ℕ → List ℕ → Bool
is_name most name = nat_le 1 (length name) && nat_le (length name) most && list_all is_name_byte name

-- a subsection's full name: the device's name, a slash, and a tail of 1 to 64 bytes
abbrev pub is_sub_name : List ℕ → List ℕ → Bool
is_sub_name device name = bytes_eq (take (length device + 1) name) (device ++ 47 ∷ []) && is_name 64 (drop (length device + 1) name)

-- the names and former names of the fields
abbrev pub all_names : List Field → List (List ℕ)
all_names [] = []
all_names (f ∷ fs) = f.name ∷ (f.former ++ all_names fs)

-- `are_new earlier names`: the names are distinct, and none of them is among the earlier ones
abbrev pub are_new : List (List ℕ) → List (List ℕ) → Bool
are_new earlier [] = true
are_new earlier (n ∷ names) = not (is_one_of earlier n) && are_new (n ∷ earlier) names
