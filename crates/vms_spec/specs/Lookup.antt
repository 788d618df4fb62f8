-- The numbers and bytes at an offset of an input, and what a set has under a name.
use Rattle.std.specs.Prelude.{ℕ, Bool, true, false, not, ◌&&◌, ◌==◌, nat_lt, List, take, drop, Option, Some, None}
use Rattle.std.specs.Str.{bytes_eq}
use Rattle.byteorder.specs.Endian.{big_number}
use Rattle.vms_kinds.specs.declared.Kind.{Kind}
use Rattle.vms_kinds.specs.declared.Kind.TheVariants.{U8, Bool as Truth}
use Rattle.vms_spec.specs.Lists.{position}
pub use Rattle.vms_spec.specs.Numbers.{same_number, exceeds}
use Rattle.vms_spec.specs.Sets.{Sub, Device}

-- the big-endian number of n bytes from byte i on
abbrev pub number_at : ℕ → ℕ → List ℕ → ℕ
number_at n i rest = big_number n (drop i rest)

-- the n bytes from byte i on
abbrev pub bytes_at : ℕ → ℕ → List ℕ → List ℕ
bytes_at n i rest = take n (drop i rest)

-- the number of the device of this name and instance, if the first of the list has number k
abbrev pub find_device : ℕ → List Device → List ℕ → ℕ → Option ℕ
find_device k devices name instance = position (λ (d : Device). bytes_eq d.desc.name name && d.instance == instance) k devices

-- the number of the subsection of this name, if the first of the list has number k
abbrev pub find_sub : ℕ → List Sub → List ℕ → Option ℕ
find_sub k subs name = position (λ (s : Sub). bytes_eq s.desc.name name) k subs

-- the number of the first device that has not come, if the first of the list has number k
abbrev pub first_missing : ℕ → List Bool → Option ℕ
first_missing k came = position not k came

-- the bytes are a bool's, and the byte is neither 0 nor 1
abbrev pub is_bad_bool : Kind → List ℕ → Bool
is_bad_bool Truth bytes = nat_lt 1 (big_number 1 bytes)
is_bad_bool _ bytes = false

-- the kind of the same bytes in which any byte is a number: U8 for a bool
abbrev pub raw : Kind → Kind
raw Truth = U8
raw kind = kind

-- the number of an option, or 0 if there is none
abbrev pub index : Option ℕ → ℕ
index None = 0
index (Some k) = k

-- a subsection came
abbrev pub did_come : Option ℕ → Bool
did_come None = false
did_come (Some v) = true
