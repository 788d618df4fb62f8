-- The places of the numbers of a state in one buffer of bytes, and the bytes there.
use Rattle.vms_spec.specs.declared.TheConstants.{MOST_ITEMS}
use Rattle.std.specs.Prelude.{◌≡◌, ℕ, zero, suc, ◌+◌, ◌-◌, ◌*◌, ◌/◌, ◌%◌, ◌<◌, ◌≤◌, List, [], ◌∷◌, ◌++◌, length, get_or, slice_set, map, replicate, take, drop, ℤ, pos}
use Rattle.std.specs.List.{flat_map}
use Rattle.vms_kinds.specs.declared.Kind.{Kind}
use Rattle.vms_kinds.specs.declared.Kind.TheVariants.{U8}
use Rattle.vms_kinds.specs.Codes.{width, code, value_of, InRange}
use Rattle.vms_spots.specs.declared.layout.Spot.{Spot}

-- the least multiple of a width that isn't below a byte
abbrev pub aligned : ℕ → ℕ → ℕ
aligned w byte = (byte + (w - 1)) / w * w

-- ---- spots

-- The spots of these kinds in order, if the one before them ends at byte `end`. Each is at the
-- least multiple of its width that isn't below the end of the one before.
abbrev pub spots_from : ℕ → List Kind → List Spot
spots_from end [] = []
spots_from end (kind ∷ kinds) =
    record { offset = aligned (width kind) end; kind = kind } ∷ spots_from (aligned (width kind) end + width kind) kinds

-- the spots of a state, of which the first is at 0
abbrev pub spots_of : List Kind → List Spot
spots_of kinds = spots_from 0 kinds

-- the end of the last of them
abbrev pub end_from : ℕ → List Kind → ℕ
end_from end [] = end
end_from end (kind ∷ kinds) = end_from (aligned (width kind) end + width kind) kinds

-- the number of bytes of a state of these kinds
abbrev pub bytes_of : List Kind → ℕ
bytes_of kinds = end_from 0 kinds

-- the spot that is used if there is none
abbrev pub no_spot : Spot
no_spot = record { offset = 0; kind = U8 }

-- the kinds of these spots
abbrev pub kinds_of : List Spot → List Kind
kinds_of spots = map (λ s. s.kind) spots

-- ---- the bytes of the buffer

-- the bytes from `end` on: the code of each number at its spot, and 0 before it
abbrev pub raw_from : ℕ → List Kind → List ℤ → List ℕ
raw_from end [] numbers = []
raw_from end (kind ∷ kinds) [] = []
raw_from end (kind ∷ kinds) (z ∷ numbers) =
    replicate (aligned (width kind) end - end) 0 ++ (code kind z ++ raw_from (aligned (width kind) end + width kind) kinds numbers)

-- the bytes of a state
abbrev pub raw_of : List Kind → List ℤ → List ℕ
raw_of kinds numbers = raw_from 0 kinds numbers

-- there are the same number of numbers and kinds, and each number is in the range of its kind
pub record AreOf (kinds : List Kind) (numbers : List ℤ) : Type 0 where
  pub long : length numbers ≡ length kinds
  pub fits : (k : ℕ) → k < length kinds → InRange (get_or kinds k U8) (get_or numbers k (pos 0))

-- the number at a spot of these bytes
abbrev pub number_at : List ℕ → Spot → ℤ
number_at bytes s = value_of s.kind (take (width s.kind) (drop s.offset bytes))

-- what contracts see of a buffer: the kinds of its numbers, and the numbers
pub record Held : Type 0 where
  pub kinds : List Kind
  pub numbers : List ℤ

-- the kinds and the numbers in these bytes at these spots
abbrev pub held : List Spot → List ℕ → Held
held spots bytes = record { kinds = kinds_of spots; numbers = map (number_at bytes) spots }

-- the spots are those of their kinds, and the bytes are those of numbers in range
pub record IsHeld (spots : List Spot) (bytes : List ℕ) : Type 0 where
  pub few : length spots ≤ MOST_ITEMS
  pub laid : spots ≡ spots_of (kinds_of spots)
  pub fit : AreOf (kinds_of spots) (map (number_at bytes) spots)
  pub raw : bytes ≡ raw_of (kinds_of spots) (map (number_at bytes) spots)

-- ---- the properties of the spots of these kinds

-- each spot is of its number's kind, aligned and inside of the buffer, and no two overlap
pub record AreApart (kinds : List Kind) (spots : List Spot) : Type 0 where
  pub long : length spots ≡ length kinds
  -- each has its number's kind, is at a multiple of its width, and is inside of the buffer
  pub kind : (k : ℕ) → k < length kinds → (get_or spots k no_spot).kind ≡ get_or kinds k U8
  pub multiple : (k : ℕ) → k < length kinds → (get_or spots k no_spot).offset % width (get_or kinds k U8) ≡ 0
  pub inside : (k : ℕ) → k < length kinds → (get_or spots k no_spot).offset + width (get_or kinds k U8) ≤ bytes_of kinds
  -- each ends before the later ones begin
  pub apart : (j k : ℕ) → j < k → k < length kinds → (get_or spots j no_spot).offset + width (get_or kinds j U8) ≤ (get_or spots k no_spot).offset

-- ---- numbers of one kind, one after the other

-- the codes of numbers of a kind, one after the other
abbrev pub codes_of : Kind → List ℤ → List ℕ
codes_of kind numbers = flat_map (code kind) numbers

-- `count` cells from `first` on are of this kind
abbrev pub AreOne : List Kind → ℕ → ℕ → Kind → Type 0
AreOne kinds first count kind = (k : ℕ) → first ≤ k → k < first + count → get_or kinds k U8 ≡ kind

-- the numbers with these codes of a kind, one after the other
abbrev pub values_of : Kind → ℕ → List ℕ → List ℤ
values_of kind zero bytes = []
values_of kind (suc n) bytes = value_of kind (take (width kind) bytes) ∷ values_of kind n (drop (width kind) bytes)

-- the numbers, with others in place of those from `first` on
abbrev pub put_from : List ℤ → ℕ → List ℤ → List ℤ
put_from numbers first [] = numbers
put_from numbers first (z ∷ zs) = put_from (slice_set numbers first z) (first + 1) zs
