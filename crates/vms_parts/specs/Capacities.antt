-- The least capacity of the arrays that a number counts.
use Rattle.std.specs.Prelude.{◌≡◌, ℕ, ◌<◌, min, slice_set, List, [], ◌∷◌, length, get_or, Option, Some, None}
use Rattle.vms_spec.specs.declared.Count.{Count}
use Rattle.vms_spec.specs.declared.Count.TheVariants.{Counted}
use Rattle.vms_spec.specs.Layout.{counted}
use Rattle.vms_spec.specs.Sets.{Field}

-- the lesser of a capacity and the earlier ones, if there are any
abbrev pub lesser : Option ℕ → ℕ → Option ℕ
lesser None most = Some most
lesser (Some least) most = Some (min least most)

-- the least of these capacities and the earlier ones
abbrev pub least_from : Option ℕ → List ℕ → Option ℕ
least_from least [] = least
least_from least (most ∷ capacities) = least_from (lesser least most) capacities

-- the least of these capacities, or none if there are none
abbrev pub least_of : List ℕ → Option ℕ
least_of capacities = least_from None capacities

-- the least capacity that each field counts
pub record AreLeast (fields : List Field) (table : List (Option ℕ)) : Type 0 where
  pub long : length table ≡ length fields
  pub least : (k : ℕ) → k < length fields → get_or table k None ≡ least_of (counted k fields)

-- the entry i of the table is lowered to the capacity, if there is such an entry
abbrev pub lowered_at : List (Option ℕ) → ℕ → ℕ → List (Option ℕ)
lowered_at table i most = slice_set table i (lesser (get_or table i None) most)

-- the entry of the field that counts an array is lowered
abbrev pub counted_in : List (Option ℕ) → Count → List (Option ℕ)
counted_in table (Counted by most) = lowered_at table by most
counted_in table _ = table
