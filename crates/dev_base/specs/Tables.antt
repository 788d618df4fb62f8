-- How the cells of an older set are carried to the newest one.
use Rattle.std.specs.Prelude.{ℕ, ◌+◌, ℤ, List, [], ◌∷◌, ◌++◌, map, replicate, if◌then◌else◌, Bool, nat_le}
use Rattle.std.specs.List.{range_with_len}
use Rattle.vms_fields.specs.Fields.{Row, is_in, size_of}
use Rattle.dev_base.specs.Cells.{cell_at}

-- `Origin` says what a cell of the newest set holds: the number of the older set's cell at a place,
-- or the newest set's default.
pub data Origin : Type 0 where
  taken_from : ℕ → Origin
  default_of : ℤ → Origin

-- `number_of cells origin` is the number that a cell of this origin holds.
abbrev pub number_of : List ℤ → Origin → ℤ
number_of cells (taken_from place) = cell_at cells place
number_of cells (default_of number) = number

-- `carried_by table cells` is the list of the cells of the newest set, by a table with the origin
-- of each.
abbrev pub carried_by : List Origin → List ℤ → List ℤ
carried_by table cells = map (number_of cells) table

-- `places first count` is the table of `count` cells that are in the older set from the place
-- `first` on.
abbrev pub places : ℕ → ℕ → List Origin
places first count = map taken_from (range_with_len first count)

-- `where_had has had absent` is the table `had` if the set has the cells, else `absent`.
abbrev pub where_had : Bool → List Origin → List Origin → List Origin
where_had has had absent = if has then had else absent

-- `since first set list` is the list if the set is `first` or later, else the empty list.
abbrev pub since : {A : Type 0} → ℕ → ℕ → List A → List A
since first set list = if nat_le first set then list else []

-- the table of a list of fields, whose first row has its cells at this place of a set that has them: each cell that the
-- set lacks has its row's default
abbrev pub origins_from : ℕ → List Row → ℕ → List Origin
origins_from at [] set = []
origins_from at (row ∷ rows) set =
    where_had (is_in row.shape.first_set set) (places at (size_of row)) (replicate (size_of row) (default_of row.shape.default))
    ++ origins_from (if is_in row.shape.first_set set then at + size_of row else at) rows set

abbrev pub origins_under : List Row → ℕ → List Origin
origins_under rows set = origins_from 0 rows set
