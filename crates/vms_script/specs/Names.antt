-- Names on the shelf.
use Rattle.std.specs.Prelude.{ℕ, ◌&&◌, ◌==◌, not, Bool, List, get_or}
use Rattle.vms_spec.specs.Names.{is_name}

-- A name of 1 to 64 bytes, of which the first isn't a dot.
abbrev pub is_shelf_name : List ℕ → Bool
is_shelf_name name = is_name 64 name && not (get_or name 0 46 == 46)
