-- The first positions of two descriptions at one front. If no rule fails there, both sets read the same number of
-- bytes, whatever rule fails at later positions.
use Rattle.std.specs.Prelude.{◌≡◌, ℕ, ◌<◌, ◌≤◌, List, length, take, Some, None, ℤ}
use Rattle.std.specs.List.{flat_map, slice_get}
use Rattle.vms_spec.specs.declared.Part.{Part}
use Rattle.vms_spec.specs.Sets.{Desc, Set}
use Rattle.vms_spec.specs.Layout.{Cell, desc_cells, struct_cells}
use Rattle.vms_spec.specs.WellFormed.{WellFormed, in_field}
use Rattle.vms_check.specs.Comparing.{Entry, failing_pair, pair_rules, pair_structs, present}
use Rattle.vms_check_laws.specs.Positions.{IsPartOf, comparers_on, in_new, in_old, new_field, old_field}
use Rattle.vms_check_laws.specs.Segments.{Aligns, FitsAt}

-- a and b at one version, where x and y are the cells of the structures on each side: numbers of a begin at a cell,
-- those of b at another
module _ (old new : Set) (a b : Desc) (v : ℕ) (part part' : Part) (numbers numbers' : List ℤ) (at at' : ℕ) (x y : List (List Cell)) where
  -- No rule fails at two fields, nor in their structures.
  pub record IsPaired (e f : Entry) : Type 0 where
    pub rules : failing_pair (pair_rules (comparers_on old new a b v part part' numbers numbers' at at' x y) a b v v part part'
        (in_old old new a b v part part' numbers numbers' at at' x y) (in_new old new a b v part part' numbers numbers' at at' x y) e f) (in_field part e.index) (in_field part' f.index) ≡ None
    pub structs : pair_structs (comparers_on old new a b v part part' numbers numbers' at at' x y) a b v v part part'
        (in_old old new a b v part part' numbers numbers' at at' x y) (in_new old new a b v part part' numbers numbers' at at' x y) e.field.item f.field.item ≡ None

  -- The first p positions of both, at which no rule fails; the older numbers are in the range of their cells.
  pub record IsFront (p : ℕ) : Type 0 where
    pub on_old : p ≤ length (present x a v)
    pub on_new : p ≤ length (present y b v)
    pub paired : (q : ℕ) (e f : Entry) → q < p → slice_get (present x a v) q ≡ Some e → slice_get (present y b v) q ≡ Some f → IsPaired e f
    pub fits : FitsAt (desc_cells x a) numbers at

  -- The newer fields of the first p positions take exactly the bytes of the older ones.
  abbrev pub FrontAligns : Type 0
  FrontAligns = (p : ℕ) → IsFront p → Aligns numbers (flat_map (old_field old new a b v part part' numbers numbers' at at' x y) (take p (present x a v)))
      numbers' (flat_map (new_field old new a b v part part' numbers numbers' at at' x y) (take p (present y b v)))

-- If the newer set's fields of these positions are at the front of what the older set wrote for its own, they take
-- exactly those bytes, whatever the numbers are.
abbrev pub AlignedLaw : Type 0
AlignedLaw = (old new : Set) → WellFormed old → WellFormed new → (a b : Desc) → IsPartOf old a → IsPartOf new b → (v : ℕ) (part part' : Part)
    → (numbers numbers' : List ℤ) (at at' : ℕ) → FrontAligns old new a b v part part' numbers numbers' at at' (struct_cells old) (struct_cells new)
