-- The cell of a newer device with which each cell of an older one is paired. Present fields are paired by position,
-- elements by number, structures field by field; only numbers of one kind are paired. See docs/compatibility.md,
-- "Pairs of fields".
use Rattle.std.specs.Prelude.{ℕ, zero, suc, ◌+◌, ◌*◌, if◌then◌else◌, List, [], ◌∷◌, ◌++◌, length, get_or, replicate, Option, Some, None}
use Rattle.std.specs.List.{flat_map}
use Rattle.vms_kinds.specs.declared.Item.{Item}
use Rattle.vms_kinds.specs.declared.Item.TheVariants.{Num, Struct}
use Rattle.vms_spec.specs.Lists.{at_option}
use Rattle.vms_spec.specs.Sets.{Formula, Field, Desc, Sub, Device, Set}
use Rattle.vms_spec.specs.Layout.{Cell, first, no_desc, item_size, capacity_of, desc_cells, struct_cells}
use Rattle.vms_spec.specs.Images.{own_cells, sub_place}
use Rattle.vms_spec.specs.Lookup.{find_sub}
use Rattle.vms_check.specs.Reducing.{presence}
use Rattle.vms_check.specs.Comparing.{Entry, present, same_kind}

-- A function for a structure of the older set: the partners of its cells in a structure of the newer one whose
-- first cell is given.
abbrev pub Pairer : Type 0
Pairer = ℕ → ℕ → List (Option ℕ)

-- The pairer of no structure.
abbrev pub no_pairer : Pairer
no_pairer j at = []

-- Cells without a partner.
abbrev pub unpaired : ℕ → List (Option ℕ)
unpaired n = replicate n None

-- with the pairers of the older structures, and the cells of the structures on each side
module _ (structs : List Pairer) (x y : List (List Cell)) where
  -- One element with one of the newer, whose first cell is given.
  abbrev pub item_partners : Item → Item → ℕ → List (Option ℕ)
  item_partners (Num k) (Num l) at = (if same_kind k l then Some at else None) ∷ []
  item_partners (Struct i) (Struct j) at = get_or structs i no_pairer j at
  item_partners a b at = unpaired (item_size x a)

  -- n elements with m of the newer.
  abbrev pub array_partners : Item → Item → ℕ → ℕ → ℕ → List (Option ℕ)
  array_partners a b zero m at = []
  array_partners a b (suc n) zero at = unpaired (item_size x a) ++ array_partners a b n zero at
  array_partners a b (suc n) (suc m) at = item_partners a b at ++ array_partners a b n m (at + item_size y b)

  -- A field, by whether it is present, with the first of the rest of the newer one's present fields.
  abbrev pub field_partners : Field → Option (Option Formula) → List Entry → ℕ → List (Option ℕ)
  field_partners f (Some rest) (e ∷ es) at =
      array_partners f.item e.field.item (capacity_of f.count) (capacity_of e.field.count) (at + e.place)
  field_partners f _ es at = unpaired (capacity_of f.count * item_size x f.item)

  -- The rest of the newer one's present fields after a field, by whether that is present.
  abbrev pub fields_left : Option (Option Formula) → List Entry → List Entry
  fields_left (Some rest) (e ∷ es) = es
  fields_left _ es = es

  -- The partners of fields, at version v, with present fields of the newer one.
  abbrev pub partners_from : (v at : ℕ) → List Field → List Entry → List (Option ℕ)
  partners_from v at [] es = []
  partners_from v at (f ∷ fs) es =
      field_partners f (presence v f.test f.since) es at ++ partners_from v at fs (fields_left (presence v f.test f.since) es)

  -- Two descriptions, at versions v and w.
  abbrev pub desc_partners : (v w : ℕ) → (a b : Desc) → ℕ → List (Option ℕ)
  desc_partners v w a b at = partners_from v at a.fields (present y b w)

-- The pairer of a structure of the older set, at each side's own version.
abbrev pub pairer_of : List Pairer → (x y : List (List Cell)) → List Desc → Desc → Pairer
pairer_of structs x y news d j at =
    desc_partners structs x y d.version (get_or news j no_desc).version d (get_or news j no_desc) at

-- The pairers of the first k structures of the older set, each made with the earlier ones.
abbrev pub pairers : (x y : List (List Cell)) → (olds news : List Desc) → ℕ → List Pairer
pairers x y olds news k = first (λ earlier d. pairer_of earlier x y news d) olds k

module _ (old new : Set) where
  -- Two descriptions at one version.
  abbrev pub part_partners : ℕ → (a b : Desc) → ℕ → List (Option ℕ)
  part_partners v a b at =
      desc_partners (pairers (struct_cells old) (struct_cells new) old.structs new.structs (length old.structs)) (struct_cells old) (struct_cells new) v v a b at

  -- A subsection, with one of the newer set, if there is one.
  abbrev pub sub_partners : Device → Sub → Option ℕ → Option Sub → List (Option ℕ)
  sub_partners e s (Some l) (Some t) = part_partners s.desc.version s.desc t.desc (sub_place new (own_cells new e) e.subs l)
  sub_partners e s _ _ = unpaired (length (desc_cells (struct_cells old) s.desc))

  -- A subsection, with the one of the same name.
  abbrev pub named_partners : Device → Sub → List (Option ℕ)
  named_partners e s = let l = find_sub 0 e.subs s.desc.name in sub_partners e s l (at_option e.subs l)

  -- The partners of all cells of a device, at the older set's versions.
  unfoldable pub device_partners : Device → Device → List (Option ℕ)
  device_partners d e = part_partners d.desc.version d.desc e.desc 0 ++ flat_map (named_partners e) d.subs
