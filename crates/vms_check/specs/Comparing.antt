-- Which sets are compatible: the first rule that fails, with a place on each side. Present fields are paired by
-- position. Bytes play no part. docs/compatibility.md, "The rules", lists the rules.
use Rattle.std.specs.Prelude.{ℕ, suc, ◌+◌, ◌*◌, Bool, true, false, ◌&&◌, ◌||◌, ◌==◌, nat_le, min, if◌then◌else◌, List, [], ◌∷◌, ◌++◌, length, get_or, Option, Some, None, ℤ, pos, negsuc, ◌≡◌}
use Rattle.std.specs.List.{slice_get, list_all, list_any}
use Rattle.std.specs.Str.{bytes_eq}
use denote.Enum.Bare.{sameb}
use Rattle.vms_kinds.specs.declared.Kind.{Kind}
use Rattle.vms_kinds.specs.contracts.Kind.{the_type as kind_type}
use Rattle.vms_kinds.specs.declared.Item.{Item}
use Rattle.vms_kinds.specs.declared.Item.TheVariants.{Num, Equal, Unused, Struct}
use Rattle.vms_kinds.specs.Codes.{width, highest}
use Rattle.vms_spec.specs.declared.Count.{Count}
use Rattle.vms_spec.specs.declared.Count.TheVariants.{One, Fixed, Counted}
use Rattle.vms_spec.specs.declared.Rel.{Rel}
use Rattle.vms_spec.specs.contracts.Rel.{the_type as rel_type}
use Rattle.vms_spec.specs.declared.Whose.TheVariants.{Own}
use Rattle.vms_spec.specs.declared.Part.{Part}
use Rattle.vms_spec.specs.declared.Part.TheVariants as parts
use Rattle.vms_spec.specs.declared.Place.{Place}
use Rattle.vms_spec.specs.Lists.{or_else, first_answer}
use Rattle.vms_spec.specs.Numbers.{same_number}
use Rattle.vms_spec.specs.Sets.{Formula, Cell, Not, And, Or, Field, Desc, Sub, Device, Set}
use Rattle.vms_spec.specs.Layout.{Cell as CellOf, first, no_desc, counted, field_cells, struct_cells}
use Rattle.vms_spec.specs.Streams.{is_one_of}
use Rattle.vms_spec.specs.Lookup.{find_device, find_sub, index}
use Rattle.vms_spec.specs.WellFormed.{here, in_field}
use Rattle.vms_spec.specs.Readiness.{is_version_of}
use Rattle.vms_check.specs.declared.mismatch.Mismatch.{Mismatch}
use Rattle.vms_check.specs.Reducing.{Reduced, Known, Open, reduced, presence}

-- ---- present fields

-- A present field: its number, its first cell counted from the description's first, and the rest of its test.
pub record Entry : Type 0 where
  pub index : ℕ
  pub place : ℕ
  pub field : Field
  pub rest : Option Formula

-- The entry of a field, if it is present.
abbrev pub entry_of : ℕ → ℕ → Field → Option (Option Formula) → List Entry
entry_of i at f None = []
entry_of i at f (Some rest) = record { index = i; place = at; field = f; rest = rest } ∷ []

-- The present fields from field i on, whose cells begin at a cell. The cells of the structures are given.
abbrev pub present_from : List (List CellOf) → List Field → ℕ → ℕ → ℕ → List Field → List Entry
present_from structs all v i at [] = []
present_from structs all v i at (f ∷ fs) =
    entry_of i at f (presence v f.test f.since) ++ present_from structs all v (suc i) (at + length (field_cells structs all i f)) fs

-- The present fields of a description at a version.
abbrev pub present : List (List CellOf) → Desc → ℕ → List Entry
present structs d v = present_from structs d.fields v 0 0 d.fields

-- The position of field k among the present ones, of which the first has position p.
abbrev pub position_from : ℕ → List Entry → ℕ → Option ℕ
position_from p [] k = None
position_from p (e ∷ es) k = if e.index == k then Some p else position_from (suc p) es k

-- Both fields are present and have the same position.
abbrev pub same_place : Option ℕ → Option ℕ → Bool
same_place (Some p) (Some q) = p == q
same_place _ _ = false

-- ---- the same on both sides

-- Two relations are the same.
abbrev pub same_rel : Rel → Rel → Bool
same_rel = sameb rel_type

-- Two kinds are the same.
abbrev pub same_kind : Kind → Kind → Bool
same_kind = sameb kind_type

-- Two tests are the same trees, where o and n give the positions of the fields on each side.
abbrev pub same_test : (o n : ℕ → Option ℕ) → Formula → Formula → Bool
same_test o n (Cell Own i mask rel value) (Cell Own j mask' rel' value') =
    same_place (o i) (n j) && mask == mask' && same_rel rel rel' && value == value'
same_test o n (Not s) (Not t) = same_test o n s t
same_test o n (And s s') (And t t') = same_test o n s t && same_test o n s' t'
same_test o n (Or s s') (Or t t') = same_test o n s t && same_test o n s' t'
same_test o n _ _ = false

-- The rests of two tests are the same.
abbrev pub same_rest : (o n : ℕ → Option ℕ) → Option Formula → Option Formula → Bool
same_rest o n None None = true
same_rest o n (Some s) (Some t) = same_test o n s t
same_rest o n _ _ = false

-- Two reduced tests are the same.
abbrev pub same_reduced : (o n : ℕ → Option ℕ) → Reduced → Reduced → Bool
same_reduced o n (Known false) (Known false) = true
same_reduced o n (Known true) (Known true) = true
same_reduced o n (Open s) (Open t) = same_test o n s t
same_reduced o n _ _ = false

-- Both fields are single, of equal length, or counted by fields of the same position.
abbrev pub same_count : (o n : ℕ → Option ℕ) → Count → Count → Bool
same_count o n One One = true
same_count o n (Fixed a) (Fixed b) = a == b
same_count o n (Counted by most) (Counted by' most') = same_place (o by) (n by')
same_count o n _ _ = false

-- Two items are of one kind. Unused bytes are if their numbers are equal; two structures always are.
abbrev pub same_item : Item → Item → Bool
same_item (Num k) (Num l) = same_kind k l
same_item (Equal k y) (Equal l z) = same_kind k l
same_item (Unused a) (Unused b) = a == b
same_item (Struct i) (Struct j) = true
same_item _ _ = false

-- Old's name is new's, or one of new's former names.
abbrev pub names_match : Field → Field → Bool
names_match f g = bytes_eq f.name g.name || is_one_of g.former f.name

-- ---- capacities

-- New's array has at least the capacity of old's.
abbrev pub holds_as_much : Count → Count → Bool
holds_as_much (Counted by most) (Counted by' most') = nat_le most most'
holds_as_much _ _ = true

-- The least of a number and those in a list.
abbrev pub least_of : ℕ → List ℕ → ℕ
least_of n [] = n
least_of n (m ∷ ms) = least_of (min n m) ms

-- The natural number of an integer that isn't negative.
abbrev pub natural : ℤ → ℕ
natural (pos n) = n
natural (negsuc n) = 0

-- The largest number of an item's kind.
abbrev pub greatest : Item → ℕ
greatest (Num kind) = natural (highest kind)
greatest _ = 0

-- The largest number that old's field can have: the least of all capacities that it counts, or its kind's largest.
abbrev pub bound : Item → List ℕ → ℕ
bound item [] = greatest item
bound item (m ∷ ms) = least_of m ms

-- A field is absent.
abbrev pub is_nothing : Option (Option Formula) → Bool
is_nothing None = true
is_nothing (Some rest) = false

-- A field is absent at a version.
abbrev pub is_absent : ℕ → Field → Bool
is_absent v f = is_nothing (presence v f.test f.since)

-- An array that field i counts and that isn't present has room for n elements.
abbrev pub has_room : ℕ → ℕ → ℕ → Field → Count → Bool
has_room v i n f (Counted by most) = if by == i && is_absent v f then nat_le n most else true
has_room v i n f _ = true

-- All such arrays have room for n elements.
abbrev pub absent_hold : ℕ → ℕ → ℕ → List Field → Bool
absent_hold v i n fields = list_all (λ f. has_room v i n f f.count) fields

-- Two constants are the same, if both items have one.
abbrev pub same_constant : Item → Item → Bool
same_constant (Equal k y) (Equal l z) = same_number y z
same_constant _ _ = true

-- New's unused bytes cover old's constant, or old's numbers.
abbrev pub is_covered : Item → Count → Item → Bool
is_covered (Equal kind z) count (Unused n) = width kind == n
is_covered (Num kind) One (Unused n) = width kind == n
is_covered (Num kind) (Fixed m) (Unused n) = m * width kind == n
is_covered _ _ _ = false

-- ---- one description on each side

-- The first of numbered rules that fails.
abbrev pub failing_pair : List (ℕ × Bool) → Place → Place → Option Mismatch
failing_pair [] a b = None
failing_pair ((rule, true) ∷ rules) a b = failing_pair rules a b
failing_pair ((rule, false) ∷ rules) a b = Some (record { rule = rule; in_old = a; in_new = b })

-- A function that compares old's structure of a number with one of new.
abbrev pub Comparer : Type 0
Comparer = ℕ → Option Mismatch

-- The comparer of no structure.
abbrev pub no_comparer : Comparer
no_comparer j = None

-- a and b at versions v and w, with the comparers of new's structures given
module _ (structs : List Comparer) (a b : Desc) (v w : ℕ) (in_a in_b : Part) (o n : ℕ → Option ℕ) where
  -- Rules 7 to 12 for two fields of the same position.
  abbrev pub uncovered_rules : Entry → Entry → List (ℕ × Bool)
  uncovered_rules e f =
      (7, same_count o n e.field.count f.field.count)
      ∷ (8, same_item e.field.item f.field.item)
      ∷ (9, same_rest o n e.rest f.rest)
      ∷ (10, names_match e.field f.field)
      ∷ (11, holds_as_much e.field.count f.field.count && absent_hold w f.index (bound e.field.item (counted e.index a.fields)) b.fields)
      ∷ (12, same_constant e.field.item f.field.item)
      ∷ []

  -- Where new's unused bytes cover old's item, only the rests of the tests are compared.
  abbrev pub pair_rules : Entry → Entry → List (ℕ × Bool)
  pair_rules e f = if is_covered e.field.item e.field.count f.field.item then (9, same_rest o n e.rest f.rest) ∷ [] else uncovered_rules e f

  -- The first mismatch of two items' structures.
  abbrev pub pair_structs : Item → Item → Option Mismatch
  pair_structs (Struct i) (Struct j) = get_or structs j no_comparer i
  pair_structs _ _ = None

  -- Position by position, structures before the next position.
  abbrev pub compare_fields : List Entry → List Entry → Option Mismatch
  compare_fields [] [] = None
  compare_fields (e ∷ es) [] = Some (record { rule = 5; in_old = in_field in_a e.index; in_new = here in_b })
  compare_fields [] (f ∷ fs) = Some (record { rule = 6; in_old = here in_a; in_new = in_field in_b f.index })
  compare_fields (e ∷ es) (f ∷ fs) =
      or_else (failing_pair (pair_rules e f) (in_field in_a e.index) (in_field in_b f.index))
      (or_else (pair_structs e.field.item f.field.item)
      (compare_fields es fs))

  -- A reduced validation of new is true, or an old one.
  abbrev pub is_kept : Reduced → Bool
  is_kept (Known true) = true
  is_kept r = list_any (λ s. same_reduced o n (reduced v s) r) a.validate

  -- Rule 15 for the validations.
  abbrev pub compare_validations : Option Mismatch
  compare_validations = failing_pair ((15, list_all (λ t. is_kept (reduced w t)) b.validate) ∷ []) (here in_a) (here in_b)

-- Compares two descriptions; x and y are the cells of the structures on each side.
abbrev pub compare_desc : List Comparer → (x y : List (List CellOf)) → (a b : Desc) (v w : ℕ) → Part → Part → Option Mismatch
compare_desc structs x y a b v w in_a in_b =
    let es = present x a v in
    let fs = present y b w in
    or_else (compare_fields structs a b v w in_a in_b (position_from 0 es) (position_from 0 fs) es fs)
    (compare_validations structs a b v w in_a in_b (position_from 0 es) (position_from 0 fs))

-- The comparer of structure j of new, made with the structures of new before it. Each side is at its own version.
abbrev pub comparer_of : List Comparer → (x y : List (List CellOf)) → List Desc → ℕ → Desc → Comparer
comparer_of structs x y olds j d i = compare_desc structs x y (get_or olds i no_desc) d (get_or olds i no_desc).version d.version (parts.Struct i) (parts.Struct j)

-- The comparers of the first k structures of new.
abbrev pub comparers : (x y : List (List CellOf)) → (olds news : List Desc) → ℕ → List Comparer
comparers x y olds news k = first (λ earlier d. comparer_of earlier x y olds (length earlier) d) news k

-- ---- sets

-- A device was found.
abbrev pub is_found : Option ℕ → Bool
is_found None = false
is_found (Some k) = true

-- A set has a device of this name and instance.
abbrev pub is_in : Set → Device → Bool
is_in set d = is_found (find_device 0 set.devices d.desc.name d.instance)

module _ (old new : Set) where
  -- The first mismatch of two descriptions, both at version v.
  abbrev pub comparing : (a b : Desc) (v : ℕ) → Part → Part → Option Mismatch
  comparing a b v in_a in_b = compare_desc (comparers (struct_cells old) (struct_cells new) old.structs new.structs (length new.structs)) (struct_cells old) (struct_cells new) a b v v in_a in_b

  -- Subsection j of device i of old, with one of device k of new.
  abbrev pub compare_sub : ℕ → ℕ → ℕ → Sub → Option ℕ → Option Sub → Option Mismatch
  compare_sub i k j s (Some l) (Some t) =
      or_else (failing_pair ((14, is_version_of t.desc s.desc.version) ∷ []) (here (parts.Sub i j)) (here (parts.Sub k l)))
      (comparing s.desc t.desc s.desc.version (parts.Sub i j) (parts.Sub k l))
  compare_sub i k j s _ _ = Some (record { rule = 13; in_old = here (parts.Sub i j); in_new = here (parts.Device k) })

  -- Subsection j of device i of old, with the one of its name in device k of new.
  abbrev pub compare_subs : ℕ → ℕ → Device → ℕ → Sub → Option Mismatch
  compare_subs i k e j s =
      let found = find_sub 0 e.subs s.desc.name in
      compare_sub i k j s found (slice_get e.subs (index found))

  -- A device and its subsections, at old's versions on both sides.
  abbrev pub compare_device : ℕ → Device → Option ℕ → Option Device → Option Mismatch
  compare_device i d (Some k) (Some e) =
      or_else (failing_pair ((4, is_version_of e.desc d.desc.version) ∷ []) (here (parts.Device i)) (here (parts.Device k)))
      (or_else (comparing d.desc e.desc d.desc.version (parts.Device i) (parts.Device k))
      (first_answer (compare_subs i k e) 0 d.subs))
  compare_device i d _ _ = None

  -- The device of new with this name and instance.
  abbrev pub paired_device : Device → Option ℕ
  paired_device d = find_device 0 new.devices d.desc.name d.instance

  -- Machines, devices of old in new, devices of new in old, and then device by device.
  unfoldable pub first_mismatch : Option Mismatch
  first_mismatch =
      or_else (failing_pair ((1, list_all (is_one_of new.machines) old.machines) ∷ []) (here parts.Set) (here parts.Set))
      (or_else (first_answer (λ i d. failing_pair ((2, is_in new d) ∷ []) (here (parts.Device i)) (here parts.Set)) 0 old.devices)
      (or_else (first_answer (λ i d. failing_pair ((3, is_in old d) ∷ []) (here parts.Set) (here (parts.Device i))) 0 new.devices)
      (first_answer (λ i d. compare_device i d (paired_device d) (slice_get new.devices (index (paired_device d)))) 0 old.devices)))

-- No rule fails.
abbrev pub Compatible : Set → Set → Type 0
Compatible old new = first_mismatch old new ≡ None
