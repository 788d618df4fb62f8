-- What a newer set makes of the images of an older one. Present fields are paired by position. A cell of the newer
-- set has the older number if its field is paired with one of the same kind and the older cell is in the bytes. Any
-- other cell has its default. Versions and the present subsections are the older ones. See docs/compatibility.md,
-- "What an accepted check means".
use Rattle.std.specs.Prelude.{ℕ, zero, suc, ◌+◌, if◌then◌else◌, List, [], ◌∷◌, ◌++◌, length, get_or, map, Option, Some, None, ℤ, pos}
use Rattle.std.specs.List.{flat_map, slice_get}
use Rattle.vms_kinds.specs.declared.Item.{Item}
use Rattle.vms_kinds.specs.declared.Item.TheVariants.{Num, Struct}
use Rattle.vms_spec.specs.Sets.{Formula, Field, Desc, Sub, Device, Set}
use Rattle.vms_spec.specs.Tests.{is_there}
use Rattle.vms_spec.specs.Layout.{Cell, first, no_desc, no_parent, item_cells, item_size, field_cells, desc_cells, capacity_of, elements_of, numbers_of, struct_cells}
use Rattle.vms_spec.specs.Images.{Image, own_cells, sub_place}
use Rattle.vms_spec.specs.Lookup.{find_device, find_sub, index}
use Rattle.vms_check.specs.Reducing.{presence}
use Rattle.vms_check.specs.Comparing.{Entry, present, same_kind}

-- The defaults of cells.
abbrev pub defaults : List Cell → List ℤ
defaults cells = map (λ c. c.default) cells

-- A function for a structure of new: from the number of old's structure, old's numbers and its first cell there to
-- new's numbers.
abbrev pub Carrier : Type 0
Carrier = ℕ → List ℤ → ℕ → List ℤ

-- The carrier of no structure.
abbrev pub no_carrier : Carrier
no_carrier i numbers at = []

-- with the carriers of the structures, their cells on each side, and old's numbers given
module _ (structs : List Carrier) (x y : List (List Cell)) (numbers : List ℤ) where
  -- One element of new from one of old, or `fallback` if the two aren't of one kind.
  abbrev pub carry_item : Item → Item → List ℤ → ℕ → List ℤ
  carry_item (Num k) (Num l) fallback at = if same_kind k l then get_or numbers at (pos 0) ∷ [] else fallback
  carry_item (Struct i) (Struct j) fallback at = get_or structs j no_carrier i numbers at
  carry_item _ _ fallback at = fallback

  -- From n elements of old, each `step` cells after the one before, to m of new.
  abbrev pub carry_items : Item → Item → List ℤ → ℕ → ℕ → ℕ → ℕ → List ℤ
  carry_items a b fallback step n zero at = []
  carry_items a b fallback step zero (suc m) at = fallback ++ carry_items a b fallback step zero m at
  carry_items a b fallback step (suc n) (suc m) at = carry_item a b fallback at ++ carry_items a b fallback step n m (at + step)

  -- A field of new that is paired; `own` gives the numbers of old's fields.
  abbrev pub carry_field : (ℕ → ℕ) → ℕ → ℕ → Entry → Field → List ℤ
  carry_field own v at e f =
      carry_items e.field.item f.item (defaults (item_cells y f.item [] f.default)) (item_size x e.field.item)
      (if is_there e.field.test e.field.since v own no_parent then elements_of e.field.count own else 0) (capacity_of f.count) (at + e.place)

  -- The defaults of field i of new.
  abbrev pub default_field : List Field → ℕ → Field → List ℤ
  default_field all i f = defaults (field_cells y all i f)

  -- Field i of new, by whether it is present, and the rest of old's present fields.
  abbrev pub carry_next : (ℕ → ℕ) → (v at : ℕ) → List Field → ℕ → Field → Option (Option Formula) → List Entry → List ℤ
  carry_next own v at all i f None es = default_field all i f
  carry_next own v at all i f (Some rest) [] = default_field all i f
  carry_next own v at all i f (Some rest) (e ∷ es) = carry_field own v at e f

  -- The rest of old's present fields after a field of new, by whether that is present.
  abbrev pub entries_left : Option (Option Formula) → List Entry → List Entry
  entries_left None es = es
  entries_left (Some rest) [] = []
  entries_left (Some rest) (e ∷ es) = es

  -- New's fields from i on, at version w.
  abbrev pub carry_from : (ℕ → ℕ) → (v w at : ℕ) → List Field → ℕ → List Field → List Entry → List ℤ
  carry_from own v w at all i [] es = []
  carry_from own v w at all i (f ∷ fs) es =
      carry_next own v at all i f (presence w f.test f.since) es
      ++ carry_from own v w at all (suc i) fs (entries_left (presence w f.test f.since) es)

  -- All of new's fields, at version w, from old's at version v.
  abbrev pub carry_desc : (v w : ℕ) → (a b : Desc) → ℕ → List ℤ
  carry_desc v w a b at = carry_from (numbers_of x a numbers at) v w at b.fields 0 b.fields (present x a v)

-- The carrier of a structure of new.
abbrev pub carrier_of : List Carrier → (x y : List (List Cell)) → List Desc → Desc → Carrier
carrier_of structs x y olds d i numbers at =
    carry_desc structs x y numbers (get_or olds i no_desc).version d.version (get_or olds i no_desc) d at

-- The carriers of the first k structures of new, each made with the earlier ones.
abbrev pub carriers : (x y : List (List Cell)) → (olds news : List Desc) → ℕ → List Carrier
carriers x y olds news k = first (λ earlier d. carrier_of earlier x y olds d) news k

-- ---- images

module _ (old new : Set) where
  -- b's numbers from a's, which begin at a cell, both at one version.
  abbrev pub carrying : List ℤ → ℕ → (a b : Desc) → ℕ → List ℤ
  carrying numbers v a b at =
      carry_desc (carriers (struct_cells old) (struct_cells new) old.structs new.structs (length new.structs)) (struct_cells old) (struct_cells new) numbers v v a b at

  -- A subsection of new, from old's of this name, if that is present.
  abbrev pub carry_sub : Device → Image → Sub → Option ℕ → Option Sub → Option (Option ℕ) → List ℤ
  carry_sub d image t (Some j) (Some s) (Some (Some v)) = carrying image.numbers v s.desc t.desc (sub_place old (own_cells old d) d.subs j)
  carry_sub d image t _ _ _ = defaults (desc_cells (struct_cells new) t.desc)

  -- The version of a subsection that is present in old's image, if it is.
  abbrev pub sub_came : Option ℕ → Option (Option ℕ) → Option ℕ
  sub_came (Some j) (Some v) = v
  sub_came _ _ = None

  -- A subsection of new, from old's image.
  abbrev pub carried_sub : Device → Image → Sub → List ℤ
  carried_sub d image t =
      let found = find_sub 0 d.subs t.desc.name in
      carry_sub d image t found (slice_get d.subs (index found)) (slice_get image.came (index found))

  -- The image of device e of new, from the image of device d of old.
  abbrev pub carried_device : Device → Device → Image → Image
  carried_device d e image = record {
    version = image.version;
    came = map (λ t. let found = find_sub 0 d.subs t.desc.name in sub_came found (slice_get image.came (index found))) e.subs;
    numbers = carrying image.numbers image.version d.desc e.desc 0 ++ flat_map (carried_sub d image) e.subs;
  }

  -- The image of no device.
  abbrev pub no_image : Image
  no_image = record { version = 0; came = []; numbers = [] }

  -- The image of device e of new, from old's device of the same name and instance, if there is one.
  abbrev pub carried_at : List Image → Device → Option ℕ → Option Device → Image
  carried_at images e (Some i) (Some d) = carried_device d e (get_or images i no_image)
  carried_at images e _ _ = no_image

  -- The image of each device of new, from old's device of the same name and instance.
  unfoldable pub carried : List Image → List Image
  carried images = map (λ e. let found = find_device 0 old.devices e.desc.name e.instance in carried_at images e found (slice_get old.devices (index found))) new.devices
