-- The state of a reader by the units so far: which devices came, which section is open, and what
-- its fields hold. Lists of units begin with the latest.
use Rattle.std.specs.Prelude.{ℕ, Bool, true, false, ◌&&◌, ◌==◌, List, [], ◌∷◌, map, slice_set, Option, Some, None}
use Rattle.std.specs.List.{slice_get}
use Rattle.std.specs.Str.{bytes_eq}
use Rattle.vms_spec.specs.Lists.{at_option, position}
use Rattle.vms_spec.specs.Sets.{Sub, Device, Set}
use Rattle.vms_spec.specs.Layout.{Slot}
use Rattle.vms_spec.specs.Images.{Image, own_slots, sub_slots, sub_place, own_cells, default_image}
use Rattle.vms_spec.specs.Units.{Piece, Head, Number, Constant, Filler, SubHead}

-- the devices that came, with device k added if there is a number
abbrev pub mark_come : List Bool → Option ℕ → List Bool
mark_come came None = came
mark_come came (Some k) = slice_set came k true

-- the versions of the subsections, with that of subsection j set if there is a number
abbrev pub put_version : List (Option ℕ) → Option ℕ → ℕ → List (Option ℕ)
put_version came None v = came
put_version came (Some j) v = slice_set came j (Some v)

-- the subsections of a device, or none if there is no device
abbrev pub subs_of : Option Device → List Sub
subs_of None = []
subs_of (Some d) = d.subs

-- the section id of the latest section head
abbrev pub id_of : List Piece → ℕ
id_of [] = 0
id_of (Head id name instance v ∷ u) = id
id_of (x ∷ u) = id_of u

module _ (set : Set) where
  -- the number of the device of this name and instance, if there is one
  abbrev pub device_named : List ℕ → ℕ → Option ℕ
  device_named name instance = position (λ (d : Device). bytes_eq d.desc.name name && d.instance == instance) 0 set.devices

  -- for each device, whether its section has begun
  abbrev pub come : List Piece → List Bool
  come [] = map (λ (d : Device). false) set.devices
  come (Head id name instance v ∷ u) = mark_come (come u) (device_named name instance)
  come (x ∷ u) = come u

  -- the number of the device whose section is open, if one is
  abbrev pub opened : List Piece → Option ℕ
  opened (Head id name instance v ∷ u) = device_named name instance
  opened (Number c kind z ∷ u) = opened u
  opened (Constant kind z ∷ u) = opened u
  opened (Filler bytes ∷ u) = opened u
  opened (SubHead name v ∷ u) = opened u
  opened _ = None

  -- the device whose section is open, if one is
  abbrev pub device : List Piece → Option Device
  device u = at_option set.devices (opened u)

  -- the number of the open device's subsection of this name, if there is one
  abbrev pub sub_named : List Piece → List ℕ → Option ℕ
  sub_named u name = position (λ (s : Sub). bytes_eq s.desc.name name) 0 (subs_of (device u))

  -- the number of the subsection whose fields are read; none for the device's own fields
  abbrev pub part : List Piece → Option ℕ
  part (SubHead name v ∷ u) = sub_named u name
  part (Number c kind z ∷ u) = part u
  part (Constant kind z ∷ u) = part u
  part (Filler bytes ∷ u) = part u
  part _ = None

  -- the image of a device at a version, with all cells at their defaults
  abbrev pub fresh : Option Device → ℕ → Image
  fresh None v = record { version = v; came = []; numbers = [] }
  fresh (Some d) v = record (default_image set d) { version = v }

  -- the open device's image by the units since its section head
  abbrev pub image : List Piece → Image
  image (Head id name instance v ∷ u) = fresh (at_option set.devices (device_named name instance)) v
  image (Number c kind z ∷ u) = let i = image u in record i { numbers = slice_set i.numbers c z }
  image (SubHead name v ∷ u) = let i = image u in record i { came = put_version i.came (sub_named u name) v }
  image (Constant kind z ∷ u) = image u
  image (Filler bytes ∷ u) = image u
  image _ = record { version = 0; came = []; numbers = [] }

  -- the slots of subsection j if it came, otherwise none
  abbrev pub slots_of_sub : Device → Image → ℕ → Option Sub → Option (Option ℕ) → List Slot
  slots_of_sub d i j (Some s) (Some (Some v)) = sub_slots set s v i.numbers (sub_place set (own_cells set d) d.subs j)
  slots_of_sub d i j _ _ = []

  -- the slots of a part of a device, by the numbers of an image
  abbrev pub part_slots : Option Device → Image → Option ℕ → List Slot
  part_slots None i p = []
  part_slots (Some d) i None = own_slots set d i.version i.numbers
  part_slots (Some d) i (Some j) = slots_of_sub d i j (slice_get d.subs j) (slice_get i.came j)

  -- the slots of the part whose fields are read, by the numbers so far
  abbrev pub slots : List Piece → List Slot
  slots u = part_slots (device u) (image u) (part u)
