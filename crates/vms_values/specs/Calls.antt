-- What printing and reading need, and what they print and read, over the set that they borrow.
use Rattle.std.specs.Prelude.{◌≡◌, ℕ, ◌+◌, ◌*◌, ◌<◌, ◌≤◌, Bool, true, ◌&&◌, List, [], length, get_or, map, slice_set, None, IfOk, OnOk, Result, ℤ}
use Rattle.std.specs.declared.alloc.Global.{Global}
use Rattle.std.specs.declared.vec.Vec.{Vec}
use Rattle.vms_kinds.specs.Codes.{InRange}
use Rattle.vms_kinds.specs.declared.Item.{Item}
use Rattle.vms_kinds.specs.declared.Item.TheVariants as items
use Rattle.vms_kinds.specs.declared.Kind.{Kind}
use Rattle.vms_kinds.specs.declared.Kind.TheVariants.{U8}
use Rattle.vms_io.specs.Told.{Outlet}
use Rattle.vms_io.specs.Writing.{Wrote}
use Rattle.vms_spec.specs.Images.{Image, own_cells}
use Rattle.vms_spec.specs.Layout.{no_parent}
use Rattle.vms_spec.specs.Rules.{uses_below}
use Rattle.vms_spec.specs.Tests.{is_there}
use Rattle.vms_spec.specs.Values as values
use Rattle.vms_spec.specs.Values.{printers}
use Rattle.vms_spec.specs.ValuesReading as reading
use Rattle.vms_spec.specs.ValuesReading.{Read, Standing, readers}
use Rattle.vms_spec.specs.declared.Part.TheVariants as parts
use Rattle.vms_spec.specs.declared.TheConstants.{MOST_ITEMS}
use Rattle.vms_parts.specs.Views.{field_of}
use Rattle.vms_parts.specs.declared.types.Field.{Field}
use Rattle.vms_desc.specs.Asks.{field_at, first_cell, own_numbers}
use Rattle.vms_desc.specs.Described.{described, device_at}
use Rattle.vms_desc.specs.Parts.{desc_at, sub_at}
use Rattle.vms_desc.specs.Spots.{kinds_at}
use Rattle.vms_desc.specs.declared.set.DescSet.{DescSet}
use Rattle.vms_image.specs.Typed.{AreImagesOf, IsImageOf, IsOfDevice, Typed, default_at, state_of}
use Rattle.vms_walk.specs.Steps.{HasSpot, capacities_of, cells_in, size_in, table}
use Rattle.vms_walk.specs.declared.fields.PartAt.{PartAt}
use Rattle.vms_values.specs.DevicesRead.{AllRead, DeviceRead, device_read, map_ok, start_of}
use Rattle.vms_values.specs.Printing.{AreOf, IsOf, IsRun, Stays, below, below_part, run_lines, whole_sub}
use Rattle.vms_values.specs.Reading.{Reaches, ReadsBy}
use Rattle.vms_values.specs.SubsTaken.{SubReached, SubsReached, sub_read}
use Rattle.vms_values.specs.Taken.{AreKinds, ElementKinds, IsKept, element_cells, line_read, part_cells, place_of, run_read}
use Rattle.vms_values.specs.declared.cursor.Lines.{Lines}
use Rattle.vms_values.specs.declared.devices.Reading.{Reading}
use Rattle.vms_values.specs.declared.fault.LineFault.{LineFault}
use Rattle.vms_values.specs.declared.fault.Values.{Values as Given}
use Rattle.vms_values.specs.declared.line.TheConstants.{INDEX_ROOM, LONGEST_PATH, PART_ROOM}
use Rattle.vms_values.specs.declared.shown.Run.{Run as Elements}
use Rattle.vms_values.specs.declared.shown.Shown.{Shown}
use Rattle.vms_values.specs.declared.taken.Run.{Run}
use Rattle.vms_values.specs.declared.taken.Taken.{Taken}

-- ---- what is printed

-- The text is written, or a beginning of it, and the line still begins with `front`.
pub record Prints {E : Type 0} (text front after : List ℕ) (from to : Outlet) (result : Result (Unit {0}) E) : Type 0 where
  pub written : Wrote from to text result
  pub line : Stays front after

-- There is one image for each device.
abbrev pub AreShown : DescSet → List Typed → Type 0
AreShown set images = AreOf (described set) (described set).devices (map state_of images)

-- The lines of all devices.
abbrev pub devices_text : DescSet → List Typed → List ℕ
devices_text set images = values.devices_lines (described set) (described set).devices (map state_of images)

module _ (shown : Shown) where
  -- The image is one of device i.
  pub record HasImage (i : ℕ) : Type 0 where
    pub is_device : i < length (described shown.set.now).devices
    pub of : IsOf (described shown.set.now) (device_at (described shown.set.now) i) (state_of shown.image.now)

  -- The image is one of device i, which has subsection j.
  pub record HasSubImage (i j : ℕ) : Type 0 where
    pub is_device : i < length (described shown.set.now).devices
    pub is_sub : j < length (device_at (described shown.set.now) i).subs
    pub of : IsOf (described shown.set.now) (device_at (described shown.set.now) i) (state_of shown.image.now)

  -- The lines of device i.
  abbrev pub device_text : ℕ → List ℕ
  device_text i = values.device_lines (described shown.set.now) (device_at (described shown.set.now) i) (state_of shown.image.now)

  -- The lines of its subsection j.
  abbrev pub sub_text : ℕ → ℕ → List ℕ
  sub_text i j = whole_sub (described shown.set.now) i j shown.image.now.numbers (get_or shown.image.now.came j None)

  -- ---- the lines of parts, under the path before them

  -- The part's cells are among the image's.
  abbrev pub HasPartAt : PartAt → Type 0
  HasPartAt at = HasSpot (described shown.set.now) at shown.image.now.numbers

  -- The same, and its lines fit after `front`.
  pub record CanPrintPart (at : PartAt) (front : List ℕ) : Type 0 where
    pub spot : HasSpot (described shown.set.now) at shown.image.now.numbers
    pub short : length front + below_part (described shown.set.now) at.part ≤ LONGEST_PATH

  -- The lines of a part.
  abbrev pub part_lines : PartAt → List ℕ → List ℕ
  part_lines at front = values.desc_lines (printers (described shown.set.now)) (desc_at (described shown.set.now) at.part) front shown.image.now.numbers at.base

  -- The elements' cells are among the image's, and their lines fit after `front`.
  pub record CanPrintField (f : Field) (run : Elements) (front : List ℕ) : Type 0 where
    pub fits : IsRun (described shown.set.now) (field_of f) run.first run.count shown.image.now.numbers
    pub name : length (field_of f).name ≤ 32
    pub short : length front + PART_ROOM + below (field_of f).item ≤ LONGEST_PATH

  -- The lines of a field.
  abbrev pub field_lines : Field → Elements → List ℕ → List ℕ
  field_lines f run front = run_lines (printers (described shown.set.now)) (field_of f) (field_of f).count run.count front shown.image.now.numbers run.first

  -- The same for the elements of an array.
  pub record CanPrintElements (item : Item) (run : Elements) (front : List ℕ) : Type 0 where
    pub reaches : uses_below (length (described shown.set.now).structs) item ≡ true
    pub small : size_in (described shown.set.now) item ≤ MOST_ITEMS
    pub room : run.first + run.count * size_in (described shown.set.now) item ≤ length shown.image.now.numbers
    pub few : length shown.image.now.numbers ≤ MOST_ITEMS
    pub short : length front + INDEX_ROOM + 1 + below item ≤ LONGEST_PATH

  -- The lines of the elements of an array.
  abbrev pub elements_lines : Item → Elements → List ℕ → List ℕ
  elements_lines item run front =
      values.element_lines (printers (described shown.set.now)) item front shown.image.now.numbers run.first (size_in (described shown.set.now) item) 0 run.count

  -- The same for one element, which starts at cell k.
  pub record CanPrintItem (item : Item) (k : ℕ) (front : List ℕ) : Type 0 where
    pub reaches : uses_below (length (described shown.set.now).structs) item ≡ true
    pub room : k + size_in (described shown.set.now) item ≤ length shown.image.now.numbers
    pub few : length shown.image.now.numbers ≤ MOST_ITEMS
    pub short : length front + 1 + below item ≤ LONGEST_PATH

  -- The lines of one element.
  abbrev pub item_lines : Item → ℕ → List ℕ → List ℕ
  item_lines item k front = values.item_lines (printers (described shown.set.now)) item front shown.image.now.numbers k

  -- The same for an element of structure j.
  pub record CanPrintStruct (j k : ℕ) (front : List ℕ) : Type 0 where
    pub reaches : j < length (described shown.set.now).structs
    pub room : k + size_in (described shown.set.now) (items.Struct j) ≤ length shown.image.now.numbers
    pub few : length shown.image.now.numbers ≤ MOST_ITEMS
    pub short : length front + 1 + PART_ROOM * (j + 1) ≤ LONGEST_PATH

-- ---- what is read: the lines of parts

-- The line was read, and what is left of the text comes next.
pub record IsPast (old : Lines) (left : List ℕ) (new : Lines) : Type 0 where
  pub number : new.line ≡ old.line + 1
  pub rest : new.rest.now ≡ left

-- The lines are read as `whole` says, and only numbers of the image change.
pub record ReadsNumbers (whole : Standing → Read) (old new : Taken) (result : Result (Unit {0}) LineFault) : Type 0 where
  pub read : Reaches (whole (place_of old)) (place_of new) result
  pub kept : IsKept old.image new.image

-- The same, and the path still begins with `front`.
pub record ReadsUnder (whole : Standing → Read) (front after : List ℕ) (old new : Taken) (result : Result (Unit {0}) LineFault) : Type 0 where
  pub read : Reaches (whole (place_of old)) (place_of new) result
  pub kept : IsKept old.image new.image
  pub path : Stays front after

module _ (set : DescSet) where
  -- The part's cells are among the image's and of their kinds.
  pub record CanReadPart (at : PartAt) (image : Typed) : Type 0 where
    pub spot : HasSpot (described set) at image.numbers
    pub kinds : AreKinds image.kinds at.base (part_cells (described set) at.part)

  -- The same, and its paths fit after `front`.
  pub record CanReadUnder (at : PartAt) (image : Typed) (front : List ℕ) : Type 0 where
    pub spot : HasSpot (described set) at image.numbers
    pub kinds : AreKinds image.kinds at.base (part_cells (described set) at.part)
    pub short : length front + below_part (described set) at.part ≤ LONGEST_PATH

  -- What is read of a part's lines, under the path before them.
  abbrev pub part_read : PartAt → List ℕ → Bool → Standing → Read
  part_read at front present = reading.read_desc (readers (described set)) (desc_at (described set) at.part) at.version front present at.base

  -- The part's cells are among the image's, and it has field k.
  pub record HasFieldAt (at : PartAt) (k : ℕ) (image : Typed) : Type 0 where
    pub spot : HasSpot (described set) at image.numbers
    pub field : k < length (desc_at (described set) at.part).fields

  -- Whether field k is in the bytes, if its part may be.
  abbrev pub is_present : PartAt → ℕ → Bool → Typed → Bool
  is_present at k present image =
      let f = field_at (described set) at.part k in
      present && is_there f.test f.since at.version (own_numbers (described set) at.part image.numbers at.base) no_parent

  -- The elements' cells are among the image's and of their kinds, and their paths fit after `front`.
  pub record CanReadField (run : Run) (image : Typed) (front : List ℕ) : Type 0 where
    pub fits : IsRun (described set) (field_of run.field.now) run.first run.count image.numbers
    pub kinds : ElementKinds (cells_in (table (described set))) run.field.now.item image.kinds run.first run.count
    pub name : length (field_of run.field.now).name ≤ 32
    pub short : length front + PART_ROOM + below run.field.now.item ≤ LONGEST_PATH

  -- What is read of a field's lines.
  abbrev pub field_read : Run → List ℕ → Standing → Read
  field_read run front =
      let f = field_of run.field.now in
      run_read (readers (described set)) f f.count (capacities_of run.most) front run.present run.first run.count

  -- The same for the elements of an array.
  pub record CanReadElements (run : Run) (image : Typed) (front : List ℕ) : Type 0 where
    pub fits : IsRun (described set) (field_of run.field.now) run.first run.count image.numbers
    pub kinds : ElementKinds (cells_in (table (described set))) run.field.now.item image.kinds run.first run.count
    pub short : length front + INDEX_ROOM + 1 + below run.field.now.item ≤ LONGEST_PATH

  -- What is read of an array's lines.
  abbrev pub elements_read : Run → List ℕ → Standing → Read
  elements_read run front =
      let f = field_of run.field.now in
      reading.read_elements (readers (described set)) f (capacities_of run.most) front run.present run.first (size_in (described set) f.item) 0 run.count

  -- The same for one element, the first of the run.
  pub record CanReadItem (run : Run) (image : Typed) (front : List ℕ) : Type 0 where
    pub reaches : uses_below (length (described set).structs) run.field.now.item ≡ true
    pub room : run.first + size_in (described set) run.field.now.item ≤ length image.numbers
    pub few : length image.numbers ≤ MOST_ITEMS
    pub kinds : AreKinds image.kinds run.first (element_cells (cells_in (table (described set))) run.field.now.item)
    pub short : length front + 1 + below run.field.now.item ≤ LONGEST_PATH

  -- What is read of one element's lines.
  abbrev pub item_read : Run → List ℕ → Standing → Read
  item_read run front =
      let f = field_of run.field.now in
      reading.read_item (readers (described set)) f (capacities_of run.most) front run.present run.first f.item

-- The run's first cell is one of the image's, of this kind.
pub record HasNumber (kind : Kind) (run : Run) (image : Typed) : Type 0 where
  pub room : run.first < length image.numbers
  pub of_kind : get_or image.kinds run.first U8 ≡ kind

-- What is read of the line of the run's first cell.
abbrev pub number_read : Kind → Run → List ℕ → Standing → Read
number_read kind run path = line_read path kind (capacities_of run.most) run.first run.field.now.default run.present

-- Cell k is one of the image's, and the number is of its kind.
pub record CanPut (image : Typed) (k : ℕ) (z : ℤ) : Type 0 where
  pub cell : k < length image.numbers
  pub range : InRange (get_or image.kinds k U8) z

-- The number is in cell k, and nothing else has changed.
pub record PutsAt (k : ℕ) (z : ℤ) (old new : Taken) : Type 0 where
  pub lines : new.lines ≡ old.lines
  pub numbers : new.image.numbers ≡ slice_set old.image.numbers k z
  pub kept : IsKept old.image new.image

-- ---- what is read: subsections and devices

module _ (set : DescSet) where
  -- The image is one of device i, and has no line numbers of subsections yet.
  pub record CanReadSubs (i : ℕ) (image : Typed) (lines : List ℕ) : Type 0 where
    pub device : IsOfDevice (described set) i (state_of image)
    pub kinds : image.kinds ≡ kinds_at (described set) i
    pub none : lines ≡ []

  -- The subsections of device i are read, with their line numbers, or one is refused.
  pub record ReadsSubs (i : ℕ) (old new : Taken) (lines : List ℕ) (result : Result (Unit {0}) LineFault) : Type 0 where
    pub read : SubsReached (reading.read_subs (described set) (own_cells (described set) (device_at (described set) i)) (device_at (described set) i).subs (place_of old))
        old new lines result
    pub count : OnOk result (length lines ≡ length (device_at (described set) i).subs)

  -- The image is one of device i, which has subsection j.
  pub record CanReadSub (i j : ℕ) (image : Typed) : Type 0 where
    pub device : IsOfDevice (described set) i (state_of image)
    pub kinds : image.kinds ≡ kinds_at (described set) i
    pub is_sub : j < length (device_at (described set) i).subs

  -- Subsection j of device i is read and marked as it came, or it is refused.
  abbrev pub ReadsSub : ℕ → ℕ → Taken → Taken → Result (Unit {0}) LineFault → Type 0
  ReadsSub i j old new result =
      let s = sub_at (device_at (described set) i) j in
      SubReached (sub_read (described set) s (first_cell (described set) (parts.Sub i j)) (place_of old)) j old new result

  -- The image is that of device i at its defaults, and its lines come next.
  pub record CanReadDevice (i : ℕ) (taken : Taken) (sub_lines : List ℕ) (old : Reading) : Type 0 where
    pub known : i < length (described set).devices
    pub defaults : taken.image ≡ default_at (described set) i
    pub lines : taken.lines ≡ old.lines
    pub none : sub_lines ≡ []

  -- What is read of device i.
  abbrev pub IsReadOf : ℕ → Reading → Reading → Result Image LineFault → Type 0
  IsReadOf i old new result =
      let d = device_at (described set) i in
      DeviceRead (described set) d (device_read (described set) d (start_of (described set) d old)) old new result

  -- Device i is read into the image and judged, or a line is refused.
  pub record ReadsDevice (i : ℕ) (image : Typed) (old new : Reading) (result : Result (Unit {0}) LineFault) : Type 0 where
    pub read : IsReadOf i old new (map_ok (λ u. state_of image) result)
    pub of : OnOk result (IsImageOf (described set) i image)

  -- The set has device i.
  abbrev pub HasDevice : ℕ → Type 0
  HasDevice i = i < length (described set).devices

  -- The image of device i is read and judged, or a line is refused.
  pub record ReadsImage (i : ℕ) (old new : Reading) (result : Result Typed LineFault) : Type 0 where
    pub read : IsReadOf i old new (map_ok state_of result)
    pub of : IfOk result (λ image. IsImageOf (described set) i image)

  -- The devices have numbers of four bytes.
  abbrev pub HasFewDevices : Type 0
  HasFewDevices = length (described set).devices < 4294967296

  -- The images of all devices are read and judged, or a line is refused.
  pub record ReadsImages (old new : Reading) (result : Result (Vec Typed Global) LineFault) : Type 0 where
    pub read : AllRead (described set) (reading.read_devices (described set) (described set).devices old.lines.line old.lines.rest.now) old new (map_ok (λ v. map state_of v.items) result)
    pub of : IfOk result (λ v. AreImagesOf (described set) v.items)

  -- The text is read, or a line is refused.
  pub record ReadsText (text : List ℕ) (result : Result Given LineFault) : Type 0 where
    pub read : ReadsBy (described set) (reading.values_read (described set) text) result
    pub of : IfOk result (λ v. AreImagesOf (described set) v.images.items)
