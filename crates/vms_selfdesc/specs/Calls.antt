-- What the calls that write a description require of the draft and of what they borrow.
use Rattle.std.specs.Prelude.{◌≡◌, ℕ, ◌+◌, ◌*◌, ◌<◌, ◌≤◌, [], List, false, length, map, ℤ, string_bytes}
use Rattle.vms_spec.specs.declared.Part.{Part}
use Rattle.vms_spec.specs.Layout.{capacity_of, item_size, struct_cells}
use Rattle.vms_spec.specs.Sets.{Field}
use Rattle.vms_spec.specs.Streams.{AreReady}
use Rattle.vms_desc.specs.Asks.{field_at}
use Rattle.vms_desc.specs.Described.{described, device_at}
use Rattle.vms_desc.specs.Parts.{desc_at}
use Rattle.vms_desc.specs.declared.set.DescSet.{DescSet}
use Rattle.vms_image.specs.Typed.{IsOfDevice, Typed, state_of}
use Rattle.vms_selfdesc.specs.Drafts.{IsPlain}
use Rattle.vms_selfdesc.specs.Listing.{AreElements, IsPlace, numbers_in, set_in}
use Rattle.vms_selfdesc.specs.Needs.{CanGrow, IsWide, item_levels, part_levels}
use Rattle.vms_selfdesc.specs.declared.draft.Draft.{Draft}
use Rattle.vms_selfdesc.specs.declared.fields.At.{At}
use Rattle.vms_selfdesc.specs.declared.fields.Lister.{Lister}
use Rattle.vms_selfdesc.specs.declared.fields.Place.{Place}

-- ---- members and entries

-- Both texts are plain.
pub record ArePlain (k v : List ℕ) : Type 0 where
  pub key : IsPlain k
  pub value : IsPlain v

-- The path and the word are plain.
pub record CanPutSent (draft : Draft) (w : List ℕ) : Type 0 where
  pub path : IsPlain (string_bytes draft.path.text)
  pub word : IsPlain w

-- The path is plain, and the default is a number of 64 bits.
pub record CanPutCell (draft : Draft) (default : ℤ) : Type 0 where
  pub path : IsPlain (string_bytes draft.path.text)
  pub wide : IsWide default

-- ---- fields

module _ (l : Lister) where
  -- The cells of the part are among the numbers, and it has the field.
  pub record HasField (part : Part) (cell k : ℕ) : Type 0 where
    pub place : IsPlace l part cell
    pub field : k < length (desc_at (set_in l) part).fields

  -- The elements' cells are among the numbers, and the path is plain and has room for `more` bytes and the item.
  pub record CanListElements (draft : Draft) (f : Field) (cell n more : ℕ) : Type 0 where
    pub cells : AreElements l f cell n
    pub path : IsPlain (string_bytes draft.path.text)
    pub deep : CanGrow draft.path more (item_levels f.item)

  -- The same of one element and of n.
  pub record CanListRun (draft : Draft) (f : Field) (cell n : ℕ) : Type 0 where
    pub one : AreElements l f cell 1
    pub all : AreElements l f cell n
    pub path : IsPlain (string_bytes draft.path.text)
    pub deep : CanGrow draft.path 12 (item_levels f.item)

  -- The cells of the part are among the numbers, and the path is plain and has room for its fields.
  pub record CanListPart (draft : Draft) (part : Part) (cell : ℕ) : Type 0 where
    pub place : IsPlace l part cell
    pub path : IsPlain (string_bytes draft.path.text)
    pub deep : CanGrow draft.path 44 (part_levels (set_in l) part)

  -- The cells of a field are among the numbers.
  abbrev pub HasCellsAt : Part → At → Type 0
  HasCellsAt part at =
      let f = field_at (set_in l) part at.field in
      at.cell + capacity_of f.count * item_size (struct_cells (set_in l)) f.item ≤ length (numbers_in l)

  -- The cells of the part and of its field are among the numbers, and the path is plain and has room for the fields.
  pub record CanListField (draft : Draft) (part : Part) (within : Place) (at : At) : Type 0 where
    pub place : IsPlace l part within.cell
    pub field : at.field < length (desc_at (set_in l) part).fields
    pub room : HasCellsAt part at
    pub path : IsPlain (string_bytes draft.path.text)
    pub deep : CanGrow draft.path 44 (part_levels (set_in l) part)

  -- ---- devices

  -- The cells of the part are among the numbers, and the path is empty.
  pub record CanWriteFields (draft : Draft) (part : Part) (cell : ℕ) : Type 0 where
    pub place : IsPlace l part cell
    pub no_path : string_bytes draft.path.text ≡ []

  -- The image is one of device i, and the path is empty.
  pub record CanWriteDevice (draft : Draft) (i : ℕ) : Type 0 where
    pub device : IsOfDevice (set_in l) i (state_of l.image.now)
    pub no_path : string_bytes draft.path.text ≡ []

  -- The same of subsection j of the device.
  pub record CanWriteSub (draft : Draft) (i j : ℕ) : Type 0 where
    pub device : IsOfDevice (set_in l) i (state_of l.image.now)
    pub is_sub : j < length (device_at (set_in l) i).subs
    pub no_path : string_bytes draft.path.text ≡ []

module _ (set : DescSet) (images : List Typed) where
  -- The images are ready, and the path is empty.
  pub record CanWriteDevices (draft : Draft) : Type 0 where
    pub ready : AreReady (described set) (map state_of images)
    pub no_path : string_bytes draft.path.text ≡ []

  -- The same of a draft without a device so far.
  pub record CanWriteTree (draft : Draft) : Type 0 where
    pub ready : AreReady (described set) (map state_of images)
    pub no_path : string_bytes draft.path.text ≡ []
    pub first : draft.later ≡ false
