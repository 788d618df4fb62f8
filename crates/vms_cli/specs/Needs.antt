-- What the calls inside of a command require of the sets and the values that they borrow.
use Rattle.std.specs.Prelude.{◌≡◌, ℕ, ◌<◌, List, length, map, Option, Result, IfSome}
use Rattle.vms_io.specs.Memory.{Store}
use Rattle.vms_spec.specs.Layout.{device_cells}
use Rattle.vms_spec.specs.Streams.{AreReady}
use Rattle.vms_desc.specs.Described.{described, device_at}
use Rattle.vms_desc.specs.declared.set.DescSet.{DescSet}
use Rattle.vms_elements.specs.Parts.{cell_name}
use Rattle.vms_image.specs.Typed.{AreImagesOf, Typed, state_of}
use Rattle.vms_values.specs.declared.fault.Values.{Values}
use Rattle.vms_convert.specs.declared.fault.ConvertFault.{ConvertFault}
use Rattle.vms_cli.specs.Commands.ConvertCommand.{IsInNewest, NamesCell, newest as newest_set, no_path}

module _ (set : DescSet) where
  -- The set is the newest, the store is empty and has room for a path, and what was lost is in the set.
  pub record CanTell (s : Store) (converted : Result (Unit {0}) ConvertFault) : Type 0 where
    pub newest : described set ≡ newest_set
    pub path : s ≡ no_path
    pub named : NamesCell converted

  -- The same of a device and a cell, or of the machine.
  pub record CanTellLost (s : Store) (section cell : Option ℕ) : Type 0 where
    pub newest : described set ≡ newest_set
    pub path : s ≡ no_path
    pub named : IsInNewest section cell

  -- The device and the cell are in the set, and the store is empty and has room for the cell's path.
  pub record CanPutPath (i c : ℕ) (s : Store) : Type 0 where
    pub is_device : i < length (described set).devices
    pub is_cell : c < length (device_cells (described set) (device_at (described set) i))
    pub short : length (cell_name (described set) (device_at (described set) i) c) < 64
    pub path : s ≡ no_path

  -- The store holds the path of a cell.
  abbrev pub HasPath : ℕ → ℕ → Store → Type 0
  HasPath i c s = s.bytes ≡ cell_name (described set) (device_at (described set) i) c

  -- The machine and the images are the set's.
  pub record CanPrint (m : Option ℕ) (images : List Typed) : Type 0 where
    pub machine : IfSome m (λ k. k < length (described set).machines)
    pub of : AreImagesOf (described set) images

  -- The machine and the images of the values are the set's, and may be written.
  pub record CanPack (values : Values) : Type 0 where
    pub machine : IfSome values.machine (λ k. k < length (described set).machines)
    pub of : AreImagesOf (described set) values.images.items
    pub ready : AreReady (described set) (map state_of values.images.items)
