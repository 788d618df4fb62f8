-- The laws between a values text under a set and the set's lines and elements, each as a statement.
use Rattle.std.specs.Prelude.{◌≡◌, ℕ, suc, ◌+◌, ◌≤◌, List, length, sum_by, Option}
use Rattle.vms_spec.specs.declared.ValuesReason.{ValuesReason}
use Rattle.vms_spec.specs.Sets.{Device, Set}
use Rattle.vms_spec.specs.Layout.{device_cells}
use Rattle.vms_spec.specs.Images.{Image}
use Rattle.vms_spec.specs.Values.{values_text}
use Rattle.vms_spec.specs.ValuesReading.{values_read, ValuesRead, Values, Bad}
use Rattle.vms_spec.specs.Streams.{AreReady}
use Rattle.vms_spec.specs.Good.{IsFit}
use Rattle.vms_elements.specs.Reading.{IsMachineOf, IsText, Reads}

-- What is read of a text is what its lines mean by the elements of the set. That is a machine of the set or
-- none and images that may be written, whose text this is; else the first line that may not be where it is;
-- else the first bad section or subsection.
abbrev pub ReadLaw : Type 0
ReadLaw = (set : Set) (text : List ℕ) → IsFit set → Reads set text (values_read set text)

-- Nothing but what its lines mean is read of a text.
abbrev pub OnlyLaw : Type 0
OnlyLaw = (set : Set) (text : List ℕ) (v : ValuesRead) → IsFit set → Reads set text v → values_read set text ≡ v

-- An accepted text is the one printed for its machine and images.
abbrev pub AcceptedLaw : Type 0
AcceptedLaw = (set : Set) (text : List ℕ) (machine : Option (List ℕ)) (images : List Image) → IsFit set → values_read set text ≡ Values machine images → IsText set text machine images

-- What is printed for images that may be written is read back as these.
abbrev pub PrintedLaw : Type 0
PrintedLaw = (set : Set) (machine : Option (List ℕ)) (images : List Image) → IsFit set → IsMachineOf set machine → AreReady set images → values_read set (values_text set machine images) ≡ Values machine images

-- ---- lines

-- The most lines of a device: of its section, its subsections and all its cells.
abbrev pub device_lines : Set → Device → ℕ
device_lines set d = 1 + (length d.subs + length (device_cells set d))

-- The most lines of a text of a set, with that of a machine.
abbrev pub most_lines : Set → ℕ
most_lines set = 1 + sum_by (device_lines set) set.devices

-- A text of any length is refused at one of these lines, or at the next one.
abbrev pub LineLaw : Type 0
LineLaw = (set : Set) (text : List ℕ) (line : ℕ) (reason : ValuesReason) → IsFit set → values_read set text ≡ Bad line reason → line ≤ suc (most_lines set)
