-- The machine and the images that a text says, or its first bad line in the first bad pass (docs/values.md).
use Rattle.std.specs.Prelude.{◌≡◌, ◌⊎◌, ℕ, suc, ◌<◌, Bool, true, false, ◌||◌, ◌==◌, List, [], ◌∷◌, ◌++◌, length, get_or, map, Option, Some, None, ℤ, pos}
use Rattle.std.specs.List.{AllByRecursion, list_all}
use Rattle.vms_kinds.specs.declared.Kind.TheVariants.{U64, I64}
use Rattle.vms_spec.specs.declared.ValuesReason.{ValuesReason}
use Rattle.vms_spec.specs.Rules.{in_range}
use Rattle.vms_spec.specs.Sets.{Sub, Device, Set}
use Rattle.vms_spec.specs.Layout.{no_cell, device_cells}
use Rattle.vms_spec.specs.Images.{Image}
use Rattle.vms_spec.specs.Streams.{is_one_of, AreReady}
use Rattle.vms_spec.specs.Spelling.{first_line}
use Rattle.vms_spec.specs.Values.{values_text}
use Rattle.vms_spec.specs.ValuesReading.{machine_named, ValuesRead, Values, Bad}
use Rattle.vms_elements.specs.Lines.{text_of}
use Rattle.vms_elements.specs.Entries.{Entry, OfMachine, OfSection, OfSub, OfNumber, entries, device_entries, entry_line, line_reason, front_reason, part_reason}

-- ---- what is accepted

-- The machine is one of the set, or none.
abbrev pub IsMachineOf : Set → Option (List ℕ) → Type 0
IsMachineOf set None = Unit {0}
IsMachineOf set (Some name) = is_one_of set.machines name ≡ true

-- The text is the one printed for a machine and for images that may be written.
pub record IsText (set : Set) (text : List ℕ) (machine : Option (List ℕ)) (images : List Image) : Type 0 where
  pub named : IsMachineOf set machine
  pub ready : AreReady set images
  pub printed : text ≡ values_text set machine images

-- ---- the first pass

-- The number has at most 64 bits, as each kind's numbers have.
abbrev pub is_short : ℤ → Bool
is_short z = in_range I64 z || in_range U64 z

-- The subsection came at the set's version, or didn't come.
abbrev pub IsAtVersion : Sub → Option ℕ → Type 0
IsAtVersion s None = Unit {0}
IsAtVersion s (Some v) = v ≡ s.desc.version

-- Each subsection did.
abbrev pub AreAtVersions : List Sub → List (Option ℕ) → Type 0
AreAtVersions [] came = Unit {0}
AreAtVersions (s ∷ subs) [] = Unit {0}
AreAtVersions (s ∷ subs) (o ∷ came) = IsAtVersion s o × AreAtVersions subs came

-- An image of the device at the set's versions, with a number for each cell and an entry for each subsection.
pub record IsShaped (set : Set) (d : Device) (image : Image) : Type 0 where
  pub version : image.version ≡ d.desc.version
  pub subs : length image.came ≡ length d.subs
  pub versions : AreAtVersions d.subs image.came
  pub cells : length image.numbers ≡ length (device_cells set d)
  pub short : list_all is_short image.numbers ≡ true

-- There is one for each device.
abbrev pub AreShaped : Set → List Device → List Image → Type 0
AreShaped set [] [] = Unit {0}
AreShaped set [] (image ∷ images) = ⊥
AreShaped set (d ∷ devices) [] = ⊥
AreShaped set (d ∷ devices) (image ∷ images) = IsShaped set d image × AreShaped set devices images

-- Each of these lines may be where it is.
abbrev pub AreFine : List Entry → Type 0
AreFine = AllByRecursion (λ e. line_reason e (entry_line e) ≡ None)

-- The first bad line of the first pass. The lines before it are fine lines of some images of the set, and it
-- isn't one that may follow. All images with these lines require the same line there.
pub record IsBadLine (set : Set) (text : List ℕ) (line : ℕ) (reason : ValuesReason) : Type 0 where
  pub machine : Option (List ℕ)
  pub images : List Image
  pub before : List Entry
  pub after : List Entry
  pub rest : List ℕ
  pub named : machine ≡ machine_named set.machines (first_line text)
  pub shaped : AreShaped set set.devices images
  pub state : entries set machine images ≡ before ++ after
  pub fine : AreFine before
  pub begins : text ≡ text_of (map entry_line before) ++ rest
  pub number : line ≡ suc (length before)
  pub bad : front_reason after rest ≡ Some reason

-- ---- the second pass

-- Whether an entry is that of cell `c`.
abbrev pub is_of_cell : ℕ → Entry → Bool
is_of_cell c (OfMachine name) = false
is_of_cell c (OfSection d image) = false
is_of_cell c (OfSub d image j s at came) = false
is_of_cell c (OfNumber x numbers) = x.cell == c

-- Whether the number of a cell has a line.
abbrev pub has_line : List Entry → ℕ → Bool
has_line [] c = false
has_line (e ∷ es) c = is_of_cell c e || has_line es c

-- A number without a line is the cell's default.
abbrev pub AreUnsaid : Set → Device → Image → Type 0
AreUnsaid set d image = (c : ℕ) → c < length image.numbers → has_line (device_entries set d image) c ≡ false
    → get_or image.numbers c (pos 0) ≡ (get_or (device_cells set d) c no_cell).default

-- This holds of each device.
abbrev pub AllUnsaid : Set → List Device → List Image → Type 0
AllUnsaid set [] images = Unit {0}
AllUnsaid set (d ∷ devices) [] = Unit {0}
AllUnsaid set (d ∷ devices) (image ∷ images) = AreUnsaid set d image × AllUnsaid set devices images

-- What a text without a bad line in the first pass says.
pub record Says (set : Set) (text : List ℕ) (machine : Option (List ℕ)) (images : List Image) : Type 0 where
  pub named : IsMachineOf set machine
  pub shaped : AreShaped set set.devices images
  pub unsaid : AllUnsaid set set.devices images
  pub fine : AreFine (entries set machine images)
  pub printed : text ≡ text_of (map entry_line (entries set machine images))

-- The first bad line of the second pass, which is made only if the first found none. It is that of a section
-- or a subsection.
pub record IsBadPart (set : Set) (text : List ℕ) (line : ℕ) (reason : ValuesReason) : Type 0 where
  pub machine : Option (List ℕ)
  pub images : List Image
  pub before : List Entry
  pub entry : Entry
  pub after : List Entry
  pub says : Says set text machine images
  pub state : entries set machine images ≡ before ++ entry ∷ after
  pub good : map (part_reason set) before ≡ map (λ e. None) before
  pub number : line ≡ suc (length before)
  pub bad : part_reason set entry ≡ Some reason

-- ---- the whole

-- The text is refused at this line and for this reason.
abbrev pub Refused : Set → List ℕ → ℕ → ValuesReason → Type 0
Refused set text line reason = IsBadLine set text line reason ⊎ IsBadPart set text line reason

-- What is read of a text.
abbrev pub Reads : Set → List ℕ → ValuesRead → Type 0
Reads set text (Values machine images) = IsText set text machine images
Reads set text (Bad line reason) = Refused set text line reason
