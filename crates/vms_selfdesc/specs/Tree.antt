-- The self-description of a stream, as JSON: what a reader learns about the devices without their set. An object has
-- its keys in byte order, whatever the order in which they are put. See docs/format.md, "The self-description".
use Rattle.std.specs.Prelude.{ℕ, ◌+◌, Bool, true, is_some, List, [], ◌∷◌, length, map, Option, Some, None, ℤ, codes}
use Rattle.serde_json.specs.Data.{Data, number, unsigned, string, boolean, array, object, Members, no_members, put}
use Rattle.serde_json.specs.Find.{of_integer}
use Rattle.serde_json.specs.View.{items_of}
use Rattle.serde_json.specs.Written.{compact_text}
use Rattle.vms_spec.specs.Sets.{Sub, Device, Set}
use Rattle.vms_spec.specs.Layout.{desc_cells, struct_cells}
use Rattle.vms_spec.specs.Images.{Image, own_cells}
use Rattle.vms_selfdesc.specs.Entries.{Entry, part_entries}

-- A natural number.
abbrev pub natural : ℕ → Data
natural n = number (unsigned n)

-- An array of trees.
abbrev pub list_tree : {A : Type 0} → (A → Data) → List A → Data
list_tree f list = array (items_of (map f list))

-- The members of something that is in the stream.
abbrev pub sent_members : List ℕ → ℕ → List ℕ → Members
sent_members path size type =
    put (codes "type") (string type) (put (codes "size") (natural size) (put (codes "name") (string path) no_members))

-- A cell that isn't in the stream has one member more, its default.
abbrev pub with_value : Option ℤ → Members → Members
with_value None ms = ms
with_value (Some default) ms = put (codes "value") (number (of_integer default)) ms

-- The tree of an entry.
abbrev pub entry_tree : Entry → Data
entry_tree e = object (with_value e.absent (sent_members e.path e.size e.type))

-- The members of a subsection with these entries, and whether it is in the stream.
abbrev pub sub_members : List Entry → List ℕ → Bool → ℕ → Members
sub_members entries name sent version =
    put (codes "version") (natural version)
    (put (codes "sent") (boolean sent)
    (put (codes "name") (string name)
    (put (codes "fields") (list_tree entry_tree entries) no_members)))

-- The tree of subsection s, whose cells begin at a cell, present or not.
abbrev pub sub_tree : Set → List ℤ → ℕ → Sub → Option ℕ → Data
sub_tree set numbers at s came =
    object (sub_members (part_entries set s.desc (is_some came) numbers at) s.desc.name (is_some came) s.desc.version)

-- The trees of all subsections of the description, in order. The cells of the first one begin at a cell.
abbrev pub sub_trees : Set → List ℤ → ℕ → List Sub → List (Option ℕ) → List Data
sub_trees set numbers at (s ∷ subs) (c ∷ came) =
    sub_tree set numbers at s c ∷ sub_trees set numbers (at + length (desc_cells (struct_cells set) s.desc)) subs came
sub_trees set numbers at subs came = []

-- The members of a device.
abbrev pub device_members : List Entry → ℕ → List ℕ → List Data → ℕ → Members
device_members entries instance name subs version =
    put (codes "version") (natural version)
    (put (codes "subsections") (array (items_of subs))
    (put (codes "name") (string name)
    (put (codes "instance_id") (natural instance)
    (put (codes "fields") (list_tree entry_tree entries) no_members))))

-- The tree of a device.
abbrev pub device_tree : Set → Device → Image → Data
device_tree set d image = object (
    device_members (part_entries set d.desc true image.numbers 0) d.instance d.desc.name
    (sub_trees set image.numbers (own_cells set d) d.subs image.came) d.desc.version)

-- The trees of devices.
abbrev pub device_trees : Set → List Device → List Image → List Data
device_trees set (d ∷ devices) (image ∷ images) = device_tree set d image ∷ device_trees set devices images
device_trees set devices images = []

-- The tree of a set's images.
abbrev pub described_tree : Set → List Image → Data
described_tree set images = object (put (codes "devices") (array (items_of (device_trees set set.devices images))) no_members)

-- The text of that tree without spaces.
abbrev pub described_text : Set → List Image → List ℕ
described_text set images = compact_text (described_tree set images)
