-- What the description of a stream says about its devices, and which JSON value says exactly that
-- (docs/format.md, "The self-description").
use Rattle.std.specs.Prelude.{ℕ, Bool, true, false, ◌&&◌, ◌||◌, ◌==◌, nat_lt, nat_le, List, length, map, ℤ, codes}
use Rattle.std.specs.List.{list_all}
use Rattle.serde_json.specs.Data.{Data, object, no_members, put}
use Rattle.vms_kinds.specs.declared.Kind.{Kind}
use Rattle.vms_kinds.specs.Codes.{width}
use Rattle.vms_spec.specs.declared.TheConstants.{LONGEST_NAME, MOST_UNUSED}
use Rattle.vms_spec.specs.Names.{is_name_byte}
use Rattle.vms_spec.specs.Rules.{in_range}
use Rattle.vms_words.specs.Words.{kind_word}
use Rattle.vms_selfdesc.specs.Entries.{Entry, sent_entry, absent_entry}
use Rattle.vms_selfdesc.specs.Tree.{list_tree, sub_members, device_members}
use Rattle.vms_analyze.specs.declared.elements.TheConstants.{LONGEST_PATH}

-- An element under its path: a number that is in the stream; one that isn't, with its value; a constant of
-- some bytes; or some unused bytes.
pub data Told : Type 0 where
  Sent : List ℕ → Kind → Told
  Kept : List ℕ → Kind → ℤ → Told
  Fixed : List ℕ → ℕ → Told
  Skipped : List ℕ → ℕ → Told

-- A subsection; `sent` is whether it is in the stream.
pub record ToldSub : Type 0 where
  pub name : List ℕ
  pub sent : Bool
  pub version : ℕ
  pub elements : List Told

-- A device.
pub record ToldDevice : Type 0 where
  pub name : List ℕ
  pub instance : ℕ
  pub version : ℕ
  pub elements : List Told
  pub subs : List ToldSub

-- ---- as JSON

-- The element as JSON.
abbrev pub told_entry : Told → Entry
told_entry (Sent path kind) = sent_entry path (width kind) (kind_word kind)
told_entry (Kept path kind z) = absent_entry path (kind_word kind) z
told_entry (Fixed path n) = sent_entry path n (codes "equal")
told_entry (Skipped path n) = sent_entry path n (codes "unused")

-- The subsection as JSON.
abbrev pub told_sub : ToldSub → Data
told_sub s = object (sub_members (map told_entry s.elements) s.name s.sent s.version)

-- The device as JSON.
abbrev pub told_device : ToldDevice → Data
told_device d = object (device_members (map told_entry d.elements) d.instance d.name (map told_sub d.subs) d.version)

-- The devices as JSON.
abbrev pub told_tree : List ToldDevice → Data
told_tree ds = object (put (codes "devices") (list_tree told_device ds) no_members)

-- ---- what is of the shape

-- Whether a byte is a letter, a digit, or one of `_`, `-`, `.`, `[`, `]` and `/`.
abbrev pub is_path_byte : ℕ → Bool
is_path_byte b = is_name_byte b || b == 91 || b == 93 || b == 47

-- Whether a text has 1 to `most` such bytes.
abbrev pub is_path : ℕ → List ℕ → Bool
is_path most text = nat_le 1 (length text) && nat_le (length text) most && list_all is_path_byte text

-- Whether a number fits four bytes.
abbrev pub fits_four : ℕ → Bool
fits_four n = nat_lt n 4294967296

-- Whether a number is the width of a kind.
abbrev pub is_width : ℕ → Bool
is_width n = n == 1 || n == 2 || n == 4 || n == 8

-- Whether an element has the required shape.
abbrev pub is_good : Told → Bool
is_good (Sent path kind) = is_path LONGEST_PATH path
is_good (Kept path kind z) = is_path LONGEST_PATH path && in_range kind z
is_good (Fixed path n) = is_path LONGEST_PATH path && is_width n
is_good (Skipped path n) = is_path LONGEST_PATH path && (nat_le 1 n && nat_le n MOST_UNUSED)

-- Whether an element isn't in the stream.
abbrev pub is_kept : Told → Bool
is_kept (Sent path kind) = false
is_kept (Kept path kind z) = true
is_kept (Fixed path n) = false
is_kept (Skipped path n) = false

-- Whether a subsection has the required shape. If it isn't sent, no element of it is in the stream.
abbrev pub is_good_sub : ToldSub → Bool
is_good_sub s = is_path LONGEST_NAME s.name && fits_four s.version && list_all is_good s.elements && (s.sent || list_all is_kept s.elements)

-- Whether a device has the required shape.
abbrev pub is_good_device : ToldDevice → Bool
is_good_device d = is_path LONGEST_NAME d.name && fits_four d.instance && fits_four d.version && list_all is_good d.elements && list_all is_good_sub d.subs
