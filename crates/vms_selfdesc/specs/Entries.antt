-- What the self-description says about the fields of a part: an entry for each element in the stream, in order, and
-- one for each cell that isn't in the stream and that the values text prints. The entries are derived from the
-- elements of the part, like its cells, its slots and the lines of the values text. See docs/format.md, "The
-- self-description".
use Rattle.std.specs.Prelude.{ℕ, Bool, true, false, ◌&&◌, List, [], ◌∷◌, ◌++◌, Option, Some, None, ℤ, codes}
use Rattle.vms_kinds.specs.declared.Kind.{Kind}
use Rattle.vms_kinds.specs.Codes.{width}
use Rattle.vms_spec.specs.Sets.{Desc, Set}
use Rattle.vms_words.specs.Words.{kind_word}
use Rattle.vms_elements.specs.Elements.{What, Number, Constant, Filler, Rule, Element}
use Rattle.vms_elements.specs.Parts.{elements_in}

-- The path as in the values text, the number of bytes in the stream, the type, and the default of a cell that isn't
-- in the stream.
pub record Entry : Type 0 where
  pub path : List ℕ
  pub size : ℕ
  pub type : List ℕ
  pub absent : Option ℤ

-- Something that is in the stream.
abbrev pub sent_entry : List ℕ → ℕ → List ℕ → Entry
sent_entry path size type = record { path = path; size = size; type = type; absent = None }

-- A cell that isn't in the stream, and so has its default.
abbrev pub absent_entry : List ℕ → List ℕ → ℤ → Entry
absent_entry path type default = record { path = path; size = 0; type = type; absent = Some default }

-- A cell, in the stream or not.
abbrev pub cell_entry : Bool → List ℕ → Kind → ℤ → Entry
cell_entry true path kind default = sent_entry path (width kind) (kind_word kind)
cell_entry false path kind default = absent_entry path (kind_word kind) default

-- Something without a cell is listed only if it is in the stream.
abbrev pub listed_if : Bool → Entry → List Entry
listed_if true entry = entry ∷ []
listed_if false entry = []

-- The entry of an element with this path. A number is listed if it is counted, and so printed; anything else if it
-- is in the stream.
abbrev pub entry_of : What → Bool → Bool → List ℕ → List Entry
entry_of (Number cell) counted present path = listed_if counted (cell_entry present path cell.kind cell.default)
entry_of (Constant kind z) counted present path = listed_if present (sent_entry path (width kind) (codes "equal"))
entry_of (Filler n) counted present path = listed_if present (sent_entry path n (codes "unused"))
entry_of (Rule holds) counted present path = []

-- The entries of these elements under a path, one after the other. If the part isn't sent, nothing is in the
-- stream.
abbrev pub entries_of : Bool → List ℕ → List Element → List Entry
entries_of sent path [] = []
entries_of sent path (x ∷ xs) = entry_of x.what x.counted (sent && x.present) (path ++ x.name) ++ entries_of sent path xs

-- The entries of a part of a set, at the set's version of it, whose cells begin at a cell.
abbrev pub part_entries : Set → Desc → Bool → List ℤ → ℕ → List Entry
part_entries set d sent numbers at = entries_of sent [] (elements_in set d d.version numbers at)
