-- What a description file says (docs/sets.md).
use Rattle.std.specs.Prelude.{ℕ, List, [], ◌∷◌, Option, Some, None, codes}
use Rattle.serde_json.specs.Data.{Data}
use Rattle.vms_spec.specs.Sets.{Set}
use Rattle.vms_spec.specs.WellFormed.{SetFault, first_fault}
use Rattle.vms_json.specs.Answers.{Answer, good, bad}
pub use Rattle.vms_json.specs.Texts.{value_in}
use Rattle.vms_descfile.specs.Descs.{parts_of}

-- what a file says: a set, or the first fault
pub data Said : Type 0 where
  -- these parts, which are well formed
  Parts : Set → Said
  -- no JSON value
  Syntax : Said
  -- the first fault of the value's shape, at this path
  Shape : List ℕ → Said
  -- the first rule of well-formed sets that the parts break, and the place
  IllFormed : SetFault → Said

-- the path of a fault; that of the whole file is `file`
abbrev pub path_said : List ℕ → List ℕ
path_said [] = codes "file"
path_said (c ∷ path) = c ∷ path

-- the set, or its first fault
abbrev pub judged_said : Set → Option SetFault → Said
judged_said set None = Parts set
judged_said set (Some fault) = IllFormed fault

-- the same of the parts that were read, or the fault of their shape
abbrev pub parts_said : Answer Set → Said
parts_said (good set) = judged_said set (first_fault set)
parts_said (bad path) = Shape (path_said path)

-- the same of a JSON value, if there is one
abbrev pub value_said : Option Data → Said
value_said None = Syntax
value_said (Some d) = parts_said (parts_of d)

-- what the bytes of a file say
unfoldable pub file_said : List ℕ → Said
file_said text = value_said (value_in text)
