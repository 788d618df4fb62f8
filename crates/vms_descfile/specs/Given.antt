-- What the reading of a file returns.
use Rattle.std.specs.Prelude.{◌≡◌, ℕ, List, Option, Some, None, Result, Ok, Err}
use Rattle.serde_json.specs.Data.{Data}
use Rattle.vms_json.specs.Nodes.{tree_view}
use Rattle.vms_json.specs.declared.node.Tree.{Tree}
use Rattle.vms_desc.specs.declared.set.DescSet.{DescSet}
use Rattle.vms_desc.specs.Described.{described}
use Rattle.vms_spec.specs.WellFormed.{first_fault}
use Rattle.vms_parts.specs.declared.types.Parts.{Parts as FileParts}
use Rattle.vms_parts.specs.Views.{set_of}
use Rattle.vms_json.specs.declared.fault.Fault.{Fault}
use Rattle.vms_json.specs.declared.fault.Fault.TheVariants as faults
use Rattle.vms_descfile.specs.declared.file_fault.FileFault.{FileFault}
use Rattle.vms_descfile.specs.declared.file_fault.FileFault.TheVariants as file_faults
use Rattle.vms_descfile.specs.Files.{Said, Parts, Syntax, Shape, IllFormed, path_said, judged_said, file_said}

-- the set that the file says, or its fault; NoMemory may come in any case
abbrev pub Gives : Said → Result DescSet FileFault → Type 0
Gives said (Ok set) = said ≡ Parts (described set)
Gives said (Err file_faults.Syntax) = said ≡ Syntax
Gives said (Err (file_faults.Shape path)) = said ≡ Shape path
Gives said (Err (file_faults.IllFormed rule place)) = said ≡ IllFormed (record { rule = rule; place = place })
Gives said (Err file_faults.NoMemory) = Unit {0}

-- the JSON value, if the text has one; NoMemory may come in any case
abbrev pub GivesValue : Option Data → Result Tree FileFault → Type 0
GivesValue found (Ok value) = found ≡ Some (tree_view value)
GivesValue found (Err file_faults.Syntax) = found ≡ None
GivesValue found (Err file_faults.NoMemory) = Unit {0}
GivesValue found (Err fault) = ⊥

-- the parts that the file says, well formed or not, or its fault
abbrev pub SaysParts : List ℕ → Result FileParts FileFault → Type 0
SaysParts text (Ok parts) = file_said text ≡ judged_said (set_of parts) (first_fault (set_of parts))
SaysParts text (Err fault) = Gives (file_said text) (Err fault)

-- the fault of a part as a fault of the whole file
abbrev pub IsFileFault : Fault → FileFault → Type 0
IsFileFault (faults.Shape path) (file_faults.Shape whole) = whole ≡ path_said path
IsFileFault fault file_faults.NoMemory = Unit {0}
IsFileFault fault result = ⊥
