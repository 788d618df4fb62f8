-- The text of a path.
use Rattle.std.specs.Prelude.{ℕ, List, [], ◌++◌, codes}
use Rattle.vms_spec.specs.Sets.{Field}
use Rattle.vms_parts.specs.Views.{field_of}
use Rattle.vms_elements.specs.Elements.{index_text}
use Rattle.vms_values.specs.declared.path.Path.{Path, Top, Field', Inside'}

-- The name of a field, and the number of its element in brackets if it is an array.
abbrev pub element_text : Field → ℕ → List ℕ
element_text f e = f.name ++ index_text f.count e

-- The text of a path: names joined by dots.
abbrev pub path_text : Path → List ℕ
path_text Top = []
path_text (Field' p before field index) = path_text before ++ element_text (field_of field.now) index
path_text (Inside' p path) = path_text path ++ codes "."
