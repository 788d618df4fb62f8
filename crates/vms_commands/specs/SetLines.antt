-- The lines about sets. See docs/commands.md, "Statuses and error lines".
use Rattle.std.specs.Prelude.{ℕ, List, [], ◌∷◌, ◌++◌, Option, Some, None, codes}
use Rattle.std.specs.Fmt.{decimal}
use Rattle.vms_spec.specs.declared.Part.{Part}
use Rattle.vms_spec.specs.declared.Part.TheVariants as parts
use Rattle.vms_spec.specs.declared.Place.{Place}
use Rattle.vms_check.specs.declared.mismatch.Mismatch.{Mismatch}

-- The text of a part of a set.
abbrev pub part_text : Part → List ℕ
part_text parts.Set = codes "set"
part_text (parts.Struct i) = codes "struct " ++ decimal i
part_text (parts.Device i) = codes "device " ++ decimal i
part_text (parts.Sub i j) = codes "device " ++ (decimal i ++ (codes " sub " ++ decimal j))

-- The text of a part and, if there is one, of its field.
abbrev pub field_text : List ℕ → Option ℕ → List ℕ
field_text part None = part
field_text part (Some k) = part ++ (codes " field " ++ decimal k)

-- The text of a place in a set.
abbrev pub place_text : Place → List ℕ
place_text place = field_text (part_text place.part) place.field

-- The line of a description file that isn't a JSON value.
abbrev pub syntax_line : List ℕ → List ℕ
syntax_line name = codes "set " ++ (name ++ (codes ": Syntax" ++ 10 ∷ []))

-- The line of a description file with a wrong shape at a path.
abbrev pub shape_line : List ℕ → List ℕ → List ℕ
shape_line name path = codes "set " ++ (name ++ (codes ": Shape at " ++ (path ++ 10 ∷ [])))

-- The line of a description file whose set breaks a rule at a place.
abbrev pub rule_line : List ℕ → ℕ → Place → List ℕ
rule_line name rule place =
    codes "set " ++ (name ++ (codes ": rule " ++ (decimal rule ++ (codes " at "
    ++ (place_text place ++ 10 ∷ [])))))

-- The line of two sets that aren't compatible.
abbrev pub mismatch_line : Mismatch → List ℕ
mismatch_line m =
    codes "not compatible: rule " ++ (decimal m.rule ++ (codes " at " ++ (place_text m.in_old
    ++ (codes " against " ++ (place_text m.in_new ++ 10 ∷ [])))))
