-- The names of a description's fields, and an index of the first field of each name.
use Rattle.std.specs.Prelude.{◌≡◌, ℕ, List, [], ◌∷◌, Option, Some, None, option_and_then, if◌then◌else◌, position, String, codes}
use Rattle.std.specs.Global.{Global}
use Rattle.std.specs.BTreeMap.{BTreeMap, get_by_text}
use Rattle.std.specs.Str.{bytes_eq}
use Rattle.serde_json.specs.Data.{Data, Items, no_items, item}
use Rattle.serde_json.specs.Find.{get, as_array, as_str}
use Rattle.vms_json.specs.declared.field_names.FieldNames.{FieldNames}

-- a text, or an empty one if there is none
abbrev pub text_or_none : Option (List ℕ) → List ℕ
text_or_none None = []
text_or_none (Some text) = text

-- the names of these fields; a field without a name has an empty one
abbrev pub names_of : Items → List (List ℕ)
names_of no_items = []
names_of (item d ds) = text_or_none (option_and_then as_str (get (codes "name") d)) ∷ names_of ds

-- the same of a list of fields, if there is one
abbrev pub names_of_list : Option Items → List (List ℕ)
names_of_list None = []
names_of_list (Some ds) = names_of ds

-- the names of a description's fields, in order
abbrev pub names_in : Data → List (List ℕ)
names_in d = names_of_list (option_and_then as_array (get (codes "fields") d))

-- the number of the first field of a name, if there is one
abbrev pub first_of : List (List ℕ) → List ℕ → Option ℕ
first_of names name = position (λ n. bytes_eq n name) names

-- the number that the index has for a name
abbrev pub number_of : BTreeMap (String Global) ℕ → List ℕ → Option ℕ
number_of index name = get_by_text index name

-- the index has for each name the number of its first field
pub record IsIndex (index : BTreeMap (String Global) ℕ) (names : List (List ℕ)) : Type 0 where
  pub first : (name : List ℕ) → number_of index name ≡ first_of names name

-- an index of one name with its number
abbrev pub at_name : List ℕ → ℕ → List ℕ → Option ℕ
at_name name number q = if bytes_eq name q then Some number else None

-- the numbers in an index of the code
abbrev pub numbers : FieldNames → List ℕ → Option ℕ
numbers names = number_of names.first
