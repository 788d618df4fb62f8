-- Whether a description refers to fields by their names.
use Rattle.std.specs.Prelude.{Bool, false, ◌||◌, Option, Some, None, option_and_then, codes}
use Rattle.serde_json.specs.Data.{Data, Items, no_items, item}
use Rattle.serde_json.specs.Find.{get, as_array}
use Rattle.vms_json.specs.Keys.{has}

-- a field has a test or a count that names a field
abbrev pub asks_a_name : Data → Bool
asks_a_name d = has (codes "test") d || has (codes "counted") d

-- one of the fields does
abbrev pub some_ask : Items → Bool
some_ask no_items = false
some_ask (item d ds) = asks_a_name d || some_ask ds

-- the same of a list of fields, if there is one
abbrev pub asks_in : Option Items → Bool
asks_in None = false
asks_in (Some ds) = some_ask ds

-- a description has validations, subsections, or a field that names a field
abbrev pub asks_names : Data → Bool
asks_names d = has (codes "validate") d || (has (codes "subsections") d || asks_in (option_and_then as_array (get (codes "fields") d)))
