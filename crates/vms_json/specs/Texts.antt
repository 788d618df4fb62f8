-- The JSON value of bytes.
use Rattle.std.specs.Prelude.{ℕ, if◌then◌else◌, List, Option, None}
use Rattle.std.specs.Str.{is_utf8}
use Rattle.serde_json.specs.Data.{Data}
use Rattle.serde_json.specs.Read.{read}

-- the JSON value of bytes, or none if they aren't UTF-8
abbrev pub value_in : List ℕ → Option Data
value_in text = if is_utf8 text then read text else None
