-- The files of a call.
use Rattle.std.specs.Prelude.{List}
use Rattle.std.specs.declared.string.String.{String}
use Rattle.std.specs.declared.alloc.Global.{Global}
use Rattle.vms_io.specs.Cabinets.{held_under, under_holds}
use Rattle.vms_io.specs.Shelves.{Held, HoldsAll}
use Rattle.vmstate_c.specs.declared.folder.Content.{Content}
use Rattle.vmstate_c.specs.declared.folder.Folder.{Folder}

-- The bytes that these entries have under each name.
abbrev pub held_in : List (String Global × Content) → Held
held_in entries = held_under (λ content. content.bytes.items) entries

-- What a folder holds.
abbrev pub held_of : Folder → Held
held_of folder = held_in folder.entries.entries

-- Each entry consists of bytes.
pub contents_hold : (entries : List (String Global × Content)) → HoldsAll (held_in entries)
contents_hold entries = under_holds (λ content. content.bytes.items) (λ content. content.octets) entries
