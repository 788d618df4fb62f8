-- What contracts see of a shelf over a folder.
use Rattle.std.specs.Prelude.{ℕ, List, string_bytes}
use Rattle.vms_io.specs.declared.files.FileShelf.{FileShelf}

-- the path of the folder
abbrev pub folder_of : {R File Dir : Type 0} → FileShelf R File Dir → List ℕ
folder_of s = string_bytes s.folder
