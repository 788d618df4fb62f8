use Rattle.std.proofs.Common.{◌≡◌, ℕ, List, take}
use Rattle.vmstate_c.specs.{Calls.file_of, Folders.held_of}
use Rattle.vmstate_c.proofs.call.folder_of.Given as goal

abbrev pub invariant-loop-file : goal.invariant-loop-file
invariant-loop-file l = (name : List ℕ) → held_of l.folder name ≡ file_of name (take l.file-index l.files)
