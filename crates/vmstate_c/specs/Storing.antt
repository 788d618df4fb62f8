-- The files that a call stored.
use Rattle.std.specs.Prelude.{◌≡◌, ◌≢◌, ◌↔◌, ℕ, ◌+◌, List, [], ◌∷◌, ◌++◌, length, map, Bool, false, Option, Some, None, Contains}
use Rattle.std.specs.List.Sorted.{IsStrictlySortedBy}
use Rattle.std.specs.Ordering.{nat_cmp}
use Rattle.std.specs.Cmp.Lexicographic.{slice_cmp}
use Rattle.std.specs.Str.{bytes_eq}
use Rattle.vms_io.specs.Shelves.{Held}
use Rattle.vmstate_c.specs.Calls.{file_of}
use Rattle.vmstate_c.specs.declared.request.File.{File}
use Rattle.vmstate_c.specs.declared.request.Stored.{Stored}

-- A name and the bytes under it.
pub record Entry : Type 0 where
  pub name : List ℕ
  pub bytes : List ℕ

-- Whether there are bytes, and they are these.
abbrev pub is_just : Option (List ℕ) → List ℕ → Bool
is_just None bytes = false
is_just (Some held) bytes = bytes_eq held bytes

-- Whether the last of these files with this name has these bytes.
abbrev pub is_lent : List File → List ℕ → List ℕ → Bool
is_lent files name bytes = is_just (file_of name files) bytes

-- These are the files that the folder holds, but for those that the caller's files have with the same bytes. They are in
-- the order of their names, each once.
pub record IsStored (files : List File) (held : Held) (stored : List Entry) : Type 0 where
  pub exact : (name bytes : List ℕ) → Contains stored (record { name = name; bytes = bytes })
      ↔ ((held name ≡ Some bytes) × (file_of name files ≢ Some bytes))
  pub ordered : IsStrictlySortedBy (slice_cmp nat_cmp) (map (λ (file : Entry). file.name) stored)

-- The name and the bytes of each file, one after the other.
abbrev pub bytes_of : List Entry → List ℕ
bytes_of [] = []
bytes_of (file ∷ files) = (file.name ++ file.bytes) ++ bytes_of files

-- Where these files are, if the first name is at this offset.
abbrev pub places : ℕ → List Entry → List Stored
places at [] = []
places at (file ∷ files) =
    let bytes = at + length file.name in
    record { name = at; name_length = length file.name; bytes = bytes; length = length file.bytes } ∷ places (bytes + length file.bytes) files
