-- A call from C: the top call on objects in memory.
use Rattle.std.specs.Prelude.{◌≡◌, ◌&&◌, ℕ, Bool, true, List, [], ◌∷◌, map, find, reverse, if◌then◌else◌, Option, Some, None}
use Rattle.std.specs.List.{list_all}
use Rattle.std.specs.Option.{option_map}
use Rattle.std.specs.Str.{is_utf8, bytes_eq}
use Rattle.vms_io.specs.Shelves.{Held}
use Rattle.vms_commands.specs.Outcomes.{Outside}
use Rattle.vms_cli.specs.Answers.{Answers}
use Rattle.vmstate_c.specs.declared.request.Bytes.{Bytes}
use Rattle.vmstate_c.specs.declared.request.File.{File}
use Rattle.vmstate_c.specs.declared.request.Request.{Request}

-- The words, or one empty word if one of them isn't UTF-8.
abbrev pub words_of : List Bytes → List (List ℕ)
words_of words = if list_all (λ word. is_utf8 word.bytes.now) words then map (λ word. word.bytes.now) words else [] ∷ []

-- Whether a word with this text names the file.
abbrev pub is_named : List ℕ → File → Bool
is_named name file = bytes_eq file.name.now name && is_utf8 name

-- The bytes of the last file with this name.
abbrev pub file_of : List ℕ → List File → Option (List ℕ)
file_of name files = option_map (λ file. file.bytes.now) (find (is_named name) (reverse files))

-- The files held after `file` was added to `held`.
abbrev pub file_over : File → Held → Held
file_over file held name = if is_named name file then Some file.bytes.now else held name

-- The objects before a call: the input in memory, no output, and the files. None of them fails.
abbrev pub before : List ℕ → Held → Outside
before input held = record {
  input = record { left = Some input; given = 0; faults = 0; promise = true };
  out = record { written = Some []; faults = 0; promise = None };
  notes = record { written = Some []; faults = 0; promise = None };
  shelf = record { held = Some held; faults = 0; promise = true };
}

-- No operation of an object failed.
pub record NoneFailed (after : Outside) : Type 0 where
  pub input : after.input.faults ≡ 0
  pub out : after.out.faults ≡ 0
  pub notes : after.notes.faults ≡ 0
  pub shelf : after.shelf.faults ≡ 0

-- The top call returns this status for the words, the input and the files, and writes these texts.
pub record Comes (request : Request) (status : ℕ) (out notes : List ℕ) : Type 0 where
  pub held : Held
  pub files : (name : List ℕ) → held name ≡ file_of name request.files.now
  pub after : Outside
  pub answers : Answers (words_of request.words.now) status (before request.input.now held) after
  pub out_is : after.out.written ≡ Some out
  pub notes_is : after.notes.written ≡ Some notes
  pub none : NoneFailed after

-- The same, and this is what the files are then.
pub record Leaves (request : Request) (status : ℕ) (out notes : List ℕ) (held : Held) : Type 0 where
  pub comes : Comes request status out notes
  pub held_is : comes.after.shelf.held ≡ Some held
