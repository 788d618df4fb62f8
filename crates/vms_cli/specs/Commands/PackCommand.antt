-- The command `pack`: the stream that it writes.
use Rattle.std.specs.Prelude.{◌≡◌, ℕ, ◌≤◌, List, length, Option, Some, IsSomeAnd}
use Rattle.vms_io.specs.Shelves.{Held}
use Rattle.vms_spec.specs.Images.{Image}
use Rattle.vms_spec.specs.Sets.{Set}
use Rattle.vms_spec.specs.Streams.{written}
use Rattle.vms_spec.specs.ValuesReading.{ValuesRead, Values, Bad, values_read}
use Rattle.vms_desc.specs.Described.{described}
use Rattle.vms_selfdesc.specs.Tree.{described_text}
use Rattle.vms_commands.specs.Fetching.{SetText, fetched, fetched_set, longest_file, set_in, word_set}
use Rattle.vms_commands.specs.SetWords.{SetWord}
use Rattle.vms_commands.specs.Steps.{Step, Gives, Ends, next}
use Rattle.vms_board_commands.specs.Causes.{save_course}
use Rattle.vms_board_commands.specs.Runs.{text_task}
use Rattle.vms_cli.specs.Entry.{Entry, plain_entry}
use Rattle.vms_cli.specs.ValuesLines.{values_line}
use Rattle.vms_cli.specs.declared.commands.pack.PackParts.{PackParts}

-- The stream of a machine, or none, and images, followed by their description.
abbrev pub described_stream : Set → Option (List ℕ) → List Image → List ℕ
described_stream set machine images = written set machine images (Some (described_text set images))

-- The stream of what is read of a values text, or its first bad line.
abbrev pub packed_by : Set → ValuesRead → Step (List ℕ)
packed_by set (Values machine images) = Gives (described_stream set machine images)
packed_by set (Bad line reason) = Ends 3 (values_line line reason)

-- The stream of a values text under a set.
abbrev pub packed : Set → List ℕ → Step (List ℕ)
packed set text = packed_by set (values_read set text)

-- What the two words name: the set, and the values text.
pub record Parts : Type 0 where
  pub set : Set
  pub values : List ℕ

-- The values text is fetched; then the set, which was fetched before, is parsed.
abbrev pub with_values : Option Held → List ℕ → SetText → Step Parts
with_values held name text =
    next (fetched longest_file held name) (λ values. next (set_in text) (λ set. Gives (record { set = set; values = values })))

-- The step to the set and the values text that two words name.
abbrev pub named_parts : Option Held → SetWord → List ℕ → Step Parts
named_parts held word name = next (fetched_set held word) (with_values held name)

-- The stream of a values text under its set.
abbrev pub packed_parts : Parts → Step (List ℕ)
packed_parts parts = packed parts.set parts.values

-- The stream that `pack` writes.
abbrev pub packs : Option Held → SetWord → List ℕ → Step (List ℕ)
packs held word name = next (named_parts held word name) packed_parts

-- A set that a word names, and a values text of it under a name, which isn't too long.
pub record CanBePacked (word : SetWord) (name : List ℕ) (map : Held) : Type 0 where
  pub set : Set
  pub there : word_set (Some map) word ≡ Gives set
  pub text : List ℕ
  pub held : map name ≡ Some text
  pub short : length text ≤ longest_file
  pub machine : Option (List ℕ)
  pub images : List Image
  pub reads : values_read set text ≡ Values machine images

-- The command `pack SET VALUES`. It has the course of `save`.
abbrev pub pack_entry : SetWord → List ℕ → Entry
pack_entry word name =
    plain_entry (text_task (λ held. packs held word name) save_course) (λ input held. IsSomeAnd held (λ map. CanBePacked word name map))

-- ---- the code's types

-- The parts that the code's value means.
abbrev pub parts_of : PackParts → Parts
parts_of parts = record { set = described parts.set; values = parts.values.items }
