-- Packing and showing, one after the other, for every set: the laws, each as a statement.
use Rattle.std.specs.Prelude.{◌≡◌, ℕ, ◌≤◌, List, length, Option, IfSome}
use Rattle.vms_spec.specs.Sets.{Set}
use Rattle.vms_spec.specs.Images.{Image}
use Rattle.vms_spec.specs.Streams.{longest_text, written, AreReady}
use Rattle.vms_spec.specs.Values.{values_text}
use Rattle.vms_spec.specs.ValuesReading.{values_read, Values}
use Rattle.vms_spec.specs.Good.{IsFit}
use Rattle.vms_stream.specs.Streams.{Takes}
use Rattle.vms_elements.specs.Reading.{IsMachineOf}

-- There is no description, or it fits a description section.
abbrev pub FitsText : Option (List ℕ) → Type 0
FitsText described = IfSome described (λ t. length t ≤ longest_text)

-- An input of these bytes takes all of them as a stream of the set, whose values text is `text`.
pub record ShowsAs (set : Set) (stream text : List ℕ) : Type 0 where
  pub machine : Option (List ℕ)
  pub images : List Image
  pub whole : Takes set set.machines stream (length stream) machine images
  pub printed : values_text set machine images ≡ text

-- An input of these bytes takes all of them, with this machine and these images, and nothing else.
pub record ShowsOnly (set : Set) (stream : List ℕ) (machine : Option (List ℕ)) (images : List Image) : Type 0 where
  pub whole : Takes set set.machines stream (length stream) machine images
  pub only : (taken : ℕ) (other : Option (List ℕ)) (others : List Image) → Takes set set.machines stream taken other others
      → (taken ≡ length stream) × (other ≡ machine) × (others ≡ images)

-- A stream that is written for a machine of the set or none, and for images that may be written, shows as
-- these and nothing else.
abbrev pub WrittenLaw : Type 0
WrittenLaw = (set : Set) (machine described : Option (List ℕ)) (images : List Image) → IsFit set → IsMachineOf set machine → FitsText described → AreReady set images
    → ShowsOnly set (written set machine images described) machine images

-- The stream that is written for what a text says, with any description or none, shows as this text.
abbrev pub PackedLaw : Type 0
PackedLaw = (set : Set) (text : List ℕ) (machine described : Option (List ℕ)) (images : List Image) → IsFit set → FitsText described → values_read set text ≡ Values machine images
    → ShowsAs set (written set machine images described) text

-- The text as which a written stream shows is read as its machine and images; so with its description it is
-- written again.
abbrev pub ShownLaw : Type 0
ShownLaw = (set : Set) (machine described : Option (List ℕ)) (images : List Image) → IsFit set → IsMachineOf set machine → FitsText described → AreReady set images
    → (text : List ℕ) → ShowsAs set (written set machine images described) text → values_read set text ≡ Values machine images
