-- The laws of listings.
use Rattle.std.specs.Prelude.{◌≡◌, ℕ, List, Option, Some}
use Rattle.serde_json.specs.Read.{read}
use Rattle.vms_spec.specs.Sets.{Set}
use Rattle.vms_spec.specs.Heads.{FitsHeads}
use Rattle.vms_spec.specs.Images.{Image}
use Rattle.vms_spec.specs.Streams.{AreReady, written}
use Rattle.vms_spec.specs.Values.{values_text}
use Rattle.vms_spec.specs.WellFormed.{WellFormed}
use Rattle.vms_elements.specs.Reading.{IsMachineOf}
use Rattle.vms_selfdesc.specs.Tree.{described_text, described_tree}
use Rattle.vms_analyze.specs.Listing.{Listing, Text, Lists, longest_input}
use Rattle.vms_analyze.specs.declared.elements.TheConstants.{LONGEST_PATH}

-- The self-description of any images of a well-formed set is read back as its tree.
abbrev pub ReadBackLaw : Type 0
ReadBackLaw = (set : Set) → WellFormed set → FitsHeads set → (images : List Image)
    → read (described_text set images) ≡ Some (described_tree set images)

-- An input has at most one listing.
abbrev pub OneLaw : Type 0
OneLaw = (input : List ℕ) (a b : Listing) → Lists input a → Lists input b → a ≡ b

-- The input has a listing.
pub record HasListing (input : List ℕ) : Type 0 where
  pub listing : Listing
  pub lists : Lists input listing

-- Each input has one.
abbrev pub TotalLaw : Type 0
TotalLaw = (input : List ℕ) → HasListing input

-- What is written for ready images with their description lists the values text.
abbrev pub ShownLaw : Type 0
ShownLaw = (set : Set) → WellFormed set → FitsHeads set → (machine : Option (List ℕ)) → IsMachineOf set machine → (images : List Image) → AreReady set images
    → Lists (written set machine images (Some (described_text set images))) (Text (values_text set machine images))

-- The most bytes of an input that is listed, and of a path.
pub record LongestLaw : Type 0 where
  pub input : longest_input ≡ 100000000
  pub path : LONGEST_PATH ≡ 300
