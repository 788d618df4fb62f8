-- The lengths of self-descriptions.
use Rattle.std.specs.Prelude.{ℕ, ◌<◌, ◌≤◌, List, length}
use Rattle.vms_kinds.specs.declared.TheConstants.{NEWEST_SET}
use Rattle.vms_spec.specs.Sets.{Set}
use Rattle.vms_spec.specs.Heads.{FitsHeads}
use Rattle.vms_spec.specs.Images.{Image}
use Rattle.vms_spec.specs.Streams.{longest_text}
use Rattle.vms_spec.specs.WellFormed.{WellFormed}
use Rattle.vms_desc.specs.Formed.{shipped_set, clock_set}
use Rattle.vms_selfdesc.specs.Tree.{described_text}

-- For a well-formed set whose instance ids and versions have four bytes: less than a description section may have.
pub record ShortLaw : Type 0 where
  pub short : (set : Set) → WellFormed set → FitsHeads set
      → (images : List Image) → length (described_text set images) < longest_text

-- For a shipped set.
pub record ShippedLaw : Type 0 where
  pub shipped : (s : ℕ) → s ≤ NEWEST_SET → (images : List Image) → length (described_text (shipped_set s) images) < 60000

-- For a set of the clock boards.
pub record ClockLaw : Type 0 where
  pub clock : (s : ℕ) (images : List Image) → length (described_text (clock_set s) images) < 60000
