-- Laws of the comparison.
use Rattle.std.specs.Prelude.{◌≡◌, ◌≤◌, ◌<◌, ℕ}
use Rattle.vms_kinds.specs.declared.TheConstants.{NEWEST_SET}
use Rattle.vms_spec.specs.Sets.{Formula, Set}
use Rattle.vms_spec.specs.Tests.{truth}
use Rattle.vms_spec.specs.WellFormed.{WellFormed}
use Rattle.vms_desc.specs.Formed.{shipped_set}
use Rattle.vms_check.specs.Comparing.{Compatible}
use Rattle.vms_check.specs.Fitting.{Fits}
use Rattle.vms_check.specs.Reducing.{reduced, truth_of}

-- A test reduced for a version is true exactly if the test is true at that version.
abbrev pub ReducedLaw : Type 0
ReducedLaw = (t : Formula) (v : ℕ) (own parent : ℕ → ℕ) → truth_of (reduced v t) v own parent ≡ truth t v own parent

-- The walk finds no failing rule exactly if all of them hold.
pub record AreRules (old new : Set) : Type 0 where
  pub hold : Compatible old new → Fits old new
  pub suffice : Fits old new → Compatible old new

-- This is so for every older set and every well-formed newer one.
abbrev pub RulesLaw : Type 0
RulesLaw = (old new : Set) → WellFormed new → AreRules old new

-- A well-formed set is compatible with itself.
abbrev pub ReflexiveLaw : Type 0
ReflexiveLaw = (set : Set) → WellFormed set → Compatible set set

-- Each shipped set from 1 on is compatible with each later one.
abbrev pub ShippedLaw : Type 0
ShippedLaw = (s t : ℕ) → 1 ≤ s → s < t → t ≤ NEWEST_SET → Compatible (shipped_set s) (shipped_set t)
