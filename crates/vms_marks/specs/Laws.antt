-- What can be read back from its bytes, and the greatest lengths.
use Rattle.std.specs.Prelude.{◌≡◌, ℕ, ◌+◌, ◌<◌, ◌≤◌, ◌^◌, List, ◌++◌, length}
use Rattle.vms_spec.specs.declared.TheConstants.{LONGEST_NAME}
use Rattle.vms_spec.specs.Streams.{configuration, sub_head, foot}
use Rattle.vms_marks.specs.declared.head.Head.{Head}
use Rattle.vms_marks.specs.declared.sub_head.SubHead.{SubHead}
use Rattle.vms_marks.specs.declared.configuration.Configuration.{Configuration}
use Rattle.vms_marks.specs.declared.foot.Foot.{Foot}
use Rattle.vms_marks.specs.declared.configuration.TheConstants.{CONFIGURATION_FRONT, LONGEST_CONFIGURATION}
use Rattle.vms_marks.specs.declared.description.TheConstants.{LONGEST_DESCRIPTION}
use Rattle.vms_marks.specs.declared.foot.TheConstants.{FOOT_LENGTH}
use Rattle.vms_marks.specs.declared.head.TheConstants.{LONGEST_HEAD}
use Rattle.vms_marks.specs.declared.stream_head.TheConstants.{BESIDE_SECTIONS}
use Rattle.vms_marks.specs.declared.sub_head.TheConstants.{LONGEST_SUB_HEAD}
use Rattle.vms_marks.specs.Heads.{head_bytes, head_in, sub_head_in, configuration_in, foot_in}

-- the numbers of a section head fit their four bytes
pub record IsHead (head : Head) : Type 0 where
  pub id : head.id < 2 ^ 32
  pub instance : head.instance < 2 ^ 32
  pub version : head.version < 2 ^ 32

-- a section head can be read back from its bytes
abbrev pub HeadLaw : Type 0
HeadLaw = (head : Head) → IsHead head → (rest : List ℕ) → head_in (head_bytes head ++ rest) ≡ head

-- a subsection head can be read back from its bytes
abbrev pub SubHeadLaw : Type 0
SubHeadLaw = (head : SubHead) → head.version < 2 ^ 32 → (rest : List ℕ) → sub_head_in (sub_head head.name.items head.version ++ rest) ≡ head

-- a configuration can be read back from its bytes, if its name has at most 255
abbrev pub ConfigurationLaw : Type 0
ConfigurationLaw = (c : Configuration) → length c.machine.items ≤ LONGEST_NAME → (rest : List ℕ) → configuration_in (configuration c.machine.items ++ rest) ≡ c

-- a footer can be read back from its bytes
abbrev pub FootLaw : Type 0
FootLaw = (f : Foot) → f.id < 2 ^ 32 → (rest : List ℕ) → foot_in (foot f.id ++ rest) ≡ f

-- The greatest lengths in bytes: of a configuration, of a section's head and footer together, of a
-- subsection head and of a description section. Besides the devices' sections a load reads at most
-- what belongs to no section, and one more head, which is refused.
pub record LengthsAre : Type 0 where
  pub of_configuration : LONGEST_CONFIGURATION ≡ 260
  pub of_section : LONGEST_HEAD + FOOT_LENGTH ≡ 274
  pub of_sub : LONGEST_SUB_HEAD ≡ 261
  pub of_description : LONGEST_DESCRIPTION ≡ 16777221
  pub of_load : BESIDE_SECTIONS + LONGEST_HEAD + LONGEST_DESCRIPTION ≡ 16777759
  -- a section's head and its footer alone, and what is before the machine's name
  pub of_head : LONGEST_HEAD ≡ 269
  pub of_foot : FOOT_LENGTH ≡ 5
  pub of_front : CONFIGURATION_FRONT ≡ 5
