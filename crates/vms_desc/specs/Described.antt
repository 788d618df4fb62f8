-- The plain data of a set.
use Rattle.vms_spec.specs.Sets.{Set}
use Rattle.vms_parts.specs.Views.{set_of}
pub use Rattle.vms_parts.specs.Devices.{device_at}
use Rattle.vms_desc.specs.declared.set.DescSet.{DescSet}

-- the set as plain data
abbrev pub described : DescSet → Set
described s = set_of s.parts
