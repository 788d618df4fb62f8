-- What a loader keeps: its set, and the images and the length of the last stream that it took.
use Rattle.std.specs.Prelude.{ℕ, List, map}
use Rattle.vms_spec.specs.Sets.{Set}
use Rattle.vms_spec.specs.Images.{Image}
use Rattle.vms_desc.specs.Described.{described}
use Rattle.vms_image.specs.Typed.{state_of as untyped}
use Rattle.vms_load.specs.declared.loader.Loader.{Loader}

-- The set of the loader.
abbrev pub loads : Loader → Set
loads loader = described loader.lean.set

-- The images that the loader keeps.
abbrev pub kept : Loader → List Image
kept loader = map untyped loader.images.items

-- The length of the last stream, 0 before the first.
abbrev pub taken_by : Loader → ℕ
taken_by loader = loader.lean.taken
