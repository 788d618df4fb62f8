-- What a lean loader has: its set, and the images and the length of the stream that it took.
use Rattle.std.specs.Prelude.{ℕ, List, map}
use Rattle.vms_spec.specs.Sets.{Set}
use Rattle.vms_spec.specs.Images.{Image}
use Rattle.vms_desc.specs.Described.{described}
use Rattle.vms_image.specs.Typed.{state_of as untyped}
use Rattle.vms_load.specs.declared.lean.LeanLoader.{LeanLoader}

-- The set of the loader.
abbrev pub loads : LeanLoader → Set
loads loader = described loader.set

-- The images of the stream that was taken.
abbrev pub has : LeanLoader → List Image
has loader = map untyped loader.staged.images.items

-- The length of the last stream, 0 before the first.
abbrev pub taken_by : LeanLoader → ℕ
taken_by loader = loader.taken
