-- No test that was read is refused for its number of levels.
use Rattle.std.specs.Prelude.{◌≡◌, ℕ, ◌≤◌}
use Rattle.serde_json.specs.Data.{Data, depth}
use Rattle.serde_json.specs.Read.{max_depth}
use Rattle.vms_json.specs.Names.{Scope}
use Rattle.vms_descfile.specs.Tests.{test_within, test_of}

-- A value with at most the levels of one that was read says the same as a test within any bound
-- above its levels.
abbrev pub DepthLaw : Type 0
DepthLaw = (scope : Scope) (d : Data) → depth d ≤ max_depth → (n : ℕ) → depth d ≤ n → test_within n scope d ≡ test_of scope d
