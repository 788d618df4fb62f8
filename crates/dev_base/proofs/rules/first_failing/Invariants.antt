use Rattle.std.proofs.Common.{◌≡◌, ◌+◌, drop}
use Rattle.dev_base.specs.Rules.{first_failing, failing_from}
use Rattle.dev_base.proofs.rules.first_failing.Given as goal

abbrev pub invariant-loop-holds : goal.invariant-loop-holds
invariant-loop-holds l =
    (first_failing l.rules ≡ failing_from l.number (drop l.holds-index l.rules)) × (l.number ≡ l.holds-index + 1)
