use Rattle.vms_desc.proofs.Facade.{◌≡◌, ℕ, List, drop, bytes_eq, position, is_one_of, first_named}
use Rattle.vms_desc.proofs.names.find_name.Given as goal

abbrev pub invariant-loop-number : goal.invariant-loop-number
invariant-loop-number l =
    (is_one_of (drop l.number l.names) l.name ≡ is_one_of l.names l.name)
    × (position (λ (known : List ℕ). bytes_eq known l.name) l.number (drop l.number l.names) ≡ first_named l.names l.name)
