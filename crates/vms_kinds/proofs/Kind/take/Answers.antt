use Rattle.std.proofs.{Common.rules, Common.arith, lemmas.Int.to_z-of_z}
use Rattle.std.specs.Int.{w128}
use Rattle.vms_kinds.proofs.CodeLemmas.{value_taken}
use Rattle.vms_kinds.specs.Codes.{IsBadBool}
use mir.Val.{SFits}
use Rattle.vms_kinds.proofs.Kind.take.Goals as goal

pub returns-clause-some : goal.returns-clause-some
returns-clause-some c =
    let f : SFits w128 c.read.result = search rules in
    let no : IsBadBool c.args.self c.args.bytes.now → ⊥ = search rules in
    rw (to_z-of_z w128 c.read.result f, c.read.ensures)
    (value_taken c.args.self c.args.bytes.now c.requires (λ i. omega (arith, c.type_inv.bytes i)) no)
