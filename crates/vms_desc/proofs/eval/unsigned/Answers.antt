use Rattle.vms_desc.proofs.{EvalLaws.residue_cut, Facade.◌*◌, Facade.◌∙◌, Facade.rules, Facade.to_z-of_z, Facade.w128, Facade.SFits}
use Rattle.std.proofs.lemmas.Nat.{and_mask}
use Rattle.vms_kinds.specs.Codes.{residue, width}
use Rattle.vms_desc.proofs.eval.unsigned.Goals as goal

pub returns : goal.returns
returns c =
    let number = c.args.number in
    let fits : SFits w128 number = search rules in
    let kind = c.args.kind in
    rw (c.low_bytes.ensures, c.mask_of.ensures, to_z-of_z w128 number fits) (and_mask (residue 8 number) (8 * width kind) ∙ residue_cut kind number)
