use Rattle.vms_descfile.proofs.Facade.{Err, subst, tree_view, Said, Gives}
use Rattle.vms_descfile.proofs.FileLaws.{no_json, said_by, shape_said}
use Rattle.vms_descfile.proofs.read.read_file.Goals as goal

pub returns-in-Err : goal.returns-in-Err
returns-in-Err c = no_json c.args.text.now c.in-Err.fault c.in-Err.ensures

pub returns-in-Ok-read_parts : goal.returns-in-Ok-read_parts
returns-in-Ok-read_parts c =
    rw (← said_by c.args.text.now (tree_view c.in-Ok.value) c.in-Ok.ensures, ← c.root.ensures, c.in-Ok-read_parts.ensures)

pub returns : goal.returns
returns c =
    subst (λ (s : Said). Gives s (Err c.of.result)) (rw c.root.ensures (said_by c.args.text.now (tree_view c.in-Ok.value) c.in-Ok.ensures))
    (shape_said _ _ _ c.in-Err-read_parts.ensures c.of.ensures)
