use Rattle.vms_cli.proofs.Facade.{Some, ap, ◌∙◌, ◌<◌, length, sym, subst, codes, device_at, cell_name, IsInNewest, newest}
use Rattle.vms_cli.proofs.OutcomeLaws.{path_short}
use Rattle.vms_cli.specs.Commands.ConvertCommand.{line_of}
use Rattle.vms_spec.specs.Layout.{device_cells}
use Rattle.vms_cli.proofs.commands.convert.lost_line.Goals as goal

pub put_path-requires : goal.put_path-requires
put_path-requires c =
    let device = c.in-Some-Some.device in
    let cell = c.in-Some-Some.cell in
    let inside = subst (λ o. IsInNewest (Some device) o) c.in-Some-Some.is-1 (subst (λ o. IsInNewest o c.args.cell) c.in-Some-Some.is-0 c.requires.named) in
    record {
      is_device = subst (λ s. device < length s.devices) (sym c.requires.newest) inside.0;
      is_cell = subst (λ s. cell < length (device_cells s (device_at s device))) (sym c.requires.newest) inside.1;
      short = subst (λ s. length (cell_name s (device_at s device) cell) < 64) (sym c.requires.newest) (path_short device cell inside.0);
      path = c.requires.path;
    }

pub line_of-requires : goal.line_of-requires
line_of-requires c =
    let device = c.in-Some-Some.device in
    let cell = c.in-Some-Some.cell in
    let name = c.bytes.ensures ∙ c.put_path.ensures ∙ ap (λ s. cell_name s (device_at s device) cell) c.requires.newest in
    rw name (path_short device cell (rw c.in-Some-Some.is-1 at (rw c.in-Some-Some.is-0 at c.requires.named)).0)

pub returns : goal.returns
returns c =
    let none = c.in-None-default.is-0 in
    c.line_of-in-None-default.ensures ∙ ap (λ s. line_of s c.args.section (codes "machine")) c.requires.newest
    ∙ ap (λ o. line_of newest o (codes "machine")) none ∙ sym (rw none)
