use Rattle.vms_values.proofs.Facade.{◌≡◌, [], None, get_or, ap, ◌∙◌, puts_as, stops_as, stops_front, wrote_as, wrote_behind, Desc, printers}
use Rattle.vms_values.proofs.Facade.{desc_lines, first_cell, described, device_at, sub_at, state_of, sub_text}
use Rattle.vms_spec.specs.declared.Part.TheVariants as parts
use Rattle.vms_values.proofs.Printers.{sub_spot, err_is}
use Rattle.vms_values.proofs.print.print_sub.Goals as goal

pub returns-in_err-print_sub_line : goal.returns-in_err-print_sub_line
returns-in_err-print_sub_line g c =
    let set = described c.args.shown.set.now in
    let s = sub_at (device_at set c.args.device) c.args.sub in
    let image = state_of c.args.shown.image.now in
    let line : sub_text c.as_bytes.result.now c.came.result ≡ sub_text s.desc.name (get_or image.came c.args.sub None) =
    rw (c.as_bytes.ensures ∙ ap (λ (d : Desc). d.name) c.desc-desc.ensures, c.came.ensures) in
    rw (err_is _ _ c.from_residual.ensures.1) (stops_front (desc_lines (printers set) s.desc [] image.numbers (first_cell set (parts.Sub c.args.device c.args.sub))) (stops_as line c.in_err-print_sub_line.ensures))

pub print_lines-requires : goal.print_lines-requires
print_lines-requires g c =
    let set = described c.args.shown.set.now in
    record {
      spot = sub_spot _ c.args.shown.set.now.well_formed _ _ c.requires.of _ _ _ c.requires.is_device c.requires.is_sub c.first_cell.ensures;
    }

pub returns : goal.returns
returns g c =
    let set = described c.args.shown.set.now in
    let s = sub_at (device_at set c.args.device) c.args.sub in
    let image = state_of c.args.shown.image.now in
    let line : sub_text c.as_bytes.result.now c.came.result ≡ sub_text s.desc.name (get_or image.came c.args.sub None) =
    rw (c.as_bytes.ensures ∙ ap (λ (d : Desc). d.name) c.desc-desc.ensures, c.came.ensures) in
    wrote_behind _ _ _ (puts_as line c.in_ok-print_sub_line.ensures)
    (wrote_as _ _ _ (ap (desc_lines (printers set) s.desc [] image.numbers) c.first_cell.ensures) c.print_lines.ensures)
