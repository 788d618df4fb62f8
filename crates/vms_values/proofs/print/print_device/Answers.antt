use Rattle.vms_values.proofs.Facade
use Facade.{◌≡◌, ◌<◌, [], length, drop, ap, arith, ◌∙◌, puts_as, puts_both, stops_as, stops_front, stops_behind, own_cells, printers}
use Facade.{desc_lines, sub_lines, described, device_at, device_of, first_cell, state_of, section_text, leaves_all, leaves_none, leaves_rest, leaves_stop}
use Rattle.vms_spec.specs.declared.Part.TheVariants as parts
use Rattle.vms_values.proofs.Printers.{own_spot, device_is, first_sub, no_subs, subs_left, err_is}
use Rattle.vms_values.proofs.print.print_device.{Given.Over, Goals.After-device, Goals.In-loop-sub}
use Rattle.vms_values.proofs.print.print_device.Goals as goal

line_is : (g : Over) (c : goal.After-device g)
    → section_text (device_of c.device.result.now) c.version-version.result ≡ section_text (device_at (described c.args.shown.set.now) c.args.device) (state_of c.args.shown.image.now).version
line_is g c =
    ap (λ x. section_text x c.version-version.result) c.device.ensures ∙ ap (section_text (device_at (described c.args.shown.set.now) c.args.device)) c.version-version.ensures

pub returns-in_err-print_section : goal.returns-in_err-print_section
returns-in_err-print_section g c =
    let set = described c.args.shown.set.now in
    let image = state_of c.args.shown.image.now in
    let d = device_at set c.args.device in
    let own = desc_lines (printers set) d.desc [] image.numbers 0 in
    let subs = sub_lines set image.numbers (own_cells set d) d.subs image.came in
    rw (err_is _ _ c.from_residual.ensures.1) (stops_as (device_is set d image) (stops_front subs (stops_front own (stops_as (line_is g (goal.at.returns-in_err-print_section g c).After-device) c.in_err-print_section.ensures))))

pub print_lines-requires : goal.print_lines-requires
print_lines-requires g c =
    let set = described c.args.shown.set.now in
    record { spot = own_spot _ c.args.shown.set.now.well_formed _ _ c.requires.of _ c.requires.is_device }

pub returns-in_err-print_lines : goal.returns-in_err-print_lines
returns-in_err-print_lines g c =
    let set = described c.args.shown.set.now in
    let image = state_of c.args.shown.image.now in
    let d = device_at set c.args.device in
    let subs = sub_lines set image.numbers (own_cells set d) d.subs image.came in
    rw (err_is _ _ c.from_residual-in_err-print_lines.ensures.1) (stops_as (device_is set d image) (stops_front subs (stops_behind (puts_as (line_is g (goal.at.returns-in_err-print_lines g c).After-device) c.in_ok-print_section.ensures) c.in_err-print_lines.ensures)))

pub loop-sub-init : goal.loop-sub-init
loop-sub-init g c =
    let image = state_of c.args.shown.image.now in
    leaves_all _ _ _ (first_sub (described c.args.shown.set.now) c.args.device image.numbers image.came)

-- the next subsection is one of the device's, and the image says whether it came
inside : (g : Over) (c : goal.In-loop-sub g)
    → (c.loop-sub.sub < length (device_at (described c.args.shown.set.now) c.args.device).subs) × (c.loop-sub.sub < length (state_of c.args.shown.image.now).came)
inside g c = (omega arith, omega arith)

pub returns-in_err-print_sub : goal.returns-in_err-print_sub
returns-in_err-print_sub g c =
    let set = described c.args.shown.set.now in
    let image = state_of c.args.shown.image.now in
    let at = goal.at.returns-in_err-print_sub g c in
    let i = inside g at.In-loop-sub in
    let front = puts_both (puts_as (line_is g at.After-device) c.in_ok-print_section.ensures) c.in_ok-print_lines.ensures in
    rw (err_is _ _ c.from_residual-in_err-print_sub.ensures.1) (stops_as (device_is set (device_at set c.args.device) image) (stops_behind front
    (leaves_stop _ (subs_left set c.args.device image.numbers _ _ i.0 i.1) c.loop-sub.invariant c.in_err-print_sub.ensures)))

pub loop-sub-preserved : goal.loop-sub-preserved
loop-sub-preserved g c =
    let image = state_of c.args.shown.image.now in
    let i = inside g (goal.at.loop-sub-preserved g c).In-loop-sub in
    leaves_rest _ (subs_left (described c.args.shown.set.now) c.args.device image.numbers _ _ i.0 i.1) c.loop-sub.invariant
    c.in_ok-print_sub.ensures

pub returns : goal.returns
returns g c =
    let set = described c.args.shown.set.now in
    let image = state_of c.args.shown.image.now in
    let d = device_at set c.args.device in
    let end : c.loop-sub.sub ≡ length d.subs = omega arith in
    let none = no_subs set image.numbers (first_cell set (parts.Sub c.args.device c.loop-sub.sub)) _ _ (drop c.loop-sub.sub image.came) end in
    let front = puts_both (puts_as (line_is g (goal.at.returns g c).After-device) c.in_ok-print_section.ensures) c.in_ok-print_lines.ensures in
    puts_as (device_is set d image) (puts_both front (leaves_none none c.loop-sub.invariant))
