use Rattle.std.proofs.Common.{◌≤◌, length, length-append, ap, arith}
use Rattle.vms_spec.specs.Sets.{Device}
use Rattle.vms_desc.specs.Described.{described}
use Rattle.vms_write.proofs.Sections.{device_short}
use Rattle.vms_commands.proofs.{refused.append_device.Given.Over, refused.append_device.Goals.After-as_bytes}
use Rattle.vms_commands.proofs.refused.append_device.Goals as goal

short : (g : Over) (c : goal.After-as_bytes g) → length c.as_bytes.result.now ≤ 100
short g c =
    omega (
      arith,
      ap length c.as_bytes.ensures,
      ap (λ (d : Device). length d.desc.name) c.device-device.ensures,
      device_short (described c.args.set.now) c.args.set.now.well_formed c.args.device c.requires.is_device,
    )

pub append-requires : goal.append-requires
append-requires g c = omega (arith, short g (goal.at.append-requires g c).After-as_bytes)

pub append-requires-2 : goal.append-requires-2
append-requires-2 g c =
    let name = simp length-append at (ap length c.append.ensures) in
    omega (arith, name, short g (goal.at.append-requires-2 g c).After-as_bytes)

pub append_number-requires : goal.append_number-requires
append_number-requires g c =
    let name = simp length-append at (ap length c.append.ensures) in
    let slash = simp length-append at (ap length c.append-2.ensures) in
    omega (arith, name, slash, short g (goal.at.append_number-requires g c).After-as_bytes)

pub returns-clause-few : goal.returns-clause-few
returns-clause-few g c =
    let name = simp length-append at (ap length c.append.ensures) in
    let slash = simp length-append at (ap length c.append-2.ensures) in
    omega (arith, name, slash, c.append_number.ensures.few, short g (goal.at.returns-clause-few g c).After-as_bytes)
