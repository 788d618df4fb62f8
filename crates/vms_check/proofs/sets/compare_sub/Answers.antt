use Rattle.vms_check.proofs.Facade.{Side, ◌≡◌, length, map, ap, ◌∙◌, arith, length-map, Desc, Device, sub_of, described, device_at, sub_at}
use Rattle.vms_check.proofs.{Facade.few_subs, Facade.part_mismatch, WholeLaws.sub_in, WholeLaws.sub_found, sets.compare_sub.Goals.After-as_slice}
use Rattle.vms_spec.specs.declared.Part.TheVariants as parts
use Rattle.vms_check.proofs.sets.compare_sub.Goals as goal

subs : (c : After-as_slice) → map sub_of c.as_slice.result.now ≡ (device_at (described c.args.new.now) c.args.in_new).subs
subs c = ap (map sub_of) c.as_slice.ensures ∙ ap (λ (d : Device). d.subs) c.device.ensures

pub find_sub-requires : goal.find_sub-requires
find_sub-requires c =
    omega (
      arith,
      length-map c.as_slice.result.now sub_of,
      ap length (subs (goal.at.find_sub-requires c).After-as_slice),
      few_subs
          (described c.args.new.now) c.args.new.now.well_formed c.args.in_new c.requires.new,
    )

pub compare_parts-requires-clause-new : goal.compare_parts-requires-clause-new
compare_parts-requires-clause-new c =
    let same = subs (goal.at.compare_parts-requires-clause-new c).After-as_slice in (
      c.requires.new,
      sub_in (device_at (described c.args.new.now) c.args.in_new).subs c.as_bytes-name.result.now _ c.in-Some.found
          (rw same at c.find_sub.ensures) c.in-Some.is,
    )

pub returns-in-Some : goal.returns-in-Some
returns-in-Some c =
    let old = described c.args.old.now in
    let new = described c.args.new.now in
    let same = subs (goal.at.returns-in-Some c).After-as_slice in
    c.compare_parts.ensures ∙ ap (λ (s : Side). part_mismatch 14 s new (parts.Sub c.args.in_new c.in-Some.found)) c.at_own_version.ensures
    ∙ sub_found old new c.args.in_old c.args.in_new c.args.number (device_at new c.args.in_new) (sub_at (device_at old c.args.in_old) c.args.number) _ _ _
    (c.as_bytes-name.ensures ∙ ap (λ (d : Desc). d.name) c.desc.ensures) (rw same at c.find_sub.ensures) c.in-Some.is
