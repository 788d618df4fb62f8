use Rattle.vms_load.proofs.Facade.{rules, sym, ap, ◌∙◌, get_or, false, Some, None, described, reason_against}
use Rattle.vms_load.proofs.HeadLemmas.{opens, device_below, section_new}
use Rattle.vms_load.proofs.heads.open_section.Goals as goal

pub device-requires : goal.device-requires
device-requires c = device_below (described c.args.set.now).devices c.deref.result.now c.args.head.now.instance c.in-Some.number (sym c.find.ensures ∙ c.in-Some.is)

pub bounds-came-number : goal.bounds-came-number
bounds-came-number c = search (rules, device_below)

pub returns-in-None-against_device : goal.returns-in-None-against_device
returns-in-None-against_device c =
    let found = rw (c.find.ensures, c.deref.ensures.0) at c.in-Some.is in
    let reason = sym c.in-None-against_device.is ∙ c.against_device.ensures ∙ ap (λ d. reason_against d (get_or c.args.came.now c.in-Some.number false) c.args.head.now.version) c.device.ensures in
    let opened = opens (described c.args.set.now) c.args.came.now c.args.head.now.name.items c.args.head.now.instance c.args.head.now.version c.args.at c.in-Some.number None found reason in
    record {
      short = search rules;
      refused = tt;
      fresh = section_new (described c.args.set.now) c.args.came.now c.args.head.now.name.items c.args.head.now.instance c.args.head.now.version c.in-Some.number c.args.at c.requires opened;
      opened = opened;
    }

pub returns-in-Some-against_device : goal.returns-in-Some-against_device
returns-in-Some-against_device c =
    let found = rw (c.find.ensures, c.deref.ensures.0) at c.in-Some.is in
    let reason = sym c.in-Some-against_device.is ∙ c.against_device.ensures ∙ ap (λ d. reason_against d (get_or c.args.came.now c.in-Some.number false) c.args.head.now.version) c.device.ensures in
    record {
      short = search rules;
      refused = search rules;
      fresh = tt;
      opened = rw (c.refused-in-Some-against_device.ensures)
          (opens (described c.args.set.now) c.args.came.now c.args.head.now.name.items c.args.head.now.instance c.args.head.now.version c.args.at c.in-Some.number (Some c.in-Some-against_device.reason) found reason);
    }
