use Rattle.vms_convert.proofs.Facade.{◌≡◌, [], Some, length, get_or, ap, arith, ◌∙◌, get_or_default, Set, described, IsNameAt, few_machines}
use Rattle.vms_convert.proofs.Answered.{keeps_machine}
use Rattle.vms_convert.proofs.losing.machine_under.Goals as goal

pub find_name-requires : goal.find_name-requires
find_name-requires c =
    let few = few_machines (described c.args.to.now) c.args.to.now.well_formed in
    omega (arith, ap length c.as_slice.ensures, ap (λ (s : Set). length s.machines) c.parts-2.ensures)

pub returns-in-Some-find_name : goal.returns-in-Some-find_name
returns-in-Some-find_name c =
    let new = described c.args.newest.now in
    let m = c.in-Some.number in
    let own = c.in-Some-find_name.own in
    let known = c.as_slice.result.now in
    let name = c.as_bytes.result.now in
    let names : c.as_slice-names.result.now ≡ new.machines = c.as_slice-names.ensures ∙ ap (λ (s : Set). s.machines) c.parts.ensures in
    let named : name ≡ get_or new.machines m [] =
    cc (c.as_bytes.ensures, c.index-names-number.is, get_or_default new.machines m c.index-names-number.result [] (rw c.in-Some.is at c.requires)) in
    let found : IsNameAt known name (Some own) = rw c.in-Some-find_name.is at c.find_name.ensures.one in
    rw c.in-Some.is
    (keeps_machine (described c.args.to.now) new known name m own (c.as_slice.ensures ∙ ap (λ (s : Set). s.machines) c.parts-2.ensures) named found)
