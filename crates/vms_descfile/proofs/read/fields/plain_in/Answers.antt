use Rattle.vms_descfile.proofs.Facade.{◌≡◌, Some, option_map, rules, view, object_is}
use Rattle.vms_descfile.proofs.ObjectLaws.{field_plain}
use Rattle.vms_descfile.proofs.read.fields.plain_in.Goals as goal

pub returns : goal.returns
returns c =
    let seen = c.in_ok-seen.seen in
    let former = option_map view seen.former in
    let k = view c.in_ok-kind.kind in
    let n = view c.in_ok-name.name in
    let number = c.in_ok-number.number in
    let text = c.in_ok-text.text.now in
    let kind : option_map view seen.kind ≡ Some k = search rules in
    let name : option_map view seen.name ≡ Some n = search rules in
    rw (object_is _ _ c.in_ok-members.ensures, c.in_ok-seen.ensures, kind, name)
    (field_plain number k n text c.in_ok-number.ensures c.in_ok-text.ensures former)
