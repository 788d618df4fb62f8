use Rattle.vms_desc.proofs.{FormLaws.Left, Facade.map, Facade.drop, Facade.subs_forms, Facade.structs_forms, Facade.sub_of}
use Rattle.vms_desc.proofs.forms.put_subs.Given as goal

abbrev pub invariant-loop-sub : goal.invariant-loop-sub
invariant-loop-sub l =
    let ts = structs_forms l.structs in
    Left l.initial.forms l.forms (subs_forms ts (map sub_of (drop l.sub-index l.subs))) (subs_forms ts (map sub_of l.subs))
