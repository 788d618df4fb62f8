use Rattle.vms_desc.proofs.{Facade.described, Facade.sizes_of, Facade.HasPart, EvalLaws.sub_table}
use Rattle.vms_desc.specs.Described.{device_at}
use Rattle.vms_spec.specs.declared.Part.TheVariants as parts
use Rattle.vms_desc.proofs.set.DescSet.table.Goals as goal

pub returns-in-Sub : goal.returns-in-Sub
returns-in-Sub c =
    let set = described c.args.self.now in
    let has : HasPart set (parts.Sub c.in-Sub.device c.in-Sub.number) = rw c.in-Sub.is at c.requires in
    rw c.in-Sub.is (sub_table (sizes_of set)
    (device_at set c.in-Sub.device) c.tables_of-in-Sub.result.now c.in-Sub.number c.index-tables_of-number.result c.tables_of-in-Sub.ensures has.1 c.index-tables_of-number.is)
