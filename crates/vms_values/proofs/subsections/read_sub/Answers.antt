use Rattle.vms_values.proofs.{Facade.◌≡◌, Facade.length, Facade.arith, Facade.described, Facade.sub_inside, Naming.sub_kinds}
use Rattle.vms_values.proofs.subsections.read_sub.Goals as goal

pub read_part-requires : goal.read_part-requires
read_part-requires c =
    let set = described c.args.set.now in
    let same : length c.mark.new.self.numbers ≡ length c.args.taken.now.image.numbers = rw (c.mark.ensures) in
    record {
      spot = record {
        part = (c.requires.device.is_device, c.requires.is_sub);
        few = omega arith;
        room = omega (arith, sub_inside set c.args.device c.args.sub c.requires.is_sub);
      };
      kinds = rw c.first_cell.ensures (sub_kinds set c.args.device c.mark.new.self.kinds (rw (c.mark.ensures) (c.requires.kinds)) c.args.sub c.requires.is_sub);
    }
