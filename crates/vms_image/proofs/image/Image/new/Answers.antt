use Rattle.vms_image.proofs.{Facade.refl, Facade.described, Made.made}
use Rattle.vms_image.proofs.image.Image.new.Goals as goal

pub returns : goal.returns
returns c =
    made (described c.args.set.now) c.args.device c.device-described.result.now c.device-described.ensures _ refl
    (rw (c.in_ok-none_came.ensures, c.as_slice.ensures)) (rw (c.in_ok-copy.ensures, c.defaults.ensures.defaults)) (rw (c.in_ok-copy.ensures, c.defaults.ensures.defaults))
