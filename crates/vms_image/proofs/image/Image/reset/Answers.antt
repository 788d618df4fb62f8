use Rattle.vms_image.proofs.Facade.{◌∙◌, ap, refl, sym, length, length-map, Held, described, Typed}
use Rattle.vms_image.proofs.Made.{made}
use Rattle.vms_image.proofs.image.Image.reset.Goals as goal

pub copy_from-requires : goal.copy_from-requires
copy_from-requires c = ap (λ (i : Typed). i.kinds) c.self.view_is ∙ c.requires.kinds ∙ sym (ap (λ (h : Held). h.kinds) c.defaults.ensures.defaults)

pub returns : goal.returns
returns c =
    made (described c.args.set.now) c.args.device c.device.result.now c.device.ensures
    (record { version = c.device.result.now.desc.version; came = c.clear.new.came.items; numbers = c.copy_from.new.self.numbers; kinds = c.copy_from.new.self.kinds }) refl
    (rw (c.clear.ensures, ap (λ (i : Typed). length i.came) c.self.view_is, c.requires.subs, ← c.device.ensures, length-map))
    (rw (c.copy_from.ensures, c.defaults.ensures.defaults)) (rw (c.copy_from.ensures, c.defaults.ensures.defaults))
