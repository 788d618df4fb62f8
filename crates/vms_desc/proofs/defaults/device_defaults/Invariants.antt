use Rattle.vms_desc.proofs.{Facade.◌≡◌, Facade.map, Facade.take, Facade.form_numbers, FormLaws.forms_in}
use Rattle.vms_desc.proofs.defaults.device_defaults.Given as goal

abbrev pub invariant-loop-device : goal.invariant-loop-device
invariant-loop-device l = l.defaults.items ≡ map (λ d. form_numbers (forms_in l.parts d)) (take l.device-index l.parts.devices)
