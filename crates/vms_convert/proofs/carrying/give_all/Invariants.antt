use Rattle.vms_convert.proofs.{Facade.described, Facade.device_at, Facade.steps_of, Facade.Changes, Facade.give_step, TakeLaws.first_slots}
use Rattle.vms_convert.proofs.carrying.give_all.Given as goal

abbrev pub invariant-loop-sub : goal.invariant-loop-sub
invariant-loop-sub l =
    Changes (give_step l.gift.partners.now l.gift.image.now.numbers)
    (steps_of (first_slots (described l.set) (device_at (described l.set) l.device) l.gift.image.now.came l.sub l.gift.image.now.numbers)) l.fn.target l.target
