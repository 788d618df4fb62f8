use Rattle.vms_convert.proofs.Facade.{◌≡◌, length, map, device_cells, described, device_at, steps_of, changed, put_step}
use Rattle.vms_convert.proofs.TakeLaws.{all_came, first_slots}
use Rattle.vms_convert.proofs.back.take_all.Given as goal

abbrev pub invariant-loop-sub : goal.invariant-loop-sub
invariant-loop-sub l =
    let set = described l.set in
    let d = device_at set l.device in
    record {
      rest : l.image ≡ record l.fn.image { numbers = l.image.numbers };
      first : l.image.numbers ≡ changed (put_step l.partners l.source.numbers) (steps_of (first_slots set d (all_came d.subs) l.sub l.image.numbers))
          (map (λ c. c.default) (device_cells set d));
      long : length l.image.numbers ≡ length (device_cells set d);
    }
