use Rattle.vms_analyze.proofs.Facade.{wants, ◌≡◌, ◌+◌, map, take, drop, None, sym, value_in, Tells, listing_of, IsRead, HasNoShape, next, devices_in}
use Rattle.vms_analyze.proofs.{Facade.device_of, Facade.found, One.lists_as, One.text_behind, DevicesRead.tells_if, DevicesRead.not_told}
use Rattle.vms_analyze.proofs.list.list_at.Goals as goal

pub show-requires : goal.show-requires
show-requires c =
    let input = c.args.input.now in
    let place = c.args.place in
    rw c.deref.ensures.value ((tells_if input place (map device_of c.in-Ok.devices.items) (rw (sym (text_behind input (place + 5))) (c.in-Ok.ensures))).good)

pub returns-in-Ok : goal.returns-in-Ok
returns-in-Ok c =
    let input = c.args.input.now in
    let place = c.args.place in
    let tells : Tells input place (map device_of c.deref.result.now) =
    rw c.deref.ensures.value (tells_if input place (map device_of c.in-Ok.devices.items) (rw (sym (text_behind input (place + 5))) (c.in-Ok.ensures))) in
    lists_as input (listing_of (found (wants (map device_of c.deref.result.now)) 0 0 (take place input))) c.show.result
    (IsRead place (map device_of c.deref.result.now) c.requires.few c.requires.last tells) c.show.ensures

pub returns-in-Err-Shape : goal.returns-in-Err-Shape
returns-in-Err-Shape c =
    let input = c.args.input.now in
    let place = c.args.place in
    let none : next (value_in (drop (place + 5) input)) devices_in ≡ None =
    rw (sym (text_behind input (place + 5))) ((rw c.in-Err-Shape.field-0-is at c.in-Err-Shape.ensures)) in
    HasNoShape place c.requires.few c.requires.last (not_told input place none)
