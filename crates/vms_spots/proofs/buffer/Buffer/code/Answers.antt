use Rattle.vms_spots.proofs.{Facade.rules, Facade.◌≡◌, Facade.◌-◌, Facade.arith, Facade.width, BufferLaws.at_cell}
use Rattle.vms_spots.proofs.buffer.Buffer.code.Goals as goal

pub end-end-requires : goal.end-end-requires
end-end-requires c = (at_cell c.self.view_is c.self.invariant c.requires c.index-spot.ensures).small

pub slice_bounds-result-end : goal.slice_bounds-result-end
slice_bounds-result-end c =
    let a = at_cell c.self.view_is c.self.invariant c.requires c.index-spot.ensures in
    search (rules, a.inside, c.end-end.ensures, c.deref.ensures.value)

pub returns : goal.returns
returns c =
    let s = c.index-spot.result.now in
    let wide : c.end-end.result - s.offset ≡ width s.kind = omega arith in
    cc (wide, c.deref.ensures.value, (at_cell c.self.view_is c.self.invariant c.requires c.index-spot.ensures).code_is)
