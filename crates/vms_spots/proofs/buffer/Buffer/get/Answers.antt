use Rattle.vms_spots.proofs.BufferLaws.{at_cell}
use Rattle.vms_spots.proofs.Facade.{rules, ◌≡◌, ◌-◌, arith, w128, to_z-of_z, width, number_at}
use Rattle.vms_spots.proofs.buffer.Buffer.get.Goals as goal

pub end-end-requires : goal.end-end-requires
end-end-requires c = (at_cell c.self.view_is c.self.invariant c.requires c.index-spot.ensures).small

pub slice_bounds-read-end : goal.slice_bounds-read-end
slice_bounds-read-end c =
    let a = at_cell c.self.view_is c.self.invariant c.requires c.index-spot.ensures in
    search (rules, a.inside, c.end-end.ensures, c.deref.ensures.value)

pub returns : goal.returns
returns c =
    let s = c.index-spot.result.now in
    let a = at_cell c.self.view_is c.self.invariant c.requires c.index-spot.ensures in
    let wide : c.end-end.result - s.offset ≡ width s.kind = omega arith in
    let same = to_z-of_z w128 c.read.result (search rules) in
    let read : c.read.result ≡ number_at c.self.inside.bytes.items s = cc (wide, c.read.ensures, c.deref.ensures.value) in
    record { number = cc (same, read, a.number); range = rw (same, read, ← a.kind) a.fits }
