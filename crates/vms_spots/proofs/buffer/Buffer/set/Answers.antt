use Rattle.vms_spots.proofs.Facade.{◌≡◌, arith, rules, ℕ, List, take, drop, ap, ◌-◌, ◌++◌, length, set, [], length-take, w128}
use Rattle.vms_spots.proofs.Facade.{with_items, to_z-of_z, drop_all, with_items_is, to_z, of_z, width, code}
use Rattle.std.proofs.lemmas.List.{append-nil}
use Rattle.vms_spots.proofs.BufferLaws.{at_cell, Holds, puts}
use Rattle.vms_spots.proofs.buffer.Buffer.set.Goals as goal

pub end-end-requires : goal.end-end-requires
end-end-requires c = (at_cell c.self.view_is c.self.invariant c.requires.cell c.index-spot.ensures).small

pub slice_bounds-write-end : goal.slice_bounds-write-end
slice_bounds-write-end c =
    let a = at_cell c.self.view_is c.self.invariant c.requires.cell c.index-spot.ensures in
    search (rules, a.inside, c.end-end.ensures, c.deref_mut.ensures.value)

pub write-requires-clause-range : goal.write-requires-clause-range
write-requires-clause-range c =
    let a = at_cell c.self.view_is c.self.invariant c.requires.cell c.index-spot.ensures in
    rw (to_z-of_z w128 c.args.value c.ranges.value, a.kind) c.requires.range

-- the bytes afterwards
abbrev after : goal.After-self-1 → List ℕ
after c =
    take c.index-spot.result.now.offset c.deref_mut.result.now
    ++ (c.write.new.bytes ++ drop (c.end-end.result - c.index-spot.result.now.offset) (drop c.index-spot.result.now.offset c.deref_mut.result.now))

stored : (c : goal.After-self-1)
    → let numbers = set c.args.self.now.numbers c.args.cell c.args.value in
    Holds c.self.inside.spots.items (record c.args.self.now { numbers = numbers }) (with_items c.self.inside.bytes (after c)).items
stored c =
    let s = c.index-spot.result.now in
    let n = c.end-end.result - s.offset in
    let old : List ℕ = take n (drop s.offset c.deref_mut.result.now) in
    let none : drop (width s.kind) old ≡ [] = drop_all (width s.kind) old (omega (arith, length-take n (drop s.offset c.deref_mut.result.now))) in
    let part : c.write.new.bytes ≡ code s.kind c.args.value =
    cc (c.write.ensures, append-nil (code s.kind (to_z w128 (of_z w128 c.args.value))), to_z-of_z w128 c.args.value c.ranges.value) in
    rw (with_items_is c.self.inside.bytes (after c) (omega (arith, ap length c.deref_mut.ensures.value)))
    (puts (after c) c.write.new.bytes n c.args.value (at_cell c.self.view_is c.self.invariant c.requires.cell c.index-spot.ensures) c.requires.range part
    (omega arith) (cc (c.deref_mut.ensures.value)))

pub invariant_of-self : goal.invariant_of-self
invariant_of-self c = (stored c).held_is

pub returns : goal.returns
returns c = (stored c).seen_is
