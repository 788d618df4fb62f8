use Rattle.vms_spots.proofs.{Facade.length, Facade.with_items, Facade.with_items_is, RunLaws.codes_seen, PutLaws.puts_codes, BufferLaws.Holds}
use Rattle.vms_spots.proofs.Facade.{put_from, values_of, rules, ◌≡◌, ap, arith, List, ℕ, take, drop, ◌+◌, ◌-◌, ◌<◌, ◌≤◌, ◌++◌}
use Rattle.vms_spots.proofs.buffer.Buffer.put_codes.Goals as goal

pub slice_bounds-copy_from_slice-end : goal.slice_bounds-copy_from_slice-end
slice_bounds-copy_from_slice-end c =
    let some : 0 < c.args.count = omega arith in
    let seen = codes_seen c.self.view_is c.self.invariant some c.requires.room c.requires.one c.index.ensures in
    let inside : c.index.result.now.offset + length c.args.codes.now ≤ length c.deref_mut.result.now =
    omega (arith, seen.0, c.requires.long, ap length c.deref_mut.ensures.value) in
    search (rules, inside)

-- the bytes afterwards
abbrev after : goal.After-self-1 → List ℕ
after c =
    let n = (c.index.result.now.offset + length c.args.codes.now) - c.index.result.now.offset in
    take c.index.result.now.offset c.deref_mut.result.now ++ (c.copy_from_slice.new.self ++ drop n (drop c.index.result.now.offset c.deref_mut.result.now))

stored : (c : goal.After-self-1)
    → let numbers = put_from c.args.self.now.numbers c.args.first (values_of c.args.kind c.args.count c.args.codes.now) in
    Holds c.self.inside.spots.items (record c.args.self.now { numbers = numbers }) (with_items c.self.inside.bytes (after c)).items
stored c =
    let s = c.index.result.now in
    let codes = c.args.codes.now in
    let n = (s.offset + length codes) - s.offset in
    let some : 0 < c.args.count = omega arith in
    let new : after c ≡ take s.offset c.self.inside.bytes.items ++ (codes ++ drop n (drop s.offset c.self.inside.bytes.items)) =
    cc (c.deref_mut.ensures.value, c.copy_from_slice.ensures.after) in
    rw (with_items_is c.self.inside.bytes (after c) (omega (arith, ap length c.deref_mut.ensures.value)))
    (puts_codes (after c) codes n c.self.view_is c.self.invariant some c.requires.room c.requires.one c.requires.number c.requires.long
    (λ i. omega (arith, c.type_inv.codes i)) c.index.ensures (omega arith) new)

pub invariant_of-self : goal.invariant_of-self
invariant_of-self c = (stored c).held_is

pub returns : goal.returns
returns c = (stored c).seen_is
