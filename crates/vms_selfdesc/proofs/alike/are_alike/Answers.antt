use Rattle.vms_selfdesc.proofs.Facade.{◌<◌, ◌≤◌, ◌∙◌, length, map, sym, arith, OnTrue_at, described, state_of, states_long}
use Rattle.vms_selfdesc.proofs.{AlikeLemmas.IsKept, AlikeLemmas.kept, Trees.devices_next, Trees.devices_end, alike.are_alike.Goals.After-index-second-device}
use Rattle.vms_selfdesc.proofs.alike.are_alike.Goals as goal

pub bounds-second-device : goal.bounds-second-device
bounds-second-device c =
    omega (arith, c.loop-device-test.true, c.requires.first.one_each, c.requires.second.one_each, states_long c.args.first.now, states_long c.args.second.now)

-- each of the two images is kept
first : (c : After-index-second-device) → IsKept (described c.args.set.now) c.args.first.now c.loop-device.device c.index-first-device.result
first c =
    kept _ c.args.set.now.well_formed _ c.requires.first c.requires.of_first _
    c.loop-device-test.true c.index-first-device.result c.index-first-device.is

second : (c : After-index-second-device) → IsKept (described c.args.set.now) c.args.second.now c.loop-device.device c.index-second-device.result
second c =
    kept _ c.args.set.now.well_formed _ c.requires.second c.requires.of_second _
    (omega (arith, c.requires.first.one_each, c.requires.second.one_each, states_long c.args.first.now, states_long c.args.second.now))
    c.index-second-device.result c.index-second-device.is

pub is_kept_alike-requires : goal.is_kept_alike-requires
is_kept_alike-requires c =
    let at = (goal.at.is_kept_alike-requires c).After-index-second-device in
    let a = first at in
    let b = second at in
    record {
      of = record { first = a.of; second = b.of };
      version = a.version ∙ sym b.version;
      kinds = record { same = a.kinds ∙ sym b.kinds; first_fit = a.fit; second_fit = b.fit };
    }

pub loop-device-preserved : goal.loop-device-preserved
loop-device-preserved c =
    let set = described c.args.set.now in
    let k = c.loop-device.device in
    let at = (goal.at.loop-device-preserved c).After-index-second-device in
    let lt : k < length (map state_of c.args.first.now) = omega (arith, states_long c.args.first.now) in
    let lt' : k < length (map state_of c.args.second.now) = omega (arith, lt, c.requires.first.one_each, c.requires.second.one_each) in
    let there : k < length set.devices = omega (arith, lt, c.requires.first.one_each) in
    λ rest. c.loop-device.invariant
    (rw (
      devices_next set (map state_of c.args.first.now) k (state_of c.index-first-device.result) there lt (first at).seen,
      devices_next set (map state_of c.args.second.now) k (state_of c.index-second-device.result) there lt' (second at).seen,
      OnTrue_at c.if-not-is_kept_alike.false c.is_kept_alike.ensures,
      rest,
    ))

pub returns : goal.returns
returns c =
    let set = described c.args.set.now in
    let k = c.loop-device.device in
    let over : length set.devices ≤ k = omega (arith, c.requires.first.one_each, states_long c.args.first.now) in
    rw (c.loop-device.invariant (devices_end set (map state_of c.args.first.now) k over ∙ sym (devices_end set (map state_of c.args.second.now) k over)))
