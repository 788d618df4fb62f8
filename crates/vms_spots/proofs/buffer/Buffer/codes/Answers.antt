use Rattle.vms_spots.proofs.Facade.{rules, ◌≡◌, ◌+◌, ◌*◌, ◌-◌, ◌<◌, ◌≤◌, length, ap, arith, ℕ, width}
use Rattle.vms_spots.proofs.RunLaws.{codes_seen}
use Rattle.vms_spots.proofs.buffer.Buffer.codes.Goals as goal

pub slice_bounds-result-end-2 : goal.slice_bounds-result-end-2
slice_bounds-result-end-2 c =
    let s = c.index.result.now in
    let some : 0 < c.args.count = omega arith in
    let seen = codes_seen c.self.view_is c.self.invariant some c.requires.room c.requires.one c.index.ensures in
    let wide : c.args.count * c.width.result ≡ c.args.count * width c.args.kind = ap (λ (n : ℕ). c.args.count * n) c.width.ensures in
    let inside : s.offset + c.args.count * c.width.result ≤ length c.deref-2.result.now = omega (arith, seen.0, ap length c.deref-2.ensures.value) in
    search (rules, inside)

pub returns : goal.returns
returns c =
    let s = c.index.result.now in
    let some : 0 < c.args.count = omega arith in
    let seen = codes_seen c.self.view_is c.self.invariant some c.requires.room c.requires.one c.index.ensures in
    let wide : c.args.count * c.width.result ≡ c.args.count * width c.args.kind = ap (λ (n : ℕ). c.args.count * n) c.width.ensures in
    let long : (s.offset + c.args.count * c.width.result) - s.offset ≡ c.args.count * width c.args.kind = omega arith in
    cc (long, c.deref-2.ensures.value, seen.1)
