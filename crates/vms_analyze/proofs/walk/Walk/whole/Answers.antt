use Rattle.vms_analyze.proofs.Facade.{◌≡◌, ◌≢◌, length, arith, ap}
use Rattle.vms_analyze.proofs.One.{is_shown, has_more, why_none}
use Rattle.vms_analyze.proofs.walk.Walk.whole.Goals as goal

pub returns-in-Err : goal.returns-in-Err
returns-in-Err c =
    why_none _ _ _ _ _ c.requires.start c.in-Err.ensures

pub returns-then-self : goal.returns-then-self
returns-then-self c =
    let went = c.in_default.ensures in
    let other : c.stream.new.self.place ≢ length c.args.self.now.input.now = λ e. omega (arith, ap length went.input) in
    has_more _ _ _ _ c.requires.start went other

pub returns : goal.returns
returns c =
    let went = c.in_default.ensures in
    let all : c.stream.new.self.place ≡ length c.args.self.now.input.now = omega (arith, ap length went.input) in
    is_shown _ _ _ _ c.requires.start went all
