use Rattle.vms_frames.proofs.Facade.{arith, ◌≡◌, ◌+◌, length, get_or, Ok, Section, head_in, head_seen}
use Rattle.vms_frames.proofs.HeadLemmas.{head_cut, head_whole, head_long}
use Rattle.vms_frames.proofs.ReadsUnits.{a_step, unit_on, unit_whole, head_short}
use Rattle.vms_frames.proofs.read.section.Goals as goal

pub of-requires : goal.of-requires
of-requires g c = grind arith

pub returns-clause-reads : goal.returns-clause-reads
returns-clause-reads g c =
    let grown = c.in_ok-grow_head.ensures.grown in
    let unit = c.grow_head.new.unit.items in
    let long : length unit ≡ 14 + get_or unit 5 0 = omega arith in
    let same : c.of.result ≡ head_in unit = cc (c.of.ensures, c.deref.ensures.0) in
    unit_on (a_step head_seen) c.args.at (Ok (Section c.of.result)) grown
    (unit_whole (a_step head_seen) {x = Section c.of.result} unit c.args.at (g.met.S.Source.counted c.grow_head.new.source)
    (rw same (head_long unit long)) (λ rest. rw same (head_whole unit rest long)))

pub returns-in_err-grow_head-clause-reads : goal.returns-in_err-grow_head-clause-reads
returns-in_err-grow_head-clause-reads g c =
    head_short (a_step head_seen) _ c.from_residual.ensures.1 c.requires (omega arith) (omega arith) (λ all few. head_cut all (omega arith))
    c.in_err-grow_head.ensures.cut
