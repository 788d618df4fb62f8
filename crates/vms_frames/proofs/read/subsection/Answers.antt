use Rattle.vms_frames.proofs.{HeadLemmas.sub_whole_long, ReadsUnits.unit_whole, ReadsUnits.head_short, HeadLemmas.sub_whole, HeadLemmas.sub_cut, Facade.◌+◌}
use Rattle.vms_frames.proofs.{ReadsUnits.unit_on, Facade.sub_head_in, ReadsUnits.a_sub, Facade.◌≡◌, Facade.length, Facade.get_or, Facade.arith, Facade.Ok}
use Rattle.vms_frames.proofs.read.subsection.Goals as goal

pub of-requires : goal.of-requires
of-requires g c = grind arith

pub returns : goal.returns
returns g c =
    let grown = c.in_ok-grow_head.ensures.grown in
    let unit = c.grow_head.new.unit.items in
    let long : length unit ≡ 6 + get_or unit 1 0 = omega arith in
    let same : c.of.result ≡ sub_head_in unit = cc (c.of.ensures, c.deref.ensures.0) in
    unit_on a_sub c.args.at (Ok c.of.result) grown
    (unit_whole a_sub unit c.args.at (g.met.S.Source.counted c.grow_head.new.source)
    (rw same (sub_whole_long unit long)) (λ rest. rw same (sub_whole unit rest long)))

pub returns-in_err-grow_head : goal.returns-in_err-grow_head
returns-in_err-grow_head g c =
    head_short a_sub _ c.from_residual.ensures.1 c.requires (omega arith) (omega arith) (λ all few. sub_cut all (omega arith)) c.in_err-grow_head.ensures.cut
