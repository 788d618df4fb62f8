use Rattle.vms_io.proofs.Facade.{Consumes, take_limit, take_remaining}
use Rattle.vms_io.proofs.files.read_front.Given as goal

abbrev pub invariant-loop-count : goal.invariant-loop-count
invariant-loop-count g l =
    Consumes (take_remaining g.F.Read.remaining l.initial.file) (take_remaining g.F.Read.remaining l.file) l.bytes.items

abbrev pub decreases-loop-count : goal.decreases-loop-count
decreases-loop-count g l = take_limit l.file
