use Rattle.vms_io.proofs.Facade.{◌≡◌, Keeps, told, between}
use Rattle.vms_io.proofs.standard.StdSink.hand_on.Given as goal

abbrev pub invariant-loop : goal.invariant-loop
invariant-loop g l = record {
  bytes : Keeps (told (g.W.Write.contents l.initial.self.writer) (between l.initial.self.gathered l.initial.self.begin l.initial.self.end))
      (told (g.W.Write.contents l.self.writer) (between l.self.gathered l.self.begin l.self.end));
  faults : l.self.faults ≡ l.initial.self.faults;
}
