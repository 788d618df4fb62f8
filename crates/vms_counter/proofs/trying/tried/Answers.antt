use Rattle.vms_counter.proofs.{Facade.map, Facade.at_option, Facade.state_of, FoundLemmas.named}
use Rattle.vms_counter.proofs.trying.tried.Goals as goal

pub stream_of-requires : goal.stream_of-requires
stream_of-requires c =
    let trial = c.args.trial.now in
    let ready = c.if-not-are_ready.ensures.ready in
    record {
      machine = c.requires.machine;
      of = c.requires.of;
      ready = ready;
      room = c.requires.room (at_option _ trial.machine) (map state_of c.args.images.now) (named _ trial.machine) ready;
    }
