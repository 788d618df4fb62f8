use Rattle.vms_load.proofs.Facade.{First, LONGEST_HEAD, ◌+◌, List, ℕ, Some, None, Result, Ok, Err, true, false, sym, subst, ap, arith, intake, reads_as}
use Rattle.vms_load.proofs.Facade.{reads_both, judge, reading, Before, Free, by_state, at_start, reading_on, described, held_long, FrameFault, GoesOn}
use Rattle.vms_load.proofs.Facade.{GoesThrough, LeadsOn, ReadsAll, ReadsEnd, accepted_of, due_at, read_from, reach, state_of, spot_at, most_given}
use Rattle.vms_load.proofs.{ReadLemmas.err_is, ReadLemmas.goes_on, ReadLemmas.same_course, StreamLengths.most_small, StreamLengths.start_due}
use Rattle.vms_load.proofs.{stream.stream.Given.Over, stream.stream.Goals.After-sections, stream.stream.Goals.After-trailer}
use Rattle.vms_load.proofs.StreamReads.{closed, closes_at, refused_before}
use Rattle.vms_load.proofs.stream.stream.Goals as goal

pub read_head-requires : goal.read_head-requires
read_head-requires g c = record { held = rw (c.new-cursor.ensures); place = omega (arith, ap (λ s. s.at) c.new-cursor.ensures) }

pub returns-in_err-read_head : goal.returns-in_err-read_head
returns-in_err-read_head g c =
    let set = described c.args.set.now in
    let names = accepted_of set c.args.only in
    let go = reading_on (judge (by_state set names)) in
    let start = state_of set c.restart.new.staged Before in
    let e = c.in_err-read_head.field-0.0 in
    record {
      reads = rw (err_is _ _ c.from_residual.ensures.1)
          (reads_as (λ n l. omega arith)
          (λ input left h. refused_before set names {X = Unit {0}} c.restart.new.staged start (Some input) (Some left) (λ x. go (state_of set c.restart.new.staged (Free true false))) c.new-cursor.result c.read_head.new.cursor e
          c.restart.ensures.state (rw (c.new-cursor.ensures)) (rw (c.new-cursor.ensures)) h) (c.in_err-read_head.ensures.reads set names start));
      shaped = c.restart.ensures.whole.images;
      machine = c.restart.ensures.whole.machine;
    }

pub sections-requires : goal.sections-requires
sections-requires g c =
    let set = described c.args.set.now in
    let due = start_due set c.restart.ensures.state in
    record {
      can = record { machine = c.requires.machine; whole = c.restart.ensures.whole };
      cursor = record { held = c.in_ok-read_head.ensures.held; place = omega (arith, due, most_small set c.args.set.now.well_formed, c.in_ok-read_head.ensures.moves, ap reach c.new-cursor.ensures) };
    }

-- what has been read once the sections were read, or one was refused
on : (g : Over) (c : After-sections g) → GoesOn (intake g.S.Source c.args.source.now) (intake g.S.Source c.sections.new.source) (most_given (described c.args.set.now))
    (read_from c.args.set.now c.args.only c.restart.new.staged Before) (λ _. read_from c.args.set.now c.args.only c.sections.new.staged (spot_at None)) c.new-cursor.result c.sections.new.cursor c.sections.result
on g c =
    let set = described c.args.set.now in
    let due = due_at c.args.set.now c.restart.new.staged (Some First) in
    let h = c.in_ok-read_head.ensures.moves in
    goes_on (due + LONGEST_HEAD) _ due (λ _. 0) (read_from c.args.set.now c.args.only c.restart.new.staged Before) (read_from c.args.set.now c.args.only c.restart.new.staged (Free true false))
    (λ _. read_from c.args.set.now c.args.only c.sections.new.staged (spot_at None)) c.new-cursor.result c.read_head.new.cursor c.sections.new.cursor c.sections.result
    h.0 h.1 c.sections.ensures.moves (omega (arith, start_due set c.restart.ensures.state, ap reach c.new-cursor.ensures)) (c.in_ok-read_head.ensures.reads set (accepted_of set c.args.only) (state_of set c.restart.new.staged Before)) c.sections.ensures.reads

pub returns-in_err-sections : goal.returns-in_err-sections
returns-in_err-sections g c =
    let set = described c.args.set.now in
    record {
      reads = rw (err_is _ _ c.from_residual-in_err-sections.ensures.1)
          (reads_as (λ n l. l)
          (λ input left. refused_before set (accepted_of set c.args.only) {X = Unit {0}} c.sections.new.staged (state_of set c.restart.new.staged Before) (Some input) (Some left)
          (λ _. read_from c.args.set.now c.args.only c.sections.new.staged (spot_at None)) c.new-cursor.result c.sections.new.cursor c.in_err-sections.field-0.0 c.restart.ensures.state (rw (c.new-cursor.ensures)) (rw (c.new-cursor.ensures)))
          (rw c.in_err-sections.was at (on g (goal.at.returns-in_err-sections g c).After-sections)));
      shaped = c.in_err-sections.ensures.whole.images;
      machine = c.in_err-sections.ensures.whole.machine;
    }

pub trailer-requires-clause-place : goal.trailer-requires-clause-place
trailer-requires-clause-place g c =
    let set = described c.args.set.now in
    let due = start_due set c.restart.ensures.state in
    omega (arith, due, most_small set c.args.set.now.well_formed, c.in_ok-read_head.ensures.moves, c.in_ok-sections.ensures.moves, ap reach c.new-cursor.ensures)

pub trailer-requires-clause-held : goal.trailer-requires-clause-held
trailer-requires-clause-held g c = c.in_ok-sections.ensures.held

-- the end of the stream, read or refused
ends : (g : Over) (c : After-trailer g) (all rest left : List ℕ) (result : Result (Unit {0}) FrameFault)
    → LeadsOn (read_from c.args.set.now c.args.only c.restart.new.staged Before) (read_from c.args.set.now c.args.only c.sections.new.staged (spot_at None)) c.new-cursor.result c.sections.new.cursor (Some all) (Some rest)
    → ReadsEnd c.sections.new.cursor.at c.trailer.new.self.at (Some rest) (Some left) result
    → ReadsAll (described c.args.set.now) (reading (by_state (described c.args.set.now) (accepted_of (described c.args.set.now) c.args.only)) (at_start (described c.args.set.now)) all) c.sections.new.staged all (Some left) (closes_at c.trailer.new.self.at result)
ends g c all rest left result =
    let set = described c.args.set.now in
    closed set (accepted_of set c.args.only) c.sections.new.staged (state_of set c.restart.new.staged Before) (Some all) (Some rest) (Some left) c.new-cursor.result c.sections.new.cursor c.trailer.new.self.at result
    c.restart.ensures.state (rw (c.new-cursor.ensures)) (rw (c.new-cursor.ensures)) c.in_ok-sections.ensures.held

pub returns-in-Ok : goal.returns-in-Ok
returns-in-Ok g c =
    let set = described c.args.set.now in
    let due = start_due set c.restart.ensures.state in
    let h = c.in_ok-read_head.ensures.moves in
    let s = c.in_ok-sections.ensures.moves in
    let zero = ap reach c.new-cursor.ensures in
    let free = ap held_long c.in_ok-sections.ensures.held in
    let t = c.in-Ok.ensures.place in
    record {
      reads = subst (λ n. GoesThrough (intake g.S.Source c.args.source.now) (intake g.S.Source c.trailer.new.source) set (reading (by_state set (accepted_of set c.args.only)) (at_start set)) c.sections.new.staged (Ok n)) (sym c.at.ensures)
          (reads_both (λ k n l m. (omega (arith, l, m, h.1, s.1, t, free, zero), omega (arith, due, h, s, t, free, zero)))
          (λ all rest left. ends g (goal.at.returns-in-Ok g c).After-trailer all rest left (Ok c.in-Ok.field-0)) (rw c.in_ok-sections.was at (on g (goal.at.returns-in-Ok g c).After-sections)) c.in-Ok.ensures.reads);
      shaped = c.in_ok-sections.ensures.whole.images;
      machine = c.in_ok-sections.ensures.whole.machine;
    }

pub returns-in-Err : goal.returns-in-Err
returns-in-Err g c = record {
  reads = rw (c.concerning.ensures, ← same_course None c.in-Err.fault)
      (reads_both (λ k n l m. omega (arith, ap held_long c.in_ok-sections.ensures.held, ap reach c.new-cursor.ensures, start_due (described c.args.set.now) c.restart.ensures.state, c.in_ok-read_head.ensures.moves, c.in_ok-sections.ensures.moves))
      (λ all rest left. ends g (goal.at.returns-in-Err g c).After-trailer all rest left (Err c.in-Err.fault)) (rw c.in_ok-sections.was at (on g (goal.at.returns-in-Err g c).After-sections)) c.in-Err.ensures.reads);
  shaped = c.in_ok-sections.ensures.whole.images;
  machine = c.in_ok-sections.ensures.whole.machine;
}
