use Rattle.std.proofs.Common.{rules}
use Rattle.dev_board.proofs.QuickLaws.{command-holds, command-step, queue-holds, queue-step, read-holds, read-step}
use Rattle.dev_board.proofs.devices.Devices.at_once.Goals as goal

pub invariant_of-self-in-Read : goal.invariant_of-self-in-Read
invariant_of-self-in-Read c =
    let after = read-holds c.self.inside.parts c.self.invariant.sound c.in-Read.port _ _
    c.in_ok-value-in-Read.ensures.touch c.in_ok-value-in-Read.ensures.read c.self.inside.kept c.self.invariant.kept in
    record { sound = after.sound; kept = after.kept }

pub returns-in_ok-value-in-Read : goal.returns-in_ok-value-in-Read
returns-in_ok-value-in-Read c =
    read-step c.self.inside.parts c.self.invariant.sound c.in-Read.port _ _ c.in_ok-value-in-Read.ensures.touch c.in_ok-value-in-Read.ensures.read
    c.args.event c.args.self.now c.self.inside.kept c.self.invariant.kept c.in-Read.is c.self.view_is

pub invariant_of-self-then-queue : goal.invariant_of-self-then-queue
invariant_of-self-then-queue c =
    let after = queue-holds c.self.inside.parts c.self.invariant.sound c.in-Write.value _ (c.queue.ensures.queued c.if-queue.true)
    c.queue.ensures.line c.queue.ensures.kept c.self.inside.kept c.self.invariant.kept in
    record { sound = after.sound; kept = after.kept }

pub returns-then-queue : goal.returns-then-queue
returns-then-queue c =
    queue-step c.self.inside.parts c.self.invariant.sound c.in-Write.value _ (c.queue.ensures.queued c.if-queue.true) c.queue.ensures.line c.queue.ensures.kept
    c.args.event c.in-Write.port c.args.self.now c.self.inside.kept c.self.invariant.kept c.in-Write.is c.if-port-eq-TRANSMIT_PORT.true c.self.view_is

pub invariant_of-self-then-not-has : goal.invariant_of-self-then-not-has
invariant_of-self-then-not-has c =
    let after = command-holds c.self.inside.parts c.self.invariant.sound c.in-Write.value _ c.command-self-inside.ensures.state (search rules)
    c.command-self-inside.ensures.kept _ c.command-self-inside.ensures.int c.self.inside.kept.calm c.self.invariant.kept.calm in
    record { sound = after.sound; kept = after.kept }

pub returns-then-not-has : goal.returns-then-not-has
returns-then-not-has c =
    command-step c.self.inside.parts c.self.invariant.sound c.in-Write.value _ c.command-self-inside.ensures.state (search rules)
    c.command-self-inside.ensures.kept _ c.command-self-inside.ensures.int
    c.args.event c.in-Write.port c.args.self.now c.in-Write.is c.if-port-eq-COMMAND_PORT.true c.self.view_is
