use Rattle.dev_board.proofs.Facade.{◌≡◌, ℕ, [], None, sym, ap, ◌∙◌, State, acted, after_act, step, waited, saying, Answer, Wait}
use Rattle.dev_board.proofs.devices.Devices.pass.Goals as goal

-- A wait in which no byte leaves says the output alone.
quiet-answer : (ns : ℕ) (m after : State) (answer : Answer) → (answer, after) ≡ step (Wait ns) m → (step (Wait ns) m).0.sent.items ≡ [] → (saying None answer.int, after) ≡ step (Wait ns) m
unfolding step after_act acted waited
quiet-answer ns m after answer e none =
    ap (λ done. (saying None done.0.int, done.1)) e
    ∙ ap (λ bytes. let said : Answer = record { value = None; int = (step (Wait ns) m).0.int; sent = record { items = bytes } } in (said, (step (Wait ns) m).1)) (sym none)

pub returns-clause-passed : goal.returns-clause-passed
returns-clause-passed c =
    quiet-answer c.args.ns c.args.self.now c.event-answer.new.self c.event-answer.result c.event-answer.ensures.step
    (rw c.self.view_is at (c.sends_by.ensures.none c.if-sends_by.false))
