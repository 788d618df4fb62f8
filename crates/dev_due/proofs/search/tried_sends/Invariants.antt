use Rattle.dev_due.proofs.Facade.{◌≡◌, ℕ, ◌+◌, ◌*◌, ◌<◌, ◌≤◌, character_of, Finds, FoundSend}
use Rattle.dev_due.proofs.search.tried_sends.Given as goal

abbrev pub invariant-loop : goal.invariant-loop
invariant-loop l = record {
  finds : Finds l.board l.initial.first l.first;
  sends : (k : ℕ) → k < l.counter → FoundSend l.board (l.initial.sent + k * character_of l.board) l.first;
  sent : l.sent ≡ l.initial.sent + l.counter * character_of l.board;
  bound : l.sent ≤ l.initial.sent + l.counter * 6826562500;
}
