use Rattle.vms_board_commands.proofs.Facade.{◌≡◌, ◌-◌, drill_begun, drilled_on, progress_view, IsInProgress}
use Rattle.vms_board_commands.proofs.drills.fold.drill.Given as goal

abbrev pub invariant-loop : goal.invariant-loop
invariant-loop l = record {
  going : IsInProgress l.progress;
  count : l.progress.done ≡ l.counter;
  left : drilled_on (l.count - l.counter) (progress_view l.progress) ≡ drilled_on l.count (drill_begun l.level l.seed);
}
