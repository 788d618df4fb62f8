use Rattle.vms_image.proofs.Facade.{◌≡◌, ◌<◌, ℕ, List, Option, None, length, get_or}
use Rattle.vms_image.proofs.image.clear.Given as goal

pub record Cleared (came : List (Option ℕ)) (all sub : ℕ) : Type 0 where
  pub long : length came ≡ all
  pub none : (k : ℕ) → k < sub → get_or came k None ≡ None

abbrev pub invariant-loop-sub : goal.invariant-loop-sub
invariant-loop-sub l = Cleared l.came.items (length l.initial.came.items) l.sub
