-- Numbers of one kind in consecutive cells.
use Rattle.std.specs.Prelude.{◌≡◌, ℕ, List, [], ◌∷◌, ◌++◌, None, Ok}
use Rattle.vms_kinds.specs.declared.Kind.{Kind}
use Rattle.vms_spec.specs.Layout.{times}
use Rattle.vms_walk.specs.Laws.{Does}
use Rattle.vms_walk.specs.declared.step.WalkStep.{WalkStep}
use Rattle.vms_walk.specs.declared.step.WalkStep.TheVariants.{Number}

-- The steps for `count` such numbers, which count nothing, from cell `first` on.
abbrev pub run_of : ℕ → ℕ → Kind → List WalkStep
run_of first count kind = times count (λ cell. Number cell kind None ∷ []) first 1

-- Wherever the walker is among these steps, each remaining one may come.
abbrev pub MayRun : {S F : Type 0} → Does S F → (S → WalkStep → Type 0) → List WalkStep → S → Type 0
MayRun {S} {F} does may all a = (xs ys rest : List WalkStep) (x : WalkStep) (b : S) → does xs a (Ok tt) b → all ≡ xs ++ (ys ++ (x ∷ rest)) → may b x
