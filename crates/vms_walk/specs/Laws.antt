-- What a walker does, and that it composes.
use Rattle.std.specs.Prelude.{List, [], ◌++◌, ℤ, Result, Ok, Err}
use Rattle.vms_walk.specs.Inside.{Keeps}
use Rattle.vms_walk.specs.declared.step.WalkStep.{WalkStep}

-- What a walker with these states and faults does at steps: from which state it comes to which, with which result.
abbrev pub Does : Type 0 → Type 0 → Type 1
Does S F = List WalkStep → S → Result (Unit {0}) F → S → Type 0

-- `IsWalk numbers does`: at no steps the walker does nothing. After some steps it takes further ones, and stops
-- within all of them if it stops within these. Steps after a stop change nothing. Only the cells of the steps
-- change.
pub record IsWalk {S F : Type 0} (numbers : S → List ℤ) (does : Does S F) : Type 0 where
  pub none : (a : S) → does [] a (Ok tt) a
  pub more : (xs ys : List WalkStep) (a b c : S) (result : Result (Unit {0}) F) → does xs a (Ok tt) b → does ys b result c → does (xs ++ ys) a result c
  pub before : (xs ys : List WalkStep) (a b : S) (fault : F) → does xs a (Err fault) b → does (xs ++ ys) a (Err fault) b
  pub keeps : (xs : List WalkStep) (a b : S) (result : Result (Unit {0}) F) → does xs a result b → Keeps xs (numbers a) (numbers b)
