-- What a command needs of the shelf and of texts, step by step. A step gives a value, or the command ends there with
-- a status and a line. A step that depends on unknown contents is `Untold`.
use Rattle.std.specs.Prelude.{◌≡◌, ℕ, List, Option}
use Rattle.vms_io.specs.Shelves.{Held}
use Rattle.vms_commands.specs.Outcomes.{Outcome, done, ended}

-- A step: its result is unknown, or it gives a value, or the command ends with a status and a line.
pub data Step (A : Type 0) : Type 0 where
  Untold : Step A
  Gives : A → Step A
  Ends : ℕ → List ℕ → Step A

-- `next step f` is `step` followed by `f` of the value that it gives.
abbrev pub next : {A B : Type 0} → Step A → (A → Step B) → Step B
next Untold f = Untold
next (Gives a) f = f a
next (Ends status line) f = Ends status line

-- A value for the older set and one for the newer.
pub record Both (A : Type 0) : Type 0 where
  pub old : A
  pub new : A

-- Two steps; the second is taken only if the first gave a value.
abbrev pub both : {A : Type 0} → Step A → Step A → Step (Both A)
both one other = next one (λ a. next other (λ b. Gives (record { old = a; new = b })))

-- `HasBy P step o` is: if `step` gives a value, `P` holds of it and the outcome `o`; if it ends, so does the
-- command, before any input is read.
abbrev pub HasBy : {A : Type 0} → (A → Outcome → Type 0) → Step A → Outcome → Type 0
HasBy P Untold o = ⊥
HasBy P (Gives a) o = P a o
HasBy P (Ends status line) o = o ≡ ended status line 0

-- The outcome of a command whose step gives the text for standard output. It reads no input and leaves the shelf as
-- it is.
abbrev pub HasText : Option Held → Step (List ℕ) → Outcome → Type 0
HasText held Untold o = ⊥
HasText held (Gives text) o = o ≡ done text held 0
HasText held (Ends status line) o = o ≡ ended status line 0
