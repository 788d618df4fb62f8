-- Lines that were taken, one after the other, and what a state has in their places.
use Rattle.std.specs.Prelude.{◌≡◌, ℕ, ◌+◌, List, [], ◌∷◌, ◌++◌, length, map, Option, Some, None}
use Rattle.std.specs.List.{AllByRecursion}
use Rattle.vms_spec.specs.declared.ValuesReason.{ValuesReason}
use Rattle.vms_spec.specs.Sets.{Sub, Device}
use Rattle.vms_elements.specs.Elements.{Element}
use Rattle.vms_elements.specs.Lines.{text_of}
use Rattle.vms_elements.specs.Entries.{Entry, OfMachine, OfSection, OfSub, OfNumber, entry_line, wanted_reason}
use Rattle.vms_spec.specs.Images.{Image}

-- What an entry requires of its line, whatever its state says.
pub data Demand : Type 0 where
  ForMachine : List ℕ → Demand
  ForSection : Device → Demand
  ForSub : Sub → Demand
  ForNumber : Element → Demand

-- What this entry requires.
abbrev pub demand_of : Entry → Demand
demand_of (OfMachine name) = ForMachine name
demand_of (OfSection d image) = ForSection d
demand_of (OfSub d image j s at came) = ForSub s
demand_of (OfNumber x numbers) = ForNumber x

-- An image with nothing in it.
abbrev pub no_image : Image
no_image = record { version = 0; came = []; numbers = [] }

-- A device with nothing but the description.
abbrev pub no_device : Sub → Device
no_device s = record { desc = s.desc; instance = 0; subs = [] }

-- An entry that requires this.
abbrev pub entry_for : Demand → Entry
entry_for (ForMachine name) = OfMachine name
entry_for (ForSection d) = OfSection d no_image
entry_for (ForSub s) = OfSub (no_device s) no_image 0 s 0 None
entry_for (ForNumber x) = OfNumber x []

-- Why the first line of a text isn't as required, if it isn't.
abbrev pub reason_for : Demand → Option (List ℕ × List ℕ) → Option ValuesReason
reason_for demand line = wanted_reason (entry_for demand) line

-- A line that was taken, and what was required there.
pub record Taken : Type 0 where
  pub demand : Demand
  pub line : List ℕ

-- The lines that were taken.
abbrev pub lines_of : List Taken → List (List ℕ)
lines_of taken = map (λ t. t.line) taken

-- Each line that was taken is as required.
abbrev pub AreFineTaken : List Taken → Type 0
AreFineTaken = AllByRecursion (λ t. reason_for t.demand (Some (t.line, [])) ≡ None)

-- As long as entries have the lines that were taken, they require the same as was required there, and one
-- more does. If they have all of them, `rest` holds of the others.
abbrev pub Follows : List Taken → (List Entry → Type 0) → List Entry → Type 0
Follows [] rest es = rest es
Follows (t ∷ taken) rest [] = ⊥
Follows (t ∷ taken) rest (e ∷ es) = (demand_of e ≡ t.demand) × (entry_line e ≡ t.line → Follows taken rest es)

-- Entries have the lines that were taken, and `rest` holds of the others.
abbrev pub Along : List Taken → (List Entry → Type 0) → List Entry → Type 0
Along [] rest es = rest es
Along (t ∷ taken) rest [] = ⊥
Along (t ∷ taken) rest (e ∷ es) = (entry_line e ≡ t.line) × Along taken rest es

-- The first of the entries requires this.
pub record Begins (demand : Demand) (es : List Entry) : Type 0 where
  pub first : Entry
  pub others : List Entry
  pub is : es ≡ first ∷ others
  pub demands : demand_of first ≡ demand

-- A reading went from a line and its text on to a later one.
pub record Moved (line : ℕ) (text : List ℕ) (taken : List Taken) (line' : ℕ) (text' : List ℕ) : Type 0 where
  pub further : line' ≡ line + length taken
  pub texts : text ≡ text_of (lines_of taken) ++ text'
  pub fine : AreFineTaken taken
