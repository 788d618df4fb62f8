-- The fields that a test may name in a description, and that their cells are there.
use Rattle.std.specs.Prelude.{◌≡◌, ℕ, ◌<◌, ◌≤◌, Bool, true, false, List, length, Option, Some, None, IfSome, IsNone, ℤ}
use Rattle.std.specs.List.{list_all}
use Rattle.vms_spec.specs.declared.Part.{Part}
use Rattle.vms_spec.specs.declared.Part.TheVariants as parts
use Rattle.vms_spec.specs.declared.TheConstants.{MOST_ITEMS}
use Rattle.vms_spec.specs.Sets.{Desc, Formula, Set}
use Rattle.vms_spec.specs.Rules.{names_well, nobody}
use Rattle.vms_spec.specs.Tests.{truth}
use Rattle.vms_parts.specs.Devices.{device_at}
use Rattle.vms_desc.specs.Numbers.{sizes_of, fields_in, number_of, number_of_parent, place_in}
use Rattle.vms_desc.specs.Parts.{is_number_in}
use Rattle.vms_desc.specs.Plain.{is_plain}
use Rattle.vms_desc.specs.Tables.{AreStarts}
use Rattle.vms_desc.specs.declared.eval.Scope.{Scope}

-- a test may name field k: it is a single number
abbrev pub may_ask : Scope → ℕ → Bool
may_ask s = is_number_in (fields_in s)

-- the same of the parent's fields, if there is a parent
abbrev pub may_ask_parent : Option Scope → ℕ → Bool
may_ask_parent None = nobody
may_ask_parent (Some s) = may_ask s

-- the first cell of each field is known, and the cells of the fields that may be named are among
-- the numbers
pub record IsInside (numbers : List ℤ) (s : Scope) : Type 0 where
  pub starts : length (fields_in s) < length s.starts.now
  pub cells : (k : ℕ) → may_ask s k ≡ true → place_in s.starts.now (fields_in s) s.base k < length numbers

-- the same of the parent, if there is one
abbrev pub IsInsideParent : List ℤ → Option Scope → Type 0
IsInsideParent numbers None = Unit {0}
IsInsideParent numbers (Some s) = IsInside numbers s

-- the scope of a description of a set, whose cells begin at a place
pub record IsScope (set : Set) (d : Desc) (base : ℕ) (s : Scope) : Type 0 where
  pub fields : fields_in s ≡ d.fields
  pub starts : AreStarts (sizes_of set) d.fields s.starts.now
  pub first : s.base ≡ base

-- the scope of the device that a test of a part may name: there is one exactly for a subsection
abbrev pub IsParent : Set → Part → Option Scope → Type 0
IsParent set (parts.Sub i j) None = ⊥
IsParent set (parts.Sub i j) (Some s) = IsScope set (device_at set i).desc 0 s
IsParent set part None = Unit {0}
IsParent set part (Some s) = ⊥

-- ---- what is evaluated

-- a test names only single numbers of a scope and of its parent's, whose cells are among a few
-- numbers
pub record CanHold (t : Formula) (s : Scope) (above : Option Scope) (numbers : List ℤ) : Type 0 where
  pub names : names_well (may_ask s) (may_ask_parent above) t ≡ true
  pub own : IsInside numbers s
  pub parent : IsInsideParent numbers above
  pub few : length numbers ≤ MOST_ITEMS

-- whether such a test holds at version v
abbrev pub truth_by : Formula → ℕ → Scope → Option Scope → List ℤ → Bool
truth_by t v s above numbers = truth t v (number_of numbers s) (number_of_parent numbers above)

-- what is known of such a test if only the version or one number is looked at: whether it holds, or
-- that it is another test
pub record IsPlainTruth (t : Formula) (v : ℕ) (s : Scope) (above : Option Scope) (numbers : List ℤ) (result : Option Bool) : Type 0 where
  pub some : IfSome result (λ held. held ≡ truth_by t v s above numbers)
  pub none : IsNone result → is_plain t ≡ false

-- the tests name only single numbers of a scope, whose cells are among a few numbers
pub record CanHoldAll (ts : List Formula) (s : Scope) (numbers : List ℤ) : Type 0 where
  pub names : list_all (names_well (may_ask s) nobody) ts ≡ true
  pub own : IsInside numbers s
  pub few : length numbers ≤ MOST_ITEMS

-- field k of a scope is a single number, whose cell is among a few numbers
pub record HasNumber (s : Scope) (k : ℕ) (numbers : List ℤ) : Type 0 where
  pub asked : may_ask s k ≡ true
  pub inside : IsInside numbers s
  pub few : length numbers ≤ MOST_ITEMS

-- the same of the parent's
pub record HasParentNumber (above : Option Scope) (k : ℕ) (numbers : List ℤ) : Type 0 where
  pub asked : may_ask_parent above k ≡ true
  pub inside : IsInsideParent numbers above
  pub few : length numbers ≤ MOST_ITEMS
