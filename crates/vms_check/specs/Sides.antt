-- What the comparison needs of one description at a version.
use Rattle.std.specs.Prelude.{◌≡◌, ℕ, suc, ◌+◌, Bool, true, false, ◌&&◌, if◌then◌else◌, List, [], ◌∷◌, ◌++◌, Option, Some, None, nat_le}
use Rattle.std.specs.Borrow.{Bor}
use Rattle.vms_spec.specs.declared.Part.{Part}
use Rattle.vms_desc.specs.declared.set.DescSet.{DescSet}
use Rattle.vms_spec.specs.Rules.{nodes}
use Rattle.vms_spec.specs.Sets.{Formula, AtLeast, Below, Cell, Not, And, Or, Field, Desc}
use Rattle.vms_parts.specs.Views.{formula}
use Rattle.vms_desc.specs.Described.{described}
use Rattle.vms_desc.specs.Parts.{HasPart, desc_at}
use Rattle.vms_check.specs.Reducing.{Reduced, Known, Open, reduced, presence}
use Rattle.vms_check.specs.Comparing.{Entry, entry_of, position_from, is_absent}
use Rattle.vms_check.specs.declared.reducing.Left.{Left}
use Rattle.vms_check.specs.declared.reducing.Left.TheVariants as left
use Rattle.vms_check.specs.declared.side.Side.{Side}

-- ---- tests

-- The reduced test that the code's value means.
abbrev pub as_reduced : ℕ → Left → Reduced
as_reduced v (left.Known b) = Known b
as_reduced v (left.Open t) = reduced v (formula t.now)

-- A reduced test isn't a truth value.
abbrev pub is_open : Reduced → Bool
is_open (Known b) = false
is_open (Open t) = true

-- The root of a test can't be folded.
abbrev pub is_whole : ℕ → Formula → Bool
is_whole v (AtLeast n) = false
is_whole v (Below n) = false
is_whole v (Cell whose field mask rel value) = true
is_whole v (Not t) = is_open (reduced v t)
is_whole v (And s t) = is_open (reduced v s) && is_open (reduced v t)
is_whole v (Or s t) = is_open (reduced v s) && is_open (reduced v t)

-- A test of a number.
abbrev pub is_atom : Formula → Bool
is_atom (Cell whose field mask rel value) = true
is_atom t = false

-- The root of the code's value can't be folded.
abbrev pub is_whole_left : ℕ → Left → Bool
is_whole_left v (left.Known b) = true
is_whole_left v (left.Open t) = is_whole v (formula t.now)

-- Neither test's root can be folded, each at the version of its side.
pub record AreWhole (s t : Side) (f g : Formula) : Type 0 where
  pub one : is_whole s.version f ≡ true
  pub other : is_whole t.version g ≡ true

-- The same for the code's values.
pub record AreWholeLeft (s t : Side) (f g : Left) : Type 0 where
  pub one : is_whole_left s.version f ≡ true
  pub other : is_whole_left t.version g ≡ true

-- Both tests are tests of numbers.
pub record AreAtoms (f g : Formula) : Type 0 where
  pub one : is_atom f ≡ true
  pub other : is_atom g ≡ true

-- The number of nodes of the code's value.
abbrev pub left_nodes : Left → ℕ
left_nodes (left.Known b) = 0
left_nodes (left.Open t) = nodes (formula t.now)

-- The reduced test of a field. A field without a test is present from `since` on.
abbrev pub field_reduced : ℕ → Option Formula → ℕ → Reduced
field_reduced v None since = Known (nat_le since v)
field_reduced v (Some t) since = reduced v t

-- ---- present fields

-- The present fields from field i on. Their first cells are left out, since no rule needs them.
abbrev pub fields_from : ℕ → ℕ → List Field → List Entry
fields_from v i [] = []
fields_from v i (f ∷ fs) = entry_of i 0 f (presence v f.test f.since) ++ fields_from v (suc i) fs

-- The number of present fields.
abbrev pub count_present : ℕ → List Field → ℕ
count_present v [] = 0
count_present v (f ∷ fs) = (if is_absent v f then 0 else 1) + count_present v fs

-- The position of field k among the present ones.
abbrev pub position_in : ℕ → List Field → ℕ → Option ℕ
position_in v fields k = position_from 0 (fields_from v 0 fields) k

-- ---- sides

-- The description of a side.
abbrev pub desc_on : Side → Desc
desc_on side = desc_at (described side.set.now) side.part

-- The side's set has its part.
abbrev pub IsSide : Side → Type 0
IsSide side = HasPart (described side.set.now) side.part

-- Each side's set has its part.
pub record AreSides (s t : Side) : Type 0 where
  pub old : IsSide s
  pub new : IsSide t

-- A part at the version that its own set writes.
abbrev pub own_side : Bor DescSet → Part → Side
own_side set part = record { set = set; part = part; version = (desc_at (described set.now) part).version }

-- The position of a field of a side.
abbrev pub position_on : Side → ℕ → Option ℕ
position_on side = position_in side.version (desc_on side).fields
