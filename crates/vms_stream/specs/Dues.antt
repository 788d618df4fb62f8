-- Which units may come next, and whether the validations of what has ended hold (docs/format.md, "Units,
-- offsets and refusals").
use Rattle.std.specs.Prelude.{◌≡◌, ℕ, zero, ◌<◌, ◌≤◌, Bool, true, false, not, ◌&&◌, ◌||◌, ◌==◌, List, [], ◌∷◌, length, get_or, drop, Option, Some, None, ℤ}
use Rattle.vms_kinds.specs.declared.Kind.{Kind}
use Rattle.vms_kinds.specs.Codes.{InRange}
use Rattle.vms_spec.specs.declared.TheConstants.{LONGEST_NAME}
use Rattle.vms_spec.specs.Sets.{Set}
use Rattle.vms_spec.specs.Layout.{Slot, Number as NumberSlot, Constant as ConstantSlot, Filler as FillerSlot, Rule as RuleSlot}
use Rattle.vms_spec.specs.Streams.{longest_text}
pub use Rattle.vms_spec.specs.Lookup.{raw}
use Rattle.vms_spec.specs.Units.{Piece, spell, Magic, Version, Configuration, Long, Head, Number, Constant, Filler, SubHead, Foot, End, Description, Start, Mark}
use Rattle.vms_stream.specs.SoFar.{Tail, Unknown, Footed, Bare, tail, passed}
use Rattle.vms_spec.specs.SoFar.{opened, slots}

-- `rules_hold slots` is whether all validations before the next unit in `slots` hold.
abbrev pub rules_hold : List Slot → Bool
rules_hold (RuleSlot b ∷ slots) = b && rules_hold slots
rules_hold (FillerSlot zero ∷ slots) = rules_hold slots
rules_hold _ = true

-- What is due after some units:
--
-- - `AMagic`: the magic.
-- - `AVersion`: the stream's version.
-- - `Between first after`: a unit between sections; `first` directly after the stream head, `after` directly
--   after a configuration.
-- - `Field k slot`: a unit for `slot` of device k.
-- - `AfterFields k tail`: what may follow the fields of device k or of one of its subsections.
-- - `AfterEnd`: what may follow the end mark.
-- - `Nothing`: no unit.
pub data Due : Type 0 where
  AMagic : Due
  AVersion : Due
  Between : Bool → Bool → Due
  Field : ℕ → Slot → Due
  AfterFields : ℕ → Tail → Due
  AfterEnd : Due
  Nothing : Due

-- `due_field tail open slots` is what is due for the first slot that is a unit. If there is none, the fields
-- have ended.
abbrev pub due_field : Tail → Option ℕ → List Slot → Due
due_field tail None slots = Nothing
due_field tail (Some k) [] = AfterFields k tail
due_field tail (Some k) (RuleSlot b ∷ slots) = due_field tail (Some k) slots
due_field tail (Some k) (FillerSlot zero ∷ slots) = due_field tail (Some k) slots
due_field tail (Some k) (slot ∷ slots) = Field k slot

module _ (set : Set) where
  -- `due set u` is what is due after the units `u`. The latest unit is first in the list.
  abbrev pub due : List Piece → Due
  due [] = AMagic
  due (Magic bytes ∷ u) = AVersion
  due (Version v ∷ u) = Between true false
  due (Configuration name ∷ u) = Between false true
  due (Foot id ∷ u) = Between false false
  due (End ∷ u) = AfterEnd
  due u = due_field (tail set u) (opened set u) (drop (passed set u) (slots set u))

  -- `holds set u` is whether the validations hold of each description whose fields end with `u`.
  abbrev pub holds : List Piece → Bool
  holds u = rules_hold (drop (passed set u) (slots set u))

-- `fits_four n`: `n` fits the four bytes of a be32.
abbrev pub fits_four : ℕ → Type 0
fits_four n = n < 4294967296

-- `is_start first b` is whether mark `b` is the end mark or begins a longer unit; `first` is as in `Between`.
abbrev pub is_start : Bool → ℕ → Bool
is_start first b = b == 0x00 || b == 0x01 || b == 0x04 || (b == 0x07 && first)

-- `is_foot tail b` is whether byte `b` after the fields belongs to a footer unit (docs/format.md, "A stream
-- without footers").
abbrev pub is_foot : Tail → ℕ → Bool
is_foot Unknown b = b == 0x7e
is_foot Footed b = not (b == 0x05)
is_foot Bare b = false

-- `is_next tail b` is whether byte `b` after the fields begins a unit between sections.
abbrev pub is_next : Tail → ℕ → Bool
is_next tail b = not (b == 0x05 || is_foot tail b)

-- `begins_next tail rest` is whether `rest`, after the fields, begins with a unit between sections.
abbrev pub begins_next : Tail → List ℕ → Bool
begins_next tail [] = false
begins_next tail (b ∷ rest) = is_next tail b

-- The first byte of the unit `x`.
abbrev pub first_byte : Piece → ℕ
first_byte x = get_or (spell x) 0 0

-- `May d x`: the unit `x` may come if `d` is due. There is a line for each kind of unit.
pub data May : Due → Piece → Type 0 where
  AtMagic : (bytes : List ℕ) → length bytes ≡ 4 → May AMagic (Magic bytes)
  AtVersion : (v : ℕ) → fits_four v → May AVersion (Version v)
  AtConfiguration : (after : Bool) (name : List ℕ) → length name ≤ LONGEST_NAME → May (Between true after) (Configuration name)
  AtLongName : (after : Bool) (n : ℕ) → LONGEST_NAME < n → fits_four n → May (Between true after) (Long 0x07 n)
  AtStart : (first after : Bool) (id : ℕ) (name : List ℕ) → fits_four id → May (Between first after) (Start id name)
  AtHead : (first after : Bool) (id : ℕ) (name : List ℕ) (instance v : ℕ) → fits_four id → fits_four instance → fits_four v → May (Between first after) (Head id name instance v)
  AtEnd : (first after : Bool) → May (Between first after) End
  AtMark : (first after : Bool) (b : ℕ) → is_start first b ≡ false → May (Between first after) (Mark b)
  AtNumber : (k c : ℕ) (kind : Kind) (capacities : List ℕ) (z : ℤ) → InRange (raw kind) z → May (Field k (NumberSlot c kind capacities)) (Number c kind z)
  AtConstant : (k : ℕ) (kind : Kind) (z y : ℤ) → InRange (raw kind) y → May (Field k (ConstantSlot kind z)) (Constant kind y)
  AtFiller : (k n : ℕ) (bytes : List ℕ) → length bytes ≡ n → May (Field k (FillerSlot n)) (Filler bytes)
  AtSubHead : (k : ℕ) (tail : Tail) (name : List ℕ) (v : ℕ) → fits_four v → May (AfterFields k tail) (SubHead name v)
  AtFoot : (k : ℕ) (tail : Tail) (id : ℕ) → is_foot tail 0x7e ≡ true → fits_four id → May (AfterFields k tail) (Foot id)
  AtOther : (k : ℕ) (tail : Tail) (b : ℕ) → is_foot tail b ≡ true → (b == 0x7e) ≡ false → May (AfterFields k tail) (Mark b)
  AtNext : (k : ℕ) (tail : Tail) (x : Piece) → is_next tail (first_byte x) ≡ true → May (Between false false) x → May (AfterFields k tail) x
  AtDescription : (text : List ℕ) → length text ≤ longest_text → May AfterEnd (Description text)
  AtLongText : (n : ℕ) → longest_text < n → fits_four n → May AfterEnd (Long 0x06 n)
  AtTrailing : (b : ℕ) → (b == 0x06) ≡ false → May AfterEnd (Mark b)
