-- What the comparison needs of a description on each side, where the fields of both are paired.
use Rattle.std.specs.Prelude.{◌≡◌, ℕ, ◌+◌, ◌<◌, ◌≤◌, Bool, true, false, List, [], ◌∷◌, length, get_or, drop, Option, Some, None}
use Rattle.vms_spec.specs.Layout.{no_field, struct_cells}
use Rattle.vms_spec.specs.Sets.{Formula, Set}
use Rattle.vms_spec.specs.Lists.{or_else}
use Rattle.vms_spec.specs.WellFormed.{in_field}
use Rattle.vms_parts.specs.Views.{field_of}
use Rattle.vms_desc.specs.Described.{described}
use Rattle.vms_desc.specs.declared.set.DescSet.{DescSet}
use Rattle.vms_check.specs.Reducing.{Reduced, Known, Open, reduced}
use Rattle.vms_check.specs.Comparing.{Entry, Comparer, comparers, compare_desc, compare_fields, compare_validations, failing_pair, is_absent, is_kept, pair_rules, pair_structs, same_reduced, uncovered_rules, no_comparer}
use Rattle.vms_check.specs.Sides.{field_reduced, fields_from, desc_on, position_on}
use Rattle.vms_check.specs.declared.mismatch.Mismatch.{Mismatch}
use Rattle.vms_check.specs.declared.present.Present.{Present}
use Rattle.vms_check.specs.declared.side.Side.{Side}

-- ---- one present field

-- The rest of a test, if there is one.
abbrev pub tree_of : Reduced → Option Formula
tree_of (Known b) = None
tree_of (Open t) = Some t

-- The entry of a present field.
abbrev pub entry : ℕ → Present → Entry
entry v p = record {
  index = p.number;
  place = 0;
  field = field_of p.field.now;
  rest = tree_of (field_reduced v (field_of p.field.now).test p.field.now.since);
}

-- It is a field of the side, and is present.
pub record IsOn (side : Side) (p : Present) : Type 0 where
  pub inside : p.number < length (desc_on side).fields
  pub is : field_of p.field.now ≡ get_or (desc_on side).fields p.number no_field
  pub there : is_absent side.version (field_of p.field.now) ≡ false

-- Both are present fields, each of its side.
pub record AreOn (s t : Side) (p q : Present) : Type 0 where
  pub one : IsOn s p
  pub other : IsOn t q

-- It is the first from field i on.
pub record IsFirst (side : Side) (i : ℕ) (p : Present) : Type 0 where
  pub on : IsOn side p
  pub later : i ≤ p.number
  pub entries : fields_from side.version i (drop i (desc_on side).fields) ≡ entry side.version p ∷ fields_from side.version (p.number + 1) (drop (p.number + 1) (desc_on side).fields)

-- It is the first from field i on, or there is none.
abbrev pub IsNext : Side → ℕ → Option Present → Type 0
IsNext side i None = fields_from side.version i (drop i (desc_on side).fields) ≡ []
IsNext side i (Some p) = IsFirst side i p

-- ---- rules

-- The first of numbered rules that fails.
abbrev pub failing_number : List (ℕ × Bool) → Option ℕ
failing_number [] = None
failing_number ((rule, true) ∷ rules) = failing_number rules
failing_number ((rule, false) ∷ rules) = Some rule

-- The comparers of the structures of two sets.
abbrev pub table : Set → Set → List Comparer
table old new = comparers (struct_cells old) (struct_cells new) old.structs new.structs (length new.structs)

module _ (s t : Side) where
  -- The comparers of the structures of both sides.
  abbrev pub table_on : List Comparer
  table_on = table (described s.set.now) (described t.set.now)

  -- The rules for two fields of the same position.
  abbrev pub rules_on : Present → Present → List (ℕ × Bool)
  rules_on p q = pair_rules table_on (desc_on s) (desc_on t) s.version t.version s.part t.part (position_on s) (position_on t) (entry s.version p) (entry t.version q)

  -- Rules 7 to 12 for two fields of the same position.
  abbrev pub uncovered_on : Present → Present → List (ℕ × Bool)
  uncovered_on p q = uncovered_rules table_on (desc_on s) (desc_on t) s.version t.version s.part t.part (position_on s) (position_on t) (entry s.version p) (entry t.version q)

  -- The first mismatch of two fields' structures.
  abbrev pub structs_on : Present → Present → Option Mismatch
  structs_on p q = pair_structs table_on (desc_on s) (desc_on t) s.version t.version s.part t.part (position_on s) (position_on t) p.field.now.item q.field.now.item

  -- The first mismatch of present fields.
  abbrev pub fields_on : List Entry → List Entry → Option Mismatch
  fields_on es fs = compare_fields table_on (desc_on s) (desc_on t) s.version t.version s.part t.part (position_on s) (position_on t) es fs

  -- All present fields of both sides.
  abbrev pub all_fields_on : Option Mismatch
  all_fields_on = fields_on (fields_from s.version 0 (desc_on s).fields) (fields_from t.version 0 (desc_on t).fields)

  -- Two fields of the same position, and their structures.
  abbrev pub pair_mismatch : Present → Present → Option Mismatch
  pair_mismatch p q = or_else (failing_pair (rules_on p q) (in_field s.part p.number) (in_field t.part q.number)) (structs_on p q)

  -- A validation of the older set has become this.
  abbrev pub is_left : Reduced → Formula → Bool
  is_left r u = same_reduced (position_on s) (position_on t) (reduced s.version u) r

  -- A validation of the newer set is always true, or an old one.
  abbrev pub is_kept_test : Formula → Bool
  is_kept_test u = is_kept table_on (desc_on s) (desc_on t) s.version t.version s.part t.part (position_on s) (position_on t) (reduced t.version u)

  -- Rule 15 for the validations.
  abbrev pub validations_on : Option Mismatch
  validations_on = compare_validations table_on (desc_on s) (desc_on t) s.version t.version s.part t.part (position_on s) (position_on t)

  -- The first mismatch of two descriptions.
  abbrev pub desc_mismatch : Option Mismatch
  desc_mismatch =
      compare_desc table_on (struct_cells (described s.set.now)) (struct_cells (described t.set.now)) (desc_on s) (desc_on t) s.version t.version s.part t.part

-- Structure i is one of the older set, and structure j of the newer.
pub record HaveStructs (s t : DescSet) (i j : ℕ) : Type 0 where
  pub old : i < length (described s).structs
  pub new : j < length (described t).structs

-- The first mismatch of structure i of the older set and structure j of the newer.
abbrev pub struct_mismatch : Set → Set → ℕ → ℕ → Option Mismatch
struct_mismatch old new i j = get_or (table old new) j no_comparer i
