-- What is judged of sections and subsections.
use Rattle.std.specs.Prelude.{◌≡◌, ℕ, Bool, true, false, not, ◌&&◌, if◌then◌else◌, List, ◌++◌, get_or, drop, Option, Some, None, ℤ, ◌<◌, length}
use Rattle.std.specs.List.{list_all}
use Rattle.std.proofs.Common.{ap, ◌∙◌}
use Rattle.std.proofs.lemmas.List.Folds.{list_all-append}
use Rattle.vms_spec.specs.declared.Part.TheVariants as parts
use Rattle.vms_spec.specs.declared.ValuesReason.{ValuesReason}
use Rattle.vms_spec.specs.declared.ValuesReason.TheVariants as reasons
use Rattle.vms_spec.specs.Sets.{Set}
use Rattle.vms_spec.specs.Layout.{desc_cells, struct_cells}
use Rattle.vms_spec.specs.Images.{Image}
use Rattle.vms_spec.specs.ValuesReading.{BadLine, ReadDevice, sub_fails, is_said_well, are_defaults}
use Rattle.vms_desc.specs.Asks.{first_cell}
use Rattle.vms_desc.specs.Described.{device_at, described}
use Rattle.vms_desc.specs.Parts.{sub_at}
use Rattle.vms_walk.specs.declared.step.WalkStep.{WalkStep}
use Rattle.vms_walk.specs.declared.step.WalkStep.TheVariants.{Rule}
use Rattle.vms_values.specs.declared.judge.BadLine.{BadLine as Found}
use Rattle.vms_spec.specs.Readiness.{rules_are_true}
use Rattle.vms_spec.specs.ValuesReading as reading
use Rattle.vms_desc.specs.declared.set.DescSet.{DescSet}
use Rattle.vms_image.specs.Typed.{IsOfDevice, Typed, state_of}
use Rattle.vms_walk.specs.Steps.{HasSpot, spot_slots}
use Rattle.vms_walk.specs.declared.fields.PartAt.{PartAt}

-- A bad line as the definitions have it.
abbrev pub bad_of : Option Found → Option BadLine
bad_of None = None
bad_of (Some b) = Some (record { line = b.line; reason = b.reason })

-- What was read of a device.
abbrev pub read_of : Image → ℕ → List ℕ → ReadDevice
read_of image line sub_lines = record { image = image; line = line; sub_lines = sub_lines }

-- Why subsection j of device i is refused, if it is.
abbrev pub sub_judged : Set → ℕ → ℕ → Image → Option ValuesReason
sub_judged set i j image =
    let d = device_at set i in
    let s = sub_at d j in
    let at = first_cell set (parts.Sub i j) in
    let came = get_or image.came j None in
    if sub_fails set s came image.numbers at then Some reasons.Invalid
    else if not (is_said_well set d image j s came at) then Some reasons.Needed
    else None

-- Whether the cells of subsection j of device i are at their defaults.
abbrev pub sub_defaults : Set → ℕ → ℕ → List ℤ → Bool
sub_defaults set i j numbers =
    let s = sub_at (device_at set i) j in
    are_defaults (desc_cells (struct_cells set) s.desc) (drop (first_cell set (parts.Sub i j)) numbers)

-- ---- steps

-- Whether a step is no validation that fails.
abbrev pub step_holds : WalkStep → Bool
step_holds (Rule holds) = holds
step_holds step = true

-- Whether the validations among the steps hold.
abbrev pub steps_hold : List WalkStep → Bool
steps_hold xs = list_all step_holds xs

-- If they hold among the first steps, the later ones decide.
pub hold_then : (xs ys : List WalkStep) (b : Bool) → steps_hold xs ≡ true → steps_hold ys ≡ b → steps_hold (xs ++ ys) ≡ b
hold_then xs ys b e f = list_all-append step_holds xs ys ∙ ap (λ (c : Bool). c && steps_hold ys) e ∙ f

pub fail_before : (xs ys : List WalkStep) → steps_hold xs ≡ false → steps_hold (xs ++ ys) ≡ false
fail_before xs ys e = list_all-append step_holds xs ys ∙ ap (λ (c : Bool). c && steps_hold ys) e

module _ (set : DescSet) where
  -- The part's cells are among the image's.
  abbrev pub HasRules : PartAt → Typed → Type 0
  HasRules at image = HasSpot (described set) at image.numbers

  -- Whether the validations of a part hold.
  abbrev pub hold_rules : PartAt → Typed → Bool
  hold_rules at image = rules_are_true (spot_slots (described set) at image.numbers)

  -- The image is one of device i, which has subsection j.
  pub record HasSub (i j : ℕ) (image : Typed) : Type 0 where
    pub device : IsOfDevice (described set) i (state_of image)
    pub is_sub : j < length (device_at (described set) i).subs

  -- Whether all cells of subsection j are at their defaults.
  abbrev pub has_defaults : ℕ → ℕ → Typed → Bool
  has_defaults i j image = sub_defaults (described set) i j image.numbers

  -- Whether the validations of subsection j hold, if it came.
  abbrev pub holds_sub : ℕ → ℕ → Typed → Option ℕ → Bool
  holds_sub i j image came =
      not (sub_fails (described set) (sub_at (device_at (described set) i) j) came image.numbers (first_cell (described set) (parts.Sub i j)))

  -- Why subsection j is refused, if it is.
  abbrev pub judge_sub : ℕ → ℕ → Typed → Option ValuesReason
  judge_sub i j image = sub_judged (described set) i j (state_of image)

  -- The image is one of device i, and there is a line number for each subsection.
  pub record HasLines (i : ℕ) (image : Typed) (sub_lines : List ℕ) : Type 0 where
    pub device : IsOfDevice (described set) i (state_of image)
    pub lines : length sub_lines ≡ length (device_at (described set) i).subs

  -- The first bad line of device i, if there is one.
  abbrev pub judge_device : ℕ → Typed → ℕ → List ℕ → Option BadLine
  judge_device i image line sub_lines =
      reading.judge_device (described set) (device_at (described set) i) (read_of (state_of image) line sub_lines)
