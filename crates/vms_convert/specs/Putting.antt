-- What the steps of a walk put into a state: each cell takes its partner's number.
use Rattle.std.specs.Prelude.{◌≡◌, ℕ, ◌<◌, if◌then◌else◌, List, length, get_or, slice_set, Option, Some, None, IfSome, ℤ, pos}
use Rattle.vms_kinds.specs.declared.Kind.{Kind}
use Rattle.vms_kinds.specs.declared.Kind.TheVariants.{U8}
use Rattle.vms_kinds.specs.Codes.{InRange}
use Rattle.vms_spec.specs.Numbers.{exceeds}
use Rattle.vms_image.specs.Typed.{Typed}
use Rattle.vms_walk.specs.Steps.{capacities_of}
use Rattle.vms_convert.specs.Changes.{Change, at_cell}

-- The numbers after one cell took its partner's number. A number above the cell's capacity isn't taken.
abbrev pub put_partner : List ℤ → ℕ → Option ℕ → Option ℕ → List ℤ → List ℤ
put_partner source cell most (Some k) now =
    let z = get_or source k (pos 0) in if exceeds (capacities_of most) z then now else slice_set now cell z
put_partner source cell most None now = now

-- The numbers after one step.
abbrev pub put_step : List (Option ℕ) → List ℤ → Change
put_step partners source = at_cell (λ cell most. put_partner source cell most (get_or partners cell None))

-- Each cell's partner is a cell of the source and of the cell's kind.
pub record AreSources (kinds : List Kind) (source : List ℤ) (partners : List (Option ℕ)) : Type 0 where
  pub long : length partners ≡ length kinds
  pub inside : (c k : ℕ) → get_or partners c None ≡ Some k → k < length source
  pub in_range : (c k : ℕ) → get_or partners c None ≡ Some k → InRange (get_or kinds c U8) (get_or source k (pos 0))

-- Cells of the image may take their partners' numbers.
pub record MayTake (image source : Typed) (partners : List (Option ℕ)) : Type 0 where
  pub sources : AreSources image.kinds source.numbers partners
  pub kinds : length image.kinds ≡ length image.numbers

-- The image has the cell, and its partner, if it has one, is a cell of the source whose number is of the cell's kind.
pub record MayTakeAt (image source : Typed) (c : ℕ) (partner : Option ℕ) : Type 0 where
  pub cell : c < length image.numbers
  pub inside : IfSome partner (λ k. k < length source.numbers)
  pub in_range : IfSome partner (λ k. InRange (get_or image.kinds c U8) (get_or source.numbers k (pos 0)))
