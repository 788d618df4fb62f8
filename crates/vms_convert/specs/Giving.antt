-- What the steps of a walk copy to the partners of the cells in the bytes.
use Rattle.std.specs.Prelude.{◌≡◌, ℕ, ◌<◌, List, length, get_or, slice_set, Option, Some, None, IfSome, ℤ, pos}
use Rattle.std.proofs.Common.{ap, ◌∙◌}
use Rattle.vms_kinds.specs.declared.Kind.{Kind}
use Rattle.vms_kinds.specs.declared.Kind.TheVariants.{U8}
use Rattle.vms_kinds.specs.Codes.{InRange}
use Rattle.vms_image.specs.Typed.{Typed}
use Rattle.vms_convert.specs.Changes.{Change, at_cell}

-- The numbers after `z` is copied to the partner, if there is one.
abbrev pub give_partner : ℤ → Option ℕ → List ℤ → List ℤ
give_partner z (Some k) now = slice_set now k z
give_partner z None now = now

-- The numbers after one step; `numbers` are those of the cells.
abbrev pub give_step : List (Option ℕ) → List ℤ → Change
give_step partners numbers = at_cell (λ cell most. give_partner (get_or numbers cell (pos 0)) (get_or partners cell None))

-- Each cell's partner is a cell of the target and of the kind of the cell's number.
pub record AreTargets (kinds : List Kind) (numbers : List ℤ) (partners : List (Option ℕ)) : Type 0 where
  pub long : length partners ≡ length numbers
  pub inside : (c k : ℕ) → get_or partners c None ≡ Some k → k < length kinds
  pub in_range : (c k : ℕ) → get_or partners c None ≡ Some k → InRange (get_or kinds k U8) (get_or numbers c (pos 0))

-- Numbers of the image may be copied to the target: each cell's partner is a cell of it, of the cell's kind.
pub record MayGive (image : Typed) (partners : List (Option ℕ)) (target : Typed) : Type 0 where
  pub targets : AreTargets target.kinds image.numbers partners
  pub kinds : length target.kinds ≡ length target.numbers

-- The number may be copied to the partner, if there is one.
pub record MayPut (image : Typed) (z : ℤ) (partner : Option ℕ) : Type 0 where
  pub inside : IfSome partner (λ k. k < length image.numbers)
  pub in_range : IfSome partner (λ k. InRange (get_or image.kinds k U8) z)

-- the same steps, where partners and numbers are the same
pub same_gifts : (p p' : List (Option ℕ)) (n n' : List ℤ) → p' ≡ p → n' ≡ n → give_step p' n' ≡ give_step p n
same_gifts p p' n n' e f = ap (λ (q : List (Option ℕ)). give_step q n') e ∙ ap (λ (m : List ℤ). give_step p m) f
