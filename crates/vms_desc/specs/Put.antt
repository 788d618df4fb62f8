-- Forms of cells that are appended, as their kinds and their defaults.
use Rattle.std.specs.Prelude.{◌≡◌, ℕ, ◌<◌, ◌≤◌, List, ◌++◌, length, map}
use Rattle.vms_parts.specs.declared.types.CellForm.{CellForm}
use Rattle.vms_desc.specs.declared.forms.Forms.{Forms}

-- the kinds and the defaults are those of these cells
pub record AreForms (forms : Forms) (cells : List CellForm) : Type 0 where
  pub kinds : forms.kinds.items ≡ map (λ form. form.kind) cells
  pub defaults : forms.defaults.items ≡ map (λ form. form.default) cells

-- the kinds and defaults of these cells are appended
pub record Puts (old new : Forms) (cells : List CellForm) : Type 0 where
  pub kinds : new.kinds.items ≡ old.kinds.items ++ map (λ form. form.kind) cells
  pub defaults : new.defaults.items ≡ old.defaults.items ++ map (λ form. form.default) cells

-- the part of a list from `start` on can be there `count` times
pub record CanRepeat {X : Type 0} (start count : ℕ) (items : List X) : Type 0 where
  pub within : start ≤ length items
  pub some : 0 < count
