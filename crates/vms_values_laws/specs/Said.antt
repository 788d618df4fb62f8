-- What lines of numbers say, one after the other, and which elements a state has after them.
use Rattle.std.specs.Prelude.{◌≡◌, ℕ, ◌<◌, ◌≤◌, List, [], ◌∷◌, ◌++◌, get_or, slice_set, ℤ, pos, codes}
use Rattle.std.specs.Fmt.{signed_decimal}
use Rattle.std.specs.List.{AllByRecursion}
use Rattle.vms_elements.specs.Elements.{Element}

-- The number of a line, and its element.
pub record Said : Type 0 where
  pub element : Element
  pub number : ℤ

-- The line.
abbrev pub said_line : Said → List ℕ
said_line s = s.element.name ++ (codes " = " ++ signed_decimal s.number)

-- The numbers of a state are those that were said.
abbrev pub Agrees : List Said → List ℤ → Type 0
Agrees said numbers = AllByRecursion (λ s. get_or numbers s.element.cell (pos 0) ≡ s.number) said

-- As long as a state agrees with what was said, the elements begin with the elements of that and one more. If
-- it agrees with all, `left` is left of them.
abbrev pub Meets : List Said → List Element → List ℤ → List Element → Type 0
Meets [] left numbers elements = elements ≡ left
Meets (s ∷ said) left numbers [] = ⊥
Meets (s ∷ said) left numbers (x ∷ elements) =
    (x ≡ s.element) × (get_or numbers s.element.cell (pos 0) ≡ s.number → Meets said left numbers elements)

-- All that was said is of cells below this one.
abbrev pub AreBelow : ℕ → List Said → Type 0
AreBelow cell = AllByRecursion (λ s. s.element.cell < cell)

-- All that was said is of cells from this one on.
abbrev pub AreFrom : ℕ → List Said → Type 0
AreFrom cell = AllByRecursion (λ s. cell ≤ s.element.cell)

-- The numbers of a state after what was said.
abbrev pub put_all : List ℤ → List Said → List ℤ
put_all numbers [] = numbers
put_all numbers (s ∷ said) = put_all (slice_set numbers s.element.cell s.number) said
