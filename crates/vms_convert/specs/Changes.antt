-- Steps that change numbers of an image and leave everything else unchanged.
use Rattle.std.proofs.Common.{◌≡◌, ℕ, List, Option, [], ◌∷◌, ◌++◌, ℤ, refl, sym, ap, ◌∙◌}
use Rattle.vms_image.specs.Typed.{Typed}
use Rattle.vms_walk.specs.declared.step.WalkStep.{WalkStep}
use Rattle.vms_walk.specs.declared.step.WalkStep.TheVariants.{Number}

-- What one step makes of the numbers.
abbrev pub Change : Type 0
Change = WalkStep → List ℤ → List ℤ

-- What a step makes of the numbers if it is at a cell: `f` of the cell and of the most that its number counts. Other steps change
-- nothing.
abbrev pub at_cell : (ℕ → Option ℕ → List ℤ → List ℤ) → Change
at_cell f (Number cell kind most) now = f cell most now
at_cell f step now = now

-- What a list of steps makes of the numbers.
abbrev pub changed : Change → List WalkStep → List ℤ → List ℤ
changed change [] now = now
changed change (x ∷ xs) now = changed change xs (change x now)

-- The image differs only in its numbers, which the steps have changed.
abbrev pub Changes : Change → List WalkStep → Typed → Typed → Type 0
Changes change xs before after = after ≡ record before { numbers = changed change xs before.numbers }

pub changed_append : (change : Change) (xs ys : List WalkStep) (now : List ℤ) → changed change (xs ++ ys) now ≡ changed change ys (changed change xs now)
changed_append change [] ys now = refl
changed_append change (x ∷ xs) ys now = changed_append change xs ys (change x now)

pub changes_more : (f g : Change) (xs ys : List WalkStep) (a b c : Typed) → g ≡ f → Changes f xs a b → Changes g ys b c → Changes f (xs ++ ys) a c
changes_more f g xs ys a b c e h k =
    k ∙ ap (λ (q : Change). record b { numbers = changed q ys b.numbers }) e ∙ ap (λ (x : Typed). record x { numbers = changed f ys x.numbers }) h
    ∙ ap (λ (l : List ℤ). record a { numbers = l }) (sym (changed_append f xs ys a.numbers))
