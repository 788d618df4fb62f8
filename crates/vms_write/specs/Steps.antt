-- Steps that are fine: what readiness checks of them, one after the other.
use Rattle.std.specs.Prelude.{◌≡◌, ℕ, ◌+◌, ◌-◌, Bool, true, false, ◌&&◌, List, [], ◌∷◌, ◌++◌, get_or, Option, ℤ, pos}
use Rattle.std.proofs.Common.{refl, sym, ap, ◌∙◌}
use Rattle.std.proofs.Math.Bool.{and_assoc}
use Rattle.vms_kinds.specs.declared.Kind.{Kind}
use Rattle.vms_spec.specs.Rules.{in_range}
use Rattle.vms_parts.specs.declared.types.CellForm.{CellForm}
use Rattle.vms_walk.specs.declared.step.WalkStep.{WalkStep}
use Rattle.vms_walk.specs.declared.step.WalkStep.TheVariants.{Number, Rule}
use Rattle.vms_write.specs.Fine.{is_within, settle}

-- Whether a number is in its kind's range and at most `most`.
abbrev pub is_number_fine : Kind → Option ℕ → ℤ → Bool
is_number_fine kind most z = in_range kind z && is_within most z

-- Whether a step is fine, if the cells from `at` on haven't been judged yet. Those before a number are at
-- their defaults, the number is fine, and a rule holds.
abbrev pub is_step_fine : List CellForm → List ℤ → ℕ → WalkStep → Bool
is_step_fine forms numbers at (Number cell kind most) = is_number_fine kind most (get_or numbers cell (pos 0)) && settle [] forms numbers at (cell - at)
is_step_fine forms numbers at (Rule holds) = holds
is_step_fine forms numbers at step = true

-- The first cell that hasn't been judged after a step.
abbrev pub after : ℕ → WalkStep → ℕ
after at (Number cell kind most) = cell + 1
after at step = at

-- The same after steps.
abbrev pub behind : ℕ → List WalkStep → ℕ
behind at [] = at
behind at (x ∷ xs) = behind (after at x) xs

-- Whether all steps are fine.
abbrev pub are_steps_fine : List CellForm → List ℤ → ℕ → List WalkStep → Bool
are_steps_fine forms numbers at [] = true
are_steps_fine forms numbers at (x ∷ xs) = is_step_fine forms numbers at x && are_steps_fine forms numbers (after at x) xs

-- ---- laws

behind_append : (at : ℕ) (xs ys : List WalkStep) → behind at (xs ++ ys) ≡ behind (behind at xs) ys
behind_append at [] ys = refl
behind_append at (x ∷ xs) ys = behind_append (after at x) xs ys

-- The first cell that hasn't been judged after steps and further ones.
pub behind_then : (at next last : ℕ) (xs ys : List WalkStep) → next ≡ behind at xs → last ≡ behind next ys → last ≡ behind at (xs ++ ys)
behind_then at next last xs ys here e = e ∙ ap (λ (k : ℕ). behind k ys) here ∙ sym (behind_append at xs ys)

fine_append : (f : List CellForm) (n : List ℤ) (at : ℕ) (xs ys : List WalkStep) → are_steps_fine f n at (xs ++ ys) ≡ (are_steps_fine f n at xs && are_steps_fine f n (behind at xs) ys)
fine_append f n at [] ys = refl
fine_append f n at (x ∷ xs) ys =
    let next = after at x in
    ap (λ (b : Bool). is_step_fine f n at x && b) (fine_append f n next xs ys) ∙ sym (and_assoc (is_step_fine f n at x) (are_steps_fine f n next xs) (are_steps_fine f n (behind next xs) ys))

-- What is fine up to a cell, and from there on.
pub fine_then : (f g : List CellForm) (n m : List ℤ) (at next : ℕ) (xs ys : List WalkStep) (b : Bool) → g ≡ f → m ≡ n → next ≡ behind at xs → are_steps_fine f n at xs ≡ true → are_steps_fine g m next ys ≡ b
    → are_steps_fine f n at (xs ++ ys) ≡ b
fine_then f g n m at next xs ys b forms numbers here e h =
    fine_append f n at xs ys ∙ ap (λ (c : Bool). c && are_steps_fine f n (behind at xs) ys) e
    ∙ ap (λ (k : ℕ). are_steps_fine f n k ys) (sym here) ∙ ap (λ (l : List ℤ). are_steps_fine f l next ys) (sym numbers) ∙ ap (λ (l : List CellForm). are_steps_fine l m next ys) (sym forms) ∙ h

pub fine_before : (f : List CellForm) (n : List ℤ) (at : ℕ) (xs ys : List WalkStep) → are_steps_fine f n at xs ≡ false → are_steps_fine f n at (xs ++ ys) ≡ false
fine_before f n at xs ys e = fine_append f n at xs ys ∙ ap (λ (c : Bool). c && are_steps_fine f n (behind at xs) ys) e
