-- Only the cells of the steps take other numbers.
use Rattle.std.proofs.Common.{◌≡◌, ℕ, Bool, true, false, List, [], ◌∷◌, get_or, slice_set, Option, Some, None, ℤ, pos, refl, sym, ap, ◌∙◌, subst, if◌then◌else◌}
use Rattle.vms_kinds.specs.declared.Kind.{Kind}
use Rattle.vms_spec.specs.Numbers.{exceeds}
use Rattle.vms_walk.specs.Inside.{Keeps}
use Rattle.vms_walk.specs.Steps.{capacities_of}
use Rattle.vms_walk.specs.declared.step.WalkStep.{WalkStep}
use Rattle.vms_walk.specs.declared.step.WalkStep.TheVariants.{Number, Constant, Filler, Rule}
use Rattle.vms_walk.proofs.Walking.{keeps_same, keeps_more, keeps_put}
use Rattle.vms_image.specs.Typed.{Typed}
use Rattle.vms_convert.specs.Changes.{changed, Changes}
use Rattle.vms_convert.specs.Putting.{put_partner, put_step}

keeps_partner : (cell : ℕ) (kind : Kind) (most o : Option ℕ) (source now : List ℤ) → Keeps (Number cell kind most ∷ []) now (put_partner source cell most o now)
keeps_partner cell kind most None source now = keeps_same (Number cell kind most ∷ []) now now refl
keeps_partner cell kind most (Some k) source now = go (exceeds (capacities_of most) (get_or source k (pos 0))) where
  go : (b : Bool) → Keeps (Number cell kind most ∷ []) now (if b then now else slice_set now cell (get_or source k (pos 0)))
  go true = keeps_same (Number cell kind most ∷ []) now now refl
  go false = keeps_put cell kind most now (get_or source k (pos 0))

keeps_step : (partners : List (Option ℕ)) (source : List ℤ) (x : WalkStep) (now : List ℤ) → Keeps (x ∷ []) now (put_step partners source x now)
keeps_step partners source (Number cell kind most) now = keeps_partner cell kind most (get_or partners cell None) source now
keeps_step partners source (Constant kind value) now = keeps_same (Constant kind value ∷ []) now now refl
keeps_step partners source (Filler bytes) now = keeps_same (Filler bytes ∷ []) now now refl
keeps_step partners source (Rule holds) now = keeps_same (Rule holds ∷ []) now now refl

pub put_keeps : (partners : List (Option ℕ)) (source : List ℤ) (xs : List WalkStep) (now : List ℤ) → Keeps xs now (changed (put_step partners source) xs now)
put_keeps partners source [] now = keeps_same [] now now refl
put_keeps partners source (x ∷ xs) now =
    keeps_more (x ∷ []) xs now (put_step partners source x now) (changed (put_step partners source) xs (put_step partners source x now)) (keeps_step partners source x now)
    (put_keeps partners source xs (put_step partners source x now))

pub takes_keeps : (partners : List (Option ℕ)) (source : List ℤ) (xs : List WalkStep) (a b : Typed) → Changes (put_step partners source) xs a b → Keeps xs a.numbers b.numbers
takes_keeps partners source xs a b h = subst (λ (l : List ℤ). Keeps xs a.numbers l) (sym (ap (λ (x : Typed). x.numbers) h)) (put_keeps partners source xs a.numbers)

-- the same steps, where partners and source are the same
pub same_steps : (p p' : List (Option ℕ)) (s s' : List ℤ) → p' ≡ p → s' ≡ s → put_step p' s' ≡ put_step p s
same_steps p p' s s' e f = ap (λ (q : List (Option ℕ)). put_step q s') e ∙ ap (λ (t : List ℤ). put_step p t) f
