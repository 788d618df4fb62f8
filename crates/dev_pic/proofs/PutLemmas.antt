-- The cells that are appended for a chip.
use Rattle.std.proofs.Common
use Common.{◌≡◌, ℕ, List, [], ◌∷◌, ◌++◌, ℤ, pos, if◌then◌else◌, nat_le, ap, sym, ◌∙◌, append_assoc, append-nil}
use Rattle.dev_base.specs.Cells.{flag_number}
use Rattle.dev_pic.specs.{Cells.saved_cells, declared.chip.Chip.Chip, declared.levels.TheConstants.ELCR_SINCE, declared.levels.TheConstants.LTIM_SINCE}

-- Those of set 1, and then each cell that a set has since it is there.
pub put : (old first second third : List ℤ) (set : ℕ) (chip : Chip) → first ≡ old ++ saved_cells 1 chip
    → second ≡ first ++ (if nat_le ELCR_SINCE set then pos chip.elcr ∷ [] else [])
    → third ≡ second ++ (if nat_le LTIM_SINCE set then pos (flag_number chip.ltim) ∷ [] else []) → third ≡ old ++ saved_cells set chip
unfolding saved_cells
put old first second third set chip p q r =
    let oldest = saved_cells 1 chip in
    let elcr : List ℤ = if nat_le ELCR_SINCE set then pos chip.elcr ∷ [] else [] in
    let ltim : List ℤ = if nat_le LTIM_SINCE set then pos (flag_number chip.ltim) ∷ [] else [] in
    r ∙ ap (λ (l : List ℤ). l ++ ltim) (q ∙ ap (λ (l : List ℤ). l ++ elcr) p ∙ append_assoc old oldest elcr) ∙ append_assoc old (oldest ++ elcr) ltim
    ∙ ap (λ (l : List ℤ). old ++ (oldest ++ (elcr ++ l))) (sym (append-nil ltim))
