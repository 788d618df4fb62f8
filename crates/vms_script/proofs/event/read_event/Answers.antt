use Rattle.vms_script.proofs.Facade.{◌≡◌, ◌<◌, ℕ, List, [], ◌∷◌, length, Option, refl, arith, and-false, line_of_words, play_line}
use Rattle.vms_script.proofs.event.read_event.Goals as goal

-- the first word of an event has two bytes or more
short : (play : Option ℕ) (word rest : List ℕ) → length word < 2 → line_of_words play word rest ≡ play_line play word rest
short play [] rest below = refl
short play (a ∷ []) rest below = simp and-false refl
short play (a ∷ b ∷ more) rest below = absurd (omega arith)

pub returns-in_default : goal.returns-in_default
returns-in_default c = λ play. short _ _ _ c.in_default.len_below
