-- Lines at the front of a text.
use Rattle.std.proofs.{lemmas.List.take-append-drop, lemmas.Slice.Eq.bytes_eq-Decides, lemmas.Bool.and_parts, lemmas.Bool.leb-true, lemmas.Bool.ne_eqb}
use Rattle.std.proofs.Common.{◌≡◌, ℕ, true, nat_le, List, ◌∷◌, ◌++◌, length, take, drop, Some, refl, sym, ap, ◌∙◌, arith, []}
use Rattle.std.specs.List.{list_all}
use Rattle.vms_spec.specs.Spelling.{first_line, longer_line, begins_with, is_digit}
use Rattle.vms_words.proofs.Spells.{AreDigits}

-- ---- the line of a number ends after it

digits_line : (ds rest : List ℕ) → AreDigits ds → first_line (ds ++ 10 ∷ rest) ≡ Some (ds, rest)
digits_line [] rest e = refl
digits_line (c ∷ ds) rest e =
    let parts = and_parts (is_digit c) (list_all is_digit ds) e in
    rw (ne_eqb c 10 (λ h. omega (arith, leb-true 48 c (and_parts (nat_le 48 c) (nat_le c 57) parts.0).0, h))) (ap (longer_line c) (digits_line ds rest parts.1))

pub line_splits : (text line rest : List ℕ) → first_line text ≡ Some (line, rest) → text ≡ line ++ 10 ∷ rest
line_splits [] line rest e = cc
line_splits (b ∷ text) line rest e = grind (arith, line_splits text)

pub begun : (front text : List ℕ) → begins_with front text ≡ true → text ≡ front ++ drop (length front) text
begun front text e =
    sym (take-append-drop (length front) text) ∙ ap (λ l. l ++ drop (length front) text) ((bytes_eq-Decides (take (length front) text) front).0 e)
