-- The first line of a text.
use Rattle.std.proofs.Common.{◌≡◌, ℕ, suc, ◌+◌, List, length, get_or, take, drop, Option, Some, None, sym, ap, ◌∙◌, subst, arith}
use Rattle.std.proofs.lemmas.Bool.{eq-eqb, eqb-true}
use Rattle.memchr.specs.Find.{Nowhere, NoneBefore, Passes, is_byte}
use Rattle.vms_spec.specs.Spelling.{first_line}
use Rattle.vms_words.proofs.FirstLine.{line_at, no_line_in}
use Rattle.vms_words.specs.{Lines.IsFirstLine, declared.line.NextLine.NextLine}

pub found_line : (xs : List ℕ) (i : ℕ) (line : NextLine) → NoneBefore (Passes (is_byte 10) xs) 0 (length xs) i → Passes (is_byte 10) xs i
    → line.text.now ≡ take i xs → line.after.now ≡ drop (i + 1) xs → IsFirstLine (first_line xs) (Some line)
found_line xs i line n p text after =
    let e : first_line xs ≡ Some (take i xs, drop (suc i) xs) =
    line_at xs i n.high (eqb-true (get_or xs i 0) 10 p) (λ k h is. n.before k (omega arith) h (eq-eqb (get_or xs k 0) 10 is)) in
    let s : i + 1 ≡ suc i = omega arith in
    subst (λ o. IsFirstLine o (Some line)) (sym e) (text, after ∙ ap (λ (k : ℕ). drop k xs) s)

pub no_line : (xs : List ℕ) → Nowhere (Passes (is_byte 10) xs) 0 (length xs) → IsFirstLine (first_line xs) None
no_line xs n = rw (no_line_in xs (λ k h is. n k (omega arith) h (eq-eqb (get_or xs k 0) 10 is))) tt

-- the first line of the text is the one that was found
pub first_is : (o : Option (List ℕ × List ℕ)) (line : NextLine) → IsFirstLine o (Some line) → o ≡ Some (line.text.now, line.after.now)
first_is o line h = grind arith

pub first_none : (o : Option (List ℕ × List ℕ)) → IsFirstLine o None → o ≡ None
first_none o h = grind arith
