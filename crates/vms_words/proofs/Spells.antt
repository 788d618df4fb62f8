-- Each number has one spelling.
use Rattle.std.proofs.Common.{◌≡◌, ℕ, zero, suc, ◌-◌, ◌^◌, ◌<◌, Bool, true, not, ◌&&◌, ◌==◌, nat_le, List, ◌∷◌, length, get_or, drop, Some, negsuc, refl, ap, ◌∙◌, arith, ◌||◌, []}
use Rattle.std.specs.List.{list_all}
use Rattle.std.proofs.lemmas.Bool.{and_parts, and_from, Decides.nat_tests}
use Rattle.std.proofs.lemmas.Str.Parse.{IsDigitsTest, FoldsDigits, IsNumeralModel, numerals_by_fold}
use Rattle.std.proofs.lemmas.Fmt.{digits_decimal, digits_value-decimal, decimal-digits_value, first_decimal, decimal_nonempty, decimal_digit}
use Rattle.std.specs.Fmt.{decimal}
use Rattle.vms_spec.specs.Spelling.{is_digit, are_digits, natural_from, negative}
use Rattle.vms_words.specs.Texts.{NumberLaw, SpelledLaw}

abbrev pub AreDigits : List ℕ → Type 0
AreDigits ds = list_all is_digit ds ≡ true

-- digits and their value are those of std's numerals
tells : IsDigitsTest AreDigits
tells = grind arith

folds : FoldsDigits natural_from
folds = record { empty = λ n. refl; more = λ n c cs k. refl }

pub numerals : IsNumeralModel AreDigits (natural_from 0)
numerals = numerals_by_fold AreDigits tells natural_from folds

-- ---- one digit, or several that don't begin with a zero

abbrev unpadded : List ℕ → Bool
unpadded text = length text == 1 || (nat_le 2 (length text) && not (get_or text 0 48 == 48))

unpadded_from : (text : List ℕ) → 0 < length text → (get_or text 0 48 ≡ 48 → length text ≡ 1) → unpadded text ≡ true
unpadded_from text some lead = grind arith

unpadded_to : (text : List ℕ) → unpadded text ≡ true → (0 < length text) × (get_or text 0 0 ≡ 48 → length text ≡ 1)
unpadded_to [] e = cc
unpadded_to (c ∷ []) e = (omega arith, λ h. refl)
unpadded_to (c ∷ d ∷ text) e = grind arith

unpadded_decimal : (n : ℕ) → n < 2 ^ 64 → unpadded (decimal n) ≡ true
unpadded_decimal zero h = ap unpadded (decimal_digit 0 (omega arith))
unpadded_decimal (suc n) h =
    let some : 0 < length (decimal (suc n)) = decimal_nonempty (suc n) h in
    let first : 48 < get_or (decimal (suc n)) 0 0 = first_decimal (suc n) (omega arith) h in
    unpadded_from (decimal (suc n)) some (λ e. omega (arith, first_same (decimal (suc n)) 0 48 some)) where
      first_same : (text : List ℕ) (c d : ℕ) → 0 < length text → get_or text 0 c ≡ get_or text 0 d
      first_same [] c d some = absurd (omega arith)
      first_same (b ∷ text) c d some = refl

digits_of_decimal : (n : ℕ) → n < 2 ^ 64 → are_digits (decimal n) ≡ true
digits_of_decimal n h = and_from (list_all is_digit (decimal n)) (unpadded (decimal n)) (digits_decimal numerals n h) (unpadded_decimal n h)

value_of_decimal : (n : ℕ) → n < 2 ^ 64 → natural_from 0 (decimal n) ≡ n
value_of_decimal n h = digits_value-decimal numerals n h

decimal_of_value : (text : List ℕ) → are_digits text ≡ true → natural_from 0 text < 2 ^ 64 → decimal (natural_from 0 text) ≡ text
decimal_of_value text e h =
    let parts = and_parts (list_all is_digit text) (unpadded text) e in
    let lead = unpadded_to text parts.1 in
    decimal-digits_value numerals text parts.0 lead.0 lead.1 h

pub number_holds : NumberLaw
number_holds z h = grind (arith, digits_of_decimal, value_of_decimal)

-- a minus and the digits of a number that isn't 0
minus_number : (text : List ℕ) (n : ℕ) → n < 2 ^ 63 → (get_or text 0 0 == 45 && are_digits (drop 1 text) && not (natural_from 0 (drop 1 text) == 0)) ≡ true
    → Some (negative (natural_from 0 (drop 1 text))) ≡ Some (negsuc n) → text ≡ 45 ∷ decimal (suc n)
minus_number text n h e is =
    let parts = and_parts (get_or text 0 0 == 45) (are_digits (drop 1 text)) (and_parts _ _ e).0 in
    let front : text ≡ 45 ∷ drop 1 text = grind (arith, parts.0) in
    let same : natural_from 0 (drop 1 text) ≡ suc n = grind (arith, nat_tests) in
    front ∙ rw (← (decimal_of_value (drop 1 text) parts.1 (omega arith)), same)

-- the digits of a number, or a minus and digits
pub spelled_holds : SpelledLaw
spelled_holds text z h e = grind (arith, decimal_of_value, minus_number)
