-- Numbers that a text spells, within bounds.
use Rattle.std.specs.Prelude.{◌≡◌, ℕ, ◌+◌, ◌-◌, ◌*◌, ◌^◌, true, false, ◌&&◌, nat_lt, List, [], ◌∷◌, length, drop, Option, Some, None, ℤ, if◌then◌else◌, MatchOption}
use Rattle.std.specs.Borrow.{Bor}
use Rattle.std.specs.Option.{option_and_then}
use Rattle.vms_kinds.specs.declared.Kind.{Kind}
use Rattle.vms_spec.specs.Rules.{in_range}
use Rattle.vms_spec.specs.Spelling.{is_digit, are_digits, natural_from, begins_with}

-- The number of these digits, if it is below 2 ^ 64.
abbrev pub natural_spelled : List ℕ → Option ℕ
natural_spelled text = if are_digits text && nat_lt (natural_from 0 text) (2 ^ 64) then Some (natural_from 0 text) else None

-- The number with one more digit, if it is a digit and the number is below 2 ^ 64.
abbrev pub with_digit : ℕ → ℕ → Option ℕ
with_digit n b = if is_digit b && nat_lt (n * 10 + (b - 48)) (2 ^ 64) then Some (n * 10 + (b - 48)) else None

-- The number with these further digits, one by one.
abbrev pub read_from : ℕ → List ℕ → Option ℕ
read_from n [] = Some n
read_from n (b ∷ bs) = option_and_then (λ m. read_from m bs) (with_digit n b)

-- The number, if the kind holds it.
abbrev pub held : Kind → Option ℤ → Option ℤ
held kind None = None
held kind (Some z) = if in_range kind z then Some z else None

-- What follows `front`, if the text begins with it.
abbrev pub Strips : List ℕ → List ℕ → Option (Bor (List ℕ)) → Type 0
Strips front text result =
    MatchOption result (begins_with front text ≡ false) (λ rest. (begins_with front text ≡ true) × (rest.now ≡ drop (length front) text))
