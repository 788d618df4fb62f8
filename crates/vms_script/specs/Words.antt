-- The words of a line, and how numbers are spelled there.
use Rattle.std.specs.Prelude.{ℕ, ◌+◌, ◌-◌, ◌*◌, ◌/◌, ◌%◌, ◌&&◌, ◌==◌, nat_le, if◌then◌else◌, List, [], ◌∷◌, Option, Some, None, Bool, true, false}
use Rattle.std.specs.Char.{digit_char}
use Rattle.vms_spec.specs.Spelling.{is_digit}

-- The part before the first space and the part after it, if there is one, with one byte more in front.
abbrev pub longer_word : ℕ → List ℕ × Option (List ℕ) → List ℕ × Option (List ℕ)
longer_word b split = (b ∷ split.0, split.1)

-- The part of a line before its first space, and the part after it, if there is one.
abbrev pub first_word : List ℕ → List ℕ × Option (List ℕ)
first_word [] = ([], None)
first_word (b ∷ line) = if b == 32 then ([], Some line) else longer_word b (first_word line)

-- The value of a lower-case hexadecimal digit.
abbrev pub digit_spelled : ℕ → Option ℕ
digit_spelled b =
    if is_digit b then Some (b - 48)
    else if nat_le 97 b && nat_le b 102 then Some (b - 87) else None

-- Two numbers as one, the second below a base.
abbrev pub joined : ℕ → Option ℕ → Option ℕ → Option ℕ
joined base None low = None
joined base (Some high) None = None
joined base (Some high) (Some low) = Some (high * base + low)

-- The byte with two such digits.
abbrev pub byte_spelled : List ℕ → Option ℕ
byte_spelled (a ∷ b ∷ []) = joined 16 (digit_spelled a) (digit_spelled b)
byte_spelled _ = None

-- The port with four such digits.
abbrev pub port_spelled : List ℕ → Option ℕ
port_spelled (a ∷ b ∷ c ∷ d ∷ []) =
    joined 256 (byte_spelled (a ∷ b ∷ [])) (byte_spelled (c ∷ d ∷ []))
port_spelled _ = None

-- A level, 0 or 1.
abbrev pub level_spelled : List ℕ → Option Bool
level_spelled (b ∷ []) = if b == 48 then Some false else if b == 49 then Some true else None
level_spelled _ = None

-- A byte as two hexadecimal digits.
abbrev pub byte_text : ℕ → List ℕ
byte_text value = digit_char (value / 16) ∷ digit_char (value % 16) ∷ []
