-- Lines of a text, and the spelling of numbers: decimal, without leading zeros, with a minus before
-- a negative one.
use Rattle.std.specs.Prelude.{ℕ, ◌+◌, ◌-◌, ◌*◌, Bool, not, ◌&&◌, ◌||◌, ◌==◌, nat_le, if◌then◌else◌, List, [], ◌∷◌, length, get_or, take, drop, Option, Some, None, ℤ, pos, negsuc}
use Rattle.std.specs.List.{list_all}
use Rattle.std.specs.Str.{bytes_eq}

-- a line to which one byte is added at the front
abbrev pub longer_line : ℕ → Option (List ℕ × List ℕ) → Option (List ℕ × List ℕ)
longer_line b None = None
longer_line b (Some (line, rest)) = Some (b ∷ line, rest)

-- the bytes before the first line feed and those after it; none if there is no line feed
abbrev pub first_line : List ℕ → Option (List ℕ × List ℕ)
first_line [] = None
first_line (b ∷ text) = if b == 10 then Some ([], text) else longer_line b (first_line text)

-- `begins_with front text`: the text begins with these bytes
abbrev pub begins_with : List ℕ → List ℕ → Bool
begins_with front text = bytes_eq (take (length front) text) front

-- the byte is an ASCII digit
abbrev pub is_digit : ℕ → Bool
is_digit b = nat_le 48 b && nat_le b 57

-- one digit or more, the first of several not 0
abbrev pub are_digits : List ℕ → Bool
are_digits text = list_all is_digit text && (length text == 1 || (nat_le 2 (length text) && not (get_or text 0 48 == 48)))

-- the number of these digits, if those before them have the given number
abbrev pub natural_from : ℕ → List ℕ → ℕ
natural_from n [] = n
natural_from n (b ∷ text) = natural_from (n * 10 + (b - 48)) text

-- the integer -n
abbrev pub negative : ℕ → ℤ
negative n = negsuc (n - 1)

-- the number that a text spells, if it spells one
abbrev pub number_spelled : List ℕ → Option ℤ
number_spelled text =
    if are_digits text then Some (pos (natural_from 0 text))
    else if get_or text 0 0 == 45 && are_digits (drop 1 text) && not (natural_from 0 (drop 1 text) == 0)
    then Some (negative (natural_from 0 (drop 1 text)))
    else None
