-- A text that is read line by line: fronts, numbers as they are spelled, and the line of a cell.
use Rattle.std.proofs.lemmas.Bool.Decides.{nat_tests}
use Rattle.vms_values.proofs.Facade
use Facade.{lt-ltb, ◌≡◌, ℕ, Bool, true, false, ◌&&◌, ◌==◌, List, [], ◌∷◌, ◌++◌, length, drop, refl, sym, ap, ◌∙◌, ◌+◌}
use Facade.{Option, Some, None, Ok, Err, arith, drop-drop, length-append, MatchOption, ◌-◌, ◌*◌, ◌^◌, ◌<◌, ◌≤◌, not, ◌||◌, nat_le}
use Facade.{nat_lt, zero, suc, take, get_or, if◌then◌else◌, length-drop, ℤ, pos, slice_set, Result, codes, bytes_eq, and_assoc, and-true, Bor, list_all}
use Facade.{pow-suc, drop_more, drop_all, take_all, take-append-drop, option_and_then, begins_with, is_digit, natural_from, number_spelled, BadLine, Standing}
use Facade.{Read, bad, put_line, put_number, LineFault, Strips, with_digit, natural_spelled, read_from, held, IsBad, Reaches, natural_up, Kind, InRange, ranges}
use Facade.{ValuesReason, IsFirstLine, NextLine, number_judged}
use Rattle.vms_values.specs.declared.fault.LineFault.TheVariants as faults
use Rattle.vms_spec.specs.declared.ValuesReason.TheVariants as reasons

pub equal-append : (line front more : List ℕ) → bytes_eq line (front ++ more) ≡ (begins_with front line && bytes_eq (drop (length front) line) more)
equal-append line [] more = refl
equal-append [] (x ∷ front) more = refl
equal-append (y ∷ line) (x ∷ front) more =
    ap (λ t. (y == x) && t) (equal-append line front more) ∙ sym (and_assoc (y == x) (begins_with front line) (bytes_eq (drop (length front) line) more))

pub begins-append : (line front more : List ℕ) → begins_with (front ++ more) line ≡ (begins_with front line && begins_with more (drop (length front) line))
begins-append line [] more = refl
begins-append [] (x ∷ front) more = refl
begins-append (y ∷ line) (x ∷ front) more =
    rw (begins-append line front more, and_assoc (y == x) (begins_with front line) (begins_with more (drop (length front) line)))

-- a text that begins with the next piece, or doesn't
pub joined_next : (rest more piece left after : List ℕ) (begins : Bool) → left ≡ piece ++ after → begins_with piece rest ≡ begins
    → more ≡ drop (length piece) rest → bytes_eq rest left ≡ (begins && bytes_eq more after)
joined_next rest more piece left after begins split e is = rw (split, equal-append rest piece after, e, is)

-- ---- A text that is read line by line.

pub strips_then : (a b line mid : List ℕ) (result : Option (Bor (List ℕ))) → begins_with a line ≡ true → mid ≡ drop (length a) line → Strips b mid result → Strips (a ++ b) line result
strips_then a b line mid None p e s = rw (begins-append line a b, p, ← e) s
strips_then a b line mid (Some r) p e s = (
  rw (begins-append line a b, p, ← e) s.0,
  rw (s.1, e, drop-drop (length b) (length a) line, length-append a b),
)

pub strips_not : (a b line : List ℕ) → begins_with a line ≡ false → begins_with (a ++ b) line ≡ false
strips_not a b line p = rw (begins-append line a b, p)

pub strip_is : (front line : List ℕ) (result : Option (Bor (List ℕ)))
    → MatchOption result (begins_with front line ≡ false) (λ x. (begins_with front line ≡ true) × (x.now ≡ drop (length front) line) × (length x.now + length front ≡ length line)) → Strips front line result
strip_is front line result h = grind arith

pub reached : (r : Read) (now : Standing) → Reaches r now (Ok tt) → r ≡ Ok now
reached r now e = grind arith

pub stopped : (part whole : Read) (now later : Standing) (e : LineFault) → ((b : BadLine) → part ≡ Err b → whole ≡ Err b) → Reaches part now (Err e) → Reaches whole later (Err e)
stopped part whole now later e h r = grind arith

pub is_bad : (e : LineFault) (b : BadLine) → e ≡ faults.Bad b.line b.reason → IsBad b e
is_bad e b s = rw s (refl, refl)

pub some_of : (xs : List ℕ) → (length xs == 0) ≡ false → xs ≡ [] → ⊥
some_of _ e f = cc

-- ---- Numbers as they are spelled.

abbrev bounded : Bool → ℕ → Option ℕ
bounded good n = if good && nat_lt n (2 ^ 64) then Some n else None

pub read_is : (n : ℕ) (bs : List ℕ) → n < 2 ^ 64 → read_from n bs ≡ bounded (list_all is_digit bs) (natural_from n bs)
read_is n [] lt = sym (rw (lt-ltb n (2 ^ 64) lt))
read_is n (b ∷ bs) lt = grind (arith, nat_tests, natural_up, read_is (n * 10 + (b - 48)) bs)

-- a digit, and no zero before others
abbrev pub unpadded : List ℕ → Bool
unpadded text = length text == 1 || (nat_le 2 (length text) && not (get_or text 0 48 == 48))

pub read_natural : (text : List ℕ) → unpadded text ≡ true → read_from 0 text ≡ natural_spelled text
read_natural text e =
    rw (e, and-true (list_all is_digit text)) (read_is 0 text (omega arith))

-- the next digit, and those after it
pub digit_next : (value i d : ℕ) (text : List ℕ) (o : Option ℕ) → i < length text → with_digit value (get_or text i d) ≡ o
    → read_from value (drop i text) ≡ option_and_then (λ m. read_from m (drop (i + 1) text)) o
digit_next value i d text o lt e = rw (drop_more text i d lt, e)

pub digits_end : (value i : ℕ) (text : List ℕ) → length text ≤ i → Some value ≡ read_from value (drop i text)
digits_end value i text le = rw (drop_all i text le)

-- those of a front, and then the others
pub read_append : (n : ℕ) (xs ys : List ℕ) → read_from n (xs ++ ys) ≡ option_and_then (λ m. read_from m ys) (read_from n xs)
read_append n [] ys = refl
read_append n (b ∷ xs) ys = by (with_digit n b) (λ m. read_append m xs ys) where
  by : (o : Option ℕ) → ((m : ℕ) → read_from m (xs ++ ys) ≡ option_and_then (λ k. read_from k ys) (read_from m xs)) → option_and_then (λ m. read_from m (xs ++ ys)) o ≡ option_and_then (λ m. read_from m ys) (option_and_then (λ m. read_from m xs) o)
  by None later = refl
  by (Some m) later = later m

pub read_rest : (few : ℕ) (text : List ℕ) → few ≤ length text
    → read_from 0 text ≡ option_and_then (λ m. read_from m (take (length text - few) (drop few text))) (read_from 0 (take few text))
read_rest few text le =
    let rest : take (length text - few) (drop few text) ≡ drop few text = take_all (length text - few) (drop few text) (omega (arith, length-drop few text)) in
    ap (read_from 0) (sym (take-append-drop few text)) ∙ read_append 0 (take few text) (drop few text)
    ∙ ap (λ l. option_and_then (λ m. read_from m l) (read_from 0 (take few text))) (sym rest)

ten_up : (i k : ℕ) → 10 ^ i ≤ 10 ^ (i + k)
ten_up i zero = let same : i + 0 ≡ i = omega arith in omega (arith, ap (λ n. 10 ^ n) same)
ten_up i (suc k) =
    let next : i + suc k ≡ suc (i + k) = omega arith in
    omega (arith, ap (λ n. 10 ^ n) next ∙ pow-suc 10 (i + k), ten_up i k)

-- room for one more digit
pub few_fit : (i n : ℕ) → n < 10 ^ i → i < 19 → n * 10 + 9 < 2 ^ 64
few_fit i n lt le =
    let all : i + (18 - i) ≡ 18 = omega (arith, le) in
    omega (arith, rw all at (ten_up i (18 - i)))

digit_up : (n b m : ℕ) → with_digit n b ≡ Some m → m ≤ n * 10 + 9
digit_up n b m e = grind arith

pub few_next : (i n d m : ℕ) (text : List ℕ) → n < 10 ^ i → with_digit n (get_or text i d) ≡ Some m → m < 10 ^ (i + 1)
few_next i n d m text lt e =
    let one : i + 1 ≡ suc i = omega arith in
    omega (arith, ap (λ k. 10 ^ k) one ∙ pow-suc 10 i, digit_up n (get_or text i d) m e)

pub spelled_is : (text : List ℕ) (value : ℕ) → Some value ≡ natural_spelled text → number_spelled text ≡ Some (pos value)
spelled_is text value e = grind arith

-- ---- The line of a cell that may count arrays and may not be there.

-- what follows from what was judged of the number
abbrev taken_number : ℕ → Standing → List ℕ → Result ℤ ValuesReason → Read
taken_number cell p rest (Ok z) = Ok (record { numbers = slice_set p.numbers cell z; line = suc p.line; rest = rest })
taken_number cell p rest (Err reason) = bad p reason

-- a number that was judged well is in its kind's range
pub number_held : (kind : Kind) (caps : List ℕ) (default : ℤ) (present : Bool) (s : Option ℤ) (z : ℤ) → Ok z ≡ number_judged caps default present (held kind s) → InRange kind z
number_held kind caps default present s z e = grind (arith, ranges)

module _ (path : List ℕ) (kind : Kind) (caps : List ℕ) (cell : ℕ) (default : ℤ) (present : Bool) (p : Standing) where
  abbrev front : List ℕ
  front = path ++ codes " = "

  abbrev reads : Option (List ℕ × List ℕ) → Read
  reads o = put_line path (record { cell = cell; kind = kind; capacities = caps; default = default; present = present }) p o

  abbrev puts : List ℕ → Option ℤ → Read
  puts rest s = put_number (record { cell = cell; kind = kind; capacities = caps; default = default; present = present }) p rest s

  put_judged : (rest : List ℕ) (s : Option ℤ) → puts rest s ≡ taken_number cell p rest (number_judged caps default present (held kind s))
  put_judged rest s = grind arith

  begun : (text rest : List ℕ) (b : Bool) → begins_with front text ≡ b → reads (Some (text, rest)) ≡ (if b then puts rest (number_spelled (drop (length front) text)) else bad p reasons.Form)
  begun text rest b e = rw e

  judged_there : (text rest number : List ℕ) (line : NextLine) (result : Result ℤ ValuesReason) → line.text.now ≡ text → begins_with (path ++ codes " = ") line.text.now ≡ true
      → number ≡ drop (length (path ++ codes " = ")) line.text.now → result ≡ number_judged caps default present (held kind (number_spelled number))
      → reads (Some (text, rest)) ≡ taken_number cell p rest result
  judged_there text rest number line result t n is j = grind (arith, put_judged)

  pub number_there : (o : Option (List ℕ × List ℕ)) (line : NextLine) (number : List ℕ) (z : ℤ) (now : Standing) → IsFirstLine o (Some line)
      → begins_with (path ++ codes " = ") line.text.now ≡ true → number ≡ drop (length (path ++ codes " = ")) line.text.now
      → Ok z ≡ number_judged caps default present (held kind (number_spelled number))
      → now.numbers ≡ slice_set p.numbers cell z → now.line ≡ p.line + 1 → now.rest ≡ line.after.now → Reaches (reads o) now (Ok tt)
  number_there None line number z now f n is j a b c = absurd f
  number_there (Some (text, rest)) line number z now f n is j a b c =
      let one : now.line ≡ suc p.line = omega arith in
      let e : (record { numbers = slice_set p.numbers cell z; line = suc p.line; rest = rest }) ≡ now = rw (← a, ← one, ← f.1, ← c) in
      rw (judged_there text rest number line (Ok z) f.0 n is j) e

  pub reason_there : (o : Option (List ℕ × List ℕ)) (line : NextLine) (number : List ℕ) (reason : ValuesReason) (now : Standing) (e : LineFault) → IsFirstLine o (Some line)
      → begins_with (path ++ codes " = ") line.text.now ≡ true → number ≡ drop (length (path ++ codes " = ")) line.text.now
      → Err reason ≡ number_judged caps default present (held kind (number_spelled number))
      → IsBad (record { line = p.line; reason = reason }) e → Reaches (reads o) now (Err e)
  reason_there None line number reason now e f n is j b = absurd f
  reason_there (Some (text, rest)) line number reason now e f n is j b = rw (judged_there text rest number line (Err reason) f.0 n is j) b
