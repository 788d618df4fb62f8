-- Numbers as they are spelled, and their ranges.
use Rattle.std.proofs.lemmas.Nat.{mul-add-lt}
use Rattle.vms_script.proofs.Facade
use Facade.{◌≡◌, ℕ, ◌+◌, ◌-◌, ◌*◌, ◌^◌, ◌<◌, ◌≤◌, Bool, true, false, nat_le, List, length, get_or, drop, Option, Some, None}
use Facade.{Ok, Err, ℤ, if◌then◌else◌, refl, sym, ap, ◌∙◌, arith, and_right, nat_tests, drop_more, drop_all, natural_from, number_spelled}
use Facade.{natural_up, is_wire, NEWEST, ScriptLine, Happens, or_form, or_range, number_in, is_wait, is_set_of, wire_line, level_spelled, number_read}
use Facade.{below_2_64, ScriptReason, ◌/◌, ◌%◌, not, ◌==◌, [], ◌∷◌, ◌++◌, list_all, div-mul-add, mod-mul-add, digit_char, is_digit}
use Facade.{port_text, digit_spelled, joined, byte_spelled, port_spelled, byte_text}
use Rattle.dev_board.specs.declared.event.Event.TheVariants as events
use Rattle.vms_script.specs.declared.line.ScriptReason.TheVariants as reasons

pub below_none : (n : ℕ) → below_2_64 n ≡ None → 2 ^ 64 ≤ n
below_none n e = grind (arith, nat_tests)

pub none_below : (n : ℕ) → 2 ^ 64 ≤ n → None ≡ below_2_64 n
none_below n le = grind (arith, nat_tests)

pub some_below : (n : ℕ) → n < 2 ^ 64 → Some n ≡ below_2_64 n
some_below n lt = grind (arith, nat_tests)

pub natural_stops : (value i d : ℕ) (digits : List ℕ) → i < length digits → below_2_64 (value * 10 + (get_or digits i d - 48)) ≡ None → natural_from value (drop i digits) ≡ natural_from 0 digits → None ≡ below_2_64 (natural_from 0 digits)
natural_stops value i d digits lt e inv =
    let up : value * 10 + (get_or digits i d - 48) ≤ natural_from (value * 10 + (get_or digits i d - 48)) (drop (i + 1) digits) = natural_up _ (drop (i + 1) digits) in
    none_below (natural_from 0 digits) (omega (arith, up, (sym (ap (natural_from value) (drop_more digits i d lt)) ∙ inv), (below_none _ e)))

pub natural_ends : (value i : ℕ) (digits : List ℕ) → length digits ≤ i → value < 2 ^ 64 → natural_from value (drop i digits) ≡ natural_from 0 digits → Some value ≡ below_2_64 (natural_from 0 digits)
natural_ends value i digits le lt inv = some_below value lt ∙ ap below_2_64 (sym (ap (natural_from value) (drop_all i digits le)) ∙ inv)

-- ---- ranges that end below 2 ^ 64

abbrev pub EndsEarly : (ℕ → Bool) → Type 0
EndsEarly holds = (n : ℕ) → 2 ^ 64 ≤ n → holds n ≡ false

-- a number that isn't read has the same reason for the line
pub number_fails : (holds : ℕ → Bool) (line : ℕ → ScriptLine) (o : Option ℤ) (reason : ScriptReason) → EndsEarly holds → number_read o ≡ Err reason → or_form o (or_range holds line) ≡ Err reason
number_fails holds line o reason early e = grind (arith, nat_tests)

-- a number that is read is judged by the range
pub number_holds : (holds : ℕ → Bool) (line : ℕ → ScriptLine) (o : Option ℤ) (v : ℕ) → number_read o ≡ Ok v → or_form o (or_range holds line) ≡ (if holds v then Ok (line v) else Err reasons.Range)
number_holds holds line o v e = grind (arith, nat_tests)

-- the same of the whole line
in_judged : (holds : ℕ → Bool) (line : ℕ → ScriptLine) (text : List ℕ) (v : ℕ) (t : Bool) → Ok v ≡ number_read (number_spelled text) → t ≡ holds v
    → (if t then Ok (line v) else Err reasons.Range) ≡ number_in holds line text
in_judged holds line text v t n h = rw h (sym (number_holds holds line _ _ (sym n)))

in_fails : (holds : ℕ → Bool) (line : ℕ → ScriptLine) (text : List ℕ) (reason : ScriptReason) → EndsEarly holds → Err reason ≡ number_read (number_spelled text) → Err reason ≡ number_in holds line text
in_fails holds line text reason early n = sym (number_fails holds line _ _ early (sym n))

pub waits_end : EndsEarly is_wait
waits_end n le = grind (arith, nat_tests)

pub wires_end : EndsEarly is_wire
wires_end n le = grind (arith, nat_tests)

pub sets_end : (level : ℕ) → EndsEarly (is_set_of NEWEST level)
sets_end level n le = and_right (nat_le level n) (nat_le n NEWEST) (grind (arith, nat_tests))

-- ---- wires and sets, by the words of the line

-- a line of a wire has the number and the level that its words spell
wire_spelled : (words : List ℕ × Option (List ℕ)) (number level : List ℕ) (up : Bool) → number ≡ words.0 → Some level ≡ words.1 → Some up ≡ level_spelled level
    → number_in is_wire (λ input. Happens (events.Wire input up)) words.0 ≡ wire_line words
wire_spelled (a, b) number level up w r l = rw (← r, ← l)

pub wire_judged : (words : List ℕ × Option (List ℕ)) (number level : List ℕ) (up : Bool) (v : ℕ) (t : Bool) → number ≡ words.0 → Some level ≡ words.1
    → Some up ≡ level_spelled level → Ok v ≡ number_read (number_spelled number) → t ≡ is_wire v
    → (if t then Ok (Happens (events.Wire v up)) else Err reasons.Range) ≡ wire_line words
wire_judged words number level up v t w r l n h =
    in_judged is_wire (λ (i : ℕ). Happens (events.Wire i up)) words.0 v t (rw (← w) n) h ∙ wire_spelled words number level up w r l

pub wire_fails : (words : List ℕ × Option (List ℕ)) (number level : List ℕ) (up : Bool) (reason : ScriptReason) → number ≡ words.0 → Some level ≡ words.1 → Some up ≡ level_spelled level
    → Err reason ≡ number_read (number_spelled number) → Err reason ≡ wire_line words
wire_fails words number level up reason w r l n =
    in_fails is_wire (λ (i : ℕ). Happens (events.Wire i up)) words.0 reason wires_end (rw (← w) n) ∙ wire_spelled words number level up w r l

-- ---- from a value to its digit and back

pub digit_back : (d : ℕ) → d < 16 → digit_spelled (digit_char d) ≡ Some d
digit_back d h = grind (arith, nat_tests)

-- a text that is read, of a number below a limit
pub record IsTextOf (limit : ℕ) (text_of : ℕ → List ℕ) (text : List ℕ) (n : ℕ) : Type 0 where
  pub small : n < limit
  pub text_is : text ≡ text_of n

digit_is : (b d : ℕ) → digit_spelled b ≡ Some d → IsTextOf 16 (λ d. digit_char d ∷ []) (b ∷ []) d
digit_is b d e = search (arith)

pub byte_back : (v : ℕ) → v < 256 → byte_spelled (byte_text v) ≡ Some v
byte_back v h = rw (digit_back (v / 16) (omega arith)) (ap (joined 16 (Some (v / 16))) (digit_back (v % 16) (omega arith)) ∙ ap (λ n. Some n) (omega arith))

pub port_back : (p : ℕ) → p < 65536 → port_spelled (port_text p) ≡ Some p
port_back p h = rw (byte_back (p / 256) (omega arith)) (ap (joined 256 (Some (p / 256))) (byte_back (p % 256) (omega arith)) ∙ ap (λ n. Some n) (omega arith))

-- a number of two parts
parts_are : (base : ℕ) (text_of : ℕ → List ℕ) (high low : Option ℕ) (first second : List ℕ) (v : ℕ) → joined base high low ≡ Some v
    → ((a : ℕ) → high ≡ Some a → IsTextOf base text_of first a) → ((b : ℕ) → low ≡ Some b → IsTextOf base text_of second b)
    → IsTextOf (base * base) (λ n. text_of (n / base) ++ text_of (n % base)) (first ++ second) v
parts_are base text_of (Some a) (Some b) first second v e high low =
    let x = high a refl in
    let y = low b refl in
    let value : v ≡ a * base + b = cc in
    rw value (record {
      small = mul-add-lt _ _ _ _ x.small y.small;
      text_is = rw (div-mul-add a base b y.small, mod-mul-add a base b y.small, x.text_is, y.text_is);
    })
parts_are base text_of _ _ first second v e high low = cc

pub byte_is : (text : List ℕ) (v : ℕ) → byte_spelled text ≡ Some v → IsTextOf 256 byte_text text v
byte_is (a ∷ b ∷ []) v e = parts_are 16 (λ d. digit_char d ∷ []) _ _ _ _ _ e (digit_is a) (digit_is b)
byte_is _ v e = cc

pub port_is : (text : List ℕ) (p : ℕ) → port_spelled text ≡ Some p → IsTextOf 65536 port_text text p
port_is (a ∷ b ∷ c ∷ d ∷ []) p e = parts_are 256 byte_text _ _ _ _ _ e (byte_is (a ∷ b ∷ [])) (byte_is (c ∷ d ∷ []))
port_is _ p e = cc

-- ---- digits are neither spaces nor line feeds

abbrev pub lacks : ℕ → List ℕ → Bool
lacks byte text = list_all (λ b. not (b == byte)) text

char_up : (d : ℕ) → 48 ≤ digit_char d
char_up d = grind (arith, nat_tests)

other : (b byte : ℕ) → byte < 48 → 48 ≤ b → not (b == byte) ≡ true
other b byte h i = grind (arith, nat_tests)

pub byte_lacks : (byte v : ℕ) → byte < 48 → lacks byte (byte_text v) ≡ true
byte_lacks byte v h = rw (other (digit_char (v / 16)) byte h (char_up (v / 16)), other (digit_char (v % 16)) byte h (char_up (v % 16))) refl

pub lacks-append : (byte : ℕ) (xs ys : List ℕ) → lacks byte xs ≡ true → lacks byte ys ≡ true → lacks byte (xs ++ ys) ≡ true
lacks-append byte [] ys h i = i
lacks-append byte (x ∷ xs) ys h i = grind (arith, lacks-append byte xs ys)

pub port_lacks : (byte p : ℕ) → byte < 48 → lacks byte (port_text p) ≡ true
port_lacks byte p h = lacks-append byte (byte_text (p / 256)) (byte_text (p % 256)) (byte_lacks byte (p / 256) h) (byte_lacks byte (p % 256) h)

pub digits_lack : (byte : ℕ) (text : List ℕ) → byte < 48 → list_all is_digit text ≡ true → lacks byte text ≡ true
digits_lack byte [] h e = refl
digits_lack byte (b ∷ text) h e = grind (arith, nat_tests, digits_lack byte text)
